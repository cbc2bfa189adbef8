use Rattle.rw_plain_queue.proofs.shared.Histories.{history-nil, open-nil, history-put, open-put, history-end, history-front, ended-whole}
use Rattle.rw_plain_queue.proofs.laws.histories_go_on.Goals as goal

pub returns-clause-empty : goal.returns-clause-empty
returns-clause-empty c epoch shard = (history-nil epoch shard, open-nil)

pub returns-clause-put : goal.returns-clause-put
returns-clause-put c epoch shard put x h open' may = (history-put epoch shard put x h open' may, open-put epoch shard put x open' may)

pub returns-clause-end : goal.returns-clause-end
returns-clause-end c = history-end

pub returns-clause-front : goal.returns-clause-front
returns-clause-front c = history-front

pub returns-clause-whole : goal.returns-clause-whole
returns-clause-whole c = ended-whole
