use Rattle.rw_roundtrip.proofs.shared.RequestLemmas.{one_block, long_body, long_block, block_not_taken}
use Rattle.rw_roundtrip.proofs.laws.snappy_requests_are_read.Goals as goal

pub returns-clause-read : goal.returns-clause-read
returns-clause-read c host path block body intake h p few on fits holds within =
    one_block host path block intake h p few c.limit_only_refuses.ensures.same body on fits holds within

pub returns-clause-refused : goal.returns-clause-refused
returns-clause-refused c = long_block

pub returns-clause-long : goal.returns-clause-long
returns-clause-long c host path block body intake h p few on fits holds over =
    long_body host path block intake h p few c.limit_only_refuses.ensures.over body on fits holds over

pub returns-clause-untaken : goal.returns-clause-untaken
returns-clause-untaken c = block_not_taken
