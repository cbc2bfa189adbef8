use Rattle.rw_sent_held.specs.Restarts.{entries_as}
use Rattle.rw_sent_held.proofs.LifeLemmas.{has-life}
use Rattle.rw_sent_held.proofs.laws.a_send_has_such_a_life.Goals as goal

pub returns-clause-sent : goal.returns-clause-sent
returns-clause-sent g c config limit lefts now sures quiet said r answer reading sent =
    has-life g.T.Transport.tells g.T.Transport.seen g.T.Transport.is_for config (entries_as reading sent.pieces) sent.report.shipping r sent.report.stopped c.a_run_over_a_part_is_a_run_over_the_log.ensures c.a_run_from_a_checkpoint_is_a_run_over_the_log.ensures c.a_killed_sender_has_such_a_life.ensures.checkpoint
    (c.a_send_is_such_a_sender.ensures.sent config limit lefts now sures quiet said r answer reading sent)

pub returns-clause-followed : goal.returns-clause-followed
returns-clause-followed g c config limit start before after quiet said r answer reading sent =
    has-life g.T.Transport.tells g.T.Transport.seen g.T.Transport.is_for config (entries_as reading sent.pieces) sent.report.shipping r sent.report.stopped c.a_run_over_a_part_is_a_run_over_the_log.ensures c.a_run_from_a_checkpoint_is_a_run_over_the_log.ensures c.a_killed_sender_has_such_a_life.ensures.checkpoint
    (c.a_send_is_such_a_sender.ensures.followed config limit start before after quiet said r answer reading sent)
