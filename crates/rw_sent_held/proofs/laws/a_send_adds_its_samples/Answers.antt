use Rattle.rw_send.specs.Logs.{readers, seen_of}
use Rattle.rw_send.specs.Segments.{meal_of}
use Rattle.rw_send.specs.Sending.{StopsAtOnce}
use Rattle.rw_sent_held.proofs.RestartLemmas.{adds}
use Rattle.rw_sent_held.proofs.laws.a_send_adds_its_samples.Goals as goal

pub returns-clause-sent : goal.returns-clause-sent
returns-clause-sent g c config limit lefts now sures quiet said r answer reading sent =
    adds g.T.Transport.tells g.T.Transport.seen g.T.Transport.is_for config limit reading.labels (StopsAtOnce (readers lefts now sures) said (meal_of sent.pieces) answer) sent.pieces r sent.report c.a_stopped_shipper_adds_its_samples.ensures.events c.a_stopped_shipper_adds_its_samples.ensures.received

pub returns-clause-followed : goal.returns-clause-followed
returns-clause-followed g c config limit start before after quiet said r answer reading sent =
    adds g.T.Transport.tells g.T.Transport.seen g.T.Transport.is_for config limit reading.labels (StopsAtOnce (seen_of (g.S.Segments.gave after start) (g.S.Segments.had_all after start) (g.S.Segments.lacks after) (g.S.Segments.may_fail before)) said (meal_of sent.pieces) answer) sent.pieces r sent.report c.a_stopped_shipper_adds_its_samples.ensures.events c.a_stopped_shipper_adds_its_samples.ensures.received
