use Rattle.rw_send.specs.Logs.{readers, seen_of}
use Rattle.rw_send.specs.Segments.{meal_of}
use Rattle.rw_send.specs.Sending.{StopsAtOnce}
use Rattle.rw_sent_held.proofs.HeldLemmas.{all_fed, holds}
use Rattle.rw_sent_held.proofs.laws.one_receiver_holds_what_was_sent.Goals as goal

pub returns-clause-sent : goal.returns-clause-sent
returns-clause-sent g c config limit lefts now sures quiet said r answer sent store comes =
    holds g.T.Transport.tells g.T.Transport.seen g.T.Transport.is_for c.one_receiver_holds_the_samples.ensures.orderly c.one_receiver_holds_the_samples.ensures.abandoned config limit (StopsAtOnce (readers lefts now sures) said (meal_of sent.pieces) answer) sent.pieces r sent.report (all_fed sent.pieces sent.short) store comes

pub returns-clause-followed : goal.returns-clause-followed
returns-clause-followed g c config limit start before after quiet said r answer sent store comes =
    holds g.T.Transport.tells g.T.Transport.seen g.T.Transport.is_for c.one_receiver_holds_the_samples.ensures.orderly c.one_receiver_holds_the_samples.ensures.abandoned config limit (StopsAtOnce (seen_of (g.S.Segments.gave after start) (g.S.Segments.had_all after start) (g.S.Segments.lacks after) (g.S.Segments.may_fail before)) said (meal_of sent.pieces) answer) sent.pieces r sent.report (all_fed sent.pieces sent.short) store comes
