use Rattle.std.proofs.Common.{subst}
use Rattle.rw_kept_log.specs.inner.Reopening.{IsReadBefore}
use Rattle.rw_kept_log.proofs.shared.ReopeningLemmas.{stays_broken, read_on}
use Rattle.rw_kept_log.proofs.log_reading.read_next.Goals as goal

pub returns-in-Some-clause-found : goal.returns-in-Some-clause-found
returns-in-Some-clause-found g c = λ ss count found.
    stays_broken ss c.args.text.now c.in-Some.damage (subst (IsReadBefore ss (g.S.Taker.taken c.args.sink.now)) c.in-Some.is (c.damage_before.ensures ss (g.S.Taker.taken c.args.sink.now) found))

pub returns-in_ok-read_last-in-None-clause-found : goal.returns-in_ok-read_last-in-None-clause-found
returns-in_ok-read_last-in-None-clause-found g c = λ ss count found.
    read_on ss c.args.text.now c.args.segment c.in_ok-read_last-in-None.field-0 (g.S.Taker.taken c.args.sink.now) (g.S.Taker.taken c.read_last.new.sink) count
    (subst (IsReadBefore ss (g.S.Taker.taken c.args.sink.now)) c.in-None.is (c.damage_before.ensures ss (g.S.Taker.taken c.args.sink.now) found))
    c.in_ok-read_last-in-None.ensures.read
