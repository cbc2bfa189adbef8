use Rattle.std.proofs.Common.{ap, subst}
use Rattle.std.proofs.lemmas.Option.{IfSome_then}
use Rattle.rw_kept_log.specs.Journal.{Segments}
use Rattle.rw_kept_log.specs.Reopening.{HasRecordAfter}
use Rattle.rw_kept_log.specs.Taken.{LogTaken}
use Rattle.rw_kept_log.proofs.log_reading.LogReading.record_after_fault.Goals as goal

pub returns : goal.returns
returns g c =
    let found = c.self.invariant c.if-self.false in
    IfSome_then c.record_after.result c.record_after.ensures
    (λ r follows. subst (λ (s : Segments). HasRecordAfter s r.0 r.1) (ap (λ (l : LogTaken _). l.segments) c.self.view_is) (follows c.self.inside.segments (g.S.Taker.taken c.self.inside.sink.taker) found.1))
