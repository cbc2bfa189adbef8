use Rattle.std.proofs.Common.{subst}
use Rattle.std.proofs.lemmas.Option.{IfSome_then}
use Rattle.rw_kept_log.specs.inner.Reopening.{IsFound}
use Rattle.rw_kept_log.proofs.shared.ReopeningLemmas.{record_follows}
use Rattle.rw_kept_log.proofs.log_reading.record_after.Goals as goal

pub returns-in-Last : goal.returns-in-Last
returns-in-Last c =
    IfSome_then c.record_after_fault.result c.record_after_fault.ensures
    (λ r both. λ ss taken found. record_follows ss taken c.in-Last.last r.0 r.1 (subst (IsFound ss taken) c.in-Last.is found) both.0 both.1)
