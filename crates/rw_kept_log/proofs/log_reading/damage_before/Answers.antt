use Rattle.std.proofs.Common.{subst}
use Rattle.rw_kept_log.specs.inner.Reopening.{IsFound}
use Rattle.rw_kept_log.proofs.shared.ReopeningLemmas.{nothing_before, before_next}
use Rattle.rw_kept_log.proofs.log_reading.damage_before.Goals as goal

pub returns-in-Nothing : goal.returns-in-Nothing
returns-in-Nothing c = λ ss taken found. nothing_before ss taken (subst (IsFound ss taken) c.in-Nothing.is found)

pub returns-in-Last : goal.returns-in-Last
returns-in-Last c = λ ss taken found. before_next ss taken c.in-Last.last (subst (IsFound ss taken) c.in-Last.is found)
