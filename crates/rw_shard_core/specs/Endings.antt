-- How the work of a sender has ended, as an outcome says it: all samples below a position are
-- resolved; the work was stopped, with these samples placed and not resolved; or the log is
-- damaged.
use Rattle.std.specs.Prelude.{ℕ, List}
use Rattle.rw_wal_format.specs.declared.tail_fault.TailFault.{TailFault}
use Rattle.rw_shard_core.specs.declared.outcome.Outcome.{Outcome}
use Rattle.rw_shard_core.specs.declared.outcome.Outcome.TheVariants as outcome

pub data Ending : Type 0 where
  Complete : (end : ℕ) → Ending
  Abandoned : (placed : ℕ) → (samples : List ℕ) → Ending
  Damaged : (fault : TailFault) → Ending

abbrev pub ending_of : Outcome → Ending
ending_of (outcome.Complete end) = Complete end
ending_of (outcome.Abandoned placed samples) = Abandoned placed samples.items
ending_of (outcome.Damaged fault) = Damaged fault
