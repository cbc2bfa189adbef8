-- What contracts see of the first segments of a log that may give way to their definitions.
use Rattle.std.specs.Prelude.{ℤ}
use Rattle.rw_kept_log.specs.Journal.{Segments}

-- the segments that were taken, and the timestamp that no sample of the old ones is later than
pub record OldTaken : Type 0 where
  pub segments : Segments
  pub floor : ℤ
