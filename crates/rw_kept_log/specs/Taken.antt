-- What contracts see of a log that is being read.
use Rattle.std.specs.Prelude.{Bool}
use Rattle.rw_kept_log.specs.Journal.{Segments}

-- the segments that were taken, the sink that takes their entries, and whether memory ran out
pub record LogTaken (S : Type 0) : Type 0 where
  pub segments : Segments
  pub sink : S
  pub failed : Bool
