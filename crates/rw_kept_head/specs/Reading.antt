-- What contracts see of the log of a head that is being read.
use Rattle.std.specs.Prelude.{ℕ}
use Rattle.rw_head.specs.Verdicts.{LabelLimits}
use Rattle.rw_kept_log.specs.Journal.{Segments}

-- the limits of the head on label sets, and how many requests it answers 429 first
pub record HeadSetup : Type 0 where
  pub limits : LabelLimits
  pub busy : ℕ

-- the segments that were taken, and what the head is made with
pub record HeadTaken : Type 0 where
  pub segments : Segments
  pub setup : HeadSetup
