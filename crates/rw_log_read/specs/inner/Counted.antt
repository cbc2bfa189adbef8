-- Entries that are counted, segment by segment: only invariants, private functions and proofs use
-- these definitions.
use Rattle.std.specs.Prelude.{◌≡◌, List, ◌++◌}
use Rattle.rw_types.specs.declared.entry.Entry.{Entry}
use Rattle.rw_log_read.specs.Sums.{sums_of}
use Rattle.rw_log_read.specs.declared.sums.Sums.{Sums}

-- a taker, and the entries before the current segment
pub record Counted (T : Type 0) : Type 0 where
  pub taker : T
  pub before : List Entry

-- what stays as it is within a segment
pub record Unmoved (F : Type 0) : Type 0 where
  pub before : List Entry
  pub fixed : F

-- these were taken, and the totals are those of the ones since the segment began
pub record AreCounted (taken noted before : List Entry) (sums : Sums) : Type 0 where
  pub same : taken ≡ noted
  pub here : List Entry
  pub adds : noted ≡ before ++ here
  pub sums_are : sums ≡ sums_of here
