-- The first segments of a log none of whose samples is later than a floor: only models, invariants,
-- private functions and proofs use them.
use Rattle.std.specs.Prelude.{◌≡◌, ℕ, ℤ, Bool, List, [], ◌∷◌, Option, Some, None, Vec}
use Rattle.std.specs.declared.alloc.Global.{Global}
use Rattle.std.specs.List.{AllByRecursion}
use Rattle.rw_types.specs.Labels.{Labels}
use Rattle.rw_types.specs.declared.entry.Entry.{Entry}
use Rattle.rw_wal_format.specs.Pieces.{page_size}
use Rattle.rw_wal_format.specs.Segments.{segment}
use Rattle.rw_kept_log.specs.Checkpoints.{IsOld}
use Rattle.rw_kept_log.specs.Definitions.{definitions_in}
use Rattle.rw_kept_log.specs.Journal.{Segments}
use Rattle.rw_kept_log.specs.Logs.{IsWholeText}

-- entries that were taken, and whether one of them is a sample that is later than the floor
pub record AgedEntries : Type 0 where
  pub taken : List Entry
  pub floor : ℤ
  pub has_later : Bool

-- a segment is whole, has these definitions, and no sample that is later than the floor
pub record IsOldText (floor : ℤ) (text : List ℕ) (definitions : List (ℕ × Labels)) : Type 0 where
  pub whole : IsWholeText page_size text
  pub all : definitions ≡ definitions_in (segment page_size text).entries
  pub old : AllByRecursion (IsOld floor) (segment page_size text).entries

-- the same if anything is said
abbrev pub IsOldIfSome : ℤ → List ℕ → Option (Vec (ℕ × Labels) Global) → Type 0
IsOldIfSome floor text None = Unit {0}
IsOldIfSome floor text (Some found) = IsOldText floor text found.items

-- these are the definitions of the first segments, each of which is old
abbrev pub AreOldTexts : ℤ → Segments → List (Vec (ℕ × Labels) Global) → Type 0
AreOldTexts floor segments [] = Unit {0}
AreOldTexts floor [] (p ∷ ps) = ⊥
AreOldTexts floor (s ∷ ss) (p ∷ ps) = IsOldText floor s p.items × AreOldTexts floor ss ps
