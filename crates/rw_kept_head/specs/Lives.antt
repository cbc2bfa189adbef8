-- The log of a head over many lives.
use Rattle.std.specs.Prelude.{◌⊎◌, ℕ, List, Option}
use Rattle.std.specs.List.{AllByRecursion}
use Rattle.rw_wal_format.specs.Pieces.{page_size}
use Rattle.rw_head.specs.Store.{Store}
use Rattle.rw_kept_log.specs.Journal.{Segments}
use Rattle.rw_kept_log.specs.Logs.{IsWholeText}
use Rattle.rw_kept_head.specs.Kept.{IsLeft, HasNoChance, StaysDefinedOnce}
use Rattle.rw_kept_head.specs.Opening.{HasSameEntries}

-- a crash left this of a log whose segments were whole, while a head was about to hold a store
pub record IsCrash (tears : List ℕ → List ℕ → Type 0) (segments left : Segments) : Type 0 where
  pub store : Store
  pub whole : AllByRecursion (IsWholeText page_size) segments
  pub ended : Option Segments
  pub is : IsLeft tears ended store segments left
  pub chance : HasNoChance tears ended store is.base left is.is

-- What a log may become next: it is opened, also if a crash comes meanwhile; a request is answered
-- without a failed call of the journal; or a crash comes while one is answered.
abbrev pub MayBecome : (List ℕ → List ℕ → Type 0) → Segments → Segments → Type 0
MayBecome tears old new = HasSameEntries old new ⊎ (StaysDefinedOnce old new ⊎ IsCrash tears old new)
