-- What the log in a journal says of what a head holds, and what it says after a crash.
use Rattle.std.specs.Prelude.{◌≡◌, ◌≤◌, ◌*◌, ◌⊎◌, ℕ, nat_eq, if◌then◌else◌, List, length, Option, Some, None}
use Rattle.std.specs.List.{AllByRecursion}
use mathlib.Core.Logic.{inl, inr}
use Rattle.rw_types.specs.Beginnings.{Begins}
use Rattle.rw_types.specs.Labels.{Labels}
use Rattle.rw_wal_format.specs.Pieces.{page_size}
use Rattle.rw_head.specs.Head.{State}
use Rattle.rw_head.specs.Store.{Store, list_of}
use Rattle.rw_kept_log.specs.Journal.{Segments, Only, IsBegun, with_more}
use Rattle.rw_kept_log.specs.Torn.{IsTornLog}
use Rattle.rw_kept_log.specs.declared.journal.JournalError.{JournalError}
use Rattle.rw_kept_log.specs.Logs.{entries_of, IsWholeText}
use Rattle.rw_kept_log.specs.TornLogs.{NoChance, last_of}
use Rattle.rw_kept_log.specs.Additions.{samples_of_labels}
use Rattle.rw_kept_log.specs.Definitions.{IsDefinedOnce}

-- a head, the journal that has its log, the most pages of a segment, and the fault after which
-- every request is answered 503
pub record Kept (J : Type 0) : Type 0 where
  pub head : State
  pub journal : J
  pub pages : ℕ
  pub fault : Option JournalError

-- the log has of each label set the samples that the store has of it, in order
abbrev pub SaysWhat : Segments → Store → Type 0
SaysWhat segments store = (l : Labels) → list_of store l ≡ samples_of_labels (entries_of page_size segments) l

-- the log has of each label set all samples of the first store, and after them a prefix of those
-- that the second one has more
abbrev pub LiesBetween : Store → Store → Segments → Type 0
LiesBetween old new left =
    (l : Labels) → Begins (list_of old l) (samples_of_labels (entries_of page_size left) l) × Begins (samples_of_labels (entries_of page_size left) l) (list_of new l)

-- if the first log defines each label set once, so does the second one
abbrev pub StaysDefinedOnce : Segments → Segments → Type 0
StaysDefinedOnce old new = IsDefinedOnce (entries_of page_size old) → IsDefinedOnce (entries_of page_size new)

-- The log became this, if anything is said of that.
abbrev pub Became : Option Segments → Segments → Type 0
Became None whole = Unit {0}
Became (Some ended) whole = ended ≡ whole

-- the log after a request that was answered 204; of any other nothing is said
abbrev pub ended_with : ℕ → Segments → Option Segments
ended_with status segments = if nat_eq status 204 then Some segments else None

-- bytes that were being written to the last segment of a log, so that it says what the store has,
-- and defines no label set again: a crash left a torn part of them. Without the crash all of them
-- were in the log that `ended` has.
pub record IsTornWrite (tears : List ℕ → List ℕ → Type 0) (ended : Option Segments) (new : Store) (base left : Segments) : Type 0 where
  pub written : List ℕ
  pub will : SaysWhat (with_more base written) new
  pub once : StaysDefinedOnce base (with_more base written)
  pub torn : IsTornLog tears page_size (length (last_of base)) base written left
  pub whole : Became ended (with_more base written)

-- What a crash leaves of a log while a head is about to hold a store: the segments as they were, or
-- with a next one, which is empty; and after them nothing, or a torn part of the bytes that make
-- the log say what the store has.
pub record IsLeft (tears : List ℕ → List ℕ → Type 0) (ended : Option Segments) (new : Store) (segments left : Segments) : Type 0 where
  pub base : Segments
  pub begun : IsBegun segments base
  pub is : (left ≡ base) ⊎ IsTornWrite tears ended new base left

-- The premise on CRC-32C, about one crash: no checksum is right by chance in what it left of a
-- write.
abbrev pub HasNoChance : (tears : List ℕ → List ℕ → Type 0) (ended : Option Segments) (new : Store) (base left : Segments) → (left ≡ base) ⊎ IsTornWrite tears ended new base left → Type 0
HasNoChance tears ended new base left (inl same) = Unit {0}
HasNoChance tears ended new base left (inr w) = NoChance page_size (last_of (with_more base w.written)) (last_of left)

-- A log keeps what a store has: it says that, each of its segments ends between two records, and
-- all of it is synced.
pub record KeepsStore (may_leave : Segments → Type 0) (segments : Segments) (store : Store) : Type 0 where
  pub says : SaysWhat segments store
  pub whole : AllByRecursion (IsWholeText page_size) segments
  pub synced : Only segments may_leave

-- the last segment has at most this many pages
abbrev pub IsLastWithin : ℕ → Segments → Type 0
IsLastWithin pages segments = length (last_of segments) ≤ pages * page_size
