-- Inner definitions beside those of Reopening.antt: only invariants, private functions and
-- proofs use them.
use Rattle.std.specs.Prelude.{◌≡◌, ◌<◌, ◌+◌, ℕ, List, [], ◌∷◌, ◌++◌, drop, get_or, length, Option, Some, None, Result, Ok, Err, IfOk, IfErr}
use Rattle.std.specs.List.{AllByRecursion}
use Rattle.rw_types.specs.declared.entry.Entry.{Entry}
use Rattle.rw_kept_log.specs.Journal.{Segments}
use Rattle.rw_kept_log.specs.Logs.{entries_of, IsWholeText}
use Rattle.rw_kept_log.specs.Torn.{end_of_page}
use Rattle.rw_kept_log.specs.TornLogs.{AllBefore}
use Rattle.rw_wal_format.specs.Pieces.{fault, page_size}
use Rattle.rw_wal_format.specs.Segments.{segment}
use Rattle.rw_kept_log.specs.Reading.{HasFault, ended}
use Rattle.rw_kept_log.specs.Records.{FollowsFault}
use Rattle.rw_kept_log.specs.declared.error.KeptLogDamage.{KeptLogDamage}
use Rattle.rw_kept_log.specs.declared.last_segment.LastSegment.{LastSegment}
use Rattle.rw_kept_log.specs.declared.log_reading.Found.{Found}
use Rattle.rw_kept_log.specs.declared.log_reading.Found.TheVariants.{Nothing, Last, Broken}
use Rattle.rw_kept_log.specs.declared.log_reading.ReadEnd.{ReadEnd}
use Rattle.rw_kept_log.specs.Reopening.{IsEnd, IsSegmentCut}

-- a segment of this number is said to be damaged only if it has that fault, and goes on after the
-- page in which reading stops
abbrev pub IsRefusal : List ℕ → ℕ → KeptLogDamage → Type 0
IsRefusal text n d =
    (d.place.segment ≡ n) × HasFault text d.fault d.place.offset × (end_of_page page_size d.place.offset < length text)

-- the fault of a segment of this number, if it has one
abbrev pub IsFaultAt : List ℕ → ℕ → Option KeptLogDamage → Type 0
IsFaultAt text n None = fault (ended text) ≡ None
IsFaultAt text n (Some d) = (d.place.segment ≡ n) × HasFault text d.fault d.place.offset

-- the bytes after the place at which a segment is cut
abbrev pub IsTornOf : List ℕ → Result ℕ KeptLogDamage → List ℕ → Type 0
IsTornOf text (Ok at) torn = torn ≡ drop at text
IsTornOf text (Err d) torn = Unit {0}

-- what was found of a segment of this number
pub record IsFoundOf (text : List ℕ) (n : ℕ) (l : LastSegment) : Type 0 where
  pub fault_is : IsFaultAt text n l.fault
  pub cut : IfOk l.cut (IsSegmentCut text)
  pub refusal : IfErr l.cut (IsRefusal text n)
  pub torn_is : IsTornOf text l.cut l.torn.items
  pub follows : FollowsFault text l.follows

-- a segment was read, and its entries were taken
pub record IsLast (text : List ℕ) (n : ℕ) (l : LastSegment) (before after : List Entry) : Type 0 where
  pub found : IsFoundOf text n l
  pub taken : after ≡ before ++ (segment page_size text).entries

-- all segments were read, and each of them is whole
pub record IsWholeSoFar (ss : Segments) (now : List Entry) : Type 0 where
  pub taken : now ≡ entries_of page_size ss
  pub whole : AllByRecursion (IsWholeText page_size) ss

-- all segments were read, and each of them but the last one is whole
pub record IsReadTo (ss : Segments) (now : List Entry) (l : LastSegment) : Type 0 where
  pub done : Segments
  pub text : List ℕ
  pub all : ss ≡ done ++ text ∷ []
  pub whole : AllByRecursion (IsWholeText page_size) done
  pub found : IsFoundOf text (length done) l
  pub taken : now ≡ entries_of page_size ss

-- a segment has this fault
pub record IsFaultIn (ss : Segments) (d : KeptLogDamage) : Type 0 where
  pub within : d.place.segment < length ss
  pub has : HasFault (get_or ss d.place.segment []) d.fault d.place.offset

-- a segment before the last one has this fault
pub record IsFaultBefore (ss : Segments) (d : KeptLogDamage) : Type 0 where
  pub within : d.place.segment + 1 < length ss
  pub has : HasFault (get_or ss d.place.segment []) d.fault d.place.offset

-- what was found of the segments, whose entries were taken as far as they were read
abbrev pub IsFound : Segments → List Entry → Found → Type 0
IsFound ss now Nothing = (ss ≡ []) × (now ≡ [])
IsFound ss now (Last l) = IsReadTo ss now l
IsFound ss now (Broken d) = IsFaultBefore ss d

-- the segments before a next one are whole, or one of them has this fault
abbrev pub IsReadBefore : Segments → List Entry → Option KeptLogDamage → Type 0
IsReadBefore ss now None = IsWholeSoFar ss now
IsReadBefore ss now (Some d) = IsFaultIn ss d

-- a log was read to its end
pub record EndsLog (ss : Segments) (now : List Entry) (end : ReadEnd) : Type 0 where
  pub taken : now ≡ entries_of page_size ss
  pub end_is : IsEnd ss end
  pub whole : AllBefore (IsWholeText page_size) ss
