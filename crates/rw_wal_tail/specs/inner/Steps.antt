-- What a step of a reader may do.
use Rattle.std.specs.Prelude.{◌≡◌, ℕ, ◌+◌, ◌<◌, ◌≤◌, ◌^◌, List, [], ◌∷◌, ◌++◌, length, drop, take, Option, Some, None, Bool, true, false, ◌⊎◌, vec_capacity}
use Rattle.rw_types.specs.declared.entry.Entry.{Entry}
use Rattle.rw_wal_format.specs.Records.{record_entries}
use Rattle.rw_wal_format.specs.Skipped.{skips_of}
use Rattle.rw_wal_format.specs.declared.skipped_type.SkippedType.{SkippedType}
use Rattle.rw_wal_format.specs.Segments as grammar
use Rattle.rw_wal_format.specs.Segments.{middle, last, nothing, begun, fragment, item_in, flagged, Record, text_of, entries_in, Reading}
use Rattle.rw_wal_format.specs.Pieces.{Piece, page_size}
use Rattle.rw_wal_format.specs.declared.tail_fault.TailFault.{TailFault}
use Rattle.rw_wal_format.specs.declared.tail_fault.TailFault.TheVariants.{OutOfMemory}
use Rattle.rw_wal_tail.specs.declared.reader.Reader.{Reader}
use Rattle.rw_wal_tail.specs.declared.reader.Step.{Step}
use Rattle.rw_wal_tail.specs.declared.reader.Step.TheVariants.{More, Waits, Failed}
use Rattle.rw_wal_tail.specs.inner.Found.{KnownZeros}
use Rattle.rw_wal_tail.specs.declared.place.FaultPlace.{FaultPlace}
use Rattle.rw_wal_tail.specs.inner.Held.{waiting, held_weight, has_ended, can_count, unfed, unread}
use Rattle.rw_wal_tail.specs.inner.Placed.{place_from, ends_with}
use Rattle.rw_wal_tail.specs.inner.Still.{still, open_data}

abbrev pub waiting_of : Reader → List Piece
waiting_of r = waiting r.input.later r.input.ended

-- whether it reads Snappy blocks
abbrev pub compresses : Reader → Bool
compresses r = r.decoder.ready

-- the record that is open
abbrev pub open_of : Reader → Option Record
open_of r = open_data r.is_open r.is_block r.begun.items

-- what comes at the front
abbrev pub item_of : Reader → grammar.Item
item_of r = item_in (compresses r) r.left r.input.rest

-- what the reader still reads
abbrev pub still_read : Reader → List Piece → Reading
still_read r later = still r.ready.items r.passed r.fault (compresses r) r.left (open_of r) r.input.rest (waiting_of r) later

-- where the reading stops of what it still reads, if this many segments have ended
abbrev pub still_place : Reader → ℕ → List Piece → FaultPlace
still_place r ends later = place_from r.fault (compresses r) r.left (open_of r) r.input ends later

-- this is the number of segments that have ended, unless there are too many
abbrev pub Counts : ℕ → Reader → Type 0
Counts ends r = r.input.ends < 2 ^ 60 → r.input.ends ≡ ends

-- a fault of the log, if any
abbrev pub IsOfLog : Option TailFault → Type 0
IsOfLog (Some OutOfMemory) = ⊥
IsOfLog _ = Unit {0}

pub record IsReader (r : Reader) : Type 0 where
  pub page : 0 < r.left
  pub count : length r.passed < 2 ^ 60
  pub fault : IsOfLog r.fault
  pub zeros : KnownZeros r.left r.zeros r.input.rest

-- the place where the reading stops does not change
pub record SamePlace (old new : Reader) : Type 0 where
  pub counts : new.input.ends ≡ old.input.ends
  pub still_there : (ends : ℕ) → Counts ends old → (later : List Piece) → still_place old ends later ≡ still_place new ends later

-- nothing that is still read changes
pub record Same (old new : Reader) : Type 0 where
  pub reader : IsReader new
  pub place : SamePlace old new
  pub still_same : (later : List Piece) → still_read old later ≡ still_read new later

-- the place with one more piece
pub record TakesPlace (piece : Piece) (old new : Reader) : Type 0 where
  pub counts : (ends : ℕ) → Counts ends old → Counts (ends_with ends piece) new
  pub still_there : (ends : ℕ) → Counts ends old → (later : List Piece) → still_place old ends (piece ∷ later) ≡ still_place new (ends_with ends piece) later

-- one more piece is still read
pub record Takes (piece : Piece) (old new : Reader) : Type 0 where
  pub reader : IsReader new
  pub place : TakesPlace piece old new
  pub still_more : (later : List Piece) → still_read old (piece ∷ later) ≡ still_read new later

-- a reader with nothing ready and no fault
pub record CanStep (r : Reader) : Type 0 where
  pub reader : IsReader r
  pub counted : can_count r.input ≡ true
  pub none_ready : r.ready.items ≡ []
  pub no_fault : r.fault ≡ None

-- what has come of the current segment ends here, inside a record or fragment or not
pub record PausesAt (is_inside : Bool) (r : Reader) : Type 0 where
  pub can_step : CanStep r
  pub ends : ((item_of r ≡ begun) × (is_inside ≡ true)) ⊎ ((item_of r ≡ nothing) × (is_inside ≡ r.is_open))

-- what has come ends here
pub record Ends (r : Reader) : Type 0 where
  pub can_step : CanStep r
  pub ends : (item_of r ≡ nothing) ⊎ (item_of r ≡ begun)
  pub none_waits : has_ended r.input.later r.input.ended ≡ false

abbrev pub weight : Reader → ℕ
weight r = held_weight r.input

abbrev pub Stepped : Step → Reader → Reader → Type 0
Stepped More old new = weight new < weight old
Stepped Waits old new = Ends new
Stepped (Failed f) old new = (new.fault ≡ Some f) × (new.ready.items ≡ [])

abbrev pub goes_on : grammar.Kind → Bool
goes_on middle = true
goes_on last = true
goes_on _ = false

-- the data of a fragment of this many bytes
abbrev pub data_at_front : ℕ → Reader → List ℕ
data_at_front n r = take n (drop 7 r.input.rest)

-- a fragment of this kind comes there, with this many bytes, of a Snappy block or not
pub record FoundFragment (is_block : Bool) (kind : grammar.Kind) (n : ℕ) (r : Reader) : Type 0 where
  pub can_step : CanStep r
  pub whole : 7 + n ≤ length r.input.rest
  pub in_page : 7 + n ≤ r.left
  pub found : item_of r ≡ fragment (flagged is_block kind) (data_at_front n r)
  pub may_be : is_block ≡ true → compresses r ≡ true

-- the same, and it goes on with what is open
pub record FoundAt (is_block : Bool) (kind : grammar.Kind) (n : ℕ) (r : Reader) : Type 0 where
  pub can_step : CanStep r
  pub whole : 7 + n ≤ length r.input.rest
  pub in_page : 7 + n ≤ r.left
  pub found : item_of r ≡ fragment (flagged is_block kind) (data_at_front n r)
  pub may_be : is_block ≡ true → compresses r ≡ true
  pub in_order : r.is_open ≡ goes_on kind

-- what a record holds is read into the queue, or is not of its form
abbrev pub IsTextRead : List ℕ → List SkippedType → List Entry → List SkippedType → Bool → Type 0
IsTextRead d passed ready passed' true = (record_entries d ≡ Some ready) × (passed' ≡ passed ++ skips_of d)
IsTextRead d passed ready passed' false = (record_entries d ≡ None) × (ready ≡ []) × (passed' ≡ passed)

-- a whole record is read into the queue, or cannot be decoded or is not of its form
abbrev pub IsRead : Record → List SkippedType → List Entry → List SkippedType → Bool → Type 0
IsRead r passed ready passed' true = (d : List ℕ) × (text_of r ≡ Some d) × (record_entries d ≡ Some ready) × (passed' ≡ passed ++ skips_of d)
IsRead r passed ready passed' false = (entries_in r ≡ None) × (ready ≡ []) × (passed' ≡ passed)

abbrev pub is_failed_by : TailFault → Reader → Reader
is_failed_by f r = record r { fault = Some f }

-- a reader that nothing was fed to
pub record IsUnfed (c : Bool) (r : Reader) : Type 0 where
  pub compresses_is : compresses r ≡ c
  pub input : r.input ≡ unfed
  pub left : r.left ≡ page_size
  pub is_open : r.is_open ≡ false
  pub ready : r.ready.items ≡ []
  pub passed : r.passed ≡ []
  pub fault : r.fault ≡ None

-- what a reader came to: an entry is ready, or what has come ends, or there is a fault
abbrev pub Ran : Step → Reader → Type 0
Ran More r = 0 < length r.ready.items
Ran Waits r = Ends r
Ran (Failed f) r = (r.fault ≡ Some f) × (r.ready.items ≡ [])

-- There is room for the data of a record in fragments, whatever is not read, and n bounds all
-- counts.
pub record IsKept (n : ℕ) (r : Reader) : Type 0 where
  pub room : length r.begun.items + unread r.input ≤ vec_capacity r.begun
  pub passed : length r.passed + unread r.input ≤ n
  pub offset : r.input.offset + length r.input.rest ≤ n
  pub ends : r.input.ends ≤ n

-- an entry comes next
abbrev pub GivesNext : Reader → Type 0
GivesNext r = 0 < length (still_read r []).entries

-- memory may run out: an entry comes next, or a count has come to its end
abbrev pub MayLack : ℕ → Reader → Type 0
MayLack n r = GivesNext r ⊎ (2 ^ 60 ≤ n)
