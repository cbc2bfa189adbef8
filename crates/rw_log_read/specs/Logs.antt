-- How the segments of a log are read, and what is found in each.
use Rattle.std.specs.Prelude.{◌≡◌, ℕ, ◌+◌, List, [], ◌∷◌, ◌++◌, length, flat_map, Bool, true, Option, None, Some, IsSome, ⊤}
use Rattle.rw_follow.specs.Meals.{Meal}
use Rattle.rw_follow.specs.Queues.{IsAllOf}
use Rattle.rw_types.specs.declared.entry.Entry.{Entry}
use Rattle.rw_wal_format.specs.Pieces.{Piece, bytes, next_segment, begun_log, entries, fault, skipped}
use Rattle.rw_wal_format.specs.declared.tail_fault.TailFault.{TailFault}
use Rattle.rw_log_read.specs.Sums.{sums_of}
use Rattle.rw_wal_tail.specs.declared.place.Damage.{Damage}
use Rattle.rw_log_read.specs.declared.log_read.Segment.{Segment}
use Rattle.rw_log_read.specs.declared.named.Named.{Named}

-- what the source of a named segment has left
abbrev pub source_of : {S : Type 0} {X : Type 0} → (S → X) → Named S → X
source_of f n = f n.source

-- the texts of the segments of which this was read, the last one as far as it was read
abbrev pub texts_of : Meal → List (List ℕ)
texts_of fed = fed.whole ++ fed.begun ∷ []

-- these texts are all that the first sources had left
abbrev pub AreRead : List (Option (List ℕ)) → List (List ℕ) → Type 0
AreRead lefts [] = ⊤
AreRead [] (text ∷ texts) = ⊥
AreRead (left ∷ lefts) (text ∷ texts) = IsAllOf left text × AreRead lefts texts

-- the same, and if no fault was found they are those of all
pub record ReadsFirst (lefts : List (Option (List ℕ))) (texts : List (List ℕ)) (found : Option TailFault) : Type 0 where
  pub read : AreRead lefts texts
  pub whole : found ≡ None → length texts ≡ length lefts

-- the pieces of a log with these segments
abbrev pub next_pieces : List ℕ → List Piece
next_pieces text = next_segment ∷ bytes text ∷ []

abbrev pub log_of : List (List ℕ) → List Piece
log_of [] = []
log_of (text ∷ texts) = bytes text ∷ flat_map next_pieces texts

-- the same of a log that may have Snappy blocks, or has none
abbrev pub log_in : Bool → List (List ℕ) → List Piece
log_in compresses texts = begun_log compresses ++ log_of texts

-- What is found in a segment after others: its bytes, the entries that it adds to the log, and the
-- records skipped in it.
pub record IsRow (compresses : Bool) (done : List (List ℕ)) (text : List ℕ) (row : Segment) : Type 0 where
  pub length_is : row.bytes ≡ length text
  pub more : List Entry
  pub adds : entries (log_in compresses (done ++ text ∷ [])) ≡ entries (log_in compresses done) ++ more
  pub sums_are : row.sums ≡ sums_of more
  pub passed : length (skipped (log_in compresses done)) + row.passed
      ≡ length (skipped (log_in compresses (done ++ text ∷ [])))

-- one row for each segment, in order
abbrev pub AreRows : Bool → List (List ℕ) → List (List ℕ) → List Segment → Type 0
AreRows compresses done [] [] = ⊤
AreRows compresses done (text ∷ texts) (row ∷ rows) =
    IsRow compresses done text row × AreRows compresses (done ++ text ∷ []) texts rows
AreRows compresses done _ _ = ⊥

-- the fault of a damage
abbrev pub fault_in : Option Damage → Option TailFault
fault_in None = None
fault_in (Some damage) = Some damage.fault

-- What was taken are the entries of these segments, each row is what was found in one of them, and
-- the fault is theirs.
pub record AreFound (compresses : Bool) (texts : List (List ℕ)) (taken : List Entry) (rows : List Segment) (found : Option TailFault) : Type 0 where
  pub rows_are : AreRows compresses [] texts rows
  pub all : taken ≡ entries (log_in compresses texts)
  pub fault_is : found ≡ fault (log_in compresses texts)

-- A log, which may have Snappy blocks or has none, was read, and this was found: all that it had,
-- if there is no fault; and if there is one, what comes before it, or the whole segment that has it
-- if reading goes past it.
pub record ReadsInto (past_fault compresses : Bool) (gave had_all : Meal → Type 0) (is_read : Type 0) (taken : List Entry) (rows : List Segment) (found : Option TailFault) : Type 0 where
  pub fed : Meal
  pub gives : gave fed
  pub whole : found ≡ None → had_all fed
  pub ended : past_fault ≡ true → IsSome found → is_read
  pub are : AreFound compresses (texts_of fed) taken rows found

-- The first of these sources were read to their ends, up to one with a fault, or all if there is
-- none, and this was found.
pub record ReadsNamed (compresses : Bool) (lefts : List (Option (List ℕ))) (taken : List Entry) (rows : List Segment) (found : Option TailFault) : Type 0 where
  pub texts : List (List ℕ)
  pub read : ReadsFirst lefts texts found
  pub are : AreFound compresses texts taken rows found
