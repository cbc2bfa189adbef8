-- Inner definitions beside those of Logs.antt: only invariants, private functions and
-- proofs use them.
use Rattle.std.specs.Prelude.{◌≡◌, ℕ, ◌+◌, List, [], ◌∷◌, ◌++◌, length, Bool, true, false, Option, None, IsSome}
use Rattle.rw_follow.specs.Meals.{Meal, no_meal}
use Rattle.rw_types.specs.declared.entry.Entry.{Entry}
use Rattle.rw_wal_format.specs.Pieces.{Piece, bytes, next_segment, page_size, reading}
use Rattle.rw_wal_format.specs.declared.tail_fault.TailFault.{TailFault}
use Rattle.rw_wal_tail.specs.Fed.{Fed}
use Rattle.rw_wal_tail.specs.Taking.{HasTakenAll}
use Rattle.rw_log_read.specs.Sums.{sums_of}
use Rattle.rw_log_read.specs.declared.log_read.Segment.{Segment}
use Rattle.rw_log_read.specs.declared.segment_text.TextRead.{TextRead}
use Rattle.rw_log_read.specs.Logs.{log_in, AreRows, texts_of}
use Rattle.rw_log_read.specs.inner.Reading.{IsTextRead}

-- the segments were read and their entries taken, and a fault found in the last one, or none
pub record AreTaken (compresses : Bool) (texts : List (List ℕ)) (t : Fed) (taken : List Entry) (rows : List Segment) (found : Option TailFault) : Type 0 where
  pub same : (later : List Piece) → reading page_size (t.pieces ++ later) ≡ reading page_size (log_in compresses texts ++ later)
  pub all : HasTakenAll t taken found
  pub rows_are : AreRows compresses [] texts rows

-- the pieces when the next segment begins
abbrev pub begun : Bool → List Piece → List Piece
begun true pieces = pieces
begun false pieces = pieces ++ next_segment ∷ []

-- the entries of the next segment, which has this text, were taken, and this is its row
pub record IsSegmentTaken (is_first : Bool) (t new : Fed) (before after : List Entry) (text : List ℕ) (row : Segment) (found : Option TailFault) : Type 0 where
  pub length_is : row.bytes ≡ length text
  pub same : (later : List Piece) → reading page_size (new.pieces ++ later) ≡ reading page_size (begun is_first t.pieces ++ bytes text ∷ later)
  pub all : HasTakenAll new after found
  pub more : List Entry
  pub adds : after ≡ before ++ more
  pub sums_are : row.sums ≡ sums_of more
  pub passed : length t.skipped + row.passed ≡ length new.skipped

-- it was read
pub record ReadsSegment {Start : Type 0} (past_fault is_first : Bool) (gave given had_all : Start → Meal → Type 0) (is_read is_followed : Type 0) (t new : Fed) (before after : List Entry) (found : Segment × TextRead) : Type 0 where
  pub text : List ℕ
  pub is : IsTextRead past_fault gave given had_all is_read is_followed text found.1
  pub taken : IsSegmentTaken is_first t new before after text found.0 found.1.fault

-- of a log of which nothing was read before this was read; and that is so of each start
abbrev pub Gives : {Start : Type 0} → (old new : Start → Meal → Type 0) → Meal → Type 0
Gives {Start} old new fed = (start : Start) → old start no_meal → new start fed

-- how a log was read, from its first segment on
pub record ReadsLog {Start : Type 0} (past_fault compresses : Bool) (gave given had_all : Start → Meal → Type 0) (is_read : Type 0) (t : Fed) (taken : List Entry) (rows : List Segment) (found : Option TailFault) : Type 0 where
  pub fed : Meal
  pub read : Gives gave given fed
  pub whole : found ≡ None → Gives gave had_all fed
  pub ended : past_fault ≡ true → IsSome found → is_read
  pub are : AreTaken compresses (texts_of fed) t taken rows found
