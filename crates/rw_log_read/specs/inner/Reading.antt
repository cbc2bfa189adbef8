-- How a segment is read: only invariants, private functions and proofs use these definitions.
use Rattle.std.specs.Prelude.{◌≡◌, ℕ, List, [], ◌∷◌, ◌++◌, length, Bool, true, false, None, IsSome}
use Rattle.rw_follow.specs.Meals.{Meal, with_piece}
use Rattle.rw_types.specs.Beginnings.{Begins}
use Rattle.rw_types.specs.declared.entry.Entry.{Entry}
use Rattle.rw_wal_format.specs.Pieces.{Piece, bytes, page_size, reading}
use Rattle.rw_wal_tail.specs.Fed.{Fed}
use Rattle.rw_wal_tail.specs.Taking.{HasTaken, HasTakenAll}
use Rattle.rw_log_read.specs.declared.segment_text.TextRead.{TextRead}

-- of a log this text was read after what was read before; and that is so of each start
abbrev pub GivesMore : {Start : Type 0} → (old new : Start → Meal → Type 0) → List ℕ → Type 0
GivesMore {Start} old new text =
    (start : Start) (meal : Meal) → old start meal → new start (with_piece meal text)

-- one more piece of this many bytes was read and fed
pub record FeedsMore {Start : Type 0} (gave given : Start → Meal → Type 0) (before after : Fed) (n : ℕ) : Type 0 where
  pub text : List ℕ
  pub read : GivesMore gave given text
  pub counted : n ≡ length text
  pub fed : after ≡ record before { pieces = before.pieces ++ bytes text ∷ [] }
  pub still : (taken : List Entry) → HasTaken before taken → HasTaken after taken

-- pieces, whatever comes after them, are read as earlier ones and this text
abbrev pub AreFed : List Piece → List ℕ → List Piece → Type 0
AreFed old text new = (later : List Piece) → reading page_size (new ++ later) ≡ reading page_size (old ++ bytes text ∷ later)

-- a text was read, and its entries were taken, after those before
pub record HasFed {Start : Type 0} (gave given : Start → Meal → Type 0) (t new : Fed) (before after : List Entry) (n : ℕ) : Type 0 where
  pub text : List ℕ
  pub read : GivesMore gave given text
  pub counted : n ≡ length text
  pub same : AreFed t.pieces text new.pieces
  pub taken : HasTaken new after
  pub begins : Begins before after

-- This text of a segment was read: to a fault, or to the segment's end if reading goes past it; or,
-- without a fault, all of it, after which another segment comes or is all that the log had.
pub record IsTextRead {Start : Type 0} (past_fault : Bool) (gave given had_all : Start → Meal → Type 0) (is_read is_followed : Type 0) (text : List ℕ) (found : TextRead) : Type 0 where
  pub read : GivesMore gave given text
  pub last : found.fault ≡ None → found.is_followed ≡ false → GivesMore gave had_all text
  pub next : found.fault ≡ None → found.is_followed ≡ true → is_read × is_followed
  pub ended : past_fault ≡ true → IsSome found.fault → is_read

-- the same, and its entries were taken
pub record ReadsText {Start : Type 0} (past_fault : Bool) (gave given had_all : Start → Meal → Type 0) (is_read is_followed : Type 0) (t new : Fed) (before after : List Entry) (found : TextRead) : Type 0 where
  pub text : List ℕ
  pub is : IsTextRead past_fault gave given had_all is_read is_followed text found
  pub counted : found.bytes ≡ length text
  pub same : AreFed t.pieces text new.pieces
  pub all : HasTakenAll new after found.fault
  pub begins : Begins before after
