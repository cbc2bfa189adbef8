-- How the first bytes of a segment are passed over: only private functions and proofs use these
-- definitions.
use Rattle.std.specs.Prelude.{◌≡◌, ℕ, List, [], ◌∷◌, ◌++◌, length, Bool, None}
use Rattle.rw_follow.specs.Meals.{Meal, no_meal, with_piece}
use Rattle.rw_types.specs.declared.entry.Entry.{Entry}
use Rattle.rw_wal_format.specs.Pieces.{Piece, bytes, page_size, reading, reading_in, fault_at}
use Rattle.rw_wal_format.specs.Segments.{segment_in}
use Rattle.rw_wal_tail.specs.Fed.{Fed}
use Rattle.rw_wal_tail.specs.Places.{stop_after, stop_in}
use Rattle.rw_wal_tail.specs.Taking.{HasTaken}

-- These pieces are this much of the first segment of a log, which may have Snappy blocks or not.
pub record AreText (c : Bool) (text : List ℕ) (pieces : List Piece) : Type 0 where
  pub read : (later : List Piece) → reading page_size (pieces ++ later) ≡ reading_in c page_size text later
  pub stop : (later : List Piece) → stop_after page_size 0 [] (pieces ++ later) ≡ stop_in c page_size 0 text later

-- n bytes were read of a log, after what was read before, and fed
pub record FeedsMore {Start : Type 0} (gave given : Start → Meal → Type 0) (before after : Fed) (n : ℕ) : Type 0 where
  pub text : List ℕ
  pub read : (start : Start) (meal : Meal) → gave start meal → given start (with_piece meal text)
  pub len : n ≡ length text
  pub fed : after ≡ record before { pieces = before.pieces ++ bytes text ∷ [] }
  pub still : (taken : List Entry) → HasTaken before taken → HasTaken after taken

-- the first `count` bytes of a log were read and fed
pub record IsFed {Start : Type 0} (gave given : Start → Meal → Type 0) (count : ℕ) (c : Bool) (t : Fed) : Type 0 where
  pub text : List ℕ
  pub len : length text ≡ count
  pub read : (start : Start) → gave start no_meal → given start (record { whole = []; begun = text })
  pub fed : AreText c text t.pieces

-- the reader has given all entries of this text, which has no fault
pub record IsDrained (c : Bool) (text : List ℕ) (t : Fed) : Type 0 where
  pub fed : AreText c text t.pieces
  pub taken : HasTaken t (segment_in c page_size text).entries
  pub sound : fault_at (segment_in c page_size text).stop ≡ None

-- the first `count` bytes of a log were read and fed, they have no fault, and their entries were
-- taken
pub record PassesTo {Start : Type 0} (gave given : Start → Meal → Type 0) (count : ℕ) (c : Bool) (t : Fed) (before after : List Entry) : Type 0 where
  pub is : IsFed gave given count c t
  pub drained : IsDrained c is.text t
  pub grows : after ≡ before ++ (segment_in c page_size is.text).entries
