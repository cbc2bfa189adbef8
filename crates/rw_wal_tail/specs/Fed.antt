-- What was fed to a reader, and what it answers.
use Rattle.std.specs.Prelude.{◌≡◌, ℕ, ◌+◌, List, [], ◌∷◌, ◌++◌, length, Option, Some, None, Result, Ok, Err, slice_get, nat_lt, Bool, true, false, if◌then◌else◌}
use Rattle.rw_types.specs.declared.entry.Entry.{Entry}
use Rattle.rw_wal_format.specs.Pieces as pieces
use Rattle.rw_wal_format.specs.Pieces.{page_size, reading, entries, skipped, fault}
use Rattle.rw_wal_format.specs.declared.skipped_type.SkippedType.{SkippedType}
use Rattle.rw_wal_format.specs.declared.tail_fault.TailFault.{TailFault}
use Rattle.rw_wal_format.specs.declared.tail_fault.TailFault.TheVariants.{OutOfMemory}
use Rattle.rw_wal_tail.specs.declared.piece.Piece.{Piece}
use Rattle.rw_wal_tail.specs.declared.piece.Piece.TheVariants as piece
use Rattle.rw_wal_tail.specs.declared.piece.Told.{Told}
use Rattle.rw_wal_tail.specs.declared.piece.Told.TheVariants as told

-- the pieces that were fed, the number of entries that were returned, and the types of the skipped
-- records
pub record Fed : Type 0 where
  pub pieces : List pieces.Piece
  pub given : ℕ
  -- when `next_entry` last found no entry
  pub skipped : List SkippedType
  -- the fault that `next_entry` has answered, if it has
  pub fault : Option TailFault

-- what comes at the end of the entries
abbrev pub answer_at_end : Option TailFault → Result (Option Entry) TailFault
answer_at_end None = Ok None
answer_at_end (Some f) = Err f

-- the entry after n entries of the pieces, or the fault that follows them
unfoldable pub next_of : List pieces.Piece → ℕ → Result (Option Entry) TailFault
next_of ps n = if nat_lt n (length (entries ps)) then Ok (slice_get (entries ps) n) else answer_at_end (fault ps)

-- what a reader is after an answer: running out of memory changes nothing
unfoldable pub after_answer : Fed → Result (Option Entry) TailFault → Fed
after_answer t (Ok (Some e)) = record t { given = t.given + 1 }
after_answer t (Ok None) = record t { skipped = skipped t.pieces }
after_answer t (Err OutOfMemory) = t
after_answer t (Err f) = record t { skipped = skipped t.pieces; fault = Some f }

-- memory ran out, and the log has no fault
abbrev pub is_out_of_memory : TailFault → Bool
is_out_of_memory OutOfMemory = true
is_out_of_memory _ = false

-- it does not matter how bytes are cut: two pieces of bytes are read as one
abbrev pub CutsDoNotMatter : List pieces.Piece → List pieces.Piece → List ℕ → Type 0
CutsDoNotMatter earlier all b =
    (front : List pieces.Piece) (a : List ℕ) → earlier ≡ front ++ pieces.bytes a ∷ [] → reading page_size all ≡ reading page_size (front ++ pieces.bytes (a ++ b) ∷ [])

-- how many bytes and ends of segments these pieces are
abbrev pub size_of : List pieces.Piece → ℕ
size_of [] = 0
size_of (pieces.bytes b ∷ ps) = length b + size_of ps
size_of (pieces.next_segment ∷ ps) = 1 + size_of ps
size_of (pieces.may_compress ∷ ps) = size_of ps

-- a piece, as the grammar has it
abbrev pub piece_of : Piece → pieces.Piece
piece_of (piece.Bytes b) = pieces.bytes b.items
piece_of piece.NextSegment = pieces.next_segment

abbrev pub told_of : Told → pieces.Piece
told_of (told.Bytes b) = pieces.bytes b
told_of told.NextSegment = pieces.next_segment
told_of told.MayCompress = pieces.may_compress
