-- The pieces of a log that is in several segments.
use Rattle.std.specs.Prelude.{◌≡◌, ◌≤◌, ◌-◌, List, [], ◌∷◌, length, take, None, Bool, ⊤}
use Rattle.rw_wal_format.specs.Pieces.{Piece, bytes, next_segment, may_compress, is_marked, fault}
use Rattle.rw_follow.specs.Meals.{Meal, no_meal, with_next, with_piece}

-- what these pieces make: the bytes between two ends of segments, joined; here after some
abbrev pub meal_after : Meal → List Piece → Meal
meal_after meal [] = meal
meal_after meal (bytes b ∷ pieces) = meal_after (with_piece meal b) pieces
meal_after meal (next_segment ∷ pieces) = meal_after (with_next meal) pieces
meal_after meal (may_compress ∷ pieces) = meal_after meal pieces

abbrev pub meal_of : List Piece → Meal
meal_of pieces = meal_after no_meal pieces

-- a piece that is fed has at most 64 KiB
abbrev pub IsShortPiece : Piece → Type 0
IsShortPiece (bytes b) = length b ≤ 65536
IsShortPiece next_segment = ⊤
IsShortPiece may_compress = ⊥

abbrev pub AreShortPieces : List Piece → Type 0
AreShortPieces [] = ⊤
AreShortPieces (piece ∷ pieces) = IsShortPiece piece × AreShortPieces pieces

-- the pieces that were fed
abbrev pub fed_of : List Piece → List Piece
fed_of (may_compress ∷ pieces) = pieces
fed_of pieces = pieces

-- such a log, of which short pieces were fed
abbrev pub IsShortLog : Bool → List Piece → Type 0
IsShortLog compresses pieces = (is_marked pieces ≡ compresses) × AreShortPieces (fed_of pieces)

-- reading ends at the first piece that has a fault: those before the last have none
abbrev pub AreSoundButLast : List Piece → Type 0
AreSoundButLast pieces = fault (take (length pieces - 1) pieces) ≡ None
