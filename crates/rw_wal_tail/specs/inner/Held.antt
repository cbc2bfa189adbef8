-- What a reader holds of a log: the rest of the current segment, and the segments after it.
use Rattle.std.specs.Prelude.{ℕ, ◌+◌, ◌^◌, List, [], ◌∷◌, ◌++◌, length, drop, Bool, true, false, nat_lt, ◌&&◌, if◌then◌else◌}
use Rattle.rw_wal_format.specs.Pieces.{Piece, bytes, next_segment}
use Rattle.rw_wal_tail.specs.declared.input.Segment.{Segment}

pub record Held : Type 0 where
  -- how many segments come before the current one
  pub segment : ℕ
  -- how many of its bytes were read
  pub offset : ℕ
  -- what is not read yet of it
  pub rest : List ℕ
  -- of each segment after it that has a byte or may have one: how many segments come before it, and
  -- what has come of it
  pub later : List (ℕ × List ℕ)
  -- whether the last of them has ended
  pub ended : Bool
  -- how many segments have ended, or 2 ^ 60
  pub ends : ℕ

-- how many segments come before one that waits, and its bytes
abbrev pub waits_as : Segment → ℕ × List ℕ
waits_as s = (s.number, s.bytes.items)

-- what is held before anything was fed
abbrev pub unfed : Held
unfed = record { segment = 0; offset = 0; rest = []; later = []; ended = false; ends = 0 }

-- what is held after this many bytes were read
abbrev pub passed : ℕ → Held → Held
passed n h = record h { offset = h.offset + n; rest = drop n h.rest }

-- one more, up to 2 ^ 60
abbrev pub one_more : ℕ → ℕ
one_more n = if nat_lt n (2 ^ 60) then n + 1 else n

-- whether bytes and segments can still be counted
abbrev pub can_count : Held → Bool
can_count h = nat_lt h.offset (2 ^ 60) && nat_lt h.ends (2 ^ 60)

-- what is held when one more segment has ended
abbrev pub marked : Held → Held
marked h = record h { ended = true; ends = one_more h.ends }

-- the pieces that come after the rest
abbrev pub waiting : List (ℕ × List ℕ) → Bool → List Piece
waiting [] false = []
waiting [] true = next_segment ∷ []
waiting (s ∷ ss) ended = next_segment ∷ bytes s.1 ∷ waiting ss ended

-- whether the current segment has ended
abbrev pub has_ended : List (ℕ × List ℕ) → Bool → Bool
has_ended [] ended = ended
has_ended (s ∷ ss) ended = true

-- what is held when the next segment begins
abbrev pub begun_with : List (ℕ × List ℕ) → Bool → ℕ → Held
begun_with [] ended ends = record { segment = ends; offset = 0; rest = []; later = []; ended = false; ends = ends }
begun_with (s ∷ ss) ended ends = record { segment = s.0; offset = 0; rest = s.1; later = ss; ended = ended; ends = ends }

-- more bytes at the end of the last segment
abbrev pub extend_last : List ℕ → List (ℕ × List ℕ) → List (ℕ × List ℕ)
extend_last b [] = []
extend_last b (s ∷ []) = (s.0, s.1 ++ b) ∷ []
extend_last b (s ∷ t ∷ ss) = s ∷ extend_last b (t ∷ ss)

abbrev pub fed_with : List ℕ → Held → List (ℕ × List ℕ) → Bool → Held
fed_with b h later true = record h { later = later ++ (h.ends, b) ∷ []; ended = false }
fed_with b h [] false = record h { rest = h.rest ++ b; later = []; ended = false }
fed_with b h (s ∷ ss) false = record h { later = extend_last b (s ∷ ss); ended = false }

-- what is held after more bytes
unfoldable pub fed : List ℕ → Held → Held
fed b h = fed_with b h h.later h.ended

-- how many bytes wait in the segments after the current one
abbrev pub later_bytes : List (ℕ × List ℕ) → ℕ
later_bytes [] = 0
later_bytes (s ∷ ss) = length s.1 + later_bytes ss

-- how many bytes are not read
abbrev pub unread : Held → ℕ
unread h = length h.rest + later_bytes h.later

-- how many steps are left at most
abbrev pub later_weight : List (ℕ × List ℕ) → ℕ
later_weight [] = 0
later_weight (s ∷ ss) = 1 + length s.1 + later_weight ss

abbrev pub mark_weight : Bool → ℕ
mark_weight true = 1
mark_weight false = 0

abbrev pub held_weight : Held → ℕ
held_weight h = length h.rest + later_weight h.later + mark_weight h.ended
