-- The order rule of a receiver of samples (Remote-Write 1.0, "Ordering"): a series takes a later
-- sample, a repeat changes nothing, and anything else is refused.
use Rattle.std.specs.Prelude.{ℕ, ℤ, int_lt, Bool, true, false, ◌&&◌, ◌||◌, if◌then◌else◌, List, [], ◌∷◌, ◌++◌, map, Option, Some, None, ◌==◌}
use Rattle.std.specs.Ordering.{int_eq}
use Rattle.rw_write_request.specs.Message.{Sample}

-- what is kept of a sample: its timestamp, and the 64-bit word of its value
abbrev pub Point : Type 0
Point = ℤ × ℕ

abbrev pub point_of : Sample → Point
point_of s = (s.1, s.0)

abbrev pub points : List Sample → List Point
points ss = map point_of ss

-- t is later than the last of the list, or there is none
abbrev pub is_later : ℤ → List Point → Bool
is_later t [] = true
is_later t (x ∷ []) = int_lt x.0 t
is_later t (x ∷ y ∷ ys) = is_later t (y ∷ ys)

-- the list has the same timestamp and word
abbrev pub holds : Point → List Point → Bool
holds s [] = false
holds s (x ∷ xs) = (int_eq x.0 s.0 && (x.1 == s.1)) || holds s xs

-- a later sample is appended, a repeat changes nothing, any other is refused
abbrev pub accept_one : List Point → Point → Option (List Point)
accept_one xs s = if is_later s.0 xs then Some (xs ++ s ∷ []) else (if holds s xs then Some xs else None)

abbrev pub accept_next : Option (List Point) → Point → Option (List Point)
accept_next None s = None
accept_next (Some xs) s = accept_one xs s

-- one after the other
abbrev pub accept : Option (List Point) → List Point → Option (List Point)
accept xs [] = xs
accept xs (s ∷ ss) = accept (accept_next xs s) ss
