-- Inner definitions beside those of Order.antt: only invariants, private functions and
-- proofs use them.
use Rattle.std.specs.Prelude.{ℕ, ◌+◌, ltb, if◌then◌else◌, List, [], ◌∷◌, Option, None, Some}
use Rattle.rw_log_folder.specs.declared.listing.NumberedName.{NumberedName}

-- the first number that is missing, found by a walk over segments in order
abbrev pub gap_after : ℕ → List NumberedName → Option ℕ
gap_after last [] = None
gap_after last (s ∷ ss) = if ltb (last + 1) s.number then Some (last + 1) else gap_after s.number ss
