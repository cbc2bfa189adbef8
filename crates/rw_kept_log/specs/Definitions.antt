-- What a log defines, and that it defines each label set once.
use Rattle.std.specs.Prelude.{◌≡◌, ◌≢◌, ◌⊎◌, ℕ, List, [], ◌∷◌}
use Rattle.std.specs.List.{AllByRecursion}
use Rattle.rw_types.specs.Labels.{Labels}
use Rattle.rw_types.specs.declared.entry.Entry.{Entry}
use Rattle.rw_types.specs.declared.entry.Entry.TheVariants.{Def, Sample}

-- the definitions of a log, in their order
abbrev pub definitions_in : List Entry → List (ℕ × Labels)
definitions_in [] = []
definitions_in (Def r l ∷ es) = (r, l) ∷ definitions_in es
definitions_in (Sample r t w ∷ es) = definitions_in es

-- a definition of another label set, with another reference
abbrev pub IsOther : ℕ × Labels → ℕ × Labels → Type 0
IsOther d e = (d.0 ≢ e.0) × (d.1 ≢ e.1)

-- no two of these have the same label set, or the same reference
abbrev pub AreApart : List (ℕ × Labels) → Type 0
AreApart [] = Unit {0}
AreApart (d ∷ ds) = AllByRecursion (IsOther d) ds × AreApart ds

-- the log defines no label set twice, and no reference
abbrev pub IsDefinedOnce : List Entry → Type 0
IsDefinedOnce es = AreApart (definitions_in es)

-- this is one of them
abbrev pub IsOneOf : List (ℕ × Labels) → ℕ × Labels → Type 0
IsOneOf [] d = ⊥
IsOneOf (e ∷ es) d = (e ≡ d) ⊎ IsOneOf es d
