-- The verdicts of references, in a table and in a map beside it.
use Rattle.std.specs.Prelude.{ℕ, ◌⊎◌, IsSome, ◌+◌, ◌*◌, ◌<◌, ◌≤◌, length, nat_eq, slice_get, Option, None, Some}
use Rattle.std.specs.HashMap.{get, spare}
use Rattle.rw_series_cache.specs.declared.verdict.Verdict.{Verdict}
use Rattle.rw_series_cache.specs.declared.verdicts.Verdicts.{Verdicts}

-- what the table has at a place, or else what the map has
abbrev pub first_of : Option (Option Verdict) → Option Verdict → Option Verdict
first_of (Some (Some verdict)) beside = Some verdict
first_of (Some None) beside = beside
first_of None beside = beside

-- the verdict of a reference, if it has one
abbrev pub verdict_in : Verdicts → ℕ → Option Verdict
verdict_in verdicts reference = first_of (slice_get verdicts.table.items reference) (get nat_eq verdicts.beside reference)

-- the table has a place for a reference, or the map has one, or room for one more
abbrev pub HasRoom : Verdicts → ℕ → Type 0
HasRoom verdicts reference =
    length verdicts.table.items ≤ reference → (0 < spare verdicts.beside) ⊎ IsSome (get nat_eq verdicts.beside reference)

-- The verdicts are those of at most this many definitions, and so is the table: four places for
-- each, and 1,024 beyond that.
abbrev pub IsWithin : Verdicts → ℕ → Type 0
IsWithin verdicts count = (verdicts.definitions ≤ count) × (length verdicts.table.items ≤ 4 * count + 1024)
