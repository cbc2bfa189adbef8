-- Inner definitions beside those of References.antt: only invariants, private functions and
-- proofs use them.
use Rattle.std.specs.Prelude.{◌≡◌, ◌≤◌, ◌+◌, ◌^◌, ℕ, ℤ, List, [], ◌∷◌, length, map, take, drop}
use Rattle.rw_types.specs.Labels.{Labels}
use Rattle.rw_kept_log.specs.Additions.{Point}
use Rattle.rw_kept_log.specs.References.{ReferenceTable, IsTable, numbered}

-- samples of one reference
abbrev pub with_reference : ℕ → List Point → List (ℕ × ℤ × ℕ)
with_reference r [] = []
with_reference r (p ∷ ps) = (r, p.0, p.1) ∷ with_reference r ps

-- an entry of a map from label sets to references
abbrev pub SetEntry : Type 0
SetEntry = List (List ℕ × List ℕ) × ℕ

abbrev pub pair_of : SetEntry → ℕ × Labels
pair_of e = (e.1, e.0)

abbrev pub set_of : SetEntry → Labels
set_of e = e.0

-- the table of a map: the log has the definitions of its first entries
abbrev pub table_of : List SetEntry → ℕ → ℕ → ReferenceTable
table_of entries defined next = record {
  known = map pair_of (take defined entries);
  next = next;
  fresh = map set_of (drop defined entries);
}

-- A map has the references of a table: the entries that the log does not define have the references
-- from the next one on, and each reference has a place in 64 bits.
pub record HasTable (entries : List SetEntry) (defined next : ℕ) : Type 0 where
  pub within : defined ≤ length entries
  pub bound : next ≤ 2 ^ 63 + defined
  pub numbers : map pair_of (drop defined entries) ≡ numbered next (map set_of (drop defined entries))
  pub table : IsTable (table_of entries defined next)
