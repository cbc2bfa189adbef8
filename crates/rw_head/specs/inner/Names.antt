-- The places of label sets.
use Rattle.std.specs.Prelude.{◌≡◌, ℕ, ◌<◌, List, [], length, slice_index_or, nat_lt, if◌then◌else◌, Option, None, Some}
use Rattle.std.specs.BTreeMap.{BTreeMap, get}
use Rattle.rw_types.specs.Labels.{Labels}
use Rattle.rw_types.specs.LabelOrder.{labels_cmp}
use Rattle.rw_head.specs.Verdicts.{LabelLimits, refusal}

-- The label sets by place are those of the map: each has there the place at which it is.
pub record AreNamed (index : BTreeMap Labels ℕ) (names : List Labels) : Type 0 where
  pub stands : (n : ℕ) → n < length names → get labels_cmp index (slice_index_or names n []) ≡ Some n
  pub named : (l : Labels) (n : ℕ) → get labels_cmp index l ≡ Some n → (n < length names) × (slice_index_or names n [] ≡ l)

-- a place below that number
abbrev pub below : ℕ → Option ℕ → Option ℕ
below keep None = None
below keep (Some n) = if nat_lt n keep then Some n else None

-- no label set in the map is refused by these limits
abbrev pub HasNoneRefused : LabelLimits → BTreeMap Labels ℕ → Type 0
HasNoneRefused limits index =
    (l : Labels) (n : ℕ) → get labels_cmp index l ≡ Some n → refusal limits l ≡ None
