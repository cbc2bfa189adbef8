-- Dropped samples: the reason of each, by position, and for how many more there is room.
use Rattle.std.specs.Prelude.{ℕ, ◌<◌, ◌≤◌, List, length, slice_index_or}
use Rattle.std.specs.Ordering.{nat_cmp}
use Rattle.std.specs.FinMap.{FinMap}
use Rattle.rw_ledger.specs.declared.ledger.Reason.{Reason}

pub record Named : Type 0 where
  pub names : FinMap nat_cmp Reason
  pub room : ℕ

-- a place in a list of names: the positions before it are lower, and no others are
pub record IsPlaceOf (pos : ℕ) (names : List (ℕ × Reason)) (i : ℕ) : Type 0 where
  pub within : i ≤ length names
  pub before : (k : ℕ) (d : ℕ × Reason) → k < i → (slice_index_or names k d).0 < pos
  pub after : (k : ℕ) (d : ℕ × Reason) → i ≤ k → k < length names → pos ≤ (slice_index_or names k d).0
