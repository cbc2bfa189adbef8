-- The shards of a sender, epoch by epoch.
use Rattle.std.specs.Prelude.{◌≡◌, ℕ, ◌+◌, ◌≤◌, List, ◌++◌, length, take, drop, Some, slice_get}
use Rattle.rw_types.specs.Beginnings.{Begins}

-- the shards of an epoch, and those that were made for the next one, with the number that it is to
-- have
pub record FleetShards (S : Type 0) : Type 0 where
  pub epoch : ℕ
  pub running : List S
  pub wanted : ℕ
  pub made : List S

-- the same, if other shards were written over the first n; there are n of them when a slice was
-- lent
abbrev pub refilled : {S : Type 0} → ℕ → FleetShards S → List S → FleetShards S
refilled n f shards = record f { running = take n (shards ++ drop (length shards) f.running) }

abbrev pub with_running : {S : Type 0} → FleetShards S → List S → FleetShards S
with_running f shards = refilled (length f.running) f shards

-- new shards of an epoch, the first ones: each was made as the shard of its number
abbrev pub AreNew : {S : Type 0} → (ℕ → ℕ → S → Type 0) → ℕ → List S → Type 0
AreNew {S} is_new epoch shards = (k : ℕ) (s : S) → slice_get shards k ≡ Some s → is_new epoch k s

-- all new shards of an epoch
abbrev pub AreAllNew : {S : Type 0} → (ℕ → ℕ → S → Type 0) → ℕ → ℕ → List S → Type 0
AreAllNew is_new epoch n shards = (length shards ≡ n) × AreNew is_new epoch shards

-- the same fleet, but for more shards that were made for the next epoch
pub record GoesOn {S : Type 0} (is_new : ℕ → ℕ → S → Type 0) (before after : FleetShards S) : Type 0 where
  pub same : (after.epoch ≡ before.epoch) × (after.running ≡ before.running) × (after.wanted ≡ before.wanted)
  pub fresh : AreNew is_new (1 + before.epoch) after.made
  pub within : length after.made ≤ before.wanted
  pub more : Begins before.made after.made
