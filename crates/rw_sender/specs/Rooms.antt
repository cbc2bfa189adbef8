-- How many bytes each shard may still be put before a mark.
use Rattle.std.specs.Prelude.{◌≡◌, ◌≢◌, ℕ, ◌-◌, ◌<◌, ◌≤◌, List, slice_index, Option, Some, None, Bool, true, false, ⊤}

-- the limit, and the room of each number that a shard can have
pub record Counting : Type 0 where
  pub limit : Option ℕ
  pub rooms : List ℕ

-- nothing is counted
abbrev pub AreUncounted : Option ℕ → List ℕ → Type 0
AreUncounted None rooms = ⊤
AreUncounted (Some limit) rooms = (k : ℕ) → k < 1000 → slice_index rooms k ≡ limit

-- this shard has this room now, and the others have what they had
abbrev pub IsRoomNow : List ℕ → List ℕ → ℕ → ℕ → Type 0
IsRoomNow old new k room = (slice_index new k ≡ room) × ((j : ℕ) → j ≢ k → slice_index new j ≡ slice_index old j)

-- a sample of this many bytes was counted for the shard numbered k: it does not fit and comes after
-- a mark, or it fits
abbrev pub Counts : Option ℕ → ℕ → ℕ → List ℕ → List ℕ → Bool → Type 0
Counts None k bytes old new over = over ≡ false
Counts (Some limit) k bytes old new true = (slice_index old k < bytes) × IsRoomNow old new k (limit - bytes)
Counts (Some limit) k bytes old new false = (bytes ≤ slice_index old k) × IsRoomNow old new k (slice_index old k - bytes)
