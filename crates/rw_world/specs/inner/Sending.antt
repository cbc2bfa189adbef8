-- Inner definitions beside those of Sending.antt: only invariants, private functions and
-- proofs use them.
use Rattle.std.specs.Prelude.{◌≡◌, ℕ, ◌+◌, ◌<◌, ◌≤◌, Bool, true, false, nat_lt, nat_eq, if◌then◌else◌, List, [], ◌∷◌, ◌++◌, length, Option, Some, None, All, slice_get}
use Rattle.std.specs.FinMap.{get}
use Rattle.rw_ledger.specs.Names.{Named}
use Rattle.rw_plain_queue.specs.Items.{Placed}
use Rattle.rw_ledger.specs.declared.ledger.Reason.{Reason}
use Rattle.rw_shard_core.specs.declared.config.Target.{Target}
use Rattle.rw_shard_core.specs.Shard.{positions}
use Rattle.rw_machine.specs.Shards.{pending_in_shard}
use Rattle.rw_world.specs.Held.{Held}

-- how often a number is in a list
abbrev pub times : ℕ → List ℕ → ℕ
times p [] = 0
times p (q ∷ qs) = (if nat_eq p q then 1 else 0) + times p qs

-- the positions of the samples of all shards that are not resolved
abbrev pub all_pending : List Held → List ℕ
all_pending [] = []
all_pending (h ∷ hs) = positions (pending_in_shard h.shard) ++ all_pending hs

-- how often a position waits in the shards
abbrev pub waiting : ℕ → List Held → ℕ
waiting p [] = 0
waiting p (h ∷ hs) = times p (positions (pending_in_shard h.shard)) + waiting p hs

-- the samples of all open batches
abbrev pub open_samples : List Held → ℕ
open_samples [] = 0
open_samples (h ∷ hs) = length h.shard.core.batch + open_samples hs

-- a position that was put and is not named may wait once
abbrev pub allowed : Bool → Option Reason → ℕ
allowed true None = 1
allowed true (Some reason) = 0
allowed false named = 0

-- the shard of this number
pub record IsShardAt (target : Target) (capacity batch epoch next i : ℕ) (h : Held) : Type 0 where
  pub target_is : h.shard.core.target ≡ target
  pub capacity_is : h.capacity ≡ capacity
  pub full : h.shard.core.full ≡ batch
  pub epoch_is : h.shard.core.epoch ≡ epoch
  pub number : h.shard.core.shard ≡ i
  pub below : All (λ (x : Placed). x.place.pos < next) h.shard.put

-- What is true of the shards: each position waits in at most one place, and then it is not named;
-- and there is room for the names of all open batches.
pub record IsSending (target : Target) (capacity batch epoch : ℕ) (hs : List Held) (next : ℕ) (l : Named) : Type 0 where
  pub batch_some : 0 < batch
  pub batch_most : batch ≤ 10000
  pub some : 1 ≤ length hs
  pub most : length hs ≤ 1000
  pub each : (i : ℕ) (h : Held) → slice_get hs i ≡ Some h → IsShardAt target capacity batch epoch next i h
  pub once : (p : ℕ) → waiting p hs ≤ allowed (nat_lt p next) (get l.names p)
  pub later : (p : ℕ) → next ≤ p → get l.names p ≡ None
  pub room : open_samples hs ≤ l.room
