-- What the machine has named and sent so far, by whose it is.
use Rattle.std.specs.Prelude.{◌≡◌, ◌⊎◌, ◌&&◌, ◌==◌, ℕ, ◌<◌, Bool, true, List, filter, map, Option, Some, slice_get}
use Rattle.std.specs.List.{AllByRecursion}
use Rattle.std.specs.Ordering.{nat_cmp}
use Rattle.std.specs.FinMap.{FinMap, get}
use Rattle.rw_types.specs.declared.entry.Entry.{Entry}
use Rattle.rw_ledger.specs.declared.ledger.Reason.{Reason}
use Rattle.rw_sender.specs.Logs.{named, dropped}
use Rattle.rw_machine.specs.Worlds.{Setup, Request, World}
use Rattle.rw_simulation.specs.Freely.{Happening}
use Rattle.rw_simulation.specs.FreeLaws.{world_of}
use Rattle.rw_simulation.specs.WorkerRuns.{sent_bytes}

-- the requests of a shard of an epoch
abbrev pub requests_of : ℕ → ℕ → List Request → List Request
requests_of epoch k rs = filter (λ (r : Request). (r.id.epoch == epoch) && (r.id.shard == k)) rs

-- What is known of the epochs that are over: what their workers named, what each of their shards
-- sent, and which shards there were.
pub record Past : Type 1 where
  pub named : ℕ → Reason → Type 0
  pub sent : ℕ → ℕ → List (List ℕ) → Type 0
  pub has : ℕ → ℕ → Type 0

-- the same, in lists and functions: the names of each worker, what a shard sent, and whether there
-- was such a shard
pub record Earlier : Type 0 where
  pub parts : List (FinMap nat_cmp Reason)
  pub sent : ℕ → ℕ → Option (List (List ℕ))
  pub had : ℕ → ℕ → Bool

abbrev pub past_by : Earlier → Past
past_by earlier = record {
  named = λ p reason. (i : ℕ) × (part : FinMap nat_cmp Reason) × (slice_get earlier.parts i ≡ Some part) × (get part p ≡ Some reason);
  sent = λ e k bytes. earlier.sent e k ≡ Some bytes;
  has = λ e k. earlier.had e k ≡ true;
}

-- a position is named by the feeder, by a worker of an epoch that is over, or by one of the n that
-- work
abbrev pub IsNamedSo : Setup → Past → ℕ → List Entry → (ℕ → FinMap nat_cmp Reason) → ℕ → Reason → Type 0
IsNamedSo c past n before parts p reason = (get (named (dropped c.choice before)) p ≡ Some reason) ⊎ (past.named p reason ⊎ ((k : ℕ) × (k < n) × (get (parts k) p ≡ Some reason)))

-- a request is of a shard of an epoch that is over, or of one of these n
abbrev pub IsOwned : Past → ℕ → ℕ → Request → Type 0
IsOwned past epoch n r = ((r.id.epoch < epoch) × past.has r.id.epoch r.id.shard) ⊎ ((r.id.epoch ≡ epoch) × (r.id.shard < n))

-- some free schedule leads to this world
abbrev pub IsReached : Setup → World → Type 0
IsReached c w = (hs : List Happening) × (world_of c hs ≡ w)

-- What the world names is what the feeder and the workers name, with the same reasons, and each
-- request is one of a shard's. Of the epochs that are over the requests are those known.
pub record IsTallied (c : Setup) (past : Past) (epoch n : ℕ) (before : List Entry) (parts : ℕ → FinMap nat_cmp Reason) (w : World) : Type 0 where
  pub reached : IsReached c w
  pub named : (p : ℕ) (reason : Reason) → get w.names p ≡ Some reason → IsNamedSo c past n before parts p reason
  pub names : (p : ℕ) (reason : Reason) → IsNamedSo c past n before parts p reason → get w.names p ≡ Some reason
  pub sent : (e k : ℕ) (bytes : List (List ℕ)) → past.sent e k bytes → (e < epoch) × (map sent_bytes (requests_of e k w.requests) ≡ bytes)
  pub owned : AllByRecursion (IsOwned past epoch n) w.requests
