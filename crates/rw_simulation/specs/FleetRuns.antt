-- What a shard of the fleet is to the machine, by what is known of it once its worker has ended.
use Rattle.std.specs.Prelude.{◌≡◌, ℕ, ◌≤◌, false, List, [], ◌++◌, length, map, Option, Some, None, slice_get}
use Rattle.std.specs.FinMap.{empty}
use Rattle.rw_types.specs.declared.entry.Entry.{Entry}
use Rattle.rw_types.specs.Gathering.{gather_from}
use Rattle.rw_wal_format.specs.Pieces.{Piece, entries}
use Rattle.rw_series_cache.specs.Numbers.{series_of}
use Rattle.rw_plain_queue.specs.Items.{samples_in}
use Rattle.rw_plain_queue.specs.History.{IsHistory}
use Rattle.rw_plain_queue.specs.declared.item.Item.{Item}
use Rattle.rw_worker.specs.Setups.{start_of}
use Rattle.rw_worker.specs.Steps.{Step, AreSteps, after, items_of, exchanges_of, new_working}
use Rattle.rw_fleet.specs.ShardHistories.{ShardHistory}
use Rattle.rw_sender.specs.Logs.{sent_of, filtered}
use Rattle.rw_sender.specs.Placement.{IsDealt}
use Rattle.rw_machine.specs.Worlds.{Setup, World, new_shards}
use Rattle.rw_simulation.specs.WorkerRuns.{queued, request_in}
use Rattle.rw_simulation.specs.Tallies.{Past, IsTallied, requests_of}
use Rattle.rw_simulation.specs.EpochRuns.{ShardFate, end_in, AreUnsent, IsAllPut, Reaches}

-- The lane is shard k of this epoch of the machine, its worker has made these steps, and these
-- items were left in its queue.
pub record IsShardRun (c : Setup) (epoch k : ℕ) (l : ShardHistory) (steps : List Step) (rest : List Item) : Type 0 where
  pub target : l.setup.target ≡ c.target
  pub batch : l.setup.batch ≡ c.batch
  pub epoch_is : l.setup.queue.epoch ≡ epoch
  pub shard_is : l.setup.queue.shard ≡ k
  pub history : IsHistory epoch k l.put
  pub allowed : AreSteps (start_of l.setup) steps
  pub split : l.put ≡ items_of steps ++ rest
  pub within : length rest ≤ c.capacity

-- what it comes to
abbrev pub fate_of : ShardHistory → List Step → List Item → ShardFate
fate_of l steps rest = record { put = samples_in l.put; end = end_in l.put; worker = after (start_of l.setup) steps; left = map queued rest; requests = map request_in (exchanges_of steps) }

abbrev pub shard_fate_by : Option ShardHistory → List Step → List Item → ShardFate
shard_fate_by None steps rest = record { put = []; end = None; worker = new_working (record { host = []; path = [] }) 0 0 0; left = []; requests = [] }
shard_fate_by (Some l) steps rest = fate_of l steps rest

abbrev pub fate_at : List ShardHistory → (ℕ → List Step) → (ℕ → List Item) → ℕ → ShardFate
fate_at lanes steps rest k = shard_fate_by (slice_get lanes k) (steps k) (rest k)

-- The machine is at the start of an epoch, before the entries whose samples the shards of the fleet
-- were dealt. Nothing was sent in it.
pub record IsBeginning (c : Setup) (past : Past) (pieces : List Piece) (epoch : ℕ) (lanes : List ShardHistory) (steps : ℕ → List Step) (left : ℕ → List Item) (before es : List Entry) (w : World) : Type 0 where
  pub going : (w.killed ≡ false) × (w.closed ≡ None) × (w.draining ≡ None)
  pub pieces_are : w.pieces ≡ pieces
  pub epoch_is : w.epoch ≡ epoch
  pub shards : w.shards ≡ new_shards c epoch 0 (length lanes)
  pub placed : w.placed ≡ length before
  pub rest : List Entry
  pub begins : entries pieces ≡ before ++ (es ++ rest)
  pub series : w.series ≡ series_of c.choice before
  pub counted : w.filtered ≡ length (filtered c.choice before)
  pub tallied : IsTallied c past epoch (length lanes) before (λ k. empty) w
  pub unsent : (k : ℕ) → requests_of epoch k w.requests ≡ []
  pub dealt : IsDealt epoch lanes (gather_from (sent_of c.choice) before es)
  pub runs : (k : ℕ) (l : ShardHistory) → slice_get lanes k ≡ Some l → IsShardRun c epoch k l (steps k) (left k)

-- the fleet's epoch is a run of the machine, which comes to what the workers report
abbrev pub IsFleetRun : Setup → Past → Type 0
IsFleetRun c past =
    (pieces : List Piece) (epoch : ℕ) (lanes : List ShardHistory) (steps : ℕ → List Step) (left : ℕ → List Item) (before es : List Entry) (w : World) → 1 ≤ c.capacity → 1 ≤ c.batch → 1 ≤ length lanes
    → IsBeginning c past pieces epoch lanes steps left before es w → Reaches (AreUnsent (fate_at lanes steps left)) c w (IsAllPut c past pieces epoch (length lanes) (fate_at lanes steps left) (before ++ es))
