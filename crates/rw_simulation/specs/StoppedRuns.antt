-- A shipper that was stopped is a run of the machine of events, whether it left nothing or
-- abandoned what was left.
use Rattle.std.specs.Prelude.{◌≡◌, ℕ, ◌<◌, List, [], ◌∷◌, ◌++◌, length, map, Option, Some, slice_get, IsPermutation, ⊤}
use Rattle.std.specs.List.{AllByRecursion}
use Rattle.std.specs.Ordering.{nat_cmp}
use Rattle.std.specs.FinMap.{FinMap, get}
use Rattle.rw_types.specs.Rising.{Rises}
use Rattle.rw_wal_tail.specs.Fed.{piece_of}
use Rattle.rw_wal_tail.specs.declared.piece.Piece.{Piece}
use Rattle.rw_shard_core.specs.declared.config.ConfigFields.{ConfigFields}
use Rattle.rw_shard_core.specs.declared.outcome.Outcome.{Outcome}
use Rattle.rw_shard_core.specs.declared.outcome.Outcome.TheVariants as outcome
use Rattle.rw_ledger.specs.declared.ledger.Reason.{Reason}
use Rattle.rw_ledger.specs.Names.{Named}
use Rattle.rw_plain_queue.specs.Items.{samples_in}
use Rattle.rw_plain_queue.specs.declared.item.Kind.TheVariants.{Orderly, Reshard}
use Rattle.rw_worker.specs.Transcript.{Exchange}
use Rattle.rw_fleet.specs.ShardHistories.{ShardHistory, put_into}
use Rattle.rw_fleet.specs.Work.{AreEndedBy, AreResolved, lane_of, put_of, queue_of_ends, taken_of}
use Rattle.rw_fleet.specs.Fleets.{Shards, AreAll, EndBy}
use Rattle.rw_fleet.specs.declared.joined.Finished.{Finished}
use Rattle.rw_sender.specs.Logs.{sent}
use Rattle.rw_sender.specs.Placement.{IsShardCount, Places, joined_epochs}
use Rattle.rw_sender.specs.Reports.{IsAbandoned, parts_of, workers_of}
use Rattle.rw_sender.specs.Shipping.{Shipping, PlacesAll, HasStopped}
use Rattle.rw_sender.specs.declared.report.Report.{Report}
use Rattle.rw_machine.specs.Shards.{Shard}
use Rattle.rw_machine.specs.Worlds.{Setup, Request, World, report}
use Rattle.rw_shard_core.specs.Endings.{Ending, Complete, Abandoned, Damaged}
use Rattle.rw_machine.specs.Promises.{CanWork}
use Rattle.rw_restarts.specs.Listed.{IsNamedIn}
use Rattle.rw_simulation.specs.Freely.{Happening}
use Rattle.rw_simulation.specs.FreeLaws.{KeepsLaws, world_of}
use Rattle.rw_simulation.specs.WorkerRuns.{sent_bytes, request_in}
use Rattle.rw_simulation.specs.Tallies.{requests_of}

-- the machine's target, queues and batches are those of the workers
pub record IsSetAs (c : Setup) (config : ConfigFields) : Type 0 where
  pub target : c.target ≡ config.target
  pub capacity : c.capacity ≡ config.capacity
  pub batch : c.batch ≡ config.batch

-- it is the machine of this shipper, which sends the same series, and adds no external labels
abbrev pub IsMachineOf : {T : Type 0} → Setup → Shipping T → Type 0
IsMachineOf c s =
    IsSetAs c s.fleet.config × (c.choice ≡ s.log.choice) × (s.log.labels ≡ [])

-- the later epochs have 1 to 1000 shards each
abbrev pub AreNumbers : List (List ShardHistory) → Type 0
AreNumbers [] = ⊤
AreNumbers (lanes ∷ later) = IsShardCount (length lanes) × AreNumbers later

-- the first epoch has as many shards as the machine starts with
abbrev pub HasNumbers : Setup → List (List ShardHistory) → Type 0
HasNumbers c [] = ⊥
HasNumbers c (lanes ∷ later) = (length lanes ≡ c.shards) × AreNumbers later

-- the shards of each epoch were ended because their number changed, and those of the last one in
-- order
abbrev pub EndInTurn : List (List ShardHistory) → Type 0
EndInTurn [] = ⊤
EndInTurn (lanes ∷ []) = AreEndedBy Orderly (map put_into lanes)
EndInTurn (lanes ∷ next ∷ later) = AreEndedBy Reshard (map put_into lanes) × EndInTurn (next ∷ later)

-- the machine's shard was put what the worker's queue was put, has taken the same, and has resolved
-- as many samples
pub record IsAlike {T : Type 0} (f : Finished T) (m : Shard) : Type 0 where
  pub put : m.put ≡ samples_in (put_of f.ends)
  pub taken : m.core.taken ≡ samples_in (taken_of f.ends)
  pub resolved : length m.core.resolved ≡ f.resolved

-- the second list has the numbers of the first one, in rising order
pub record IsRisingOrderOf (xs ys : List ℕ) : Type 0 where
  pub same : IsPermutation xs ys
  pub rises : Rises (λ x y. x < y) ys

-- what is named is what the parts name, all together
abbrev pub NamesAll : FinMap nat_cmp Reason → List Named → Type 0
NamesAll names parts = (p : ℕ) (reason : Reason) → (get names p ≡ Some reason → IsNamedIn parts p reason) × (IsNamedIn parts p reason → get names p ≡ Some reason)

-- it is a request of one of these workers' shards
abbrev pub IsOfOne : {T : Type 0} → List (Finished T) → Request → Type 0
IsOfOne {T} fs q = (k : ℕ) × (f : Finished T) × (slice_get fs k ≡ Some f) × (q.id.epoch ≡ (queue_of_ends f.ends).epoch) × (q.id.shard ≡ (queue_of_ends f.ends).shard)

-- of each worker that records its exchanges the requests are those of its shard, byte by byte and
-- in order; and there are no others
pub record SendsAll {T : Type 0} (tells : T → Type 0) (seen : T → List Exchange) (requests : List Request) (fs : List (Finished T)) : Type 0 where
  pub each : (k : ℕ) (f : Finished T) → slice_get fs k ≡ Some f → tells f.transport → map sent_bytes (requests_of (queue_of_ends f.ends).epoch (queue_of_ends f.ends).shard requests) ≡ map request_in (seen f.transport)
  pub owned : AllByRecursion (IsOfOne fs) requests

-- the machine's report is the outcome; the samples that are left are in rising order, if the
-- shipper has them shard by shard
abbrev pub Tells : Outcome → Option Ending → Type 0
Tells (outcome.Complete end) found = found ≡ Some (Complete end)
Tells (outcome.Abandoned placed samples) found = (left : List ℕ) × (found ≡ Some (Abandoned placed left)) × IsRisingOrderOf samples.items left
Tells (outcome.Damaged f) found = found ≡ Some (Damaged f)

-- The machine comes to what the shipper reports: its shards are those of the last epoch, its names
-- and requests those of all.
pub record ComesTo {T : Type 0} (tells : T → Type 0) (seen : T → List Exchange) (c : Setup) (s : Shipping T) (r : Report T) (w : World) : Type 0 where
  pub log : w.pieces ≡ s.log.pieces
  pub placed : w.placed ≡ length s.log.placed
  pub filtered : w.filtered ≡ r.filtered
  pub earlier : List (Finished T)
  pub last : List (Finished T)
  pub workers : workers_of r ≡ earlier ++ last
  pub shards : length w.shards ≡ length last
  pub each : (k : ℕ) (m : Shard) (f : Finished T) → slice_get w.shards k ≡ Some m → slice_get last k ≡ Some f → IsAlike f m
  pub names : NamesAll w.names (parts_of r)
  pub requests : SendsAll tells seen w.requests (workers_of r)
  pub outcome_is : Tells r.outcome (report w)

-- some free schedule of the machine leads there, and the machine's laws are true of it
abbrev pub IsRun : {T : Type 0} → (T → Type 0) → (T → List Exchange) → Setup → Shipping T → Report T → Type 0
IsRun tells seen c s r = (hs : List Happening) × ComesTo tells seen c s r (world_of c hs) × KeepsLaws c hs

-- The same for every shipper that left nothing, over whichever epochs its samples were placed, if
-- these had such numbers of shards and ended in turn,
abbrev pub StopsAsRun : {T : Type 0} → (T → Type 0) → (T → List Exchange) → (ℕ → ℕ → T → Type 0) → Shipping T → Report T → Type 0
StopsAsRun tells seen is_for s r =
    (c : Setup) (fed : List Piece) (h : HasStopped tells seen is_for s r) (epochs : List (List ShardHistory)) → IsMachineOf c s → CanWork c → s.log.pieces ≡ map piece_of fed
    → map lane_of h.joined ≡ joined_epochs epochs → Places 0 epochs (sent s.log.choice s.log.placed) → HasNumbers c epochs → EndInTurn epochs → (IsAbandoned r.outcome → ⊥) → IsRun tells seen c s r

-- how many shards the first epoch had
abbrev pub first_number : List (List ShardHistory) → List ShardHistory → ℕ
first_number [] current = length current
first_number (lanes ∷ later) current = length lanes

-- however often the number of shards was changed: the machine starts with as many as the first
-- epoch had
abbrev pub StopsInOrder : {T : Type 0} → (T → Type 0) → (T → List Exchange) → (ℕ → ℕ → T → Type 0) → Shipping T → Report T → Type 0
StopsInOrder tells seen is_for s r =
    (c : Setup) (fed : List Piece) (h : HasStopped tells seen is_for s r) (p : PlacesAll s.log s.fleet) → IsMachineOf c s → CanWork c → s.log.pieces ≡ map piece_of fed → IsShardCount (length s.fleet.current) → first_number p.epochs s.fleet.current ≡ c.shards
    → EndBy Orderly s.fleet (workers_of r) → (IsAbandoned r.outcome → ⊥) → IsRun tells seen c s r

-- The same for every shipper that abandoned what was left, however it was stopped. `before` is the
-- fleet as it was before its last shards were ended: that of the shipper, with the shards that a
-- failed reshard had begun; or if that had begun none, the fleet before it. The shards of the
-- epochs before had resolved everything.
abbrev pub StopsAbandoned : {T : Type 0} → (T → Type 0) → (T → List Exchange) → (ℕ → ℕ → T → Type 0) → Shipping T → Report T → Type 0
StopsAbandoned {T} tells seen is_for s r =
    (c : Setup) (fed : List Piece) (h : HasStopped tells seen is_for s r) (before : Shards T) (p : PlacesAll s.log before) → IsMachineOf c s → CanWork c → s.log.pieces ≡ map piece_of fed
    → AreAll before h.joined → AreResolved before.ended → IsShardCount (length before.current) → first_number p.epochs before.current ≡ c.shards → IsAbandoned r.outcome → IsRun tells seen c s r
