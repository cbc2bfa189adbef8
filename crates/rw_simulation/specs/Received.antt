-- What one receiver holds of the samples of a shipper that was stopped.
use Rattle.std.specs.Prelude.{◌≡◌, ℕ, List, length, take, map, true, false, ℤ, slice_get, Some, None}
use Rattle.std.specs.Ordering.{nat_cmp}
use Rattle.std.specs.FinMap.{FinMap, get}
use Rattle.rw_types.specs.Labels.{Labels}
use Rattle.rw_types.specs.Beginnings.{Begins}
use Rattle.rw_types.specs.Rising.{Rises}
use Rattle.rw_types.specs.declared.entry.Entry.TheVariants.{Sample}
use Rattle.rw_wal_format.specs.Pieces.{entries}
use Rattle.rw_wal_tail.specs.Fed.{piece_of}
use Rattle.rw_wal_tail.specs.declared.piece.Piece.{Piece}
use Rattle.rw_series_cache.specs.Known.{Kept, known}
use Rattle.rw_series_cache.specs.Points.{kept_points, kept_points_below}
use Rattle.rw_ledger.specs.declared.ledger.Reason.{Reason}
use Rattle.rw_plain_queue.specs.declared.item.Kind.TheVariants.{Orderly}
use Rattle.rw_head.specs.Head.{State}
use Rattle.rw_head.specs.Growth.{EachRises}
use Rattle.rw_head.specs.Lists.{IsEarlier}
use Rattle.rw_head.specs.Order.{holds}
use Rattle.rw_head.specs.Store.{Store, list_of}
use Rattle.rw_worker.specs.Transcript.{Exchange}
use Rattle.rw_fleet.specs.Work.{AreResolved}
use Rattle.rw_fleet.specs.Fleets.{Shards, AreAll, EndBy}
use Rattle.rw_sender.specs.Placement.{IsShardCount}
use Rattle.rw_sender.specs.Reports.{IsAbandoned, parts_of, workers_of}
use Rattle.rw_sender.specs.Shipping.{Shipping, PlacesAll, HasStopped}
use Rattle.rw_sender.specs.declared.report.Report.{Report}
use Rattle.rw_machine.specs.Worlds.{Setup}
use Rattle.rw_machine.specs.Promises.{CanWork, LoggedPoint, owed, pair_of}
use Rattle.rw_restarts.specs.Arrivals.{Arrival, AreExchangesOf}
use Rattle.rw_restarts.specs.Listed.{is_left}
use Rattle.rw_simulation.specs.OneReceivers.{IsOneReceiver}
use Rattle.rw_simulation.specs.StoppedRuns.{IsMachineOf, NamesAll, first_number}

-- what the report does not name of the samples of a label set that were placed
abbrev pub owed_of_placed : {T : Type 0} → Shipping T → FinMap nat_cmp Reason → Labels → List LoggedPoint
owed_of_placed s names l = owed names (kept_points_below s.log.choice (entries s.log.pieces) l (length s.log.placed))

-- Of each label set the store holds a prefix of its samples in the log that was fed, in log order,
-- each once, less exactly those that the report names (`in_order`), and of these only samples that
-- were placed (`of_placed`). What the report does not name of the placed ones rises strictly in
-- time (`owed_rises`), and so does what the store holds (`rises`). Of a label set that the rules do
-- not keep it holds nothing. If the shipper left nothing, the store holds all of the samples that
-- were placed (`whole`); otherwise it holds each that was placed and that the report neither lists
-- as left nor names (`settled`).
pub record IsHeld {T : Type 0} (s : Shipping T) (r : Report T) (store : Store) : Type 0 where
  pub names : FinMap nat_cmp Reason
  pub named : NamesAll names (parts_of r)
  pub in_order : (l : Labels) → Begins (list_of store l) (map pair_of (owed names (kept_points s.log.choice (entries s.log.pieces) l)))
  pub of_placed : (l : Labels) → Begins (list_of store l) (map pair_of (owed_of_placed s names l))
  pub owed_rises : (l : Labels) → Rises IsEarlier (map pair_of (owed_of_placed s names l))
  pub rises : EachRises store
  pub whole : (IsAbandoned r.outcome → ⊥) → (l : Labels) → list_of store l ≡ map pair_of (owed_of_placed s names l)
  pub settled : (p ref : ℕ) (t : ℤ) (word : ℕ) (l : Labels) → slice_get s.log.placed p ≡ Some (Sample ref t word) → known s.log.choice (take p s.log.placed) ref ≡ Kept l → is_left r.outcome p ≡ false → get names p ≡ None → holds (t, word) (list_of store l) ≡ true

-- One receiver holds the samples of every shipper that was stopped in order with nothing left,
-- whatever the network lost, repeated, delayed or reordered.
abbrev pub ReceivesInOrder : {T : Type 0} → (T → Type 0) → (T → List Exchange) → (ℕ → ℕ → T → Type 0) → Shipping T → Report T → Type 0
ReceivesInOrder tells seen is_for s r =
    (c : Setup) (fed : List Piece) (h : HasStopped tells seen is_for s r) (p : PlacesAll s.log s.fleet) → IsMachineOf c s → CanWork c → s.log.pieces ≡ map piece_of fed → IsShardCount (length s.fleet.current) → first_number p.epochs s.fleet.current ≡ c.shards
    → EndBy Orderly s.fleet (workers_of r) → (IsAbandoned r.outcome → ⊥)
    → (exchanges : ℕ → ℕ → List Exchange) (arrivals : List Arrival) (heads : ℕ → State) → AreExchangesOf tells seen is_for h.joined h.worked exchanges → IsOneReceiver c exchanges arrivals heads → IsHeld s r (heads (length arrivals)).store

-- and of every shipper that abandoned what was left, however it was stopped: a prefix of them.
-- `before` is the fleet as for the run of the machine.
abbrev pub ReceivesAbandoned : {T : Type 0} → (T → Type 0) → (T → List Exchange) → (ℕ → ℕ → T → Type 0) → Shipping T → Report T → Type 0
ReceivesAbandoned {T} tells seen is_for s r =
    (c : Setup) (fed : List Piece) (h : HasStopped tells seen is_for s r) (before : Shards T) (p : PlacesAll s.log before) → IsMachineOf c s → CanWork c → s.log.pieces ≡ map piece_of fed
    → AreAll before h.joined → AreResolved before.ended → IsShardCount (length before.current) → first_number p.epochs before.current ≡ c.shards → IsAbandoned r.outcome
    → (exchanges : ℕ → ℕ → List Exchange) (arrivals : List Arrival) (heads : ℕ → State) → AreExchangesOf tells seen is_for h.joined h.worked exchanges → IsOneReceiver c exchanges arrivals heads → IsHeld s r (heads (length arrivals)).store
