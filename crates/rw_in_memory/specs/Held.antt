-- What a head in the same process holds of the samples of a shipper that was stopped in its first
-- epoch.
use Rattle.std.specs.Prelude.{◌≡◌, ◌⊎◌, ℕ, true, List, [], length, map, Some, slice_get, ⊤}
use Rattle.std.specs.FinMap.{empty}
use Rattle.rw_types.specs.Requests.{is_host_name}
use Rattle.rw_wal_tail.specs.Fed.{piece_of}
use Rattle.rw_wal_tail.specs.declared.piece.Piece.{Piece}
use Rattle.rw_plain_queue.specs.declared.item.Kind.TheVariants.{Orderly}
use Rattle.rw_head.specs.Head.{State}
use Rattle.rw_head.specs.Store.{Store}
use Rattle.rw_recv_head.specs.Seats.{Seated, HasGathered}
use Rattle.rw_worker.specs.Transcript.{Exchange}
use Rattle.rw_fleet.specs.Fleets.{EndBy}
use Rattle.rw_fleet.specs.declared.joined.Finished.{Finished}
use Rattle.rw_sender.specs.Placement.{IsShardCount}
use Rattle.rw_sender.specs.Reports.{IsAbandoned, workers_of}
use Rattle.rw_sender.specs.Shipping.{Shipping, PlacesAll, HasStopped}
use Rattle.rw_sender.specs.declared.report.Report.{Report}
use Rattle.rw_machine.specs.Worlds.{Setup}
use Rattle.rw_machine.specs.Promises.{CanWork}
use Rattle.rw_simulation.specs.StoppedRuns.{IsMachineOf}
use Rattle.rw_simulation.specs.Received.{IsHeld}
use Rattle.rw_in_memory.specs.Lines.{SeatLine, IsSeatLine}

abbrev pub seen_by : SeatLine → List Exchange
seen_by line = line.seen

-- a line may be any worker's
abbrev pub IsAnyones : ℕ → ℕ → SeatLine → Type 0
IsAnyones epoch shard line = ⊤

abbrev pub seat_of : Finished SeatLine → Seated
seat_of f = f.transport.seat

-- The workers' transports are lines to the endpoint of the machine's receiver, and their seats are
-- all seats of a head that began empty.
pub record AreLines (c : Setup) (opening : State) (path : List ℕ) (limit : ℕ) (fs : List (Finished SeatLine)) (store : Store) : Type 0 where
  pub host : is_host_name c.target.host ≡ true
  pub calm : c.busy ≡ 0
  pub empty_is : opening.store ≡ empty
  pub limits_are : opening.limits ≡ c.limits
  pub path_is : path ≡ c.target.path
  pub limit_is : limit ≡ c.max_body
  pub each : (k : ℕ) (f : Finished SeatLine) → slice_get fs k ≡ Some f → IsSeatLine opening path limit f.transport
  pub gathered : HasGathered opening (map seat_of fs) store

-- there was one epoch, of 1 to 1000 shards
pub record IsFirst (c : Setup) (s : Shipping SeatLine) : Type 0 where
  pub epoch_is : s.fleet.epoch ≡ 0
  pub none_ended : s.fleet.ended ≡ []
  pub number : IsShardCount (length s.fleet.current)
  pub shards : length s.fleet.current ≡ c.shards

-- it was stopped in order and left nothing, or it abandoned what was left
abbrev pub HasEnded : Shipping SeatLine → Report SeatLine → Type 0
HasEnded s r = EndBy Orderly s.fleet (workers_of r) ⊎ IsAbandoned r.outcome

-- The head holds the samples, whatever was stored, refused, repeated or lost; there is no premise
-- on a network.
abbrev pub HoldsInMemory : State → List ℕ → ℕ → Shipping SeatLine → Report SeatLine → Store → Type 0
HoldsInMemory opening path limit s r store =
    (c : Setup) (fed : List Piece) → HasStopped (IsSeatLine opening path limit) seen_by IsAnyones s r → PlacesAll s.log s.fleet → IsMachineOf c s → CanWork c → s.log.pieces ≡ map piece_of fed
    → IsFirst c s → AreLines c opening path limit (workers_of r) store → HasEnded s r → IsHeld s r store
