-- A log that was shipped to a head in the same process.
use Rattle.std.specs.Prelude.{◌≡◌, ℕ, ◌≤◌, List, [], length, map, take, Some, None, OnOk, IsSome, slice_get}
use Rattle.std.specs.FinMap.{empty}
use Rattle.rw_types.specs.Beginnings.{Begins}
use Rattle.rw_shard_core.specs.declared.config.ConfigFields.{ConfigFields}
use Rattle.rw_wal_format.specs.Pieces.{entries}
use Rattle.rw_wal_format.specs.declared.tail_fault.TailFault.{TailFault}
use Rattle.rw_wal_tail.specs.Fed.{piece_of}
use Rattle.rw_wal_tail.specs.declared.piece.Piece.{Piece}
use Rattle.rw_shard_core.specs.Configs.{choice_of}
use Rattle.rw_shard_core.specs.declared.outcome.Outcome.TheVariants.{Complete, Damaged}
use Rattle.rw_head.specs.Head.{State}
use Rattle.rw_head.specs.declared.limits.Limits.{Limits}
use Rattle.rw_recv_head.specs.Seats.{HasGathered}
use Rattle.rw_wal_tail.specs.Taking.{HasRead}
use Rattle.rw_sender.specs.Logs.{filtered}
use Rattle.rw_fleet.specs.declared.joined.Finished.{Finished}
use Rattle.rw_sender.specs.Reports.{IsAbandoned, ListsCut, parts_of, workers_of}
use Rattle.rw_sender.specs.Shipping.{Shipping, PlacesAll, HasStopped, Feeds}
use Rattle.rw_sender.specs.declared.report.Report.{Report}
use Rattle.rw_simulation.specs.Received.{IsHeld}
use Rattle.rw_in_memory.specs.Lines.{SeatLine, IsSeatLine}
use Rattle.rw_in_memory.specs.Held.{seen_by, IsAnyones, seat_of, HasEnded}
use Rattle.rw_in_memory.specs.declared.ship_log.Shipped.{Shipped}

-- the shipper was stopped with this report, and the seats of its lines were gathered
pub record IsGathered (opening : State) (path : List ℕ) (limit : ℕ) (s : Shipping SeatLine) (shipped : Shipped) : Type 0 where
  pub r : Report SeatLine
  pub placed : PlacesAll s.log s.fleet
  pub stopped : HasStopped (IsSeatLine opening path limit) seen_by IsAnyones s r
  pub ended : HasEnded s r
  pub failed : IsSome s.fault → IsAbandoned r.outcome
  pub cut : s.fault ≡ None → IsAbandoned r.outcome → ListsCut (workers_of r)
  pub outcome_is : shipped.outcome ≡ r.outcome
  pub parts_are : shipped.parts.items ≡ parts_of r
  pub filter_count : shipped.filtered ≡ r.filtered
  pub each : (k : ℕ) (f : Finished SeatLine) → slice_get (workers_of r) k ≡ Some f → IsSeatLine opening path limit f.transport
  pub gathered : HasGathered opening (map seat_of (workers_of r)) shipped.head.store

-- one epoch of a shipper with this configuration
pub record IsOneEpoch (config : ConfigFields) (s : Shipping SeatLine) : Type 0 where
  pub choice_is : s.log.choice ≡ choice_of config
  pub config_is : s.fleet.config ≡ record config { rules = [] }
  pub epoch_is : s.fleet.epoch ≡ 0
  pub none_ended : s.fleet.ended ≡ []
  pub shards : length s.fleet.current ≡ config.shards

-- Some first pieces of the log were fed: all of them, and all of their entries placed, if
-- `shipped.fed` is `Ok`, and all entries before the fault, if it says damaged (`feeds`). The
-- shipper's own report is in `gathered`: what its workers were put, sent and read of each reply,
-- that the parts name exactly what was dropped or refused, and that the seats of the workers
-- received all questions that the head, which was `opening`, was asked. So it holds what is owed
-- (`held`). Work is abandoned only if the shipper failed, as `shipped.fed` then says, or a worker
-- was cut.
pub record IsShippedTo (opening : State) (path : List ℕ) (limit : ℕ) (config : ConfigFields) (log : List Piece) (shipped : Shipped) : Type 0 where
  pub fed : ℕ
  pub s : Shipping SeatLine
  pub epoch : IsOneEpoch config s
  pub gathered : IsGathered opening path limit s shipped
  pub pieces_are : s.log.pieces ≡ map piece_of (take fed log)
  pub read : Begins s.log.placed (entries s.log.pieces)
  pub feeds : Feeds s shipped.fed
  pub whole : OnOk shipped.fed (length log ≤ fed)
  pub filter_count : shipped.filtered ≡ length (filtered s.log.choice s.log.placed)
  pub complete : (end : ℕ) → shipped.outcome ≡ Complete end → (length log ≤ fed) × (end ≡ length s.log.placed) × (s.log.placed ≡ entries s.log.pieces)
  pub damaged : (f : TailFault) → shipped.outcome ≡ Damaged f → HasRead s.log.pieces s.log.placed (Some f)
  pub cut : s.fault ≡ None → IsAbandoned shipped.outcome → ListsCut (workers_of gathered.r)
  pub held : IsHeld s gathered.r shipped.head.store

-- a head without samples, with these limits
pub record IsNew (limits : Limits) (opening : State) : Type 0 where
  pub store : opening.store ≡ empty
  pub names : opening.limits.names ≡ limits.names
  pub max_labels : opening.limits.max_labels ≡ limits.max_labels
  pub max_label_bytes : opening.limits.max_label_bytes ≡ limits.max_label_bytes
  pub busy : opening.busy ≡ limits.busy_first

-- This is how the head began. Its endpoint had the path of the target, and read bodies of up to 64
-- MiB.
abbrev pub IsShipped : ConfigFields → Limits → List Piece → Shipped → Type 0
IsShipped config limits log shipped = (opening : State) × IsNew limits opening × IsShippedTo opening config.target.path 67108864 config log shipped
