use Rattle.std.proofs.Common.{◌≡◌, ◌+◌, ◌≤◌, ◌∷◌, ◌++◌, All, map, length, vec_capacity}
use Rattle.std.specs.Vec.Iter.{into_iter_items, into_iter_len}
use Rattle.rw_fleet.specs.Stopped.{part_of}
use Rattle.rw_fleet.specs.Work.{finished_of}
use Rattle.rw_fleet.specs.declared.joined.Finished.{Finished}
use Rattle.rw_in_memory.specs.Lines.{SeatLine, IsSeatLine}
use Rattle.rw_in_memory.specs.Held.{seat_of}
use Rattle.rw_in_memory.proofs.ship_log.parts_and_seats.Given as goal

abbrev pub invariant-loop-shard : goal.invariant-loop-shard
invariant-loop-shard g l = record {
  part_room : length l.parts.items + into_iter_len l.shard-iterator ≤ vec_capacity l.parts;
  seat_room : length l.seats.items + into_iter_len l.shard-iterator ≤ vec_capacity l.seats;
  parts : l.parts.items ≡ l.fn.dropped ∷ map part_of l.yielded;
  seats : l.seats.items ≡ map seat_of (map finished_of l.yielded);
  lines : All (λ (f : Finished SeatLine). IsSeatLine g.L.HeadNaming.opening g.L.Endpoint.path g.L.Endpoint.limit f.transport) (map finished_of l.yielded);
  left : l.fn.shards.items ≡ l.yielded ++ into_iter_items l.shard-iterator;
  counted : into_iter_len l.shard-iterator ≡ length (into_iter_items l.shard-iterator);
}
