use Rattle.std.proofs.Common.{◌≡◌, None, ◌++◌, map, length}
use Rattle.std.specs.Vec.Iter.{into_iter_items, into_iter_len}
use Rattle.rw_wal_tail.specs.Fed.{piece_of}
use Rattle.rw_sender.specs.Feeders.{HasReadAll}
use Rattle.rw_in_memory.proofs.ship_log.feed_all.Given as goal

abbrev pub invariant-loop-piece : goal.invariant-loop-piece
invariant-loop-piece g l = record {
  fault : l.shipper.fault ≡ None;
  read : HasReadAll l.shipper.log None;
  pieces : l.shipper.log.pieces ≡ l.initial.shipper.log.pieces ++ map piece_of l.yielded;
  choice : l.shipper.log.choice ≡ l.initial.shipper.log.choice;
  labels : l.shipper.log.labels ≡ l.initial.shipper.log.labels;
  fleet : l.shipper.fleet ≡ record l.initial.shipper.fleet { current = l.shipper.fleet.current };
  len : length l.shipper.fleet.current ≡ length l.initial.shipper.fleet.current;
  left : l.fn.log.items ≡ l.yielded ++ into_iter_items l.piece-iterator;
  counted : into_iter_len l.piece-iterator ≡ length (into_iter_items l.piece-iterator);
}
