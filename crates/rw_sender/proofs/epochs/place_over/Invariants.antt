use Rattle.std.proofs.Common.{◌≡◌, [], length}
use Rattle.rw_sender.specs.Placement.{IsShardCount}
use Rattle.rw_sender.specs.Shipping.{PlacesAll}
use Rattle.rw_sender.specs.Skews.{GoesWhole}
use Rattle.rw_sender.specs.inner.Cutting.{AreCounted}
use Rattle.rw_sender.specs.inner.Reports.{IsRoomFor}
use Rattle.rw_sender.specs.inner.Shipping.{IsLonger, IsSince}
use Rattle.rw_sender.proofs.epochs.place_over.Given as goal

abbrev pub invariant-loop : goal.invariant-loop
invariant-loop g l = record {
  hand : l.feeder.hand ≡ [];
  longer : IsLonger l.initial.feeder l.feeder;
  whole : GoesWhole l.initial.cuts.limit l.initial.span.most l.initial.fleet l.fleet;
  places : PlacesAll l.feeder l.fleet;
  limit : l.cuts.limit ≡ l.initial.cuts.limit;
  most : l.span.most ≡ l.initial.span.most;
  counted : AreCounted l.cuts.limit l.cuts.rooms l.fleet.current;
  since : IsSince l.span.earliest l.fleet.current;
  number : IsShardCount (length l.fleet.current);
  room : IsRoomFor l.fleet l.samples;
}
