use Rattle.std.proofs.Common.{◌≡◌, ◌<◌, ◌≤◌, [], length, true, None}
use Rattle.rw_fleet.specs.Work.{AreResolved}
use Rattle.rw_types.specs.declared.transfer.ReadFault.{ReadFault}
use Rattle.rw_follow.specs.Meals.{no_meal}
use Rattle.rw_wal_format.specs.Pieces.{is_marked}
use Rattle.rw_send.specs.Drained.{IsCount}
use Rattle.rw_send.specs.Segments.{IsShortLog, AreSoundButLast, meal_of}
use Rattle.rw_send.specs.Sending.{is_undivided}
use Rattle.rw_send.specs.Steps.{HasLapped, KeepsSetup}
use Rattle.rw_send.specs.inner.EpochSizes.{KeepsEpochSizes}
use Rattle.rw_send.specs.inner.FeedErrors.{IsIntact}
use Rattle.rw_send.proofs.live.ship_live.Given as goal

abbrev pub invariant-loop : goal.invariant-loop
invariant-loop g l = record {
  kept : KeepsSetup l.fn.shipper l.shipper;
  limit : l.shipper.limit ≡ l.fn.shipper.limit;
  short : IsShortLog (is_marked l.fn.shipper.log.pieces) l.shipper.log.pieces;
  but_last : AreSoundButLast l.shipper.log.pieces;
  intact : IsIntact l.shipper;
  live : l.shipper.fault ≡ None;
  shards : length l.shipper.fleet.current ≡ l.sharding.shards;
  range : (l.sharding.fewest ≡ l.fn.sharding.fewest) × (l.sharding.most ≡ l.fn.sharding.most);
  sizes : KeepsEpochSizes l.fn.sharding.fewest l.fn.sharding.most l.fn.shipper.fleet l.shipper.fleet;
  laps : is_undivided l.fn.context.max_skew (g.W.Watch.is_quiet l.fn.watch) ≡ true → HasLapped l.fn.sharding.fewest l.fn.sharding.most (length (meal_of l.shipper.log.pieces).whole) l.fn.shipper l.shipper;
  idle : is_undivided l.fn.context.max_skew (g.W.Watch.is_quiet l.fn.watch) ≡ true → meal_of l.shipper.log.pieces ≡ no_meal → l.shipper ≡ l.fn.shipper;
  quiet : is_undivided l.fn.context.max_skew (g.W.Watch.is_quiet l.fn.watch) ≡ true → g.W.Watch.is_quiet l.watch ≡ true;
  given : (start : g.S.Segments.Start) → g.S.Segments.gave l.fn.segments start (meal_of []) → g.S.Segments.gave l.segments start (meal_of l.shipper.log.pieces);
  followed : l.follower ≡ true → g.S.Segments.is_followed l.segments;
  fails : (f : ReadFault) → g.S.Segments.may_fail l.segments f → g.S.Segments.may_fail l.fn.segments f;
  resolved : AreResolved l.fn.shipper.fleet.ended → AreResolved l.shipper.fleet.ended;
  room : 0 < length l.buf;
  small : length l.buf ≤ 65536;
  counted : IsCount l.fed (length (meal_of l.shipper.log.pieces).begun);
}
