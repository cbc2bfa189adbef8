use Rattle.std.proofs.Common.{Result, Ok, Err, subst}
use Rattle.rw_wal_format.specs.Pieces.{next_segment}
use Rattle.rw_follow.specs.declared.follower.Turn.TheVariants.{Over}
use Rattle.rw_send.specs.declared.feed_error.FeedError.{FeedError}
use Rattle.rw_send.specs.declared.sharding.Sharding.{Sharding}
use Rattle.rw_send.specs.inner.Turns.{Goes}
use Rattle.rw_send.proofs.FeedErrorLemmas.{err_is, failed_is}
use Rattle.rw_send.proofs.MealLemmas.{begins_fed}
use Rattle.rw_send.proofs.TurnLemmas.{IsTurning, over_fails, over_goes, over_unset}
use Rattle.rw_send.proofs.live.feed_next.Goals as goal

pub returns-in_err-next : goal.returns-in_err-next
returns-in_err-next g c = λ buf.
    let set = c.in_err-next.ensures in
    subst (λ (r : Result Sharding FeedError). Goes Over buf c.args.sharding c.args.shipper.now c.resharded.new.shipper r) (failed_is _ _ c.from_residual.ensures.1 set.err)
    (over_unset buf c.args.sharding c.args.shipper.now c.resharded.new.shipper (set.put c.requires.live) set.log set.limit set.compared set.config set.failed c.requires.shards)

pub returns-in_err-feed : goal.returns-in_err-feed
returns-in_err-feed g c = λ buf.
    let set = c.in_ok-next.ensures in
    let fed = c.in_err-feed.ensures in
    let live = set.sound c.requires.live in
    let e = c.in_err-feed.field-0.0 in
    let turning : IsTurning c.args.sharding c.in_ok-next.next c.args.shipper.now c.resharded.new.shipper c.feed.new.self (Err e) = record {
      put = set.put c.requires.live;
      set = set.set;
      shards = set.shards;
      range = set.range;
      config = set.config;
      stays = record {
        setup = λ i. (fed.choice i, fed.labels i);
        pieces = begins_fed c.resharded.new.shipper.log c.feed.new.self.log next_segment (Err e) (fed.pieces live);
        fleet = fed.rest;
        shards = fed.len;
        limit = fed.limit;
        marks = fed.marks;
      };
      joins = fed.pieces live;
      intact = c.requires.intact;
    } in
    subst (λ (r : Result Sharding FeedError). Goes Over buf c.args.sharding c.args.shipper.now c.feed.new.self r) (err_is _ _ c.from_residual-in_err-feed.ensures.1)
    (over_fails buf c.args.sharding c.in_ok-next.next c.args.shipper.now c.resharded.new.shipper c.feed.new.self e turning (fed.fed live))

pub returns : goal.returns
returns g c = λ buf.
    let set = c.in_ok-next.ensures in
    let fed = c.in_ok-feed.ensures in
    let live = set.sound c.requires.live in
    let feeds = fed.fed live in
    let turning : IsTurning c.args.sharding c.in_ok-next.next c.args.shipper.now c.resharded.new.shipper c.feed.new.self (Ok tt) = record {
      put = set.put c.requires.live;
      set = set.set;
      shards = set.shards;
      range = set.range;
      config = set.config;
      stays = record {
        setup = λ i. (fed.choice i, fed.labels i);
        pieces = begins_fed c.resharded.new.shipper.log c.feed.new.self.log next_segment (Ok tt) (fed.pieces live);
        fleet = fed.rest;
        shards = fed.len;
        limit = fed.limit;
        marks = fed.marks;
      };
      joins = fed.pieces live;
      intact = c.requires.intact;
    } in
    over_goes buf c.args.sharding c.in_ok-next.next c.args.shipper.now c.resharded.new.shipper c.feed.new.self turning set.start feeds.1 feeds.0.fault_is
