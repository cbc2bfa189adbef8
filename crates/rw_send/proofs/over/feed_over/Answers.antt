use Rattle.std.proofs.Common.{Result, Ok, Err, subst}
use Rattle.rw_wal_tail.specs.Fed.{piece_of}
use Rattle.rw_send.specs.declared.feed_error.FeedError.{FeedError}
use Rattle.rw_send.specs.declared.sharding.Sharding.{Sharding}
use Rattle.rw_send.specs.inner.Turns.{IsFedOver}
use Rattle.rw_send.proofs.FeedErrorLemmas.{err_is}
use Rattle.rw_send.proofs.OverLemmas.{IsFeeding, fed_fails, fed_goes}
use Rattle.rw_send.proofs.over.feed_over.Goals as goal

pub returns-in_err-feed_with_skew-clause-fed : goal.returns-in_err-feed_with_skew-clause-fed
returns-in_err-feed_with_skew-clause-fed g c =
    let fed = c.in_err-feed_with_skew.ensures in
    let e = c.in_err-feed_with_skew.field-0.0 in
    let feeding : IsFeeding c.args.sharding (piece_of c.args.piece) c.args.max_skew c.args.shipper.now c.feed_with_skew.new.self (Err e) = record {
      setup = λ i. (fed.choice i, fed.labels i);
      limit = fed.limit;
      over = fed.over c.requires.live;
      whole = fed.whole c.requires.live;
      shards = c.requires.shards;
      bounds = c.requires.bounds;
      intact = c.requires.intact;
      short = c.requires.short;
      joins = fed.pieces c.requires.live;
      feeds = fed.fed c.requires.live;
    } in
    subst (λ (r : Result Sharding FeedError). IsFedOver c.args.sharding (piece_of c.args.piece) c.args.shipper.now c.feed_with_skew.new.self r) (err_is _ _ c.from_residual.ensures.1)
    (fed_fails c.args.sharding (piece_of c.args.piece) c.args.max_skew c.args.shipper.now c.feed_with_skew.new.self e feeding)

pub returns-clause-fed : goal.returns-clause-fed
returns-clause-fed g c =
    let fed = c.in_ok-feed_with_skew.ensures in
    let feeding : IsFeeding c.args.sharding (piece_of c.args.piece) c.args.max_skew c.args.shipper.now c.feed_with_skew.new.self (Ok tt) = record {
      setup = λ i. (fed.choice i, fed.labels i);
      limit = fed.limit;
      over = fed.over c.requires.live;
      whole = fed.whole c.requires.live;
      shards = c.requires.shards;
      bounds = c.requires.bounds;
      intact = c.requires.intact;
      short = c.requires.short;
      joins = fed.pieces c.requires.live;
      feeds = fed.fed c.requires.live;
    } in
    fed_goes c.args.sharding (piece_of c.args.piece) c.args.max_skew c.args.shipper.now c.feed_with_skew.new.self feeding
