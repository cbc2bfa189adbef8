use Rattle.std.proofs.Common.{◌≡◌, take, Result, Ok, Err, subst, rules}
use Rattle.rw_wal_format.specs.Pieces.{bytes}
use Rattle.rw_follow.specs.declared.follower.Turn.TheVariants.{Piece}
use Rattle.rw_send.specs.Steps.{StaysOpen}
use Rattle.rw_send.specs.declared.feed_error.FeedError.{FeedError}
use Rattle.rw_send.specs.declared.sharding.Sharding.{Sharding}
use Rattle.rw_send.specs.inner.Turns.{Goes}
use Rattle.rw_send.proofs.FeedErrorLemmas.{err_is}
use Rattle.rw_send.proofs.MealLemmas.{begins_fed}
use Rattle.rw_send.proofs.ShortLemmas.{short_fed}
use Rattle.rw_send.proofs.TurnLemmas.{piece_fails, piece_goes, piece_refused, same_fed, short_piece}
use Rattle.rw_send.proofs.live.feed_bytes.Goals as goal

pub returns-in_err-piece : goal.returns-in_err-piece
returns-in_err-piece g c =
    subst (λ (r : Result Sharding FeedError). Goes (Piece c.args.count) c.args.buf.now c.args.sharding c.args.shipper.now c.args.shipper.now r) (err_is _ _ c.from_residual.ensures.1)
    (piece_refused c.args.count c.args.buf.now c.args.sharding c.args.shipper.now c.requires.shards)

pub returns-in_err-feed : goal.returns-in_err-feed
returns-in_err-feed g c =
    let fed = c.in_err-feed.ensures in
    let items = c.in_ok-piece.piece.items in
    let e = c.in_err-feed.field-0.0 in
    let is : items ≡ take c.args.count c.args.buf.now = search rules in
    let joins = fed.pieces c.requires.live in
    let st : StaysOpen c.args.shipper.now c.feed.new.self = record {
      setup = λ i. (fed.choice i, fed.labels i);
      pieces = begins_fed c.args.shipper.now.log c.feed.new.self.log (bytes items) (Err e) joins;
      fleet = fed.rest;
      shards = fed.len;
      limit = fed.limit;
      marks = fed.marks;
    } in
    let short = short_fed c.args.shipper.now.log c.feed.new.self.log (bytes items) (Err e) joins (short_piece c.args.count c.args.buf.now items is c.requires.within c.requires.short) in
    subst (λ (r : Result Sharding FeedError). Goes (Piece c.args.count) c.args.buf.now c.args.sharding c.args.shipper.now c.feed.new.self r) (err_is _ _ c.from_residual-in_err-feed.ensures.1)
    (piece_fails c.args.count c.args.buf.now items c.args.sharding c.args.shipper.now c.feed.new.self e is st
    (same_fed c.args.sharding c.args.shipper.now c.feed.new.self (bytes items) (Err e) st c.requires.shards short joins c.requires.intact) joins (fed.fed c.requires.live))

pub returns : goal.returns
returns g c =
    let fed = c.in_ok-feed.ensures in
    let items = c.in_ok-piece.piece.items in
    let is : items ≡ take c.args.count c.args.buf.now = search rules in
    let joins = fed.pieces c.requires.live in
    let st : StaysOpen c.args.shipper.now c.feed.new.self = record {
      setup = λ i. (fed.choice i, fed.labels i);
      pieces = begins_fed c.args.shipper.now.log c.feed.new.self.log (bytes items) (Ok tt) joins;
      fleet = fed.rest;
      shards = fed.len;
      limit = fed.limit;
      marks = fed.marks;
    } in
    let feeds = fed.fed c.requires.live in
    let short = short_fed c.args.shipper.now.log c.feed.new.self.log (bytes items) (Ok tt) joins (short_piece c.args.count c.args.buf.now items is c.requires.within c.requires.short) in
    piece_goes c.args.count c.args.buf.now items c.args.sharding c.args.shipper.now c.feed.new.self is st
    (same_fed c.args.sharding c.args.shipper.now c.feed.new.self (bytes items) (Ok tt) st c.requires.shards short joins c.requires.intact) joins feeds.1 feeds.0.fault_is
