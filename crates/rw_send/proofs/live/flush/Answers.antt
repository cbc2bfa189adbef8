use Rattle.std.proofs.Common.{Result, ap, subst, ◌∙◌}
use Rattle.rw_fleet.proofs.shared.LaneLemmas.{same_length}
use Rattle.rw_follow.specs.declared.follower.Turn.TheVariants.{Flush}
use Rattle.rw_sender.specs.Shipping.{Shipping}
use Rattle.rw_send.specs.declared.feed_error.FeedError.{FeedError}
use Rattle.rw_send.specs.declared.sharding.Sharding.{Sharding}
use Rattle.rw_send.specs.inner.Turns.{Goes}
use Rattle.rw_send.proofs.FeedErrorLemmas.{err_is}
use Rattle.rw_send.proofs.TurnLemmas.{flush_fails, flush_goes, no_limit, same_flushed}
use Rattle.rw_send.proofs.live.flush.Goals as goal

pub returns-in_err-flush : goal.returns-in_err-flush
returns-in_err-flush g c = λ buf.
    let flushed = c.in_err-flush.ensures in
    let e = c.in_err-flush.field-0.0 in
    subst (λ (r : Result Sharding FeedError). Goes Flush buf c.args.sharding c.args.shipper.now c.flush.new.self r) (err_is _ _ c.from_residual.ensures.1)
    (flush_fails buf c.args.sharding c.args.shipper.now c.flush.new.self e flushed.log
    (same_flushed c.args.sharding c.args.shipper.now c.flush.new.self flushed.log flushed.rest (same_length _ _ flushed.same) c.requires.shards (no_limit c.flush.new.self c.args.shipper.now e flushed.fails)) flushed.fails)

pub returns : goal.returns
returns g c = λ buf.
    let flushed = c.in_ok-flush.ensures in
    flush_goes buf c.args.sharding c.args.shipper.now c.flush.new.self flushed.log
    (same_flushed c.args.sharding c.args.shipper.now c.flush.new.self flushed.log flushed.rest (same_length _ _ flushed.same) c.requires.shards (λ _. ap (λ (s : Shipping _). s.limit) flushed.marked))
    (ap (λ (s : Shipping _). s.fleet.current) flushed.marked) (ap (λ (s : Shipping _). s.fault) flushed.marked ∙ c.requires.live) c.requires.intact
