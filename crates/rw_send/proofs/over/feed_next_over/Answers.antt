use Rattle.std.proofs.Common.{◌≡◌, None, Result, refl, sym, subst}
use Rattle.rw_wal_format.specs.Pieces.{fault, next_segment}
use Rattle.rw_follow.specs.declared.follower.Turn.TheVariants.{Over}
use Rattle.rw_sender.specs.Feeders.{Sorting}
use Rattle.rw_send.specs.declared.feed_error.FeedError.{FeedError}
use Rattle.rw_send.specs.declared.sharding.Sharding.{Sharding}
use Rattle.rw_send.specs.inner.Turns.{Reshards}
use Rattle.rw_send.proofs.EpochSizeLemmas.{sizes_set}
use Rattle.rw_send.proofs.FeedErrorLemmas.{failed_is}
use Rattle.rw_send.proofs.MealLemmas.{fed_next}
use Rattle.rw_send.proofs.OverLemmas.{bounds_set, fed_reshards, start_so}
use Rattle.rw_send.proofs.TurnLemmas.{no_answer, on_reshards, unset_reshards}
use Rattle.rw_send.proofs.over.feed_next_over.Goals as goal

pub returns-in_err-next-clause-reshards : goal.returns-in_err-next-clause-reshards
returns-in_err-next-clause-reshards g c = λ buf.
    let set = c.in_err-next.ensures in
    subst (λ (r : Result Sharding FeedError). Reshards Over buf c.args.sharding c.args.shipper.now c.resharded.new.shipper r) (failed_is _ _ c.from_residual.ensures.1 set.err)
    (unset_reshards Over buf c.args.sharding c.args.shipper.now c.resharded.new.shipper (set.put c.requires.live).1 set.log set.limit set.compared set.config set.failed c.requires.shards)

pub returns-in_err-next-clause-start : goal.returns-in_err-next-clause-start
returns-in_err-next-clause-start g c = no_answer _ _ _ c.from_residual.ensures.1

pub feed_over-requires-clause-live : goal.feed_over-requires-clause-live
feed_over-requires-clause-live g c κs within = c.in_ok-next.ensures.sound c.requires.live

pub feed_over-requires-clause-intact : goal.feed_over-requires-clause-intact
feed_over-requires-clause-intact g c κs within = subst (λ (l : Sorting). fault l.pieces ≡ None) (sym c.in_ok-next.ensures.log) c.requires.intact

pub feed_over-requires-clause-shards : goal.feed_over-requires-clause-shards
feed_over-requires-clause-shards g c κs within = sym c.in_ok-next.ensures.shards

pub feed_over-requires-clause-bounds : goal.feed_over-requires-clause-bounds
feed_over-requires-clause-bounds g c κs within =
    let set = c.in_ok-next.ensures in
    bounds_set c.args.sharding c.in_ok-next.next c.args.shipper.now c.resharded.new.shipper set.set set.shards set.range

pub returns-clause-reshards : goal.returns-clause-reshards
returns-clause-reshards g c = λ buf.
    let set = c.in_ok-next.ensures in
    let mid = c.resharded.new.shipper in
    on_reshards Over buf c.args.sharding c.in_ok-next.next c.args.shipper.now mid c.feed_over.new.shipper c.feed_over.result set.log set.limit set.compared set.config (sym set.shards) set.range
    (sizes_set c.args.sharding.fewest c.args.sharding.most c.args.shipper.now mid c.args.sharding.range.1 (set.put c.requires.live).1 set.set)
    (fed_reshards Over buf c.in_ok-next.next mid c.feed_over.new.shipper next_segment c.feed_over.result (λ ps e. fed_next mid.log.pieces mid.log.pieces ps refl e) c.feed_over.ensures.fed)

pub returns-clause-start : goal.returns-clause-start
returns-clause-start g c = start_so c.feed_over.result c.in_ok-next.next c.args.sharding c.feed_over.ensures.same c.in_ok-next.ensures.start
