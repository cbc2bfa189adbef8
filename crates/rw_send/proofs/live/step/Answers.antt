use Rattle.std.proofs.Common.{Result, subst}
use Rattle.rw_send.specs.declared.feed_error.FeedError.{FeedError}
use Rattle.rw_send.specs.declared.sharding.Sharding.{Sharding}
use Rattle.rw_send.specs.inner.Turns.{Reshards}
use Rattle.rw_send.proofs.FeedErrorLemmas.{failed_is}
use Rattle.rw_send.proofs.TurnLemmas.{asked_by, failed_not, goes_so, no_answer, on_reshards, same_ok, unset_reshards}
use Rattle.rw_send.proofs.live.step.Goals as goal

pub returns-in_err-next-clause-asked : goal.returns-in_err-next-clause-asked
returns-in_err-next-clause-asked g c = λ _. no_answer _ _ _ c.from_residual.ensures.1

pub returns-in_err-next-clause-goes : goal.returns-in_err-next-clause-goes
returns-in_err-next-clause-goes g c = λ _ none. absurd (failed_not _ _ (c.in_err-next.ensures.kept none))

pub returns-in_err-next-clause-reshards : goal.returns-in_err-next-clause-reshards
returns-in_err-next-clause-reshards g c =
    let set = c.in_err-next.ensures in
    subst (λ (r : Result Sharding FeedError). Reshards c.args.turn c.args.buf.now c.args.sharding c.args.shipper.now c.retuned.new.shipper r) (failed_is _ _ c.from_residual.ensures.1 set.err)
    (unset_reshards c.args.turn c.args.buf.now c.args.sharding c.args.shipper.now c.retuned.new.shipper set.placed set.log set.limit set.compared set.config set.failed c.requires.shards)

pub returns-clause-asked : goal.returns-clause-asked
returns-clause-asked g c = λ due.
    let load = c.in_ok-next.ensures.asked due in
    asked_by c.args.shipper.now.fleet c.in_ok-next.next load.0 c.obey_within.result load.1 load.3 load.4 c.obey_within.ensures.start

pub returns-clause-goes : goal.returns-clause-goes
returns-clause-goes g c = λ skew none.
    goes_so c.args.turn c.args.buf.now c.args.sharding c.in_ok-next.next c.args.shipper.now c.retuned.new.shipper c.obey_within.new.shipper c.obey_within.result
    (same_ok c.in_ok-next.next c.args.sharding (c.in_ok-next.ensures.kept none)) (c.in_ok-next.ensures.stays none) (c.obey_within.ensures.goes skew)

pub returns-clause-reshards : goal.returns-clause-reshards
returns-clause-reshards g c =
    let set = c.in_ok-next.ensures in
    on_reshards c.args.turn c.args.buf.now c.args.sharding c.in_ok-next.next c.args.shipper.now c.retuned.new.shipper c.obey_within.new.shipper c.obey_within.result set.log set.limit set.compared set.config set.shards set.range set.sizes c.obey_within.ensures.reshards
