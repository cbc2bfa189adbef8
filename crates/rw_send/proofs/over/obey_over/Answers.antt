use Rattle.std.proofs.Common.{sym, subst}
use Rattle.rw_follow.specs.declared.follower.Turn.{Turn}
use Rattle.rw_send.specs.inner.Turns.{Reshards}
use Rattle.rw_send.proofs.OverLemmas.{as_reshards}
use Rattle.rw_send.proofs.over.obey_over.Goals as goal

pub returns-in-Over-clause-reshards : goal.returns-in-Over-clause-reshards
returns-in-Over-clause-reshards g c =
    subst (λ (t : Turn). Reshards t c.args.buf.now c.args.sharding c.args.shipper.now c.feed_next_over.new.shipper c.feed_next_over.result) (sym c.in-Over.is) (c.feed_next_over.ensures.reshards c.args.buf.now)
