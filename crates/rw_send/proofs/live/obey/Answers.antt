use Rattle.std.proofs.Common.{sym, subst}
use Rattle.rw_follow.specs.declared.follower.Turn.{Turn}
use Rattle.rw_send.specs.inner.Turns.{Goes}
use Rattle.rw_send.proofs.live.obey.Goals as goal

pub returns-in-Over : goal.returns-in-Over
returns-in-Over g c =
    subst (λ (t : Turn). Goes t c.args.buf.now c.args.sharding c.args.shipper.now c.feed_next.new.shipper c.feed_next.result) (sym c.in-Over.is) (c.feed_next.ensures c.args.buf.now)

pub returns-in-Flush : goal.returns-in-Flush
returns-in-Flush g c =
    subst (λ (t : Turn). Goes t c.args.buf.now c.args.sharding c.args.shipper.now c.flush.new.shipper c.flush.result) (sym c.in-Flush.is) (c.flush.ensures c.args.buf.now)
