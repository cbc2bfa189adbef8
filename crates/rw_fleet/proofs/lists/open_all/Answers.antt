use Rattle.std.proofs.Common.{◌+◌, sym, ap, ◌∙◌, subst, arith}
use Rattle.rw_fleet.specs.ShardHistories.{AreSetUp}
use Rattle.rw_fleet.proofs.shared.LaneLemmas.{fresh_push, set_up_push}
use Rattle.rw_fleet.proofs.lists.open_all.Goals as goal

pub loop-shard-preserved : goal.loop-shard-preserved
loop-shard-preserved g c =
    let i = c.loop-shard.invariant in
    let p = c.push_reserved.ensures in
    let cap = p.capacity in
    let room = i.1 in
    let q = c.in-Ok-open.ensures.queue in
    (p.len ∙ ap (λ k. k + 1) i.0, omega arith, fresh_push _ _ _ _ _ i.2 p.items (sym i.0 ∙ c.loop-shard.running.ok.0) q.0 q.1 c.in-Ok-open.ensures.empty, subst (AreSetUp c.args.config.now) (sym p.items) (set_up_push c.args.config.now _ _ i.3 c.in-Ok-open.ensures.setup))
