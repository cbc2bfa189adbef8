use Rattle.std.proofs.Common.{◌≡◌, ◌++◌, OnOk, subst}
use Rattle.rw_shard_core.specs.Shard.{positions}
use Rattle.rw_machine.specs.Shards.{pending_in_shard}
use Rattle.rw_world.specs.Held.{Held}
use Rattle.rw_world.proofs.PendingLemmas.{both_added}
use Rattle.rw_world.proofs.shard.WorldShard.add_pending.Goals as goal

pub returns : goal.returns
returns c =
    let s = c.self.inside in
    let old = c.args.positions.now.items in
    let now = c.add_queued.new.positions.items in
    subst (λ (h : Held). OnOk c.add_queued.result (now ≡ old ++ positions (pending_in_shard h.shard))) c.self.view_is
    (both_added c.add_queued.result old c.add_places.new.positions.items now s.core c.pending_places.result.now s.queue.items c.in_ok-add_places.ensures c.pending_places.ensures c.add_queued.ensures)
