use Rattle.rw_plain_queue.specs.Items.{samples_in}
use Rattle.rw_shard_core.proofs.shared.NamingLemmas.{AreInRow-rest, batch_rises, positions_rise}
use Rattle.rw_shard_core.proofs.shard.ShardCore.resolve.Goals as goal

pub returns-clause-rising : goal.returns-clause-rising
returns-clause-rising c =
    let s = c.self.inside in
    let row = rw c.self.invariant.whole at c.self.invariant.in_row in
    rw (← c.self.view_is) (batch_rises s.current (samples_in s.pending) (positions_rise (samples_in s.pending) (AreInRow-rest (samples_in s.resolved) (samples_in s.pending) row)))
