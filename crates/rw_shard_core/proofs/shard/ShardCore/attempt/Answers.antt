use Rattle.rw_plain_queue.specs.Items.{samples_in}
use Rattle.rw_shard_core.proofs.shared.KeptLemmas.{kept_read}
use Rattle.rw_shard_core.proofs.shard.ShardCore.attempt.Goals as goal

pub returns-then-self-clause-read : goal.returns-then-self-clause-read
returns-then-self-clause-read c =
    let s = c.self.inside in
    rw (← c.self.view_is) (kept_read s.target s.epoch s.shard s.full s.builder s.current s.last (samples_in s.taken) (samples_in s.resolved) (samples_in s.pending) c.self.invariant)

pub returns-in_default-clause-read : goal.returns-in_default-clause-read
returns-in_default-clause-read c =
    let s = c.self.inside in
    rw (← c.self.view_is) (kept_read s.target s.epoch s.shard s.full s.builder s.current s.last (samples_in s.taken) (samples_in s.resolved) (samples_in s.pending) c.self.invariant)

pub returns-in_err-request-clause-read : goal.returns-in_err-request-clause-read
returns-in_err-request-clause-read c =
    let s = c.self.inside in
    rw (← c.self.view_is) (kept_read s.target s.epoch s.shard s.full s.builder s.current s.last (samples_in s.taken) (samples_in s.resolved) (samples_in s.pending) c.self.invariant)

pub returns-clause-read : goal.returns-clause-read
returns-clause-read c =
    let s = c.self.inside in
    rw (← c.self.view_is) (kept_read s.target s.epoch s.shard s.full s.builder s.current s.last (samples_in s.taken) (samples_in s.resolved) (samples_in s.pending) c.self.invariant)
