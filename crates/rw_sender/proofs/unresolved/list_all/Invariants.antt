use Rattle.std.proofs.Common.{◌≡◌, ◌+◌, ◌≤◌, ◌++◌, length, take, vec_len, vec_capacity}
use Rattle.rw_fleet.specs.Stopped.{abandoned_in}
use Rattle.rw_sender.proofs.unresolved.list_all.Given as goal

abbrev pub invariant-loop-shard : goal.invariant-loop-shard
invariant-loop-shard g l =
    let listed = abandoned_in (take l.shard-index l.shards) in
    (l.samples.items ≡ l.initial.samples.items ++ listed) × (vec_len l.samples ≡ vec_len l.initial.samples + length listed) × (vec_capacity l.initial.samples ≤ vec_capacity l.samples)
