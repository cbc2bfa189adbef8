use Rattle.std.proofs.Common.{◌≡◌, vec_len, vec_capacity}
use Rattle.rw_fleet.specs.inner.ShardHistories.{marks}
use Rattle.rw_fleet.proofs.lists.mark_all.Given as goal

abbrev pub invariant-loop-k : goal.invariant-loop-k
invariant-loop-k g l = (l.running.items ≡ marks l.k l.initial.running.items) × (vec_len l.running ≡ vec_len l.initial.running) × (vec_capacity l.running ≡ vec_capacity l.initial.running)
