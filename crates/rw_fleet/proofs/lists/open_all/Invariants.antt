use Rattle.std.proofs.Common.{◌≡◌, ◌≤◌, vec_len, vec_capacity}
use Rattle.rw_fleet.specs.ShardHistories.{AreFresh, AreSetUp}
use Rattle.rw_fleet.proofs.lists.open_all.Given as goal

abbrev pub invariant-loop-shard : goal.invariant-loop-shard
invariant-loop-shard g l = (vec_len l.running ≡ l.shard) × (l.shards ≤ vec_capacity l.running) × AreFresh l.epoch l.running.items × AreSetUp l.config l.running.items
