use Rattle.std.proofs.Common.{◌≡◌, ℕ, ◌+◌, take}
use Rattle.std.specs.List.{sum_by}
use Rattle.rw_fleet.specs.Loads.{load_of, resolved_in, left_in_shard}
use Rattle.rw_fleet.proofs.lists.load_with.Given as goal

abbrev pub invariant-loop-shard : goal.invariant-loop-shard
invariant-loop-shard g l = (r n : ℕ) → l.fn.before ≡ load_of r n → l.load ≡ load_of (r + sum_by resolved_in (take l.shard-index l.joined.items)) (n + sum_by left_in_shard (take l.shard-index l.joined.items))
