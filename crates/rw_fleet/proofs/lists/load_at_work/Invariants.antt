use Rattle.std.proofs.Common.{◌≡◌, ℕ, take}
use Rattle.rw_fleet.specs.Loads.{load_of, IsAdvised}
use Rattle.rw_fleet.proofs.lists.load_at_work.Given as goal

abbrev pub invariant-loop-shard : goal.invariant-loop-shard
invariant-loop-shard g l = (r n : ℕ) → l.fn.ended ≡ load_of r n → IsAdvised l.window (take l.shard-index l.running.items) r n l.load
