use Rattle.std.proofs.Common.{◌≡◌, ℕ, ◌<◌, true, Some}
use Rattle.std.specs.Prelude.{slice_get}
use Rattle.rw_fleet.specs.Work.{is_resolved}
use Rattle.rw_fleet.proofs.lists.resolution_of.Given as goal

abbrev pub invariant-loop-shard : goal.invariant-loop-shard
invariant-loop-shard g l = (k : ℕ) → k < l.shard-index → (j : _) → slice_get l.joined.items k ≡ Some j → is_resolved j ≡ true
