use Rattle.std.proofs.Common.{◌≤◌, ◌-◌, length}
use Rattle.rw_types.specs.Beginnings.{Begins}
use Rattle.rw_reshard.specs.Fleets.{AreNew}
use Rattle.rw_reshard.proofs.fleet.make_shards.Given as goal

abbrev pub invariant-loop-make : goal.invariant-loop-make
invariant-loop-make g l = (length l.shards.items ≤ l.wanted) × AreNew g.M.Make.is_new l.epoch l.shards.items × Begins l.initial.shards.items l.shards.items

abbrev pub decreases-loop-make : goal.decreases-loop-make
decreases-loop-make g l = l.wanted - length l.shards.items
