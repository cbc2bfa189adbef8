use Rattle.std.proofs.Common.{◌≡◌}
use Rattle.rw_world.specs.Sending.{new_held}
use Rattle.rw_world.proofs.shards.new_shards.Given as goal

abbrev pub invariant-loop-i : goal.invariant-loop-i
invariant-loop-i l = l.shards.items ≡ new_held l.target l.capacity l.batch l.epoch 0 l.i
