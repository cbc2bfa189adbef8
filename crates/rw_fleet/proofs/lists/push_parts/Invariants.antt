use Rattle.std.proofs.Common.{◌≡◌, ◌++◌, map, take}
use Rattle.rw_fleet.specs.Stopped.{names_in_parts, part_of}
use Rattle.rw_fleet.proofs.lists.push_parts.Given as goal

abbrev pub invariant-loop-shard : goal.invariant-loop-shard
invariant-loop-shard g l = l.names.items ≡ l.initial.names.items ++ names_in_parts (map part_of (take l.shard-index l.joined.items))
