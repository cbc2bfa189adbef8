use Rattle.std.proofs.Common.{◌≡◌, ◌+◌, ◌≤◌, List, ◌++◌, map, vec_len, vec_capacity}
use Rattle.std.specs.Vec.Iter.{into_iter_items, into_iter_len}
use Rattle.rw_fleet.specs.ShardHistories.{ShardHistory, AreSame, put_into}
use Rattle.rw_fleet.specs.Work.{AreEndedBy}
use Rattle.rw_fleet.proofs.lists.end_all.Given as goal

abbrev pub invariant-loop-shard : goal.invariant-loop-shard
invariant-loop-shard g l =
    let rest = l.rest in
    (vec_len l.ending + into_iter_len rest ≡ vec_len l.fn.running)
    × (vec_len l.fn.running ≤ vec_capacity l.ending)
    × ((done : List ShardHistory) × (l.fn.running.items ≡ done ++ into_iter_items rest) × AreSame done l.ending.items)
    × AreEndedBy l.kind (map put_into l.ending.items)

abbrev pub decreases-loop-shard : goal.decreases-loop-shard
decreases-loop-shard g l = into_iter_len l.rest
