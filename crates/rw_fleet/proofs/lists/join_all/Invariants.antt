use Rattle.std.proofs.Common.{◌≡◌, ◌≤◌, List, ◌++◌, length, map}
use Rattle.std.specs.Vec.Iter.{into_iter_items, into_iter_len}
use Rattle.rw_fleet.specs.ShardHistories.{ShardHistory}
use Rattle.rw_fleet.specs.Work.{AreWorked, lane_of}
use Rattle.rw_fleet.proofs.lists.join_all.Given as goal

abbrev pub invariant-loop-shard : goal.invariant-loop-shard
invariant-loop-shard g l =
    let rest = l.rest in
    (into_iter_len rest ≤ l.joined.room)
    × (l.joined.folded ≡ l.initial.joined.folded)
    × AreWorked g.T.Transport.tells g.T.Transport.seen g.T.Transport.is_for l.joined.items
    × ((more : List _) × (done : List ShardHistory) × (l.joined.items ≡ l.initial.joined.items ++ more) × (l.fn.ending.items ≡ done ++ into_iter_items rest) × (map lane_of more ≡ done))
    × (into_iter_len rest ≡ length (into_iter_items rest))

abbrev pub decreases-loop-shard : goal.decreases-loop-shard
decreases-loop-shard g l = into_iter_len l.rest
