use Rattle.std.proofs.Common.{◌<◌, length, arith}
use Rattle.rw_world.proofs.PendingLemmas.{place_step}
use Rattle.rw_world.proofs.shard.add_places.Goals as goal

pub loop-place-preserved : goal.loop-place-preserved
loop-place-preserved c =
    let lt : c.loop-place.place-index < length c.args.places.now = omega arith in
    place_step c.push.new.self.items c.loop-place.positions.items c.args.positions.now.items c.args.places.now c.loop-place.place-index _ lt c.in_ok-push.ensures.items c.loop-place.invariant
