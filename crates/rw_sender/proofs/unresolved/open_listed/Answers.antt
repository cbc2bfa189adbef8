use Rattle.std.proofs.Common.{◌+◌, ◌≤◌, arith, subst}
use Rattle.std.specs.Prelude.{◌*◌, vec_len, vec_capacity}
use Rattle.rw_sender.proofs.shared.ListingLemmas.{room_grown, room_opened}
use Rattle.rw_sender.proofs.unresolved.open_listed.Goals as goal

pub returns-clause-room : goal.returns-clause-room
returns-clause-room g c =
    let now = c.reserve.new.self in
    let more = c.in_ok-reserve.ensures.ok in
    let count = c.in-Some.ensures.1 in
    room_opened c.args.fleet.now c.open.new.self c.args.samples.now now c.args.shards c.requires.room c.open.ensures.rest c.requires.resolved c.open.ensures.most c.reserve.ensures.len
    (subst (λ w. vec_len now + c.args.shards * w ≤ vec_capacity now) c.window.ensures (omega arith))

pub returns-in_err-reserve-clause-room : goal.returns-in_err-reserve-clause-room
returns-in_err-reserve-clause-room g c = room_grown c.args.fleet.now c.args.samples.now c.reserve.new.self c.requires.room c.reserve.ensures.len c.reserve.ensures.capacity
