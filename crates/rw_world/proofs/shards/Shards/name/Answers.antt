use Rattle.std.proofs.Common.{◌∙◌, ◌≤◌, ap, arith}
use Rattle.rw_world.specs.Sending.{Sending}
use Rattle.rw_world.proofs.ReplyLemmas.{name_kept}
use Rattle.rw_world.proofs.shards.Shards.name.Goals as goal
use Rattle.std.specs.FinMap.{insert}

pub invariant_of-self-2 : goal.invariant_of-self-2
invariant_of-self-2 c =
    let s = c.self.inside in
    let np : s.next ≤ c.args.pos = rw (ap (λ (v : Sending). v.next) c.self.view_is) c.requires.next in
    let room = c.in_ok-room.ensures.ok in
    name_kept s.target s.capacity s.batch s.epoch s.shards.items s.next s.ledger c.name.new.self c.args.pos c.args.reason c.self.invariant
    (c.name.ensures.names ∙ ap (λ m. insert m c.args.pos c.args.reason) c.in_ok-room.ensures.names) (omega (arith, room, c.name.ensures.room)) np
