use Rattle.rw_world.proofs.SendingLemmas.{new_kept}
use Rattle.rw_world.proofs.shards.Shards.restart.Goals as goal

pub invariant_of-self : goal.invariant_of-self
invariant_of-self c =
    let s = c.self.inside in
    let i = c.self.invariant in
    new_kept s.target s.capacity s.batch c.in-Some.epoch c.args.shards c.in_ok-next.next.items s.next s.ledger c.in_ok-next.ensures i.batch_some i.batch_most c.requires.some c.requires.most i.later
