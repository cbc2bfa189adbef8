use Rattle.std.proofs.Common.{rules, sym, subst}
use Rattle.rw_plain_queue.specs.History.{MayFollow, IsOpen}
use Rattle.rw_shard_queue.specs.Ends.{Feeding}
use Rattle.rw_shard_queue.specs.Ends.{known_log}
use Rattle.rw_shard_queue.proofs.Moves.{pushes, pushed, handed, sizes, any}
use Rattle.rw_shard_queue.proofs.ends.Feed+Open.put.Goals as goal

pub invariant_of-self : goal.invariant_of-self
invariant_of-self g c = let i = c.self.invariant in let may = subst (λ (v : Feeding). MayFollow v.queue.epoch v.queue.shard v.put c.args.item) (sym c.self.view_is) c.requires in let n = pushed _ _ _ _ _ c.push.ensures (i.1, i.2, i.3, i.4, i.5, i.6, i.7, i.8) may (search rules) in (i.0, n.0, n.1, n.2, n.3, n.4, n.5, n.6, n.7, i.9)

pub returns-then-len-most-clause-history : goal.returns-then-len-most-clause-history
returns-then-len-most-clause-history g c = let i = c.self.invariant in let may = subst (λ (v : Feeding). MayFollow v.queue.epoch v.queue.shard v.put c.args.item) (sym c.self.view_is) c.requires in (pushes _ _ _ _ _ c.push.ensures (i.1, i.2, i.3, i.4, i.5, i.6, i.7, i.8) may).0

pub send-requires-clause-history : goal.send-requires-clause-history
send-requires-clause-history g c = let i = c.self.invariant in let may = subst (λ (v : Feeding). MayFollow v.queue.epoch v.queue.shard v.put c.args.item) (sym c.self.view_is) c.requires in (pushes _ _ _ _ _ c.push.ensures (i.1, i.2, i.3, i.4, i.5, i.6, i.7, i.8) may).0

pub invariant_of-self-in_default-send : goal.invariant_of-self-in_default-send
invariant_of-self-in_default-send g c = let i = c.self.invariant in let may = subst (λ (v : Feeding). MayFollow v.queue.epoch v.queue.shard v.put c.args.item) (sym c.self.view_is) c.requires in let p = pushes _ _ _ _ _ c.push.ensures (i.1, i.2, i.3, i.4, i.5, i.6, i.7, i.8) may in let o = c.in_default-send.ensures.ok in
    let n = handed IsOpen any _ _ (known_log c.self.inside.pass) c.push.new.self.items c.send.new.block o.0 o.1 (search rules) p.0 p.1 i.4 i.5 tt in (c.send.ensures.seat.0, n.0, n.1, n.2, n.3, n.4, n.5, n.6, n.7, sizes _ (known_log c.self.inside.pass) _ _ _ o.0 c.send.ensures.spares i.9)

pub returns-clause-history : goal.returns-clause-history
returns-clause-history g c = let i = c.self.invariant in let may = subst (λ (v : Feeding). MayFollow v.queue.epoch v.queue.shard v.put c.args.item) (sym c.self.view_is) c.requires in let p = pushes _ _ _ _ _ c.push.ensures (i.1, i.2, i.3, i.4, i.5, i.6, i.7, i.8) may in let o = c.in_default-send.ensures.ok in
    (handed IsOpen any _ _ (known_log c.self.inside.pass) c.push.new.self.items c.send.new.block o.0 o.1 (search rules) p.0 p.1 i.4 i.5 tt).1
