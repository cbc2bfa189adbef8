use Rattle.std.proofs.Common.{rules, arith, refl, sym, ap, ◌∙◌, ◌≡◌, []}
use Rattle.std.proofs.lemmas.Grind.{common_steps}
use Rattle.rw_plain_queue.specs.History.{IsOpen, IsEnded}
use Rattle.rw_shard_queue.specs.Ends.{known_log}
use Rattle.rw_shard_queue.specs.declared.rule.Log.{Log}
use Rattle.rw_shard_queue.proofs.Moves.{ends, handed, kept, sizes, any}
use Rattle.rw_shard_queue.proofs.ends.Feed+Open.end.Goals as goal

pub send-requires-clause-history : goal.send-requires-clause-history
send-requires-clause-history g c = let i = c.self.invariant in (ends _ _ _ _ _ c.push.ensures (i.1, i.2, i.3, i.4, i.5, i.6, i.7, i.8)).0

pub invariant_of-feed : goal.invariant_of-feed
invariant_of-feed g c = let i = c.self.invariant in let same : known_log c.send.new.pass ≡ known_log c.self.inside.pass = search rules in let n = kept IsOpen any _ _ _ c.self.inside.block c.undo.new.self same (grind (arith, common_steps)) (grind (arith, common_steps)) (i.1, i.2, i.3, i.4, i.5, i.6, i.7, i.8) in (c.send.ensures.seat.0, n.0, n.1, n.2, n.3, n.4, n.5, n.6, n.7, c.send.ensures.spares ∙ i.9 ∙ ap (λ (l : Log). l.name.most) (sym same))

pub invariant_of-result : goal.invariant_of-result
invariant_of-result g c = let i = c.self.invariant in let p = ends _ _ _ _ _ c.push.ensures (i.1, i.2, i.3, i.4, i.5, i.6, i.7, i.8) in let o = c.in_default.ensures.ok in
    let n = handed IsEnded (λ xs. xs ≡ []) _ _ (known_log c.self.inside.pass) c.push.new.self.items c.send.new.block o.0 o.1 (search rules) p.0 p.1 i.4 i.5 refl in (c.send.ensures.seat.0, n.0, n.1, n.2, n.3, n.4, n.5, n.6, n.7, sizes _ (known_log c.self.inside.pass) _ _ _ o.0 c.send.ensures.spares i.9)

pub returns-clause-history : goal.returns-clause-history
returns-clause-history g c = let i = c.self.invariant in let p = ends _ _ _ _ _ c.push.ensures (i.1, i.2, i.3, i.4, i.5, i.6, i.7, i.8) in let o = c.in_default.ensures.ok in
    (handed IsEnded (λ xs. xs ≡ []) _ _ (known_log c.self.inside.pass) c.push.new.self.items c.send.new.block o.0 o.1 (search rules) p.0 p.1 i.4 i.5 refl).1
