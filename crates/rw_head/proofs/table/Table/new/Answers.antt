use Rattle.std.proofs.Common.{◌≡◌, ◌+◌, ◌-◌, ◌∙◌, [], take, length, refl, sym, subst, ap, arith}
use Rattle.rw_head.specs.inner.Lists.{settled_names}
use Rattle.rw_head.proofs.shared.StagingLemmas.{no_places, IsSound-empty}
use Rattle.rw_head.proofs.AddedLemmas.{nothing_added}
use Rattle.rw_head.specs.inner.Forgetting.{AreWhole}
use Rattle.rw_head.proofs.table.Table.new.Goals as goal

pub invariant_of-result : goal.invariant_of-result
invariant_of-result c = (
  IsSound-empty c.new.result.tree _ _ _ c.new.ensures.tree c.new-2.ensures.items c.new-3.ensures.items c.new-4.ensures.items,
  record {
    same = omega (arith, ap length c.new.ensures.names, ap length c.new-2.ensures.items);
    whole = λ off. subst AreWhole (sym c.new-2.ensures.items) (λ n. refl);
  },
)

pub returns : goal.returns
returns c =
    let stores = no_places c.new.result.tree.entries c.new-2.result.items c.new.ensures.tree in
    let added = nothing_added c.new.result.names.items c.new-2.result.items c.new-3.result.items c.new-3.ensures.items in
    let none : length c.new-3.result.items + length c.new-4.result.items ≡ 0 = omega (arith, ap length c.new-3.ensures.items, ap length c.new-4.ensures.items) in
    let placed : settled_names c.new.result.names.items c.new-4.result.items ≡ [] =
    ap (λ ns. settled_names ns c.new-4.result.items) c.new.ensures.names ∙ ap (λ k. take (0 - k) []) (ap length c.new-4.ensures.items) in
    λ i. record { kept = stores.0 i; staged = stores.1 i; added = added i; noted = none i; placed = placed i; forgets = c.args.forgets }
