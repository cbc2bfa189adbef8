use Rattle.std.proofs.Common.{◌≡◌, length, arith, refl, ap, ◌∙◌}
use Rattle.rw_head.specs.Lists.{added_of}
use Rattle.rw_head.proofs.AddedLemmas.{all_within, adds_up}
use Rattle.rw_head.proofs.table.Table.added.Goals as goal

pub new-requires : goal.new-requires
new-requires c = record {
  within = rw (c.as_slice.ensures.value, c.as_slice-2.ensures.value) (all_within c.self.inside.touched.items c.self.inside.lists.items c.self.invariant.0.settled);
  same = omega (arith, ap length c.names.ensures.names, ap length c.as_slice-2.ensures.value, c.self.invariant.1.same);
}

shown : (c : goal.After-new) → c.new.result ≡ added_of c.self.inside.places.names.items c.self.inside.lists.items c.self.inside.touched.items
shown c = rw (c.new.ensures, c.names.ensures.names, c.as_slice.ensures.value, c.as_slice-2.ensures.value) refl

pub returns-clause-list : goal.returns-clause-list
returns-clause-list c = shown c ∙ ap (λ s. s.added) c.self.view_is

pub returns-clause-adds : goal.returns-clause-adds
returns-clause-adds c =
    rw (shown c, ← c.self.view_is)
    (adds_up c.self.inside.places.tree c.self.inside.places.names.items c.self.inside.lists.items c.self.inside.touched.items
    c.self.inside.places.named c.self.invariant.1.same c.self.invariant.0.settled c.self.invariant.0.noted)
