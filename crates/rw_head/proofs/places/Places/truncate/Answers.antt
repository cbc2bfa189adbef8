use Rattle.std.proofs.Common.{None, ◌≤◌, ◌∙◌, ◌∷◌, [], ap, subst, sym, take, length, arith}
use Rattle.std.specs.BTreeMap.{Updates}
use Rattle.rw_types.specs.LabelOrder.{labels_cmp}
use Rattle.std.proofs.lemmas.List.{length_push, take_all, take-append-le}
use Rattle.rw_head.proofs.NameLemmas.{AreNamed-pop, below-pop, below_all}
use Rattle.rw_head.proofs.places.Places.truncate.Goals as goal

pub invariant_of-self : goal.invariant_of-self
invariant_of-self c = record {
  named = AreNamed-pop c.loop-self.self.tree c.remove.new.self c.loop-self.self.names.items c.pop.new.self.items c.in-Some.place c.in-Some.ensures.items c.loop-self.self.named (subst (λ l. Updates labels_cmp c.loop-self.self.tree c.remove.new.self l None) c.name.ensures c.remove.ensures.updates);
  hinted = omega (arith, c.truncate.ensures.len, c.len-left.ensures, c.loop-self.self.hinted, ap length c.in-Some.ensures.items, length_push c.pop.new.self.items c.in-Some.place);
}

pub loop-self-preserved-in-Some : goal.loop-self-preserved-in-Some
loop-self-preserved-in-Some c = record {
  below = λ q.
      below-pop c.loop-self.self.tree c.remove.new.self c.loop-self.self.names.items c.pop.new.self.items c.in-Some.place q c.args.len c.in-Some.ensures.items c.loop-self.self.named (subst (λ l. Updates labels_cmp c.loop-self.self.tree c.remove.new.self l None) c.name.ensures c.remove.ensures.updates) (omega arith)
      ∙ c.loop-self.invariant.below q;
  names =
      let front = c.pop.new.self.items in
      let fits : c.args.len ≤ length front = omega (arith, ap length c.in-Some.ensures.items, length_push front c.in-Some.place, c.loop-self-test.true, c.len.ensures) in
      sym (ap (take c.args.len) c.in-Some.ensures.items ∙ take-append-le c.args.len front (c.in-Some.place ∷ []) fits) ∙ c.loop-self.invariant.names;
}

pub returns-clause-below : goal.returns-clause-below
returns-clause-below c = λ l. below_all c.loop-self.self.tree c.loop-self.self.names.items l c.args.len c.loop-self.self.named (omega arith) ∙ c.loop-self.invariant.below l

pub returns-clause-names : goal.returns-clause-names
returns-clause-names c = sym (take_all c.args.len c.loop-self.self.names.items (omega arith)) ∙ c.loop-self.invariant.names
