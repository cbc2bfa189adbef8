use Rattle.std.proofs.Common.{arith, ◌≡◌, sym, ◌∙◌, ap, subst, ◌++◌, ◌∷◌, [], Some, None, length}
use Rattle.std.specs.BTreeMap.{get, Updates}
use Rattle.rw_types.specs.LabelOrder.{labels_cmp}
use Rattle.std.proofs.lemmas.List.{length_push}
use Rattle.rw_head.specs.Order.{points}
use Rattle.rw_head.specs.inner.Finds.{Enters}
use Rattle.rw_head.specs.inner.Names.{AreNamed}
use Rattle.rw_head.proofs.NameLemmas.{AreNamed-same, AreNamed-push}
use Rattle.rw_head.proofs.places.Places.enter.Goals as goal

pub invariant_of-self-in-Break-branch-4 : goal.invariant_of-self-in-Break-branch-4
invariant_of-self-in-Break-branch-4 c = record {
  named =
      subst (AreNamed c.enter.new.tree) (sym c.reserve.ensures.items)
      (AreNamed-same c.args.self.now.tree c.enter.new.tree c.args.self.now.names.items c.in_err-place.ensures.tree c.args.self.now.named);
  hinted = omega (arith, ap length c.reserve.ensures.items, ap length c.reserve-2.ensures.items, c.args.self.now.hinted);
}

pub invariant_of-self-in-Had-1 : goal.invariant_of-self-in-Had-1
invariant_of-self-in-Had-1 c =
    let had = subst (λ e. Enters e c.args.self.now.tree c.enter.new.tree c.in_ok-share.share c.len-next.result (points c.args.samples.now)) c.in-Had.is c.in_ok-place.ensures.ok in
    record {
      named =
          subst (AreNamed c.enter.new.tree) (sym c.reserve.ensures.items)
          (AreNamed-same c.args.self.now.tree c.enter.new.tree c.args.self.now.names.items had.1 c.args.self.now.named);
      hinted = omega (arith, ap length c.reserve.ensures.items, ap length c.reserve-2.ensures.items, c.args.self.now.hinted);
    }

pub invariant_of-self-in-New : goal.invariant_of-self-in-New
invariant_of-self-in-New c =
    let new = subst (λ e. Enters e c.args.self.now.tree c.enter.new.tree c.in_ok-share.share c.len-next.result (points c.args.samples.now)) c.in-New.is c.in_ok-place.ensures.ok in
    let place : c.len-next.result ≡ length c.args.self.now.names.items = omega (arith, c.len-next.ensures, ap length c.reserve.ensures.items) in
    record {
      named =
          subst (AreNamed c.enter.new.tree) (sym (c.put.ensures ∙ ap (λ x. c.reserve.new.self.items ++ x ∷ []) c.new.ensures ∙ ap (λ xs. xs ++ c.args.name ∷ []) c.reserve.ensures.items))
          (AreNamed-push c.args.self.now.tree c.enter.new.tree c.args.self.now.names.items c.args.name c.args.self.now.named
          (subst (λ l. get labels_cmp c.args.self.now.tree l ≡ None) c.in_ok-share.ensures new.0)
          (subst (λ l. Updates labels_cmp c.args.self.now.tree c.enter.new.tree l (Some (length c.args.self.now.names.items))) c.in_ok-share.ensures
          (subst (λ n. Updates labels_cmp c.args.self.now.tree c.enter.new.tree c.in_ok-share.share (Some n)) place new.1.0)));
      hinted = omega (
        arith,
        ap length c.put.ensures,
        length_push c.reserve.new.self.items c.new.result,
        ap length c.put-in-New.ensures,
        length_push c.reserve-2.new.self.items 0,
        ap length c.reserve.ensures.items,
        ap length c.reserve-2.ensures.items,
        c.args.self.now.hinted,
      );
    }
