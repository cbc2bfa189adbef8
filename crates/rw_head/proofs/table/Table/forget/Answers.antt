use Rattle.std.proofs.Common.{sym, ap, arith, ◌∙◌}
use Rattle.std.proofs.lemmas.Bool.{true≢false}
use Rattle.rw_head.proofs.ForgottenLemmas.{settled_all, IsSound-forgotten, kept_forgotten, staged_forgotten, added_forgotten}
use Rattle.rw_head.proofs.table.Table.forget.Goals as goal

pub forget_all-requires : goal.forget_all-requires
forget_all-requires c = settled_all c.self.inside.touched.items c.self.inside.lists.items (omega (arith, ap (λ s. s.noted) c.self.view_is, c.requires.unnoted)) c.self.invariant.0.settled

pub invariant_of-self : goal.invariant_of-self
invariant_of-self c =
    let none = ap (λ s. s.noted) c.self.view_is ∙ c.requires.unnoted in (
      IsSound-forgotten c.self.inside.places.tree c.self.inside.lists.items c.forget_all.new.lists.items c.self.inside.touched.items c.self.inside.fresh.items c.self.inside.count c.self.inside.staged_count
          c.self.invariant.0 none c.forget_all.ensures.len c.forget_all.ensures.kept c.forget_all.ensures.staged,
      record {
        same = c.self.invariant.1.same ∙ sym c.forget_all.ensures.len;
        whole = λ off. absurd (true≢false (sym c.requires.forgets ∙ sym (ap (λ s. s.forgets) c.self.view_is) ∙ off));
      },
    )

pub returns : goal.returns
returns c =
    let none = ap (λ s. s.noted) c.self.view_is ∙ c.requires.unnoted in
    let kept = kept_forgotten c.self.inside.places.tree c.self.inside.lists.items c.forget_all.new.lists.items c.self.invariant.0.places c.forget_all.ensures.len c.forget_all.ensures.kept in
    let staged = staged_forgotten c.self.inside.places.tree c.self.inside.lists.items c.forget_all.new.lists.items c.self.invariant.0.places c.forget_all.ensures.len c.forget_all.ensures.staged in
    let added = added_forgotten c.self.inside.places.names.items c.self.inside.lists.items c.forget_all.new.lists.items c.self.inside.touched.items c.self.inside.fresh.items none in
    rw (kept, staged, added) c.self.view_is
