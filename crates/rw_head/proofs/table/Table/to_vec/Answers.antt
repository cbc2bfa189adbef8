use Rattle.std.proofs.Common.{◌≡◌, IfOk, sym, subst, ap, ◌∙◌}
use Rattle.rw_head.specs.Store.{list_of}
use Rattle.rw_head.proofs.PlaceLemmas.{kept_at, kept_nowhere}
use Rattle.rw_head.proofs.ForgettingLemmas.{whole_here}
use Rattle.rw_head.proofs.table.Table.to_vec.Goals as goal

pub to_vec-requires : goal.to_vec-requires
to_vec-requires c =
    whole_here c.self.inside.lists.items c.in-Some.place c.index.result.now (c.self.invariant.1.whole (ap (λ s. s.forgets) c.self.view_is ∙ c.requires))
    (c.self.invariant.0.places.within c.args.labels.now c.in-Some.place (sym (sym c.in-Some.is ∙ c.in_ok-place.ensures))) c.index.ensures

pub returns-in-Some : goal.returns-in-Some
returns-in-Some c =
    subst (λ xs. IfOk c.to_vec.result (λ v. v.items ≡ xs))
    (kept_at c.self.inside.places.tree c.self.inside.lists.items c.args.labels.now c.in-Some.place c.index.result.now c.self.invariant.0.places (sym c.in-Some.is ∙ c.in_ok-place.ensures) c.index.ensures
    ∙ ap (λ s. list_of s.kept c.args.labels.now) c.self.view_is) c.to_vec.ensures

pub returns-in-None : goal.returns-in-None
returns-in-None c =
    c.new.ensures.items
    ∙ kept_nowhere c.self.inside.places.tree c.self.inside.lists.items c.args.labels.now (sym c.in-None.is ∙ c.in_ok-place.ensures) ∙ ap (λ s. list_of s.kept c.args.labels.now) c.self.view_is
