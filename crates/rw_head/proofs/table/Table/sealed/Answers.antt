use Rattle.std.proofs.Common.{sym, ap, ◌∙◌}
use Rattle.rw_head.specs.Store.{list_of}
use Rattle.rw_head.specs.Blocks.{sealed_of}
use Rattle.rw_head.proofs.BlockLemmas.{sealed_none}
use Rattle.rw_head.proofs.PlaceLemmas.{kept_at, kept_nowhere, settled_here}
use Rattle.rw_head.proofs.ForgettingLemmas.{whole_here}
use Rattle.rw_head.proofs.table.Table.sealed.Goals as goal

pub sealed-requires : goal.sealed-requires
sealed-requires c = record {
  settled =
      settled_here c.self.inside.places.tree c.self.inside.lists.items c.args.labels.now c.in-Some.place c.index.result.now c.self.invariant.0.places c.in-Some.ensures c.index.ensures
      (ap (λ s. s.staged) c.self.view_is ∙ c.requires.settled ∙ sym (ap (λ s. s.kept) c.self.view_is));
  whole = whole_here c.self.inside.lists.items c.in-Some.place c.index.result.now (c.self.invariant.1.whole (ap (λ s. s.forgets) c.self.view_is ∙ c.requires.whole))
      (c.self.invariant.0.places.within c.args.labels.now c.in-Some.place (sym c.in-Some.ensures)) c.index.ensures;
}

pub returns-in-Some : goal.returns-in-Some
returns-in-Some c =
    c.sealed.ensures
    ∙ ap sealed_of (kept_at c.self.inside.places.tree c.self.inside.lists.items c.args.labels.now c.in-Some.place c.index.result.now c.self.invariant.0.places c.in-Some.ensures c.index.ensures
    ∙ ap (λ s. list_of s.kept c.args.labels.now) c.self.view_is)

pub returns-in-None : goal.returns-in-None
returns-in-None c =
    sealed_none _ (kept_nowhere c.self.inside.places.tree c.self.inside.lists.items c.args.labels.now c.in-None.ensures ∙ ap (λ s. list_of s.kept c.args.labels.now) c.self.view_is)
