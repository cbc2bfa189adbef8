use Rattle.std.proofs.Common.{sym, ap, ◌∙◌}
use Rattle.rw_head.specs.Store.{list_of}
use Rattle.rw_head.specs.inner.Blocks.{open_of}
use Rattle.rw_head.proofs.BlockLemmas.{open_none}
use Rattle.rw_head.proofs.PlaceLemmas.{kept_at, kept_nowhere, settled_here}
use Rattle.rw_head.proofs.ForgettingLemmas.{whole_here}
use Rattle.rw_head.proofs.table.Table.open.Goals as goal

pub open-requires : goal.open-requires
open-requires c = record {
  settled =
      settled_here c.self.inside.places.tree c.self.inside.lists.items c.args.labels.now c.in-Some.place c.index.result.now c.self.invariant.0.places c.in-Some.ensures c.index.ensures
      (ap (λ s. s.staged) c.self.view_is ∙ c.requires.settled ∙ sym (ap (λ s. s.kept) c.self.view_is));
  whole = whole_here c.self.inside.lists.items c.in-Some.place c.index.result.now (c.self.invariant.1.whole (ap (λ s. s.forgets) c.self.view_is ∙ c.requires.whole))
      (c.self.invariant.0.places.within c.args.labels.now c.in-Some.place (sym c.in-Some.ensures)) c.index.ensures;
}

pub returns-in-Some-clause-samples : goal.returns-in-Some-clause-samples
returns-in-Some-clause-samples c =
    c.open.ensures.samples
    ∙ ap open_of (kept_at c.self.inside.places.tree c.self.inside.lists.items c.args.labels.now c.in-Some.place c.index.result.now c.self.invariant.0.places c.in-Some.ensures c.index.ensures
    ∙ ap (λ s. list_of s.kept c.args.labels.now) c.self.view_is)

pub returns-in-None-clause-samples : goal.returns-in-None-clause-samples
returns-in-None-clause-samples c =
    open_none _ (kept_nowhere c.self.inside.places.tree c.self.inside.lists.items c.args.labels.now c.in-None.ensures ∙ ap (λ s. list_of s.kept c.args.labels.now) c.self.view_is)
