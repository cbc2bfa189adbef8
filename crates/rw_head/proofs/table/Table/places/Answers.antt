use Rattle.std.proofs.Common.{ap, ◌∙◌}
use Rattle.rw_head.specs.Store.{label_sets}
use Rattle.std.proofs.Common.{length}
use Rattle.rw_head.proofs.PlaceLemmas.{places_of_staged}
use Rattle.rw_head.proofs.table.Table.places.Goals as goal

pub returns : goal.returns
returns c =
    places_of_staged c.self.inside.places.tree c.self.inside.lists.items c.len.result c.self.invariant.0.places c.self.invariant.0.filled c.len.ensures.ordered c.len.ensures.len
    ∙ ap (λ s. length (label_sets s.staged)) c.self.view_is
