use Rattle.std.proofs.Common.{◌∙◌, sym, ap}
use Rattle.std.specs.Ordering.{nat_cmp}
use Rattle.std.specs.FinMap as map
use Rattle.rw_ledger.specs.Names.{Named}
use Rattle.rw_ledger.proofs.NameLemmas.{as_test}
use Rattle.rw_ledger.proofs.ledger.Ledger.iter.Goals as goal

pub returns : goal.returns
returns c =
    c.iter.ensures.rest ∙ c.deref.ensures.value ∙ sym (map.entries-from_sorted nat_cmp c.self.inside.names.items (as_test _ c.self.invariant.0)) ∙ ap (λ (x : Named). map.entries x.names) c.self.view_is
