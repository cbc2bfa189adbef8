use Rattle.std.proofs.Common.{◌∙◌, sym, ap, length, vec_len, ◌≡◌, arith}
use Rattle.std.specs.Ordering.{nat_cmp}
use Rattle.std.specs.FinMap as map
use Rattle.rw_ledger.specs.Names.{Named}
use Rattle.rw_ledger.proofs.NameLemmas.{as_test}
use Rattle.rw_ledger.proofs.ledger.Ledger.total.Goals as goal

pub returns : goal.returns
returns c =
    let vec_len_is : vec_len c.self.inside.names ≡ length c.self.inside.names.items = omega (arith, c.self.inside.names.ok.0) in
    c.len.ensures ∙ vec_len_is ∙ ap length (sym (map.entries-from_sorted nat_cmp c.self.inside.names.items (as_test _ c.self.invariant.0))) ∙ sym (map.len-entries (map.from_sorted c.self.inside.names.items))
    ∙ ap (λ (x : Named). map.len x.names) c.self.view_is
