use Rattle.std.proofs.Common.{ℕ, rules}
use Rattle.std.proofs.lemmas.List.Sorted.{IsNonDecreasingBy-from_sort_by_key}
use Rattle.rw_ledger.specs.declared.ledger.Reason.{Reason}
use Rattle.rw_send.proofs.printed_report.names_by_position.Goals as goal

pub returns : goal.returns
returns g c = (
  rw (← c.in_ok-names.ensures) c.sort_unstable_by_key.ensures.permutation,
  IsNonDecreasingBy-from_sort_by_key (λ (name : ℕ × Reason). name.0) _ c.sort_unstable_by_key.ensures.sorted (λ a r q k. search rules),
)
