use Rattle.std.proofs.Common.{ℕ, refl}
use Rattle.std.proofs.lemmas.List.Sorted.{IsNonDecreasingBy-from_sort}
use Rattle.rw_send.proofs.printed_report.by_position.Goals as goal

pub returns-in-Abandoned : goal.returns-in-Abandoned
returns-in-Abandoned c =
    rw c.in-Abandoned.is (c.sort_unstable.new.self.items, c.sort_unstable.ensures.permutation, IsNonDecreasingBy-from_sort (λ (n : ℕ). n) _ c.sort_unstable.ensures.sorted, refl)
