use Rattle.std.proofs.Common.{rules}
use Rattle.std.proofs.lemmas.List.Sorted.{IsNonDecreasingBy-from_sort_by_key}
use Rattle.rw_log_folder.proofs.NewestLemmas.{IsNewest-last, checkpoint_number}
use Rattle.rw_log_folder.proofs.order.newest.Goals as goal

pub returns : goal.returns
returns c =
    IsNewest-last _ _ _ c.pop.result c.sort_unstable_by_key.ensures.permutation
    (IsNonDecreasingBy-from_sort_by_key checkpoint_number _ c.sort_unstable_by_key.ensures.sorted (λ a r q k. search rules))
    c.pop.ensures.items (search rules)
