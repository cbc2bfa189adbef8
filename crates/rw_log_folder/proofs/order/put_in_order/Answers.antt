use Rattle.std.proofs.Common.{rules}
use Rattle.std.proofs.lemmas.List.Sorted.{answers_always}
use Rattle.rw_log_folder.specs.declared.listing.NumberedName.{NumberedName}
use Rattle.rw_log_folder.proofs.order.put_in_order.Goals as goal

pub returns : goal.returns
returns c = (
  c.sort_unstable_by_key.ensures.permutation,
  c.sort_unstable_by_key.ensures.sorted (λ (s : NumberedName). (s.number, s.digits)) (answers_always _ _ _ (λ f a r q k. search rules)),
)
