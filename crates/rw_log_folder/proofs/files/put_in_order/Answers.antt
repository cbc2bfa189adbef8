use Rattle.std.proofs.Common.{rules, string_len}
use Rattle.std.proofs.lemmas.List.Sorted.{answers_always}
use Rattle.rw_log_folder.specs.declared.files.SegmentName.{SegmentName}
use Rattle.rw_log_folder.proofs.files.put_in_order.Goals as goal

pub returns-clause-sorted : goal.returns-clause-sorted
returns-clause-sorted c =
    c.sort_unstable_by_key.ensures.sorted (λ (s : SegmentName). (s.number, string_len s.name)) (answers_always _ _ _ (λ f a r q k. search rules))
