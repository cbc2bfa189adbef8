use Rattle.std.proofs.Common.{◌≡◌, ℕ, ◌<◌, ◌≤◌, ◌-◌, List, T, length, get_or, slice_get, Some, ltb, true, false, rules, ap, ◌∙◌, arith}
use Rattle.std.proofs.lemmas.Bool.Decides.{nat_tests}
use Rattle.std.proofs.lemmas.List.Sorted.{IsPartitionedBy-ltb, IsPartitionPoint-from_clause}
use Rattle.std.proofs.lemmas.Option.{slice_get-get_or}
use Rattle.std.specs.List.Sorted.{IsPartitionPoint}
use Rattle.std.specs.FinMap.{is_sorted}
use Rattle.std.specs.Ordering.{nat_cmp}
use Rattle.rw_ledger.specs.Names.{IsPlaceOf}
use Rattle.rw_ledger.specs.declared.ledger.Reason.{Reason}
use Rattle.rw_ledger.proofs.NameLemmas.{as_test, rises}
use Rattle.rw_ledger.proofs.ledger.place_of.Goals as goal

last_below : (es : List (ℕ × Reason)) (p k : ℕ) (e d : ℕ × Reason) → T (is_sorted nat_cmp es) → Some e ≡ slice_get es (length es - 1) → e.0 < p → k < length es → (get_or es k d).0 < p
last_below es p k e d sorted is low lt =
    let got : Some e ≡ Some (get_or es (length es - 1) d) = is ∙ slice_get-get_or es (length es - 1) d (omega arith) in
    let same : e ≡ get_or es (length es - 1) d = cc in
    let first : e.0 ≡ (get_or es (length es - 1) d).0 = ap (λ (x : ℕ × Reason). x.0) same in
    let up = rises es sorted k (length es - 1) d (omega arith) (omega arith) in omega arith

parted : (es : List (ℕ × Reason)) (p i : ℕ) → i ≤ length es → IsPartitionPoint (λ (y : ℕ × Reason). ltb y.0 p ≡ true) (λ (y : ℕ × Reason). ltb y.0 p ≡ false) es i → IsPlaceOf p es i
parted es p i within h = record {
  within = within;
  before = λ k d lt. let b = h.0 k d (omega arith) lt in grind (arith, nat_tests);
  after = λ k d le lt. let b = h.1 k d le lt in grind (arith, nat_tests);
}

pub returns-then-last-pos : goal.returns-then-last-pos
returns-then-last-pos c = record {
  within = omega arith;
  before = λ k d lt. last_below c.args.names.now c.args.pos k c.in-Some.last.now d (as_test _ c.requires) c.in-Some.ensures.value c.if-last-pos.true lt;
  after = λ k d le lt. absurd (omega arith);
}

pub returns-else-last-pos : goal.returns-else-last-pos
returns-else-last-pos c =
    parted c.args.names.now c.args.pos c.partition_point.result c.partition_point.ensures.bound
    (IsPartitionPoint-from_clause (λ (y : ℕ × Reason). ltb y.0 c.args.pos) c.args.names.now c.partition_point.result c.partition_point.ensures.partitioned
    (IsPartitionedBy-ltb (λ (y : ℕ × Reason). y.0) c.args.names.now c.args.pos (rises c.args.names.now (as_test _ c.requires))) (λ a r q k. search rules))
