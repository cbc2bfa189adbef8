-- Inner definitions beside those of LabelOrder.antt: only invariants, private functions and
-- proofs use them.
use Rattle.std.specs.Prelude.{◌≡◌, List, [], ◌∷◌, true, refl}
use Rattle.std.proofs.Common.{ap₂}
use Rattle.std.proofs.lemmas.Map.Lookups.{CmpEqualImpliesEq, exact_bytes, exact_pairs}
use Rattle.std.specs.Cmp.{IsTotalOrder, then_total, on_total, nat_cmp_total, Equal-is}
use Rattle.std.specs.Cmp.Lexicographic.{slice_cmp, lists_total}
use Rattle.std.specs.Ordering.{nat_cmp, ordering_then, is_eq}
use Rattle.std.specs.declared.cmp.Ordering.{Ordering}
use Rattle.std.specs.declared.cmp.Ordering.TheVariants.{Less, Equal, Greater}
use Rattle.rw_types.specs.Labels.{Labels}
use Rattle.rw_types.specs.LabelOrder.{label_cmp, labels_cmp}

label_cmp-total : IsTotalOrder label_cmp
label_cmp-total = then_total (on_total (λ l. l.0) (lists_total nat_cmp_total)) (on_total (λ l. l.1) (lists_total nat_cmp_total))

-- it is a total order
pub labels_cmp-total : IsTotalOrder labels_cmp
labels_cmp-total = lists_total label_cmp-total

both_equal : (o p : Ordering) → ordering_then o p ≡ Equal → (o ≡ Equal) × (p ≡ Equal)
both_equal Less p e = absurd cc
both_equal Equal p e = (refl, e)
both_equal Greater p e = absurd cc

exact_lists : {A : Type 0} (R : A → A → Ordering) → CmpEqualImpliesEq R → (xs ys : List A) → slice_cmp R xs ys ≡ Equal → xs ≡ ys
exact_lists R exact [] [] e = refl
exact_lists R exact [] (y ∷ ys) e = absurd cc
exact_lists R exact (x ∷ xs) [] e = absurd cc
exact_lists R exact (x ∷ xs) (y ∷ ys) e =
    let both = both_equal (R x y) (slice_cmp R xs ys) e in
    ap₂ (λ a b. a ∷ b) (exact x y both.0) (exact_lists R exact xs ys both.1)

exact_label : CmpEqualImpliesEq label_cmp
exact_label = exact_pairs (slice_cmp nat_cmp) (slice_cmp nat_cmp) exact_bytes exact_bytes

pub exact_labels : CmpEqualImpliesEq labels_cmp
exact_labels = exact_lists label_cmp exact_label

-- what it calls equal is the same
pub same_if_equal : (a b : Labels) → is_eq (labels_cmp a b) ≡ true → a ≡ b
same_if_equal a b e = exact_labels a b ((Equal-is (labels_cmp a b)).0 e)
