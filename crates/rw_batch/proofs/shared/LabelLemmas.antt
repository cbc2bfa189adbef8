-- What the comparison of labels says.
use Rattle.std.proofs.Common.{◌≡◌, true, ap}
use Rattle.std.specs.Cmp.{IsEquivalence}
use Rattle.std.proofs.lemmas.Cmp.{eq_by_cmp_equiv}
use Rattle.rw_types.specs.Labels.{Labels}
use Rattle.rw_types.specs.LabelOrder.{labels_eq}
use Rattle.rw_types.specs.inner.LabelOrder.{labels_cmp-total}
use Rattle.rw_types.proofs.shared.OrderLemmas.{same_if_equal}

pub labels_eq-equivalence : IsEquivalence labels_eq
labels_eq-equivalence = eq_by_cmp_equiv labels_cmp-total

-- labels are the same as themselves
pub eq-self : (l : Labels) → labels_eq l l ≡ true
eq-self = labels_eq-equivalence.refl

-- their order does not matter
pub eq-flip : (a b : Labels) → labels_eq a b ≡ labels_eq b a
eq-flip = labels_eq-equivalence.symm

-- the same labels compare alike
pub eq-left : (a b c : Labels) → labels_eq a b ≡ true → labels_eq a c ≡ labels_eq b c
eq-left = labels_eq-equivalence.congr

pub eq-right : (a b c : Labels) → labels_eq a b ≡ true → labels_eq c a ≡ labels_eq c b
eq-right a b c e = ap (λ x. labels_eq c x) (same_if_equal a b e)
