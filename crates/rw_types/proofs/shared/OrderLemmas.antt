-- The order of label sets distinguishes all lists that are not the same.
use Rattle.std.proofs.Common.{◌≡◌, List, map, true, ap, sym, ◌∙◌, ◌&&◌}
use Rattle.std.specs.Cmp.{tied_itself, both_tied}
use Rattle.std.specs.Cmp.Derive.Mapped.{lex_map}
use Rattle.std.specs.Cmp.Lexicographic.{lists_ties, texts_ties, slice_cmp, pointwise}
use Rattle.std.specs.Global.{Global}
use Rattle.std.specs.Ordering.{nat_cmp, on, eq_by_cmp, is_eq}
use Rattle.std.specs.Prelude.{String, string_bytes}
use Rattle.std.specs.String.{string_eq}
use Rattle.rw_types.specs.Labels.{Labels, text_label}
use Rattle.rw_types.specs.LabelOrder.{label_cmp, labels_cmp, labels_eq}
use Rattle.rw_types.specs.inner.LabelOrder.{labels_cmp-total}
pub use Rattle.rw_types.specs.inner.LabelOrder.{exact_labels, same_if_equal}

-- the order calls a list equal to itself
pub equal_if_same : (a b : Labels) → a ≡ b → is_eq (labels_cmp a b) ≡ true
equal_if_same a b e = ap (λ x. is_eq (labels_cmp a x)) (sym e) ∙ ap is_eq (tied_itself labels_cmp-total a)

-- two labels are the same texts if the order calls them equal
texts_tie : (x y : String Global × String Global) → (string_eq x.0 y.0 && string_eq x.1 y.1) ≡ eq_by_cmp (on text_label label_cmp) x y
texts_tie x y =
    both_tied _ _ (slice_cmp nat_cmp (string_bytes x.0) (string_bytes y.0)) (slice_cmp nat_cmp (string_bytes x.1) (string_bytes y.1))
    (texts_ties (string_bytes x.0) (string_bytes y.0)) (texts_ties (string_bytes x.1) (string_bytes y.1))

pub same_texts : (xs ys : List (String Global × String Global)) → pointwise (λ x y. string_eq x.0 y.0 && string_eq x.1 y.1) xs ys ≡ labels_eq (map text_label xs) (map text_label ys)
same_texts xs ys = lists_ties (on text_label label_cmp) texts_tie xs ys ∙ ap is_eq (sym (lex_map text_label label_cmp xs ys))

pub same_where_texts_are : (xs ys : List (String Global × String Global)) → true ≡ pointwise (λ x y. string_eq x.0 y.0 && string_eq x.1 y.1) xs ys → map text_label xs ≡ map text_label ys
same_where_texts_are xs ys e = same_if_equal (map text_label xs) (map text_label ys) (sym (e ∙ same_texts xs ys))
