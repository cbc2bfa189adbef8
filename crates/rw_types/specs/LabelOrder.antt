-- The order of label sets: byte order of their lists of (name, value).
use Rattle.std.specs.Prelude.{Bool}
use Rattle.std.specs.Cmp.Lexicographic.{slice_cmp}
use Rattle.std.specs.Ordering.{nat_cmp, then_cmp, on, eq_by_cmp}
use Rattle.std.specs.declared.cmp.Ordering.{Ordering}
use Rattle.rw_types.specs.Labels.{Label, Labels}

-- by name, and then by value
abbrev pub label_cmp : Label → Label → Ordering
label_cmp = then_cmp (on (λ l. l.0) (slice_cmp nat_cmp)) (on (λ l. l.1) (slice_cmp nat_cmp))

-- label by label; a prefix comes before the whole
abbrev pub labels_cmp : Labels → Labels → Ordering
labels_cmp = slice_cmp label_cmp

abbrev pub labels_eq : Labels → Labels → Bool
labels_eq = eq_by_cmp labels_cmp
