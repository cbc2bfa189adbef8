-- External labels: labels that are added to each series when it is sent (configuration manual of
-- Prometheus, `external_labels`). A label that a series has already stays as it is.
use Rattle.std.specs.Prelude.{List, [], ◌∷◌, fold, map}
use Rattle.std.specs.Cmp.Lexicographic.{slice_cmp}
use Rattle.std.specs.Ordering.{nat_cmp}
use Rattle.std.specs.declared.cmp.Ordering.{Ordering}
use Rattle.std.specs.declared.cmp.Ordering.TheVariants.{Less, Equal, Greater}
use Rattle.rw_types.specs.Labels.{Label, Labels}
use Rattle.rw_types.specs.declared.entry.Entry.{Entry}
use Rattle.rw_types.specs.declared.entry.Entry.TheVariants.{Def, Sample}

-- a label before another one, left out if both have one name, or among those after it, by the order
-- of their names
abbrev pub placed_by : Ordering → Label → Label → Labels → Labels → Labels
placed_by Less x l ls later = x ∷ l ∷ ls
placed_by Equal x l ls later = l ∷ ls
placed_by Greater x l ls later = l ∷ later

-- the labels with one more in its place by name, unless there is one of that name
abbrev pub with_label : Labels → Label → Labels
with_label [] x = x ∷ []
with_label (l ∷ ls) x = placed_by (slice_cmp nat_cmp x.0 l.0) x l ls (with_label ls x)

-- the labels with the external ones, where there is none of their name
abbrev pub with_labels : Labels → Labels → Labels
with_labels external ls = fold with_label ls external

-- a definition with the external labels; a sample has none
abbrev pub labelled_entry : Labels → Entry → Entry
labelled_entry external (Def reference ls) = Def reference (with_labels external ls)
labelled_entry external (Sample reference t word) = Sample reference t word

-- a log whose series have the external labels, too
abbrev pub labelled : Labels → List Entry → List Entry
labelled external es = map (labelled_entry external) es
