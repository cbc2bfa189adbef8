-- The texts of a series' labels, as the program has them.
use Rattle.std.specs.Prelude.{map}
use Rattle.rw_types.specs.Labels.{Labels, text_label}
use Rattle.rw_head.specs.declared.label_bounds.Texts.{Texts}
use Rattle.rw_head.specs.declared.label_bounds.Texts.TheVariants.{Given, Lent}

abbrev pub labels_of : Texts → Labels
labels_of (Given texts) = map text_label texts.items
labels_of (Lent texts) = map text_label texts.now
