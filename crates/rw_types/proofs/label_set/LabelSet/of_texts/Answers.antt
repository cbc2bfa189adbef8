use Rattle.std.proofs.Common.{map, rules}
use Rattle.rw_types.specs.Labels.{text_label}
use Rattle.rw_types.proofs.NameLemmas.{of_any_names}
use Rattle.rw_types.proofs.label_set.LabelSet.of_texts.Goals as goal

pub of-requires : goal.of-requires
of-requires c = of_any_names c.args.names (map text_label c.args.labels.items) (search rules)
