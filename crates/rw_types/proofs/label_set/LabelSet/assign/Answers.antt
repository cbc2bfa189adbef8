use Rattle.std.proofs.Common.{map, rules}
use Rattle.rw_types.specs.Labels.{text_label}
use Rattle.rw_types.proofs.NameLemmas.{of_any_names}
use Rattle.rw_types.proofs.label_set.LabelSet.assign.Goals as goal

pub invariant_of-self-2 : goal.invariant_of-self-2
invariant_of-self-2 c = (of_any_names c.args.names (map text_label c.replace.new.labels.items) (search rules), search rules, search rules)
