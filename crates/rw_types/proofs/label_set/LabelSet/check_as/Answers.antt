use Rattle.std.proofs.Common.{map, rules, sym, ◌∙◌}
use Rattle.rw_types.specs.Labels.{bytes_label, text_label}
use Rattle.rw_types.proofs.shared.JudgeLemmas.{all_texts}
use Rattle.rw_types.proofs.NameLemmas.{of_any_names}
use Rattle.rw_types.proofs.label_set.LabelSet.check_as.Goals as goal

pub texts_of-requires : goal.texts_of-requires
texts_of-requires c = all_texts c.args.names bytes_label _ (sym c.fault_of.ensures ∙ c.in_default.is)

pub of-requires : goal.of-requires
of-requires c = of_any_names c.args.names (map text_label c.in_ok-texts_of.field-0.items) (search rules)
