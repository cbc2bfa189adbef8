use Rattle.std.proofs.Common.{sym, ◌∙◌}
use Rattle.std.specs.Cmp.Derive.Mapped.{lex_map}
use Rattle.rw_types.specs.Labels.{text_label}
use Rattle.rw_types.specs.LabelOrder.{label_cmp}
use Rattle.rw_types.proofs.label_set.LabelSetOrd.cmp.Goals as goal

pub returns : goal.returns
returns c = rw (sym c.self.view_is, sym c.other.view_is) (c.cmp.ensures ∙ sym (lex_map text_label label_cmp c.self.inside.labels.items c.other.inside.labels.items))
