use Rattle.std.proofs.Common.{◌≡◌, ◌++◌, ◌∷◌, take, flat_map}
use Rattle.rw_types.specs.Labels.{text_label}
use Rattle.rw_text.specs.LabelText.{label_text}
use Rattle.rw_text.proofs.print.put_more.Given as goal

abbrev pub invariant-loop-label : goal.invariant-loop-label
invariant-loop-label l = l.out.items ≡ l.fn.out.items ++ flat_map (λ x. 44 ∷ label_text (text_label x)) (take l.label-index l.labels)
