use Rattle.std.proofs.Common.{sym, ◌∙◌, ap, ◌∷◌}
use Rattle.rw_types.specs.Labels.{is_metric_name}
use Rattle.rw_text.proofs.EscapeLemmas.{quoted_unique}
use Rattle.rw_text.proofs.LabelLemmas.{other_quoted}
use Rattle.rw_text.proofs.labels.read_quoted_name.Goals as goal

pub returns-then-is_metric_name-clause-err : goal.returns-then-is_metric_name-clause-err
returns-then-is_metric_name-clause-err c = λ _ name rest bad e.
    other_quoted name c.read_quoted.new.out.items (61 ∷ rest) c.in_ok-rest.rest.now
    (ap is_metric_name (sym c.deref.ensures.value) ∙ sym c.is_metric_name.ensures ∙ c.if-is_metric_name.true) bad (sym c.in_ok-rest.ensures.ok ∙ e)

pub returns-in-None-clause-err : goal.returns-in-None-clause-err
returns-in-None-clause-err c = λ _ name rest bad e.
    c.in-None.ensures rest (quoted_unique c.read_quoted.new.out.items name c.in_ok-rest.rest.now (61 ∷ rest) (sym c.in_ok-rest.ensures.ok ∙ e)).1
