use Rattle.std.proofs.Common.{sym, ◌∙◌}
use Rattle.rw_text.proofs.LabelLemmas.{other_name}
use Rattle.rw_text.proofs.labels.read_bare_name.Goals as goal

pub returns-then-not-is_metric_name-clause-err : goal.returns-then-not-is_metric_name-clause-err
returns-then-not-is_metric_name-clause-err c = λ _ name rest good e.
    other_name name c.in-Some.name.now rest c.in-Some.rest.now c.in-Some.ensures.1 (sym c.is_metric_name.ensures ∙ c.if-not-is_metric_name.true) good (sym c.in-Some.ensures.0 ∙ e)
