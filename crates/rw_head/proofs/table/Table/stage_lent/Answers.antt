use Rattle.std.proofs.Common.{ap, subst, ◌∙◌}
use Rattle.rw_write_request.specs.Message.{TimeSeries}
use Rattle.rw_write_request.specs.Texts.{series_of_texts}
use Rattle.rw_head.specs.Verdicts.{taken}
use Rattle.rw_head.specs.inner.Lists.{StoreGives}
use Rattle.rw_head.proofs.table.Table.stage_lent.Goals as goal

pub returns-clause-staged : goal.returns-clause-staged
returns-clause-staged c =
    let shown = ap (λ ts. series_of_texts ts c.deref-2.result.now) c.deref.ensures.value ∙ ap (series_of_texts c.series.inside.labels.items) c.deref-2.ensures.value ∙ c.series.view_is in
    subst (λ (s : TimeSeries). StoreGives c.stage.result (taken c.args.bounds.now c.args.self.now.staged s) c.stage.new.self.staged) shown c.stage.ensures.staged
