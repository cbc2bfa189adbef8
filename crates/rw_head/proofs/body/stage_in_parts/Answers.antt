use Rattle.std.proofs.Common.{List, [], sym, ap₂, ◌∙◌, map, rules}
use Rattle.std.proofs.lemmas.Result.{err_from_is_err_and}
use Rattle.rw_types.specs.Labels.{Labels, text_label}
use Rattle.rw_write_request.specs.Message.{Sample}
use Rattle.rw_write_request.specs.Texts.{series_of_texts}
use Rattle.rw_head.specs.Verdicts.{taken}
use Rattle.rw_head.proofs.shared.GrowthLemmas.{taken_within}
use Rattle.rw_head.proofs.PartLemmas.{labels_taken, one_part, part_refused, no_fault, parts_taken}
use Rattle.rw_head.proofs.body.stage_in_parts.Goals as goal

pub loop-rest-init : goal.loop-rest-init
loop-rest-init c =
    let limits = c.args.bounds.now in
    let first = c.args.table.now.staged in
    let names : Labels = map text_label c.in_ok-labels.labels.items in
    let found = c.in_ok-labels.ensures.found in
    let given = sym (ap₂ (λ ts (ss : List Sample). taken limits first (series_of_texts ts ss)) c.deref.ensures.value (c.deref-2.ensures.value ∙ c.new-samples.ensures.items)) ∙ c.in_ok-stage.ensures.staged in
    record {
      kept = c.in_ok-stage.ensures.kept;
      forgets = c.in_ok-stage.ensures.forgets;
      within = taken_within limits (record { labels = names; samples = [] }) first c.stage.new.self.staged c.requires.within given;
      staged = labels_taken limits first c.stage.new.self.staged c.args.bytes.now names found.0 found.1 given;
    }

pub returns-in_err-rest-clause-staged : goal.returns-in_err-rest-clause-staged
returns-in_err-rest-clause-staged c =
    let p = err_from_is_err_and c.from_residual-in_err-rest.result c.from_residual-in_err-rest.ensures.1 in
    let h = c.loop-rest.invariant.staged in
    rw (p.1, p.2) (λ ne. no_fault c.args.bounds.now c.args.table.now.staged c.loop-rest.table.staged c.args.bytes.now c.loop-rest.rest.now (map text_label c.in_ok-labels.labels.items) c.in_err-rest.field-0.0 c.in_err-rest.ensures.fault ne h)

pub loop-rest-preserved : goal.loop-rest-preserved
loop-rest-preserved c =
    let limits = c.args.bounds.now in
    let first = c.args.table.now.staged in
    let store = c.loop-rest.table.staged in
    let next = c.stage-in-loop-rest.new.self.staged in
    let names : Labels = map text_label c.in_ok-labels.labels.items in
    let part = c.next_samples.new.samples.items in
    let given = sym (ap₂ (λ ts (ss : List Sample). taken limits store (series_of_texts ts ss)) c.deref-in-loop-rest.ensures.value c.deref-in-loop-rest-2.ensures.value) ∙ c.in_ok-stage-2.ensures.staged in
    let h = c.loop-rest.invariant.staged in
    record {
      kept = c.in_ok-stage-2.ensures.kept ∙ c.loop-rest.invariant.kept;
      forgets = c.in_ok-stage-2.ensures.forgets ∙ c.loop-rest.invariant.forgets;
      within = taken_within limits (record { labels = names; samples = part }) store next c.loop-rest.invariant.within given;
      staged = one_part limits first store next c.args.bytes.now c.loop-rest.rest.now c.in_ok-rest.rest.now names part c.in_ok-rest.ensures.found given h;
    }

pub returns-in_err-stage-2-clause-staged : goal.returns-in_err-stage-2-clause-staged
returns-in_err-stage-2-clause-staged c =
    let limits = c.args.bounds.now in
    let first = c.args.table.now.staged in
    let store = c.loop-rest.table.staged in
    let names : Labels = map text_label c.in_ok-labels.labels.items in
    let part = c.next_samples.new.samples.items in
    let h = c.loop-rest.invariant.staged in
    let p = err_from_is_err_and c.from_residual-in_err-stage-2.result c.from_residual-in_err-stage-2.ensures.1 in
    rw (p.1, p.2) (λ other.
    part_refused limits first store c.args.bytes.now c.loop-rest.rest.now c.in_ok-rest.rest.now names part c.in_err-stage-2.field-0.0 c.samples_stay.ensures c.in_ok-rest.ensures.found (sym (ap₂ (λ ts (ss : List Sample). taken limits store (series_of_texts ts ss)) c.deref-in-loop-rest.ensures.value c.deref-in-loop-rest-2.ensures.value) ∙ c.in_err-stage-2.ensures.staged other) h)

pub returns-clause-staged : goal.returns-clause-staged
returns-clause-staged c =
    parts_taken c.args.bounds.now c.args.table.now.staged c.loop-rest.table.staged c.args.bytes.now c.loop-rest.rest.now (map text_label c.in_ok-labels.labels.items) (search rules) c.loop-rest.invariant.staged
