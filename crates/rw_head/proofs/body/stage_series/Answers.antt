use Rattle.std.proofs.Common.{◌≡◌, true, false, sym, ap, subst, rules, arith}
use Rattle.std.proofs.lemmas.Result.{err_from_is_err_and}
use Rattle.rw_write_request.specs.Read.{read_series}
use Rattle.rw_head.specs.inner.Bodies.{Takes, Refuses}
use Rattle.rw_head.specs.inner.Growth.{HoldsNoneRefused}
use Rattle.rw_head.specs.Store.{Store}
use Rattle.rw_head.specs.Verdicts.{LabelLimits}
use Rattle.rw_head.proofs.shared.BodyLemmas.{known_true, known_false, few_labels}
use Rattle.rw_head.proofs.body.stage_series.Goals as goal

pub returns-then-branch-clause-staged : goal.returns-then-branch-clause-staged
returns-then-branch-clause-staged c =
    let yes : c.in_ok-stage_known.field-0 ≡ true = search rules in
    known_true c.in_ok-stage_known.field-0 c.args.bounds.now c.args.table.now.staged c.stage_known.new.self.staged (read_series c.args.bytes.now) yes
    (c.in_ok-stage_known.ensures.staged c.args.bounds.now c.requires)

pub stage_read-requires-clause-within : goal.stage_read-requires-clause-within
stage_read-requires-clause-within c =
    let no : c.in_ok-stage_known.field-0 ≡ false = search rules in
    let same = known_false c.in_ok-stage_known.field-0 c.args.bounds.now c.args.table.now.staged c.stage_known.new.self.staged (read_series c.args.bytes.now) no
    (c.in_ok-stage_known.ensures.staged c.args.bounds.now c.requires) in
    subst (HoldsNoneRefused c.args.bounds.now) (sym same) c.requires

pub stage_read-requires-clause-few : goal.stage_read-requires-clause-few
stage_read-requires-clause-few c = few_labels c.args.bounds.now c.label_count.result (read_series c.args.bytes.now) c.label_count.ensures (omega (arith, ap (λ (b : LabelLimits). b.max_labels) c.bounds.view_is))

pub returns-in_err-stage_read-clause-staged : goal.returns-in_err-stage_read-clause-staged
returns-in_err-stage_read-clause-staged c =
    let no : c.in_ok-stage_known.field-0 ≡ false = search rules in
    let same = known_false c.in_ok-stage_known.field-0 c.args.bounds.now c.args.table.now.staged c.stage_known.new.self.staged (read_series c.args.bytes.now) no
    (c.in_ok-stage_known.ensures.staged c.args.bounds.now c.requires) in
    let p = err_from_is_err_and c.from_residual-in_err-stage_read.result c.from_residual-in_err-stage_read.ensures.1 in
    rw (p.1, p.2) (λ other.
    let g = c.in_err-stage_read.ensures.staged other in
    (g.0, subst (λ (s : Store). Refuses c.args.bounds.now s (read_series c.args.bytes.now)) same g.1))

pub returns-clause-staged : goal.returns-clause-staged
returns-clause-staged c =
    let no : c.in_ok-stage_known.field-0 ≡ false = search rules in
    let same = known_false c.in_ok-stage_known.field-0 c.args.bounds.now c.args.table.now.staged c.stage_known.new.self.staged (read_series c.args.bytes.now) no
    (c.in_ok-stage_known.ensures.staged c.args.bounds.now c.requires) in
    let found = c.in_ok-stage_read.ensures.staged in
    let here = subst (λ (s : Store). Takes c.args.bounds.now s (read_series c.args.bytes.now) c.stage_read.new.table.staged) same found in
    subst (λ (s : Store). Takes c.args.bounds.now c.args.table.now.staged (read_series c.args.bytes.now) s) (sym (ap (λ s. s.staged) c.learn.ensures)) here
