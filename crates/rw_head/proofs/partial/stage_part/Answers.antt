use Rattle.std.proofs.Common.{◌≡◌, ◌++◌, append-nil, false, map, ap, subst, sym, ◌∙◌, rules}
use Rattle.rw_types.specs.Labels.{Labels, text_label}
use Rattle.rw_write_request.specs.Message.{WriteRequest}
use Rattle.rw_head.specs.Verdicts.{refusal}
use Rattle.rw_head.specs.inner.Partial.{IsRefusedUnless}
use Rattle.rw_head.proofs.PartialLemmas.{labels_refused}
use Rattle.rw_head.proofs.partial.stage_part.Goals as goal

pub returns-then-not-branch-clause-staged : goal.returns-then-not-branch-clause-staged
returns-then-not-branch-clause-staged c =
    let limits = c.args.bounds.now in
    let s = c.args.series in
    let off : c.in_ok-takes_labels.field-0 ≡ false = search rules in
    let shown : map text_label c.deref.result.now ≡ s.labels = ap (λ ts. map text_label ts) c.deref.ensures.value ∙ ap (λ s. s.labels) c.series.view_is in
    let h = subst (λ (l : Labels). IsRefusedUnless c.in_ok-takes_labels.field-0 (refusal limits l)) shown c.in_ok-takes_labels.ensures in
    sym ((labels_refused limits c.args.table.now.staged s c.in_ok-takes_labels.field-0 off h).1)

pub returns-then-not-branch-clause-taken : goal.returns-then-not-branch-clause-taken
returns-then-not-branch-clause-taken c =
    let limits = c.args.bounds.now in
    let s = c.args.series in
    let off : c.in_ok-takes_labels.field-0 ≡ false = search rules in
    let shown : map text_label c.deref.result.now ≡ s.labels = ap (λ ts. map text_label ts) c.deref.ensures.value ∙ ap (λ s. s.labels) c.series.view_is in
    let h = subst (λ (l : Labels). IsRefusedUnless c.in_ok-takes_labels.field-0 (refusal limits l)) shown c.in_ok-takes_labels.ensures in
    let none = (labels_refused limits c.args.table.now.staged s c.in_ok-takes_labels.field-0 off h).0 in
    sym (ap (λ (xs : WriteRequest). c.args.message.now.items ++ xs) none ∙ append-nil c.args.message.now.items)
