use Rattle.std.proofs.Common.{rules, ◌≡◌, ℕ, List, [], ◌∷◌, ◌++◌, sym, ◌∙◌, ap}
use Rattle.rw_types.specs.Labels.{Labels}
use Rattle.rw_text.specs.LabelText.{labels_text}
use Rattle.rw_text.proofs.LabelLemmas.{no_brace, labels_text-nil, first_fails, underway_begins, underway_more, underway_ends, underway_stops, underway_fails}
use Rattle.rw_text.proofs.labels.read_labels.Goals as goal

pub returns-in_default-clause-err : goal.returns-in_default-clause-err
returns-in_default-clause-err c = λ _. no_brace c.args.text.now c.in_default.ensures

pub returns-then-eq-clause-ok : goal.returns-then-eq-clause-ok
returns-then-eq-clause-ok c =
    let closes : c.in-Some.inside.now ≡ 125 ∷ [] = search rules in
    c.in-Some.ensures ∙ ap (λ (t : List ℕ). 123 ∷ t) closes ∙ sym labels_text-nil ∙ ap labels_text (sym (c.into_labels.ensures ∙ c.new-reader.ensures))

pub returns-in_err-rest-clause-err : goal.returns-in_err-rest-clause-err
returns-in_err-rest-clause-err c = λ e. first_fails c.args.text.now c.in-Some.inside.now c.in-Some.ensures (search rules) (c.in_err-rest.ensures.err (search rules))

pub loop-next-init : goal.loop-next-init
loop-next-init c =
    let found = c.in_ok-rest.ensures.ok in
    let alone : c.read_label.new.self.labels ≡ found.0 ∷ [] = found.1 ∙ ap (λ (ls : Labels). ls ++ found.0 ∷ []) c.new-reader.ensures in
    rw alone (underway_begins c.args.text.now c.in-Some.inside.now found.0 c.in_ok-rest.rest.now c.in-Some.ensures (search rules) found.2)

pub returns-in_err-rest-2-clause-err : goal.returns-in_err-rest-2-clause-err
returns-in_err-rest-2-clause-err c =
    λ e. underway_stops c.args.text.now c.loop-next.reader.labels c.loop-next.rest.now c.in-Some-after.next.now c.loop-next.invariant c.in-Some-after.ensures (c.in_err-rest-2.ensures.err (search rules))

pub loop-next-preserved : goal.loop-next-preserved
loop-next-preserved c =
    let found = c.in_ok-rest-2.ensures.ok in
    rw found.1 (underway_more c.args.text.now c.loop-next.reader.labels c.loop-next.rest.now c.in-Some-after.next.now found.0 c.in_ok-rest-2.rest.now c.loop-next.invariant c.in-Some-after.ensures found.2)

pub returns-then-ne-clause-err : goal.returns-then-ne-clause-err
returns-then-ne-clause-err c = λ _. underway_fails c.args.text.now c.loop-next.reader.labels c.loop-next.rest.now c.loop-next.invariant (search rules) c.in_default-after.ensures

pub returns-clause-ok : goal.returns-clause-ok
returns-clause-ok c =
    underway_ends c.args.text.now c.loop-next.reader.labels c.loop-next.rest.now c.loop-next.invariant (search rules)
    ∙ ap labels_text (sym c.into_labels-2.ensures)
