use Rattle.std.proofs.Common.{◌≡◌, true, false, sym, ◌∙◌, ap, subst, is_some}
use Rattle.std.specs.Arc.{arc_value}
use Rattle.rw_types.specs.Labels.{IsLabelSet}
use Rattle.rw_relabel.specs.Rules.{keeps}
use Rattle.rw_series_cache.specs.inner.Cached.{Judged, Judges}
use Rattle.rw_series_cache.specs.declared.verdict.Verdict.TheVariants as verdict
use Rattle.rw_series_cache.proofs.JudgedLemmas.{judged_as, judged_too, found_again, newly_kept}
use Rattle.rw_series_cache.proofs.label_sets.LabelSets.judge_set.Goals as goal

pub returns-in-Some-clause-ok : goal.returns-in-Some-clause-ok
returns-in-Some-clause-ok c =
    let label_set = subst (λ (j : Judged). IsLabelSet j.choice.names c.args.set) (sym c.self.view_is) c.requires in
    subst (λ j. Judges j j c.args.set (verdict.Kept c.in-Some.number)) c.self.view_is
    (found_again c.self.inside.choice c.self.inside.kept.keys c.in_ok-set.set c.args.set c.in-Some.number c.in_ok-set.ensures.ok label_set c.self.invariant.0 c.in-Some.ensures.index c.in-Some.ensures.found)

pub invariant_of-self-then-branch : goal.invariant_of-self-then-branch
invariant_of-self-then-branch c =
    let keep : keeps c.self.inside.choice.rules (arc_value c.in_ok-set.set) ≡ true = ap (keeps c.self.inside.choice.rules) (sym c.deref.ensures) ∙ sym c.in_ok-keeps.ensures ∙ c.if-branch.true in (
      judged_too c.self.inside.choice true c.self.inside.kept.keys c.insert_full.new.self.keys c.in_ok-set.set c.self.invariant.0 keep c.in_ok-number.ensures.updates.0,
      c.self.invariant.1,
    )

pub invariant_of-self-else-branch : goal.invariant_of-self-else-branch
invariant_of-self-else-branch c =
    let drop : keeps c.self.inside.choice.rules (arc_value c.in_ok-set.set) ≡ false = ap (keeps c.self.inside.choice.rules) (sym c.deref.ensures) ∙ sym c.in_ok-keeps.ensures ∙ c.if-branch.false in (
      c.self.invariant.0,
      judged_too c.self.inside.choice false c.self.inside.dropped.keys c.insert.new.self.keys c.in_ok-set.set c.self.invariant.1 drop c.in_ok-insert.ensures.updates.0,
    )

pub returns-in_ok-number-clause-ok : goal.returns-in_ok-number-clause-ok
returns-in_ok-number-clause-ok c =
    let label_set = subst (λ (j : Judged). IsLabelSet j.choice.names c.args.set) (sym c.self.view_is) c.requires in
    let keep : keeps c.self.inside.choice.rules (arc_value c.in_ok-set.set) ≡ true = ap (keeps c.self.inside.choice.rules) (sym c.deref.ensures) ∙ sym c.in_ok-keeps.ensures ∙ c.if-branch.true in
    subst (λ j. Judges j (judged_as c.self.inside.choice c.insert_full.new.self.keys) c.args.set (verdict.Kept c.in_ok-number.number)) c.self.view_is
    (newly_kept c.self.inside.choice c.self.inside.kept.keys c.insert_full.new.self.keys c.in_ok-set.set c.args.set c.in_ok-number.number c.in_ok-set.ensures.ok label_set keep
    (sym c.get_index_of.ensures.found ∙ ap is_some c.in_default.is) c.in_ok-number.ensures.keys c.in_ok-number.ensures.index)
