use Rattle.std.proofs.Common.{rules, List, [], ◌∷◌, ◌++◌, ◌∙◌, ap}
use Rattle.rw_types.specs.declared.entry.Entry.{Entry}
use Rattle.rw_inspect.specs.inner.Counting.{IsPlaced}
use Rattle.rw_log_read.specs.Sums.{sums_with_entry}
use Rattle.rw_inspect.proofs.CounterLemmas.{counter_definition, counter_sample}
use Rattle.rw_inspect.proofs.counter.Counter.take.Goals.{in-Def+in_ok-define-in-Def, in-Sample+in_ok-place-in-Sample}
use Rattle.rw_inspect.proofs.counter.Counter.take.Goals as goal

pub invariant_of-self-2 : goal.invariant_of-self-2
invariant_of-self-2 c =
    let taken = c.push.ensures ∙ ap (λ (es : List Entry). es ++ c.args.entry ∷ []) c.again-taken.ensures in
    elim c.match-entry-3.branch [
      | in-Def+in_ok-define-in-Def w ↦
          rw w.self-inside-is
          (counter_definition _ _ _ _ _ _ _ _ _ _ _ c.self.invariant (taken ∙ ap (λ (e : Entry). c.self.inside.taken ++ e ∷ []) w.in-Def.is) c.in_ok-count.ensures
          (c.in_ok-sums.ensures ∙ ap (sums_with_entry c.self.inside.sums) w.in-Def.is) w.in_ok-define-in-Def.ensures.ok)
      | in-Sample+in_ok-place-in-Sample w ↦
          let placed : IsPlaced c.self.inside.cache w.place.new.cache c.self.inside.troubles w.place.new.troubles c.self.inside.count w.in-Sample.reference w.in-Sample.t = search rules in
          rw w.self-inside-is
          (counter_sample _ _ _ _ _ _ _ _ _ _ _ _ _ c.self.invariant (taken ∙ ap (λ (e : Entry). c.self.inside.taken ++ e ∷ []) w.in-Sample.is) c.in_ok-count.ensures
          (c.in_ok-sums.ensures ∙ ap (sums_with_entry c.self.inside.sums) w.in-Sample.is) placed)
    ]
