use Rattle.std.proofs.Common.{rules, ◌∙◌, ap, sym, Some, ℤ, FitsSigned, w64, to_z-of_z}
use Rattle.rw_batch.specs.Grouping.{with_sample}
use Rattle.rw_log_commands.proofs.LabellingLemmas.{definition_taken, sample_left_out, sample_taken, number_stands, kept_in, not_kept}
use Rattle.rw_log_commands.proofs.labelling.Labelling.take.Goals.{in-Def+in_ok-define-in-Def, in-Sample+in-Kept+in_ok-add-in-Sample, in-Sample+in_default}
use Rattle.rw_log_commands.proofs.labelling.Labelling.take.Goals as goal

pub add-requires : goal.add-requires
add-requires c = number_stands _ _ _ _ _ _ _ c.look.ensures.log (ap kept_in c.in-Kept.is ∙ ap (λ l. Some (c.in-Kept.number, l)) (sym c.deref.ensures)) c.self.invariant

pub invariant_of-self-2 : goal.invariant_of-self-2
invariant_of-self-2 c = elim c.match-entry.branch [
  | in-Def+in_ok-define-in-Def w ↦
      rw (c.push.ensures, c.again-taken.ensures, w.self-inside-is, w.in-Def.is)
      (definition_taken _ _ _ _ _ _ w.in_ok-define-in-Def.ensures.ok c.self.invariant)
  | in-Sample+in-Kept+in_ok-add-in-Sample w ↦
      let fits : FitsSigned w64 w.in-Sample.t = search rules in
      let labels = w.deref.result.now in
      let series = w.in_ok-add-in-Sample.ensures.series ∙ ap (λ (z : ℤ). with_sample labels (w.in-Sample.word, z) c.self.inside.grouping.series) (to_z-of_z {w = w64} {z = w.in-Sample.t} fits) in
      rw (c.push.ensures, c.again-taken.ensures, w.self-inside-is, w.in-Sample.is)
      (sample_taken _ _ _ _ _ _ _ _ _ _ w.look.ensures.log (ap kept_in w.in-Kept.is ∙ ap (λ l. Some (w.in-Kept.number, l)) (sym w.deref.ensures)) series w.in_ok-add-in-Sample.ensures.numbers c.self.invariant)
  | in-Sample+in_default w ↦
      rw (c.push.ensures, c.again-taken.ensures, w.self-inside-is, w.in-Sample.is)
      (sample_left_out _ _ _ _ _ _ _ w.look.ensures.log (not_kept _ w.in_default.not-Kept) c.self.invariant)
]
