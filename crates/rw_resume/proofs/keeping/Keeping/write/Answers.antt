use Rattle.std.proofs.Common.{List, ℕ, Some, inl, inr, ap, ◌∙◌}
use Rattle.rw_resume.specs.Positions.{text_at}
use Rattle.rw_resume.proofs.keeping.Keeping.write.Goals as goal

pub returns-clause-either : goal.returns-clause-either
returns-clause-either g c = λ left may.
    elim (c.write_position.ensures.either left may) [
      | inl old ↦ inl old
      | inr is ↦ inr (is ∙ ap Some (c.deref.ensures.value ∙ c.in-Ok.ensures ∙ ap (λ (log : List ℕ). text_at log c.args.segment c.args.bytes) c.as_str.ensures.value))
    ]

pub returns-clause-any_moment : goal.returns-clause-any_moment
returns-clause-any_moment g c = λ left might.
    elim (c.write_position.ensures.any_moment left might) [
      | inl old ↦ inl old
      | inr is ↦ inr (is ∙ ap Some (c.deref.ensures.value ∙ c.in-Ok.ensures ∙ ap (λ (log : List ℕ). text_at log c.args.segment c.args.bytes) c.as_str.ensures.value))
    ]
