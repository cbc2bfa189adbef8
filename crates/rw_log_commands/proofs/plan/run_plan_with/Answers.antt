use Rattle.std.proofs.Common.{inl, inr}
use Rattle.rw_log_commands.proofs.plan.run_plan_with.Goals as goal

pub returns-then-not-hex-clause-ok : goal.returns-then-not-hex-clause-ok
returns-then-not-hex-clause-ok g c = rw c.if-not-hex.true (rw (← c.choice_in-choice.ensures) c.plan_segment.ensures.ok)

pub returns-then-not-hex-clause-device : goal.returns-then-not-hex-clause-device
returns-then-not-hex-clause-device g c =
    rw c.if-not-hex.true (rw (← c.choice_in-choice.ensures)
    (λ is. elim (c.plan_segment.ensures.device is) [
      | inl h ↦ inl (h.1, h.2)
      | inr h ↦ inr h
    ]))

pub returns-clause-ok : goal.returns-clause-ok
returns-clause-ok g c = rw c.if-not-hex.false (rw (← c.choice_in-choice.ensures) c.plan_digits.ensures.ok)

pub returns-clause-device : goal.returns-clause-device
returns-clause-device g c = rw c.if-not-hex.false (rw (← c.choice_in-choice.ensures) c.plan_digits.ensures.device)
