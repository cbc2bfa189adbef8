use Rattle.std.proofs.Common.{Some, inl, inr, refl}
use Rattle.rw_log_commands.proofs.PlanRuns.{digits_to_fault, ok_so, plans_digits, plans_digits_part, stands_for}
use Rattle.rw_log_commands.proofs.plan.plan_digits.Goals as goal

pub returns-clause-ok : goal.returns-clause-ok
returns-clause-ok g c =
    let stands = stands_for _ _ _ _ c.in_ok-segment.ensures.bytes c.deref.ensures.value c.as_slice.ensures.value in
    let contents = g.W.Sink.contents in
    ok_so _ _ _ (plans_digits c.args.choice c.args.external c.args.may_compress _ _ (Some c.plan_segment.new.reader.now) (contents c.args.writer.now) (contents c.plan_segment.new.writer) _ _ c.in_ok-text.ensures.read c.in_ok-text.ensures.end stands) c.plan_segment.ensures.ok

pub returns-clause-log : goal.returns-clause-log
returns-clause-log g c f is =
    let stands = stands_for _ _ _ _ c.in_ok-segment.ensures.bytes c.deref.ensures.value c.as_slice.ensures.value in
    digits_to_fault c.args.may_compress f _ _ (Some c.plan_segment.new.reader.now) _ _ c.in_ok-text.ensures.read c.in_ok-text.ensures.end stands (c.plan_segment.ensures.log f is)

pub returns-clause-device : goal.returns-clause-device
returns-clause-device g c is =
    let stands = stands_for _ _ _ _ c.in_ok-segment.ensures.bytes c.deref.ensures.value c.as_slice.ensures.value in
    let contents = g.W.Sink.contents in
    elim (c.plan_segment.ensures.device is) [
      | inl h ↦ absurd (h.0 refl)
      | inr h ↦
          inr
          (h.0, plans_digits_part c.args.choice c.args.external c.args.may_compress _ _ (Some c.plan_segment.new.reader.now) (contents c.args.writer.now) (contents c.plan_segment.new.writer) _ _ c.in_ok-text.ensures.read c.in_ok-text.ensures.end stands h.1)
    ]
