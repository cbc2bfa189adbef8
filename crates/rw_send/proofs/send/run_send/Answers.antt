use Rattle.std.proofs.Common.{◌≡◌, map, Ok, sym, ◌∙◌}
use Rattle.std.specs.Prelude.{⊤}
use Rattle.rw_send.specs.declared.follow_fault.FollowFault.TheVariants.{Tool}
use Rattle.rw_send.proofs.AnswerLemmas.{failed}
use Rattle.rw_send.proofs.PrintLemmas.{prints_so, sure_so}
use Rattle.rw_send.proofs.send.run_send.Goals as goal

pub returns-in-Ok-clause-prints : goal.returns-in-Ok-clause-prints
returns-in-Ok-clause-prints g c =
    let lefts = map g.S.Source.remaining c.args.segments.items in
    let now = map g.S.Source.remaining c.run_follow-ended.new.segments in (
      now,
      sure_so _ _ _ _ _ _ _ _ _ _ ⊤ ⊤ lefts now g.S.Source.is_sure c.new-log.result c.args.segments.items (Ok tt)
          c.new-log.ensures.readers (prints_so _ _ _ _ _ _ _ _ _ _ _ _ _ _ (Ok tt) (sym c.answer_of.ensures ∙ c.in-Ok.is) (c.run_follow-ended.ensures.prints lefts c.new-log.ensures.unread)),
    )

pub returns-in-Err-Tool-clause-prints : goal.returns-in-Err-Tool-clause-prints
returns-in-Err-Tool-clause-prints g c =
    let a = c.in-Err-Tool.field-0-is in
    let b = c.in-Err-Tool.fault-is in
    let e : failed c.in-Err-Tool.field-0 ≡ failed (Tool c.in-Err-Tool.fault) = cc in
    let lefts = map g.S.Source.remaining c.args.segments.items in
    let now = map g.S.Source.remaining c.run_follow-ended.new.segments in (
      now,
      prints_so _ _ _ _ _ _ _ _ _ _ _ _ _ (failed c.in-Err-Tool.field-0) (failed (Tool c.in-Err-Tool.fault)) e
          (sure_so _ _ _ _ _ _ _ _ _ _ _ _ lefts now g.S.Source.is_sure c.new-log.result c.args.segments.items (failed c.in-Err-Tool.field-0)
          c.new-log.ensures.readers (prints_so _ _ _ _ _ _ _ _ _ _ _ _ _ _ (failed c.in-Err-Tool.field-0) (sym c.answer_of.ensures ∙ c.in-Err-Tool.is) (c.run_follow-ended.ensures.prints lefts c.new-log.ensures.unread))),
    )
