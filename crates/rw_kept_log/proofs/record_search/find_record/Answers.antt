use Rattle.std.proofs.Common.{◌≡◌, inl, inr, subst, arith}
use Rattle.std.proofs.lemmas.Bool.{cases_lt}
use Rattle.rw_kept_log.specs.Records.{IsRecordAt}
use Rattle.rw_kept_log.proofs.RecordAtLemmas.{past_end, seen_none}
use Rattle.rw_kept_log.proofs.record_search.find_record.Goals as goal
use Rattle.rw_kept_log.proofs.record_search.find_record.Goals.{else-at-offset-via-then-at-offset+else-has_record, else-at-offset-via-else-at-offset}

pub loop-at-init : goal.loop-at-init
loop-at-init c = λ o later before is. absurd (omega (arith, later, before))

pub loop-at-preserved : goal.loop-at-preserved
loop-at-preserved c = λ o later before is. elim (cases_lt o c.loop-at.at) [
  | inl l ↦ c.loop-at.invariant o later l is
  | inr g ↦
      (let same : o ≡ c.loop-at.at = omega (arith, before, g) in
      let there = subst (IsRecordAt c.args.text.now) same is in
      elim c.else-at-offset.branch [
        | else-at-offset-via-then-at-offset+else-has_record w ↦ seen_none c.args.text.now c.loop-at.at w.has_record.result w.has_record.ensures w.if-has_record.false there
        | else-at-offset-via-else-at-offset w ↦ omega (arith, w.if-at-offset.false, later, same)
      ])
]

pub returns : goal.returns
returns c = λ o later is. elim (cases_lt o c.loop-at.at) [
  | inl l ↦ c.loop-at.invariant o later l is
  | inr g ↦ past_end c.args.text.now o (omega (arith, c.loop-at-test.false, g)) is
]
