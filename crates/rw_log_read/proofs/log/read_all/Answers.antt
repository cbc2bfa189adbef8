use Rattle.std.proofs.Common.{◌∙◌, refl, sym, arith}
use Rattle.rw_types.proofs.shared.AnswerLemmas.{None-from_not_some}
use Rattle.rw_log_read.proofs.shared.LogLemmas.{first_row, going_more, going_none, stops}
use Rattle.rw_log_read.proofs.shared.ReadingLemmas.{is_faulty}
use Rattle.rw_log_read.proofs.log.read_all.Goals as goal

pub loop-init : goal.loop-init
loop-init g c = record { going = going_none _ _ _ _ _ c.requires; fixed = refl; room = rw c.in_ok-chunk.ensures (omega arith); later = λ h. h }

pub read_segment-requires : goal.read_segment-requires
read_segment-requires g c = record { room = omega (arith, c.deref_mut.ensures.len, c.loop.invariant.room); sound = c.loop.invariant.going.so_far.all }

pub returns-then-is_some-clause-ok : goal.returns-then-is_some-clause-ok
returns-then-is_some-clause-ok g c =
    let going = c.loop.invariant.going in
    let first = first_row _ _ _ _ _ going.so_far.rows_are c.loop.rows.ok.0 c.is_empty-is_first.ensures in
    stops _ _ _ _ _ _ _ _ _ _ _ _ _ _ _ _ going first c.in_ok-row.ensures.ok c.in_ok-add_row.ensures (λ none. absurd (is_faulty _ (sym c.is_some.ensures ∙ c.if-is_some.true) none))

pub returns-then-not-read-clause-ok : goal.returns-then-not-read-clause-ok
returns-then-not-read-clause-ok g c =
    let going = c.loop.invariant.going in
    let first = first_row _ _ _ _ _ going.so_far.rows_are c.loop.rows.ok.0 c.is_empty-is_first.ensures in
    stops _ _ _ _ _ _ _ _ _ _ _ _ _ _ _ _ going first c.in_ok-row.ensures.ok c.in_ok-add_row.ensures (λ none. c.if-not-read.true)

pub advance-requires : goal.advance-requires
advance-requires g c =
    let next = c.in_ok-row.ensures.ok.is.next (None-from_not_some _ (sym c.is_some.ensures ∙ c.if-is_some.false)) c.if-not-read.false in
    record { read = next.0; followed = next.1 }

pub loop-preserved : goal.loop-preserved
loop-preserved g c =
    let going = c.loop.invariant.going in
    let first = first_row _ _ _ _ _ going.so_far.rows_are c.loop.rows.ok.0 c.is_empty-is_first.ensures in
    record {
      going = going_more _ _ _ _ _ _ _ _ _ _ _ _ _ _ _ _ _ going first c.in_ok-row.ensures.ok (None-from_not_some _ (sym c.is_some.ensures ∙ c.if-is_some.false)) c.in_ok-add_row.ensures c.in_ok-advance.ensures.steps;
      fixed = c.in_ok-row.ensures.fixed ∙ c.loop.invariant.fixed;
      room = c.loop.invariant.room;
      later = λ h. c.loop.invariant.later (c.in_ok-row.ensures.later (c.advance.ensures.later _ h));
    }
