use Rattle.std.proofs.Common.{◌≡◌, true, false, None, Ok, refl, ◌∙◌, sym, ap, arith}
use Rattle.rw_types.proofs.shared.AnswerLemmas.{None-from_not_some}
use Rattle.rw_log_read.proofs.shared.ReadingLemmas.{has_fed-end, has_fed-look, has_fed-more, has_fed-none, is_faulty, reads_to_end, reads_to_fault, reads_to_last}
use Rattle.rw_log_read.proofs.segment_text.read_text.Goals.{then-is_some-2-via-else-is_some-2+then-is_followed, then-is_some-2-via-then-is_some-2}
use Rattle.rw_log_read.proofs.segment_text.read_text.Goals as goal

pub loop-init : goal.loop-init
loop-init g c = record {
  fed = has_fed-none _ _ _ c.requires.taken;
  followed = λ e. let no : false ≡ true = e in absurd cc;
  fixed = refl;
  room = c.requires.room;
  later = λ h. h;
}

pub returns-then-not-past_fault-clause-ok : goal.returns-then-not-past_fault-clause-ok
returns-then-not-past_fault-clause-ok g c =
    reads_to_fault _ _ _ _ _ _ _ _ _ _ _ _ _ c.loop.invariant.fed c.in_ok-fault.ensures.all c.take_all.ensures.pieces (sym c.is_some.ensures ∙ c.if-is_some.true) c.if-not-past_fault.true

pub loop-preserved-in-Some : goal.loop-preserved-in-Some
loop-preserved-in-Some g c = record {
  fed = has_fed-more _ _ _ _ _ _ _ _ _ _ _ _ _ _ c.loop.invariant.fed c.in_ok-fault.ensures.all c.take_all.ensures.pieces (c.feed_some.ensures.more _ (c.in_ok-more.was ∙ ap Ok c.in-Some.is)) c.in_ok-bytes.ensures;
  followed = λ e. c.feed_some.ensures.followed (c.loop.invariant.followed e);
  fixed = c.in_ok-fault.ensures.fixed ∙ c.loop.invariant.fixed;
  room = omega (arith, c.loop.invariant.room, c.loop.auto.chunk, c.feed_some.auto.chunk);
  later = λ h. c.loop.invariant.later (c.feed_some.ensures.later h);
}

pub returns-then-is_some-2-clause-ok : goal.returns-then-is_some-2-clause-ok
returns-then-is_some-2-clause-ok g c =
    let ended = c.feed_some.ensures.end (c.in_ok-more.was ∙ ap Ok c.in_default.is) in
    let other : c.in_ok-fault.fault ≡ None → c.loop.is_followed ≡ false → ⊥ = elim c.then-is_some-2.branch [
      | then-is_some-2-via-then-is_some-2 w ↦ λ none last. is_faulty _ (sym c.is_some-in-loop.ensures ∙ w.if-is_some-2.true) none
      | then-is_some-2-via-else-is_some-2+then-is_followed w ↦ λ none last. let no : true ≡ false = sym w.if-is_followed.true ∙ last in absurd cc
    ] in
    reads_to_end _ _ _ _ _ _ _ _ _ _ _ _ _ _ _ c.loop.invariant.fed c.in_ok-fault.ensures.all c.take_all.ensures.pieces ended.0 ended.2 ended.1 (λ e. c.feed_some.ensures.followed (c.loop.invariant.followed e)) other

pub returns-then-not-branch-clause-ok : goal.returns-then-not-branch-clause-ok
returns-then-not-branch-clause-ok g c =
    let ended = c.feed_some.ensures.end (c.in_ok-more.was ∙ ap Ok c.in_default.is) in
    reads_to_last _ _ _ _ _ _ _ _ _ _ _ _ _ _ _ _ c.loop.invariant.fed c.in_ok-fault.ensures.all c.take_all.ensures.pieces ended.0 ended.2 (None-from_not_some _ (sym c.is_some-in-loop.ensures ∙ c.if-is_some-2.false)) c.if-is_followed.false
    c.has_next.ensures.stays (c.has_next.ensures.all (c.in_ok-has_next.was ∙ ap Ok c.if-not-branch.true) ended.1)

pub loop-preserved : goal.loop-preserved
loop-preserved g c =
    let ended = c.feed_some.ensures.end (c.in_ok-more.was ∙ ap Ok c.in_default.is) in
    record {
      fed = has_fed-look _ _ _ _ _ _ _ _ (has_fed-end _ _ _ _ _ _ _ _ _ _ _ _ c.loop.invariant.fed c.in_ok-fault.ensures.all c.take_all.ensures.pieces ended.0 ended.2) c.has_next.ensures.stays;
      followed = λ e. c.has_next.ensures.followed (c.in_ok-has_next.was ∙ ap Ok c.if-not-branch.false);
      fixed = c.in_ok-fault.ensures.fixed ∙ c.loop.invariant.fixed;
      room = omega (arith, c.loop.invariant.room, c.loop.auto.chunk, c.feed_some.auto.chunk);
      later = λ h. c.loop.invariant.later (c.feed_some.ensures.later (c.has_next.ensures.later h));
    }
