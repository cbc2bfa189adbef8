use Rattle.std.proofs.Common.{◌≡◌, ℕ, List, ◌++◌, ◌∙◌, ap, sym, subst, Some, append_assoc, arith}
use Rattle.std.proofs.lemmas.List.{append-nil}
use Rattle.std.specs.Io.KnownBytes.{Keeps, prepend_known}
use Rattle.rw_endpoint.proofs.KnownLemmas.{keeps_body}
use Rattle.rw_endpoint.proofs.RecordedLemmas.{body_more}
use Rattle.rw_endpoint.proofs.input.read_body.Goals as goal

pub returns-in-Err-read_more-clause-recorded : goal.returns-in-Err-read_more-clause-recorded
returns-in-Err-read_more-clause-recorded g c = λ past e.
    let h = c.loop-body.invariant.recorded past e in
    let s = c.in-Err-read_more.ensures.recorded (past ++ h.0) h.1 in
    (h.0 ++ s.0, s.1 ∙ ap Some (append_assoc past h.0 s.0), tt)

pub returns-then-more-eq0-clause-recorded : goal.returns-then-more-eq0-clause-recorded
returns-then-more-eq0-clause-recorded g c = λ past e.
    let h = c.loop-body.invariant.recorded past e in
    let s = c.in-Ok-read_more.ensures.recorded (past ++ h.0) h.1 in
    let none = c.loop-body.invariant.empty (omega (arith, c.len-in-loop-body.ensures, c.loop-body-test.true)) in
    let all = body_more c.args.pending.now c.loop-body.body.items c.read_more.new.body.items c.drop_front.new.self h.0 s.0 none h.2 (s.2 ∙ ap (λ (t : List ℕ). t ++ s.0) c.make_room.ensures.items) in (
      h.0 ++ s.0,
      s.1 ∙ ap Some (append_assoc past h.0 s.0),
      (
        c.read_more.new.body.items,
        sym all ∙ ap (λ t. c.read_more.new.body.items ++ t) none,
        omega (arith, c.in-Ok-read_more.ensures.len, c.if-more-eq0.true, c.len-in-loop-body.ensures, c.loop-body-test.true),
      ),
    )

pub loop-body-preserved : goal.loop-body-preserved
loop-body-preserved g c = record {
  kept =
      let none = c.loop-body.invariant.empty (omega (arith, c.len-in-loop-body.ensures, c.loop-body-test.true)) in
      keeps_body _ c.loop-body.body.items c.read_more.new.body.items c.drop_front.new.self _ _ none c.loop-body.invariant.kept
      (subst (λ (t : List ℕ). Keeps (prepend_known t (g.T.ReadFrom.remaining c.loop-body.reader)) (prepend_known c.read_more.new.body.items (g.T.ReadFrom.remaining c.read_more.new.reader))) c.make_room.ensures.items c.in-Ok-read_more.ensures.kept);
  bound = omega (arith, c.in-Ok-read_more.ensures.len, c.in-Ok-read_more.ensures.bound, c.in_ok-room.ensures.within, c.make_room.ensures.len);
  empty = λ less. c.loop-body.invariant.empty (omega (arith, c.len-in-loop-body.ensures, c.loop-body-test.true));
  sure = λ s. (c.in-Ok-read_more.ensures.sure (c.loop-body.invariant.sure s)).0;
  recorded = λ past e.
      let h = c.loop-body.invariant.recorded past e in
      let s = c.in-Ok-read_more.ensures.recorded (past ++ h.0) h.1 in
      let none = c.loop-body.invariant.empty (omega (arith, c.len-in-loop-body.ensures, c.loop-body-test.true)) in (
        h.0 ++ s.0,
        s.1 ∙ ap Some (append_assoc past h.0 s.0),
        body_more c.args.pending.now c.loop-body.body.items c.read_more.new.body.items c.drop_front.new.self h.0 s.0 none h.2 (s.2 ∙ ap (λ (t : List ℕ). t ++ s.0) c.make_room.ensures.items),
      );
}
