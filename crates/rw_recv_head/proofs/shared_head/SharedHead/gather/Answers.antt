use Rattle.std.proofs.Common.{◌≡◌, ℕ, ◌∙◌, ◌<◌, Some, slice_get, rules, arith, List, [], ◌∷◌, ◌++◌, length, length-append, append_assoc, append-nil, subst, sym, ap}
use Rattle.std.proofs.lemmas.List.{nil_from_length}
use Rattle.std.proofs.lemmas.List.Sums.{sum_by_push}
use Rattle.rw_recv_head.specs.declared.questions.PassState.{PassState}
use Rattle.rw_recv_head.specs.declared.question.Question.{Question}
use Rattle.rw_recv_head.specs.Seats.{bodies_of, store_after, Seated, HasAdmitted, Opening}
use Rattle.rw_recv_head.specs.inner.Questions.{Sight, IsSeat}
use Rattle.rw_recv_head.proofs.GatheringLemmas.{AreBack, none_are_back, one_more_back, gathers}
use Rattle.rw_recv_head.proofs.shared_head.SharedHead.gather.Goals as goal

pub loop-seat-init : goal.loop-seat-init
loop-seat-init g c =
    let into = c.into_iter-seat-iterator.ensures.into_iter_gives in record {
      parts = search rules;
      amount = search rules;
      asked = search rules;
      given = search rules;
      left = sym into.0;
      counted = into.1 ∙ c.args.seats.ok.0 ∙ ap length (sym into.0);
      back = none_are_back _ c.into_parts-head.ensures.none_back;
    }

pub loop-seat-preserved : goal.loop-seat-preserved
loop-seat-preserved g c =
    let i = c.loop-seat.invariant in
    let m = c.merge.ensures in
    let s = c.into_parts-share.ensures in
    let t = c.take_back.ensures in
    let step = c.in-Some.ensures.steps in
    let more = c.loop-seat.yielded in
    let seat = c.in-Some.seat in record {
      parts = omega (arith, i.parts, m.parts, s.parts, length-append more (c.in-Some.seat ∷ []));
      amount = omega (arith, i.amount, m.amount, s.amount, sum_by_push (λ (t : Seated). t.stored) more c.in-Some.seat);
      asked = ap (λ (k : PassState). k.asked) t.questions ∙ i.asked;
      given = ap (λ (k : PassState). k.given) t.questions ∙ i.given;
      left = i.left ∙ ap (λ l. more ++ l) step.0 ∙ sym (append_assoc more (c.in-Some.seat ∷ []) _);
      counted = omega (arith, i.counted, step.1, ap length step.0);
      back =
          let known = c.loop-seat.questions in
          let is = t.questions ∙ ap (λ (x : Sight). record known { back = x.number ∷ known.back }) s.seen in
          subst (λ (k : PassState). AreBack k (more ++ seat ∷ [])) (sym is)
          (one_more_back known more seat i.back (subst (λ (x : Sight). IsSeat known x.number x.asked) s.seen t.is_seat));
    }

pub returns-clause-gathered : goal.returns-clause-gathered
returns-clause-gathered g c =
    let i = c.loop-seat.invariant in
    let parts = c.into_parts-head.ensures in
    let known = c.loop-seat.questions in
    let none = nil_from_length _ (sym i.counted ∙ c.in-None.ensures.steps.0) in
    let whole = i.left ∙ ap (λ l. c.loop-seat.yielded ++ l) none ∙ append-nil c.loop-seat.yielded in (
      gathers _ known _ _ (subst (AreBack known) (sym whole) i.back)
          (omega (arith, c.requires, c.args.seats.ok.0, ap (λ (o : Opening). o.seats) c.self.view_is, c.self.invariant.2, parts.all_given, i.given))
          (parts.holds ∙ ap (λ l. store_after _ (bodies_of l)) (sym i.asked))
          (λ n q e. subst (λ (k : ℕ). q.seat < k) (sym i.given) (parts.each n q (subst (λ l. slice_get l n ≡ Some q) i.asked e))),
      subst (λ (l : List Question). HasAdmitted g.H.Admit.admits g.L.Holding.first l c.into_parts-head.result.0) (sym i.asked) parts.admitted,
    )
