use Rattle.std.proofs.Common.{◌≡◌, ℕ, ◌+◌, ◌∙◌, [], Some, slice_get, rules, subst, sym, ap}
use Rattle.rw_recv_head.specs.Seats.{Seated}
use Rattle.rw_recv_head.specs.inner.Questions.{Sight}
use Rattle.rw_recv_head.specs.declared.questions.PassState.{PassState}
use Rattle.rw_recv_head.proofs.GatheringLemmas.{numbered_more}
use Rattle.rw_recv_head.proofs.shared_head.SharedHead.seats.Goals as goal

pub loop-k-preserved : goal.loop-k-preserved
loop-k-preserved g c =
    let i = c.loop-k.invariant in
    let gave = c.give-seen.ensures in record {
      len = search rules;
      room = search rules;
      parts = search rules;
      amount = search rules;
      questions = gave.questions ∙ ap (λ (k : PassState). record k { given = k.given + 1 }) i.questions;
      numbered =
          let is = c.new.ensures ∙ ap (λ (x : Sight). record { number = x.number; stored = 0; asked = x.asked }) gave.seen
          ∙ ap (λ (k : PassState). record { number = c.loop-k.k; stored = 0; asked = k.asked }) i.questions in
          subst (λ l. (k : ℕ) (s : Seated) → slice_get l k ≡ Some s → s ≡ record { number = k; stored = 0; asked = [] }) (sym c.push_reserved.ensures.items)
          (numbered_more c.loop-k.seats.items c.new.result c.loop-k.k (sym c.loop-k.seats.ok.0 ∙ i.len) is i.numbered);
      below = search rules;
    }
