use Rattle.std.proofs.Common.{refl, sym, ◌∙◌, subst, ◌<◌, [], ap}
use Rattle.atomic_table.specs.Table.{Me}
use Rattle.rw_recv_head.specs.declared.question.Question.{Question}
use Rattle.rw_recv_head.specs.declared.questions.View.{View}
use Rattle.rw_recv_head.specs.inner.Questions.{Sight, keeper, sitter, IsSeat}
use Rattle.rw_recv_head.proofs.QuestionMoves.{stands, takes_as, takes_is, adds_as, adds_is, leaves_as, keeper_again, sitter_again}
use Rattle.rw_recv_head.proofs.questions.Questions.push.Goals as goal

pub split_seat-requires : goal.split_seat-requires
split_seat-requires g c =
    let i = c.self.invariant in
    (i.1 ∙ sym i.0, subst (λ t. 0 < t.words) (sym i.0) i.2, stands _ _)

pub join_seat-requires : goal.join_seat-requires
join_seat-requires g c =
    let i = c.self.invariant in
    let b = c.seen.invariant in
    let s = c.split_seat.ensures in
    let was = c.replace-before.ensures.value in (
      s.0 ∙ i.1 ∙ sym i.0,
      ap (λ p. p.table_id) was ∙ b.0 ∙ sym i.0,
      ap (λ p. p.me.1) was ∙ ap (λ m. m.1) b.1,
      subst (λ t. 0 < t.words) (sym i.0) i.2,
      takes_as _ _ _ _ _ _ _ (s.2 ∙ i.3) (ap (λ p. p.me) was ∙ b.1),
    )

pub compare_exchange_with-requires : goal.compare_exchange_with-requires
compare_exchange_with-requires g c =
    let i = c.self.invariant in
    let s = c.split_seat.ensures in
    let j = c.join_seat.ensures in
    let is = takes_is _ _ _ _ _ _ _ _ i.3 s.2 c.seen.invariant.1 (ap (λ p. p.me) c.replace-before.ensures.value) j.2 in
    (j.0 ∙ s.0 ∙ i.1 ∙ sym i.0, subst (λ t. 0 < t.words) (sym i.0) i.2, adds_as _ _ _ _ _ _ _ refl is)

pub split_seat-requires-2 : goal.split_seat-requires-2
split_seat-requires-2 g c =
    let i = c.self.invariant in
    let s = c.split_seat.ensures in
    let j = c.join_seat.ensures in
    let x = c.compare_exchange_with.ensures in
    let is = takes_is _ _ _ _ _ _ _ _ i.3 s.2 c.seen.invariant.1 (ap (λ p. p.me) c.replace-before.ensures.value) j.2 in
    (x.0 ∙ j.0 ∙ s.0 ∙ i.1 ∙ sym i.0, subst (λ t. 0 < t.words) (sym i.0) i.2, leaves_as _ _ _ _ _ (adds_is _ _ _ _ _ _ is (x.2 _ refl).0))

pub invariant_of-self : goal.invariant_of-self
invariant_of-self g c =
    let i = c.self.invariant in
    let s = c.split_seat.ensures in
    let j = c.join_seat.ensures in
    let x = c.compare_exchange_with.ensures in
    let l = c.split_seat-2.ensures in
    let is = takes_is _ _ _ _ _ _ _ _ i.3 s.2 c.seen.invariant.1 (ap (λ p. p.me) c.replace-before.ensures.value) j.2 in
    let after = adds_is _ _ _ _ _ _ is (x.2 _ refl).0 in
    (i.0, l.0 ∙ x.0 ∙ j.0 ∙ s.0 ∙ i.1, i.2, keeper_again _ _ (l.2 ∙ ap (λ (m : Me Question View). (keeper m.0.known, m.1)) after))

pub invariant_of-seen : goal.invariant_of-seen
invariant_of-seen g c =
    let i = c.self.invariant in
    let s = c.split_seat.ensures in
    let j = c.join_seat.ensures in
    let x = c.compare_exchange_with.ensures in
    let l = c.split_seat-2.ensures in
    let is = takes_is _ _ _ _ _ _ _ _ i.3 s.2 c.seen.invariant.1 (ap (λ p. p.me) c.replace-before.ensures.value) j.2 in
    let after = adds_is _ _ _ _ _ _ is (x.2 _ refl).0 in
    (l.3 ∙ x.0 ∙ j.0 ∙ s.0 ∙ i.1, sitter_again _ _ _ (l.4 ∙ ap (λ (m : Me Question View). (sitter m.0.number m.0.seen, [])) after))

pub returns-clause-seen : goal.returns-clause-seen
returns-clause-seen g c =
    let i = c.self.invariant in
    let x = c.compare_exchange_with.ensures in
    let l = c.split_seat-2.ensures in
    let is = takes_is _ _ _ _ _ _ _ _ i.3 c.split_seat.ensures.2 c.seen.invariant.1 (ap (λ p. p.me) c.replace-before.ensures.value) c.join_seat.ensures.2 in
    let after = adds_is _ _ _ _ _ _ is (x.2 _ refl).0 in
    let ours = ap (λ (m : Me Question View). m.0.known.asked) l.2 ∙ ap (λ (m : Me Question View). m.0.known.asked) after in
    let theirs = ap (λ (m : Me Question View). m.0.seen) l.4 ∙ ap (λ (m : Me Question View). m.0.seen) after in
    λ k. record { number = ap (λ (t : Sight). t.number) c.seen.view_is k; asked = (theirs ∙ sym ours) k }

pub returns-clause-is_seat : goal.returns-clause-is_seat
returns-clause-is_seat g c =
    let x = c.compare_exchange_with.ensures in
    let is = takes_is _ _ _ _ _ _ _ _ c.self.invariant.3 c.split_seat.ensures.2 c.seen.invariant.1 (ap (λ p. p.me) c.replace-before.ensures.value) c.join_seat.ensures.2 in
    let here = subst (λ (m : Me Question View). IsSeat m.0.known m.0.number m.0.seen) is (x.2 _ refl).1 in
    subst (λ (t : Sight). IsSeat c.args.self.now t.number t.asked) c.seen.view_is (subst (λ k. IsSeat k c.seen.inside.number c.seen.inside.pass.me.0.seen) c.self.view_is here)
