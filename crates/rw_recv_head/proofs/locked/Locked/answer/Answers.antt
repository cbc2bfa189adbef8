use Rattle.std.proofs.Common.{◌≡◌, ◌≢◌, List, refl, sym, ap, subst, ◌∙◌, arith}
use Rattle.rw_head.specs.declared.capacity.Capacity.{Capacity}
use Rattle.rw_head.specs.Store.{total}
use Rattle.rw_head.specs.Capacity.{status_of_admission, unlimited, StaysWithin}
use Rattle.rw_recv_head.proofs.CapacityLemmas.{stays_twice}
use Rattle.rw_recv_head.specs.declared.question.Question.{Question}
use Rattle.rw_recv_head.specs.Seats.{Seated, HasAdmitted}
use Rattle.rw_recv_head.proofs.AdmittedLemmas.{one_more_admitted}
use Rattle.rw_recv_head.proofs.StoredLemmas.{Gives, noted_as, kept_again, asked, finds_full}
use Rattle.rw_recv_head.proofs.locked.Locked.answer.Given.{Over}
use Rattle.rw_recv_head.proofs.locked.Locked.answer.Goals as goal

-- how many samples were held before
held : (g : Over) (c : goal.After-take g) → c.total-before.result ≡ total (g.H.Admit.state c.self.inside.holder).store
held g c = c.total-before.ensures.total

-- and how many are held after
holds : (g : Over) (c : goal.After-take g) → c.total-after.result ≡ total (g.H.Admit.state c.admit-admission.new.self).store
holds g c = c.total-after.ensures.total

gives : (g : Over) (c : goal.After-take g) → Gives (g.H.Admit.state c.self.inside.holder) (g.H.Admit.state c.admit-admission.new.self) c.args.body.now (status_of_admission c.admit-admission.result)
gives g c = record {
  told = c.admit-admission.ensures.status;
  is = c.admit-admission.ensures.head;
  memory = c.admit-admission.ensures.unavailable;
  refused = c.admit-admission.ensures.refused;
}

-- what is under the lock was asked this, too
admitted : (g : Over) (c : goal.After-take g) → HasAdmitted g.H.Admit.admits g.L.Holding.first c.note.new.questions.asked c.admit-admission.new.self
admitted g c =
    one_more_admitted _ _ _ _ _ _ _ c.self.invariant.3 (noted_as _ _ _ _ _ _ c.status.ensures c.note.ensures.questions) c.admit-admission.ensures.admits

pub invariant_of-self : goal.invariant_of-self
invariant_of-self g c =
    let i = c.self.invariant.0 in
    let a = c.admit-admission.ensures in
    let n = c.note.ensures in (
      kept_again _ _ _ _ _ _ _ _ (gives g c) (noted_as _ _ _ _ _ _ c.status.ensures n.questions) _ _ _ _ _ i n.is_seat.given a.rises (c.take.ensures.parts ∙ i.one_part)
          (omega (arith, c.take.ensures.amount, i.adds_up, a.more, holds g c, held g c)),
      stays_twice _ _ _ _ c.self.invariant.1
          (subst (λ (k : Capacity). StaysWithin k (g.H.Admit.state c.self.inside.holder).store (g.H.Admit.state c.admit-admission.new.self).store) c.self.invariant.2 a.within),
      c.self.invariant.2,
      admitted g c,
    )

pub returns-clause-asked : goal.returns-clause-asked
returns-clause-asked g c =
    let a = c.admit-admission.ensures in
    let n = c.note.ensures in
    let counted = c.take.ensures.stored in
    asked _ _ _ _ _ _ _ _ (gives g c) (noted_as _ _ _ _ _ _ c.status.ensures n.questions) _ _ _ _ _ c.args.seat.now c.take.new.self c.self.invariant.0 n.is_seat refl a.readable a.taken a.more
    (held g c) (holds g c)
    (ap (λ (s : Seated). s.number) counted ∙ ap (λ (s : Seated). s.number) n.seat)
    (ap (λ (s : Seated). s.asked) counted ∙ ap (λ (s : Seated). s.asked) n.seat)
    (omega (arith, ap (λ (s : Seated). s.stored) counted, ap (λ (s : Seated). s.stored) n.seat))

pub returns-clause-full : goal.returns-clause-full
returns-clause-full g c = λ full.
    let i = c.self.invariant.0 in
    let a = c.admit-admission.ensures in
    let n = c.note.ensures in
    finds_full _ _ _ _ _ _ _ _ (gives g c) (noted_as _ _ _ _ _ _ c.status.ensures n.questions) _ c.self.inside.capacity _ i.holds i.limits
    (ap (λ (s : Seated). s.asked) c.take.ensures.stored ∙ ap (λ (s : Seated). s.asked) n.seat) c.self.invariant.2 (ap status_of_admission full) (a.full full)

pub returns-clause-limited : goal.returns-clause-limited
returns-clause-limited g c = λ full.
    subst (λ (k : Capacity). k ≢ unlimited) c.self.invariant.2 (c.admit-admission.ensures.limited full)

pub returns-clause-admitted : goal.returns-clause-admitted
returns-clause-admitted g c =
    let all = ap (λ (s : Seated). s.asked) c.take.ensures.stored ∙ ap (λ (s : Seated). s.asked) c.note.ensures.seat in (
      c.admit-admission.new.self,
      subst (λ (l : List Question). HasAdmitted g.H.Admit.admits g.L.Holding.first l c.admit-admission.new.self) (sym all) (admitted g c),
    )
