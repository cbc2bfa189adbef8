use Rattle.std.proofs.Common.{refl, sym, ◌∙◌, subst, ◌<◌, ap}
use Rattle.rw_recv_head.proofs.QuestionMoves.{takes_as, takes_is, returns_as}
use Rattle.rw_recv_head.proofs.questions.Questions.take_back.Goals as goal

pub join_seat-requires : goal.join_seat-requires
join_seat-requires g c =
    let i = c.self.invariant in
    let b = c.seen.invariant in
    (i.1 ∙ sym i.0, b.0 ∙ sym i.0, ap (λ m. m.1) b.1, subst (λ t. 0 < t.words) (sym i.0) i.2, takes_as _ _ _ _ _ _ _ i.3 b.1)

pub load-requires : goal.load-requires
load-requires g c =
    let i = c.self.invariant in
    let j = c.join_seat.ensures in
    let is = takes_is _ _ _ _ _ _ _ _ i.3 refl c.seen.invariant.1 refl j.2 in
    (j.0 ∙ i.1 ∙ sym i.0, subst (λ t. 0 < t.words) (sym i.0) i.2, returns_as _ _ _ _ _ _ is)
