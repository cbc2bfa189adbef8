use Rattle.std.proofs.Common.{sym, ◌∙◌, subst, ◌<◌, ap}
use Rattle.rw_recv_head.specs.declared.questions.PassState.{PassState}
use Rattle.rw_recv_head.proofs.QuestionMoves.{gives_as}
use Rattle.rw_recv_head.proofs.questions.Questions.give.Goals as goal

pub split_seat-requires : goal.split_seat-requires
split_seat-requires g c =
    let i = c.self.invariant in
    (i.1 ∙ sym i.0, subst (λ t. 0 < t.words) (sym i.0) i.2, gives_as _ _ _ (ap (λ (k : PassState). k.back) c.self.view_is ∙ c.requires.none_back) i.3)
