use Rattle.std.proofs.Common.{Ok, inr, ap, sym, ◌∙◌, [], ◌∷◌, ◌++◌, List}
use Rattle.rw_write_request.specs.Read.{read}
use Rattle.rw_head.specs.Capacity.{status_of_admission}
use Rattle.rw_head.specs.Partial.{takeable}
use Rattle.rw_recv_head.specs.Partly.{TakesPart}
use Rattle.rw_recv_head.specs.Seats.{bodies_of, store_after}
use Rattle.rw_recv_head.specs.declared.question.Question.{Question}
use Rattle.rw_recv_head.proofs.locked.Locked.answer_rest.Goals as goal

pub returns-clause-rest : goal.returns-clause-rest
returns-clause-rest g c =
    let part : TakesPart g.L.HeadNaming.opening c.args.seat.now c.args.body.now c.to.result.status c.answer-admission.new.seat = record {
      message = c.in-Ok.message;
      text = c.deref.result.now;
      second = status_of_admission c.answer-admission.result;
      spells = (c.reads_spellings.ensures c.args.body.now c.in-Ok.message).1 c.in-Ok.ensures.found;
      part = ap read c.deref.ensures.value ∙ c.in-Ok-spell_takeable.ensures.spells ∙ ap (λ (asked : List Question). Ok (takeable g.L.HeadNaming.opening.limits (store_after g.L.HeadNaming.opening (bodies_of asked)) c.in-Ok.message)) (sym c.requires.seen);
      asked = c.answer-admission.ensures.asked;
      at_once = c.answer-admission.ensures.seen ∙ c.answer-admission.ensures.noted ∙ ap (λ (asked : List Question). asked ++ record { seat = c.args.seat.now.number; body = c.deref.result.now; status = status_of_admission c.answer-admission.result } ∷ []) (ap (λ h. h.questions.asked) c.in-Ok-spell_takeable.ensures.same ∙ sym c.requires.seen);
      status_is = c.to.ensures;
    } in inr (inr part)
