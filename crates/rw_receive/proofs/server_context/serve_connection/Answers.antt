use Rattle.std.proofs.Common.{◌≡◌, refl, ap, sym, ◌∙◌, subst}
use Rattle.rw_recv_head.specs.Seats.{Seated}
use Rattle.rw_receive.specs.Answering.{HasAnsweredSorted}
use Rattle.rw_receive.specs.Conversations.{HasAnsweredAll}
use Rattle.rw_receive.specs.declared.take_options.TakeOptions.{TakeOptions}
use Rattle.rw_receive.proofs.ConversationLemmas.{served_seen}
use Rattle.rw_receive.proofs.server_context.serve_connection.Goals as goal

pub returns : goal.returns
returns g c =
    let takes = c.args.context.now.takes in
    let opening = g.L.HeadNaming.opening in
    record {
      answered = subst (λ (s : Seated). HasAnsweredAll c.args.context.now.limits.now takes opening c.args.seat c.serve-conversation.result s) (sym c.into_seat.ensures)
          (served_seen c.serve-conversation.ensures.served (HasAnsweredSorted takes.sorts_labels takes.is_partial opening) (λ s. s.seat) (λ s. s.context.now.takes ≡ takes)
          (λ old body status new same a. (subst (λ (t : TakeOptions). HasAnsweredSorted t.sorts_labels t.is_partial opening old.seat body status new.seat) same a.1, ap (λ x. x.now.takes) a.0 ∙ same))
          refl);
    }
