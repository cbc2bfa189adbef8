use Rattle.std.proofs.Common.{◌≡◌, ℕ, List, [], ◌++◌, Some, inl, refl, sym, ◌∙◌, ap, subst}
use Rattle.rw_endpoint.specs.Coding.{intake_of}
use Rattle.rw_endpoint.specs.Serving.{Serves, ends}
use Rattle.rw_receive.specs.Conversations.{Conversation}
use Rattle.rw_receive.proofs.ConversationLemmas.{some_same}
use Rattle.rw_receive.proofs.accepted.Accepted.serve.Goals as goal

pub returns-in_default : goal.returns-in_default
returns-in_default g c = record {
  served =
      let limits = c.args.context.now.limits.now in
      subst (λ (t : Conversation). Serves limits.path (intake_of limits) g.A.Answer.answers t.read c.args.answer.now t.written c.args.answer.now t.end)
      (sym c.silent.ensures) (ends (inl (refl, refl)));
}

pub returns : goal.returns
returns g c = record {
  served =
      let limits = c.args.context.now.limits.now in
      let new = c.serve_recorded-end.new.answer in
      let end = c.serve_recorded-end.result in
      let h = c.serve_recorded-end.ensures.recorded [] (ap (λ r. Some r.past) c.new-writer.ensures) in
      let read : c.into_past.result ≡ h.0 = c.into_past.ensures ∙ h.1 ∙ ap (λ r. r.past ++ h.0) c.new-reader.ensures in
      let written : c.into_past-2.result ≡ h.2.0 = c.into_past-2.ensures ∙ some_same _ _ h.2.1 in
      subst (λ (t : List ℕ). Serves limits.path (intake_of limits) g.A.Answer.answers t c.args.answer.now c.into_past-2.result new end) (sym read)
      (subst (λ (t : List ℕ). Serves limits.path (intake_of limits) g.A.Answer.answers h.0 c.args.answer.now t new end) (sym written) h.2.2);
}
