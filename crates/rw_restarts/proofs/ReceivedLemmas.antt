-- What came over the wire is an answer to a message.
use Rattle.std.proofs.Common.{◌≡◌, ◌≢◌, inl, inr, ℕ, nat_lt, Bool, true, false, map, length, Ok, refl, sym, ap, ◌∙◌, subst, arith}
use Rattle.std.proofs.lemmas.Bool.{cond-true, cond-false, le-ltb}
use Rattle.rw_write_request.specs.Message.{WriteRequest}
use Rattle.rw_retry.specs.Judgements.{judgement_of}
use Rattle.rw_batch.specs.Grouping.{message}
use Rattle.rw_shard_core.specs.Shard.{body_of, labelled}
use Rattle.rw_worker.specs.Transcript.{Exchange}
use Rattle.rw_head.specs.Head.{Answer, State, answer_to}
use Rattle.rw_head.specs.Store.{Store}
use Rattle.rw_machine.specs.Worlds.{Setup}
use Rattle.rw_machine.specs.Steps.{endpoint_answer}
use Rattle.rw_machine.specs.declared.event.How.{How}
use Rattle.rw_machine.specs.declared.event.How.TheVariants.{Plain, Busy, OutOfMemory}
use Rattle.rw_restarts.specs.Arrivals.{Receives}
use Rattle.rw_restarts.specs.Runs.{SentMessage}
use Rattle.rw_restarts.specs.Workers.{IsExchangeOfMessage}
use Rattle.rw_restarts.specs.Receivers.{AnswersAs, state_of}
use Rattle.rw_restarts.specs.KeptReceivers.{IsAdmission, acknowledged_after}
use Rattle.rw_restarts.specs.WireReceivers.{HasShortBody}
use Rattle.rw_restarts.proofs.AnswerLemmas.{answers-known}
use Rattle.rw_restarts.proofs.KeptReceiverLemmas.{admission-answers}

-- an answer of a head is one of a head whose journal takes everything
head-admits : (h : State) (m : WriteRequest) (status : ℕ) (new : State) → answer_to h (Ok m) ≡ record { status = status; head = new } → IsAdmission h m status new
head-admits h m status new is =
    let same : (answer_to h (Ok m)).status ≡ status = ap (λ (a : Answer). a.status) is in
    elim (answers-known h m) [
      | inl e ↦ record {
        statuses = inl (sym same ∙ e);
        judged = λ _. (sym same, ap (λ (a : Answer). a.head) (sym is));
        unavailable = λ f. absurd (omega (arith, same, e, f));
      }
      | inr (inl e) ↦ record {
        statuses = inr (inl (sym same ∙ e));
        judged = λ _. (sym same, ap (λ (a : Answer). a.head) (sym is));
        unavailable = λ f. absurd (omega (arith, same, e, f));
      }
      | inr (inr e) ↦ record {
        statuses = inr (inr (inl (sym same ∙ e)));
        judged = λ _. (sym same, ap (λ (a : Answer). a.head) (sym is));
        unavailable = λ f. absurd (omega (arith, same, e, f));
      }
    ]

module _ (c : Setup) (e : Exchange) (x : SentMessage) (old : State) (status : ℕ) (new : State) (acknowledged : Store) (is : IsExchangeOfMessage c.target e x) where
  abbrev Answers : WriteRequest → ℕ → Type 0
  Answers m s = AnswersAs old.limits m (judgement_of s) (state_of old.store acknowledged) (state_of new.store (acknowledged_after (judgement_of s) acknowledged new.store))

  looked_at : endpoint_answer c old is.batch ≡ record { status = status; head = new } → status ≢ 413 → Answers x.message status
  looked_at answered other = subst (λ m. Answers m status) (sym is.message_is) (by_length (nat_lt c.max_body (length (body_of is.batch))) refl)
    where
      by_length : (b : Bool) → nat_lt c.max_body (length (body_of is.batch)) ≡ b → Answers (message (map labelled is.batch)) status
      by_length true long =
          absurd (other (ap (λ (a : Answer). a.status) (sym answered ∙ cond-true (nat_lt c.max_body (length (body_of is.batch))) (record { status = 413; head = old }) (answer_to old (Ok (message (map labelled is.batch)))) long)))
      by_length false short =
          admission-answers old (message (map labelled is.batch)) status new
          (head-admits old (message (map labelled is.batch)) status new
          (sym (cond-false (nat_lt c.max_body (length (body_of is.batch))) (record { status = 413; head = old }) (answer_to old (Ok (message (map labelled is.batch)))) short) ∙ answered)) acknowledged

  turned_away : (s : ℕ) → Answers x.message s → status ≡ s → Answers x.message status
  turned_away s h same = subst (Answers x.message) (sym same) h

  pub received-answers : (how : How) → Receives c how e.request old status new → status ≢ 413 → Answers x.message status
  received-answers Plain h other = looked_at (h is.batch is.reads is.request) other
  received-answers Busy h other = turned_away 429 (ap (λ (s : State). state_of s.store acknowledged) h.1) h.0
  received-answers OutOfMemory h other = turned_away 503 (ap (λ (s : State). state_of s.store acknowledged) h.1) h.0

-- if the body was too long, the head is as it was
module _ (c : Setup) (e : Exchange) (x : SentMessage) (old : State) (status : ℕ) (new : State) (is : IsExchangeOfMessage c.target e x) where
  -- a body that is not too long is not answered so
  short_fits : endpoint_answer c old is.batch ≡ record { status = status; head = new } → nat_lt c.max_body (length (body_of is.batch)) ≡ false → status ≢ 413
  short_fits answered short same =
      let status_is : (answer_to old (Ok (message (map labelled is.batch)))).status ≡ 413 =
      ap (λ (a : Answer). a.status) (sym (cond-false (nat_lt c.max_body (length (body_of is.batch))) (record { status = 413; head = old }) (answer_to old (Ok (message (map labelled is.batch)))) short) ∙ answered) ∙ same in
      elim (answers-known old (message (map labelled is.batch))) [
        | inl f ↦ omega (arith, status_is, f)
        | inr (inl f) ↦ omega (arith, status_is, f)
        | inr (inr f) ↦ omega (arith, status_is, f)
      ]

  long_keeps : endpoint_answer c old is.batch ≡ record { status = status; head = new } → status ≡ 413 → new.store ≡ old.store
  long_keeps answered same = by_length (nat_lt c.max_body (length (body_of is.batch))) refl
    where
      by_length : (b : Bool) → nat_lt c.max_body (length (body_of is.batch)) ≡ b → new.store ≡ old.store
      by_length true long = ap (λ (a : Answer). a.head.store) (sym answered ∙ cond-true (nat_lt c.max_body (length (body_of is.batch))) (record { status = 413; head = old }) (answer_to old (Ok (message (map labelled is.batch)))) long)
      by_length false short = absurd (short_fits answered short same)

  pub too-long-keeps : (how : How) → Receives c how e.request old status new → status ≡ 413 → new.store ≡ old.store
  too-long-keeps Plain h same = long_keeps (h is.batch is.reads is.request) same
  too-long-keeps Busy h same = ap (λ (s : State). s.store) h.1
  too-long-keeps OutOfMemory h same = ap (λ (s : State). s.store) h.1

  pub never-too-long : (how : How) → Receives c how e.request old status new → HasShortBody c e.request → status ≢ 413
  never-too-long Plain h short same = short_fits (h is.batch is.reads is.request) (le-ltb c.max_body (length (body_of is.batch)) (short is.batch is.reads is.request)) same
  never-too-long Busy h short same = omega (arith, h.0, same)
  never-too-long OutOfMemory h short same = omega (arith, h.0, same)
