-- What comes of a request to an endpoint that asks a seat.
use Rattle.std.proofs.Common.{◌≡◌, ◌⊎◌, inl, inr, ℕ, zero, suc, ◌<◌, ◌≤◌, ◌^◌, true, List, decimal, length, length-append, Option, None, Some, sym, ap, ◌∙◌, subst, arith}
use Rattle.rw_types.specs.Requests.{is_host_name, is_request_path}
use Rattle.rw_shard_core.specs.SentRequest.{request_of, request_head}
use Rattle.rw_roundtrip.proofs.shared.RequestLemmas.{one_request, one_refusal}
use Rattle.rw_endpoint.specs.Alone.{IsOneRequest, IsOneRefusal, IsServedAlone, IsTurnedAway}
use Rattle.rw_endpoint.specs.declared.serve_end.ServeEnd.{ServeEnd}
use Rattle.rw_endpoint.specs.declared.intake.Intake.{Intake}
use Rattle.rw_head.specs.Head.{State}
use Rattle.rw_recv_head.specs.Seats.{Seated, HasAsked}
use Rattle.rw_in_memory.specs.inner.Lines.{IsAskedOnce}

-- what fits, or does not
pub within : (n limit : ℕ) → (n ≤ limit) ⊎ (limit < n)
within zero limit = inl (omega arith)
within (suc n) zero = inr (omega arith)
within (suc n) (suc limit) = up (within n limit)
  where
    up : (n ≤ limit) ⊎ (limit < n) → (suc n ≤ suc limit) ⊎ (suc limit < suc n)
    up (inl le) = inl (omega arith)
    up (inr lt) = inr (omega arith)

module _ {S : Type 0} (seat : S → Seated) (status_of : S → Option ℕ) (opening : State) (limit : ℕ) (body : List ℕ) (old new : S) (none : status_of old ≡ None) where
  abbrev Answers : S → List ℕ → ℕ → S → Type 0
  Answers was text status now = HasAsked opening (seat was) text status (seat now) × (status_of now ≡ Some status)

  -- nothing has changed, so nothing was asked
  unasked : new ≡ old → IsAskedOnce opening limit (seat old) body (status_of new) (seat new)
  unasked same = subst (λ (o : Option ℕ). IsAskedOnce opening limit (seat old) body o (seat new)) (sym (ap status_of same ∙ none)) (ap seat same)

  pub asked_alone : (before : List ℕ) (contents : Option (List ℕ)) (how : ServeEnd) → length body ≤ limit → IsServedAlone Answers body old before contents new how → IsAskedOnce opening limit (seat old) body (status_of new) (seat new)
  asked_alone before contents how short (inl (closed, status, asked, verdict, text)) = subst (λ (o : Option ℕ). IsAskedOnce opening limit (seat old) body o (seat new)) (sym asked.1) (short, asked.0)
  asked_alone before contents how short (inr (memory, same, text)) = unasked same

  pub turned_away : (status : ℕ) (before : List ℕ) (contents : Option (List ℕ)) (how : ServeEnd) → IsTurnedAway status old before contents new how → IsAskedOnce opening limit (seat old) body (status_of new) (seat new)
  turned_away status before contents how away = unasked away.0

  -- a request of a sender is served or turned away
  pub asked_once : (before : List ℕ) (contents : Option (List ℕ)) (how : ServeEnd) → (length body ≤ limit → IsServedAlone Answers body old before contents new how) → (limit < length body → IsTurnedAway 413 old before contents new how) → IsAskedOnce opening limit (seat old) body (status_of new) (seat new)
  asked_once before contents how short long = by_length (within (length body) limit)
    where
      by_length : (length body ≤ limit) ⊎ (limit < length body) → IsAskedOnce opening limit (seat old) body (status_of new) (seat new)
      by_length (inl le) = asked_alone before contents how le (short le)
      by_length (inr lt) = turned_away 413 before contents how (long lt)

-- a request of a sender, as an endpoint with this path and this limit reads it
module _ (host path body text : List ℕ) (limit : ℕ) (valid : is_host_name host ≡ true) (sound : is_request_path path ≡ true) (is : text ≡ request_of host path body) (few : length text < 2 ^ 63) where
  short : length body < 2 ^ 63
  short = let parts = length-append (request_head host path (decimal (length body))) body in let whole = ap length is in omega arith

  pub read_so : (p : List ℕ) (n : Intake) → p ≡ path → n.limit ≡ limit → length body ≤ limit → IsOneRequest p n text body
  read_so p n same bound le =
      subst (λ (q : List ℕ). IsOneRequest q n text body) (sym same)
      (subst (λ (t : List ℕ). IsOneRequest path n t body) (sym is) (one_request host path body n valid sound short (omega (arith, bound, le))))

  pub refused_so : (p : List ℕ) (n : Intake) → p ≡ path → n.limit ≡ limit → limit < length body → IsOneRefusal p n text 413
  refused_so p n same bound lt =
      subst (λ (q : List ℕ). IsOneRefusal q n text 413) (sym same)
      (subst (λ (t : List ℕ). IsOneRefusal path n t 413) (sym is) (one_refusal host path body n valid sound short (omega (arith, bound, lt))))
