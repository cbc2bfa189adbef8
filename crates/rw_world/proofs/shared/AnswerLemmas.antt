-- What a receiver answers to a request.
use Rattle.std.proofs.Common.{◌≡◌, ◌≢◌, ℕ, ◌+◌, ◌-◌, ◌<◌, ◌≤◌, ◌^◌, inl, inr, ⊎_elim, Bool, true, false, cond, List, length, map, Option, None, Some, Result, Ok, Err, refl, sym, ap, subst, ◌∙◌, arith, length-append}
use Rattle.std.proofs.lemmas.Bool.Decides.{nat_tests}
use Rattle.std.specs.Prelude.{nat_lt, decimal, IsTrue, IfSome}
use Rattle.std.specs.declared.alloc.AllocError.{AllocError}
use Rattle.http.specs.StatusCode.{IsStatusCode}
use Rattle.rw_types.specs.Requests.{is_host_name, is_request_path}
use Rattle.rw_batch.specs.Grouping.{message}
use Rattle.rw_plain_queue.specs.Items.{Placed}
use Rattle.rw_write_request.specs.Message.{WriteRequest}
use Rattle.rw_shard_core.specs.declared.config.Target.{Target}
use Rattle.rw_shard_core.specs.Shard.{labelled, body_of, IsReadAgain, can_send, request_for}
use Rattle.rw_machine.specs.Shards.{Shard}
use Rattle.rw_shard_core.specs.SentRequest.{request_of, request_head}
use Rattle.rw_head.specs.Head.{State, Answer, SpellsMessage, answer, answer_to, answered, judged_body}
use Rattle.rw_head.specs.Store.{Store}
use Rattle.rw_head.specs.Verdicts.{judged, taken_all}
use Rattle.rw_head.specs.declared.verdict.Verdict.{Verdict}
use Rattle.rw_endpoint.specs.Alone.{IsOneRequest, IsOneRefusal}
use Rattle.rw_endpoint.specs.HeadAnswers.{HasAnswered}
use Rattle.rw_endpoint.specs.Replies.{is_verdict}
use Rattle.rw_endpoint.specs.declared.intake.Intake.{Intake}
use Rattle.rw_roundtrip.specs.Exchanges.{IsExchanged, IsRefusedUnasked}
use Rattle.rw_machine.specs.Worlds.{Request}
use Rattle.rw_machine.specs.Steps.{request_by}
use Rattle.rw_world.specs.Held.{sent_request}
use Rattle.rw_world.specs.Answering.{IsSentTo, answer_to_batch}
use Rattle.rw_world.specs.inner.Answering.{IsReplied}

-- a status of a verdict is one of HTTP's
verdict_code : (n : ℕ) → IsTrue (is_verdict n) → IsStatusCode n
verdict_code n h = grind (arith, nat_tests)

judged_short : (h : State) (r : Result Store Verdict) → (answered h (judged h.store r)).status ≡ 503 → (answered h (judged h.store r)).head ≡ h
judged_short h (Ok s) e = let no_way : 204 ≡ 503 = e in absurd (omega arith)
judged_short h (Err v) e = refl

short_if : (b : Bool) (h : State) (k : ℕ) (a : Answer) → (a.status ≡ 503 → a.head ≡ h) → (cond b (record { status = 429; head = record h { busy = k } }) a).status ≡ 503 → (cond b (record { status = 429; head = record h { busy = k } }) a).head ≡ h
short_if true h k a f e = let no_way : 429 ≡ 503 = e in absurd (omega arith)
short_if false h k a f e = f e

-- if the answer is 503 the head stays
plain_short : (h : State) (m : WriteRequest) → (answer_to h (Ok m)).status ≡ 503 → (answer_to h (Ok m)).head ≡ h
plain_short h m e = short_if (nat_lt 0 h.busy) h (h.busy - 1) (answered h (judged_body h (Ok m))) (judged_short h (taken_all h.limits (Ok h.store) m)) e

within_if : (b : Bool) (h : State) (a : Answer) → (a.status ≡ 503 → a.head ≡ h) → (cond b (record { status = 413; head = h }) a).status ≡ 503 → (cond b (record { status = 413; head = h }) a).head ≡ h
within_if true h a f e = let no_way : 413 ≡ 503 = e in absurd (omega arith)
within_if false h a f e = f e

within_short : (limit : ℕ) (h : State) (batch : List Placed) → (answer_to_batch limit h batch).status ≡ 503 → (answer_to_batch limit h batch).head ≡ h
within_short limit h batch e = within_if (nat_lt limit (length (body_of batch))) h (answer_to h (Ok (message (map labelled batch)))) (plain_short h (message (map labelled batch))) e

pub head_stays : (limit : ℕ) (h new : State) (batch : List Placed) (r : Result ℕ AllocError) → IsReplied (answer_to_batch limit h batch) h r new → r ≡ Ok 503 → new ≡ h
head_stays limit h new batch r i e = ⊎_elim
    (λ (p : (503 ≡ (answer_to_batch limit h batch).status) × (new ≡ (answer_to_batch limit h batch).head) × IsStatusCode 503). p.1 ∙ within_short limit h batch (sym p.0))
    (λ (q : (503 ≡ 503) × (new ≡ h)). q.1)
    (subst (λ x. IsReplied (answer_to_batch limit h batch) h x new) e i)

pub head_kept : (a : Answer) (h new : State) (r : Result ℕ AllocError) (e : AllocError) → IsReplied a h r new → r ≡ Err e → new ≡ h
head_kept a h new r e i is = subst (λ x. IsReplied a h x new) is i

pub has_replied : (a : Answer) (h new : State) (r : Result ℕ AllocError) (status : ℕ) → IsReplied a h r new → r ≡ Ok status → status ≢ 503 → (status ≡ a.status) × (new ≡ a.head) × IsStatusCode status
has_replied a h new r status i is short = ⊎_elim
    (λ (p : (status ≡ a.status) × (new ≡ a.head) × IsStatusCode status). p)
    (λ (q : (status ≡ 503) × (new ≡ h)). absurd (short q.0))
    (subst (λ x. IsReplied a h x new) is i)

read_answered : (old new : State) (batch : List Placed) (status : ℕ) → IsReadAgain batch → HasAnswered old (body_of batch) status new → IsTrue (is_verdict status) → IsReplied (answer_to old (Ok (message (map labelled batch)))) old (Ok status) new
read_answered old new batch status is a v =
    let same : answer old (body_of batch) ≡ answer_to old (Ok (message (map labelled batch))) = ap (answer_to old) is in
    ⊎_elim
    (λ (p : (status ≡ (answer old (body_of batch)).status) × (new ≡ (answer old (body_of batch)).head)). inl (p.0 ∙ ap (λ (x : Answer). x.status) same, p.1 ∙ ap (λ (x : Answer). x.head) same, verdict_code status v))
    (λ (q : (status ≡ 503) × (new ≡ old) × (old.busy ≡ 0) × SpellsMessage (body_of batch)). inr (q.0, q.1))
    a

answered_by : (old new : State) (batch : List Placed) (r : Result ℕ AllocError) → IsReadAgain batch → IsExchanged HasAnswered (body_of batch) old r new → IsReplied (answer_to old (Ok (message (map labelled batch)))) old r new
answered_by old new batch (Ok status) is a = read_answered old new batch status is a.0 a.1
answered_by old new batch (Err e) is a = a

refused_by : (old new : State) (r : Result ℕ AllocError) → IsRefusedUnasked 413 old r new → IsReplied (record { status = 413; head = old }) old r new
refused_by old new (Ok status) a = let code : IsStatusCode status = (omega (arith, a.0), omega (arith, a.0)) in inl (a.0, a.1, code)
refused_by old new (Err e) a = a

-- the laws of the endpoint
abbrev pub ReadsSound : Type 0
ReadsSound = (host path body : List ℕ) (intake : Intake) → is_host_name host ≡ true → is_request_path path ≡ true → length body < 2 ^ 63 → length body ≤ intake.limit → IsOneRequest path intake (request_of host path body) body

abbrev pub RefusesLong : Type 0
RefusesLong = (host path body : List ℕ) (intake : Intake) → is_host_name host ≡ true → is_request_path path ≡ true → length body < 2 ^ 63 → intake.limit < length body → IsOneRefusal path intake (request_of host path body) 413

pub body_small : (host path body request : List ℕ) → request ≡ request_of host path body → length request ≤ 2 ^ 62 → length body < 2 ^ 63
body_small host path body request e small =
    let len : length request ≡ length (request_head host path (decimal (length body))) + length body = ap length e ∙ length-append (request_head host path (decimal (length body))) body in
    omega arith

asked_if : (b : Bool) (host path : List ℕ) (intake : Intake) (s : Request) (request : List ℕ) (old new : State) (r : Result ℕ AllocError) → nat_lt intake.limit (length (body_of s.batch)) ≡ b →
    IsReadAgain s.batch → request ≡ request_of host path (body_of s.batch) → is_host_name host ≡ true → is_request_path path ≡ true → length request ≤ 2 ^ 62 → ReadsSound → RefusesLong →
    ((body : List ℕ) → IsOneRequest path intake request body → IsExchanged HasAnswered body old r new) → ((status : ℕ) → IsOneRefusal path intake request status → IsRefusedUnasked status old r new) →
    IsReplied (cond b (record { status = 413; head = old }) (answer_to old (Ok (message (map labelled s.batch))))) old r new
asked_if true host path intake s request old new r b is e h p small reads refuses a f =
    let long : intake.limit < length (body_of s.batch) = grind (arith, nat_tests) in
    refused_by old new r (f 413 (subst (λ x. IsOneRefusal path intake x 413) (sym e) (refuses host path (body_of s.batch) intake h p (body_small host path (body_of s.batch) request e small) long)))
asked_if false host path intake s request old new r b is e h p small reads refuses a f =
    let short : length (body_of s.batch) ≤ intake.limit = grind (arith, nat_tests) in
    answered_by old new s.batch r is (a (body_of s.batch) (subst (λ x. IsOneRequest path intake x (body_of s.batch)) (sym e) (reads host path (body_of s.batch) intake h p (body_small host path (body_of s.batch) request e small) short)))

pub asked : (host path : List ℕ) (intake : Intake) (s : Request) (request : List ℕ) (old new : State) (r : Result ℕ AllocError) → IsSentTo host path s → request ≡ s.bytes → is_host_name host ≡ true → is_request_path path ≡ true →
    length request ≤ 2 ^ 62 → ReadsSound → RefusesLong →
    ((body : List ℕ) → IsOneRequest path intake request body → IsExchanged HasAnswered body old r new) → ((status : ℕ) → IsOneRefusal path intake request status → IsRefusedUnasked status old r new) →
    IsReplied (answer_to_batch intake.limit old s.batch) old r new
asked host path intake s request old new r i e h p small reads refuses a f =
    asked_if (nat_lt intake.limit (length (body_of s.batch))) host path intake s request old new r refl i.read (e ∙ i.bytes) h p small reads refuses a f

sent_if : (b : Bool) (host path : List ℕ) (s : Request) (r : Option Request) → r ≡ cond b (Some s) None → IsSentTo host path s → IfSome r (λ q. IsSentTo host path q)
sent_if true host path s None e i = absurd (cc)
sent_if true host path s (Some q) e i = let same : s ≡ q = cc in subst (IsSentTo host path) same i
sent_if false host path s None e i = tt
sent_if false host path s (Some q) e i = absurd (cc)

-- what a shard sends is a request to its target
pub sent_to : (target : Target) (h : Shard) (r : Option Request) → r ≡ sent_request h → h.core.target ≡ target → IsReadAgain h.core.batch → IfSome r (λ q. IsSentTo target.host target.path q)
sent_to target h r e t is =
    let bytes : request_for h.core ≡ request_of target.host target.path (body_of h.core.batch) = ap (λ (x : Target). request_of x.host x.path (body_of h.core.batch)) t in
    sent_if (can_send h.core) target.host target.path (request_by h) r e (record { bytes = bytes; read = is })
