-- What a request's exchange comes to.
use Rattle.std.proofs.Common.{◌≡◌, ℕ, ◌+◌, ◌<◌, ◌≤◌, ◌^◌, inl, inr, Bool, true, false, cond, List, [], ◌∷◌, ◌++◌, length, map, Some, Ok, refl, sym, ap, subst, ◌∙◌, arith, length-append}
use Rattle.std.proofs.lemmas.Bool.Decides.{nat_tests}
use Rattle.std.proofs.lemmas.List.Elements.{All-push, All-get_or}
use Rattle.std.proofs.lemmas.Option.{get_or_from_slice_get, slice_get_within}
use Rattle.std.specs.Prelude.{nat_lt, decimal, slice_get}
use Rattle.rw_types.specs.Requests.{is_host_name, is_request_path}
use Rattle.rw_batch.specs.Grouping.{message}
use Rattle.rw_shard_core.specs.declared.config.Target.{Target}
use Rattle.rw_shard_core.specs.Shard.{labelled, body_of, IsReadAgain}
use Rattle.rw_shard_core.specs.SentRequest.{request_of, request_head}
use Rattle.rw_head.specs.Head.{answer_to}
use Rattle.rw_endpoint.specs.Alone.{IsOneRequest, IsOneRefusal}
use Rattle.rw_endpoint.specs.declared.intake.Intake.{Intake}
use Rattle.rw_machine.specs.Worlds.{Setup, Request, World}
use Rattle.rw_machine.specs.Steps.{arrive, endpoint_answer}
use Rattle.rw_machine.specs.Promises.{CarriesItsBatch}
use Rattle.rw_machine.specs.declared.event.How.TheVariants.{Plain}
use Rattle.rw_world.specs.Answering.{IsSentTo}
use Rattle.rw_world.specs.Arriving.{IsAnswerTo, IsAnsweredAsBytes, AnswersBytes}
use Rattle.rw_world.specs.inner.Arriving.{IsServed}
use Rattle.rw_world.proofs.shared.AnswerLemmas.{ReadsSound, RefusesLong}

-- what the endpoint takes of bodies
abbrev intake_with : Setup → Bool → Intake
intake_with c snappy = record { limit = c.max_body; snappy = snappy }

-- an arrival is answered as the endpoint answers the bytes
pub answers_one : (c : Setup) (w : World) (k : ℕ) (r : Request) → is_host_name c.target.host ≡ true → is_request_path c.target.path ≡ true → ReadsSound → RefusesLong →
    CarriesItsBatch c r → IsReadAgain r.batch → slice_get w.requests k ≡ Some r → length r.bytes < 2 ^ 63 → IsAnsweredAsBytes c w k r
answers_one c w k r h p reads refuses bytes again at few snappy =
    (endpoint_answer c w.head r.batch, by_limit (nat_lt c.max_body (length (body_of r.batch))) refl, ap (arrive c w Plain) at)
  where
    head : List ℕ
    head = request_head c.target.host c.target.path (decimal (length (body_of r.batch)))

    small : length (body_of r.batch) < 2 ^ 63
    small = let long : length r.bytes ≡ length head + length (body_of r.batch) = ap length bytes ∙ length-append head (body_of r.batch) in omega arith

    by_limit : (b : Bool) → nat_lt c.max_body (length (body_of r.batch)) ≡ b →
        IsAnswerTo c.target.path (intake_with c snappy) w.head r.bytes (cond b (record { status = 413; head = w.head }) (answer_to w.head (Ok (message (map labelled r.batch)))))
    by_limit true e =
        let over : c.max_body < length (body_of r.batch) = grind (arith, nat_tests) in
        inr (413, subst (λ x. IsOneRefusal c.target.path (intake_with c snappy) x 413) (sym bytes) (refuses c.target.host c.target.path (body_of r.batch) (intake_with c snappy) h p small over), refl)
    by_limit false e =
        let within : length (body_of r.batch) ≤ c.max_body = grind (arith, nat_tests) in
        inl (body_of r.batch, subst (λ x. IsOneRequest c.target.path (intake_with c snappy) x (body_of r.batch)) (sym bytes) (reads c.target.host c.target.path (body_of r.batch) (intake_with c snappy) h p small within), ap (answer_to w.head) (sym again))

-- so is each of the requests to a receiver
pub answers : (c : Setup) (w : World) (host path : List ℕ) → is_host_name host ≡ true → is_request_path path ≡ true → ReadsSound → RefusesLong → IsServed c.target host path w.requests → AnswersBytes c w
answers c w host path h p reads refuses s k r at few =
    let sent : IsSentTo host path r = subst (IsSentTo host path) (get_or_from_slice_get w.requests k r r at) (All-get_or (IsSentTo host path) w.requests k r (slice_get_within w.requests k r at) s.sent) in
    let bytes : CarriesItsBatch c r = sent.bytes ∙ ap (λ x. request_of x path (body_of r.batch)) (sym s.host_is) ∙ ap (λ x. request_of c.target.host x (body_of r.batch)) (sym s.path_is) in
    answers_one c w k r (ap is_host_name s.host_is ∙ h) (ap is_request_path s.path_is ∙ p) reads refuses bytes sent.read at few

-- the target stays
pub same_target : (target target' : Target) (host path : List ℕ) (requests : List Request) → target' ≡ target → IsServed target host path requests → IsServed target' host path requests
same_target target target' host path requests e s = subst (λ t. IsServed t host path requests) (sym e) s

-- one more request
pub one_more : (target target' : Target) (host path : List ℕ) (requests : List Request) (s : Request) → target' ≡ target → IsServed target host path requests → IsSentTo target.host target.path s → IsServed target' host path (requests ++ s ∷ [])
one_more target target' host path requests s e v i =
    let sent : IsSentTo host path s = subst (λ x. IsSentTo x path s) v.host_is (subst (λ x. IsSentTo target.host x s) v.path_is i) in
    same_target target target' host path (requests ++ s ∷ []) e (record { host_is = v.host_is; path_is = v.path_is; sent = All-push (IsSentTo host path) requests s v.sent sent })
