-- What the replies say of the batches: no batch is both taken and refused.
use Rattle.std.proofs.Common.{◌≡◌, ℕ, true, false, List, [], ◌∷◌, ◌++◌, Option, Some, None, is_some, slice_get, refl, sym, ap, ◌∙◌, ◌&&◌, not, nat_le}
use Rattle.rw_head.specs.Store.{list_of}
use Rattle.rw_retry.specs.Judgements.{judgement_of}
use Rattle.rw_retry.specs.declared.judgement.Judgement.TheVariants.{Again, Done, Refused}
use Rattle.std.specs.List.{AllByRecursion}
use Rattle.rw_types.proofs.shared.AllLemmas.{AllByRecursion-append, AllByRecursion-get, AllByRecursion-weaker}
use Rattle.rw_types.proofs.shared.Booleans.{either}
use Rattle.rw_machine.proofs.shared.Frames.{place_frame, reply_frame, restart_frame}
use Rattle.rw_machine.proofs.shared.Ids.{get_kept, one_batch}
use Rattle.rw_machine.proofs.Invariant.{Inv, RequestOk}
use Rattle.rw_machine.proofs.Arrives.{plain_tells}
use Rattle.rw_machine.proofs.shared.Runs.{along, begins}
use Rattle.rw_machine.proofs.shared.Views.{is_let_in}
use Rattle.rw_machine.specs.Promises.{NeverTakesAndRefuses}
use Rattle.rw_machine.specs.Shards.{Shard}
use Rattle.rw_machine.specs.Steps.{act, arrive, endpoint_answer, run, send_batch}
use Rattle.rw_machine.specs.Worlds.{Reply, Request, Setup, World, is_finished, start}
use Rattle.rw_machine.specs.declared.event.Event.{Event}
use Rattle.rw_machine.specs.declared.event.Event.TheVariants as event
use Rattle.rw_machine.specs.declared.event.How.{How}
use Rattle.rw_machine.specs.declared.event.How.TheVariants.{Busy, Plain, OutOfMemory}
use Rattle.rw_shard_core.specs.Shard.{can_send}

-- a reply is one to a request, and says whether the receiver's limits let its batch in
record Says (c : Setup) (requests : List Request) (a : Reply) : Type 0 where
  at : ℕ
  request : Request
  stands : slice_get requests at ≡ Some request
  id_is : request.id ≡ a.id
  done_in : judgement_of a.status ≡ Done → is_let_in c request.batch ≡ true
  refused_out : judgement_of a.status ≡ Refused → is_let_in c request.batch ≡ false

abbrev EachSays : Setup → World → Type 0
EachSays c w = AllByRecursion (Says c w.requests) w.replies

says_send : (c : Setup) (w : World) (i : ℕ) (o : Option Shard) → EachSays c w → EachSays c (send_batch w i o)
says_send c w i None q = q
says_send c w i (Some s) q = either (EachSays c) (can_send s.core) _ w (λ _. AllByRecursion-weaker (Says c w.requests) (Says c (w.requests ++ _ ∷ [])) (λ a h. record { at = h.at; request = h.request; stands = get_kept w.requests _ h.at h.request h.stands; id_is = h.id_is; done_in = h.done_in; refused_out = h.refused_out }) w.replies q) (λ _. q)

says_arrive : (c : Setup) (w : World) (how : How) (k : ℕ) (o : Option Request) → slice_get w.requests k ≡ o → Inv c w → EachSays c w → EachSays c (arrive c w how o)
says_arrive c w how k None e at q = q
says_arrive c w how k (Some r) e at q = by_how how
  where
    told : (status : ℕ) → (judgement_of status ≡ Done → is_let_in c r.batch ≡ true) × (judgement_of status ≡ Refused → is_let_in c r.batch ≡ false) → AllByRecursion (Says c w.requests) (w.replies ++ record { id = r.id; status = status } ∷ [])
    told status tells = AllByRecursion-append (Says c w.requests) w.replies (record { id = r.id; status = status } ∷ []) q (record { at = k; request = r; stands = e; id_is = refl; done_in = tells.0; refused_out = tells.1 }, tt)

    again : (status : ℕ) → judgement_of status ≡ Again → (judgement_of status ≡ Done → is_let_in c r.batch ≡ true) × (judgement_of status ≡ Refused → is_let_in c r.batch ≡ false)
    again status is = (λ d. let z : Again ≡ Done = sym is ∙ d in let never : Again ≡ Done → ⊥ = λ h. cc in absurd (never z), λ d. let z : Again ≡ Refused = sym is ∙ d in let never : Again ≡ Refused → ⊥ = λ h. cc in absurd (never z))

    by_how : (how : How) → EachSays c (arrive c w how (Some r))
    by_how Plain = told (endpoint_answer c w.head r.batch).status (plain_tells c w at r (AllByRecursion-get (RequestOk c w.epoch w.shards (list_of w.head.store)) w.requests k r at.requests_ok e))
    by_how Busy = told 429 (again 429 refl)
    by_how OutOfMemory = told 503 (again 503 refl)

says_act : (c : Setup) (w : World) (e : Event) → Inv c w → EachSays c w → EachSays c (act c w e)
says_act c w (event.Feed piece) at q = either (EachSays c) (is_some w.closed) w _ (λ _. q) (λ _. q)
says_act c w event.Place at q = place_frame (EachSays c) c w (λ _ _ _ _ _. q)
says_act c w (event.Flush i) at q = q
says_act c w (event.Take i) at q = q
says_act c w (event.Freeze i) at q = q
says_act c w (event.Send i) at q = says_send c w i (slice_get w.shards i) q
says_act c w (event.Arrive k how) at q = says_arrive c w how k (slice_get w.requests k) refl at q
says_act c w (event.Reply k) at q = reply_frame (EachSays c) w (slice_get w.replies k) (λ _ _. q)
says_act c w (event.Lost i) at q = q
says_act c w (event.Reshard n) at q = either (EachSays c) (not (is_some w.draining) && (not (is_finished w) && (nat_le 1 n && nat_le n 1000))) _ w (λ _. q) (λ _. q)
says_act c w event.Restart at q = restart_frame (EachSays c) c w w.draining (λ _ _ _. q)
says_act c w event.Close at q = either (EachSays c) (is_some w.closed) w _ (λ _. q) (λ _. q)
says_act c w event.Kill at q = q

pub never_both : (c : Setup) (events : List Event) → NeverTakesAndRefuses c (run c events (start c))
never_both c events i j a b at_i at_j ids done refused =
    let w : World = run c events (start c) in
    let at : EachSays c w = along c (EachSays c) (says_act c) events (start c) (begins c) tt in
    let x : Says c w.requests a = AllByRecursion-get (Says c w.requests) w.replies i a at at_i in
    let y : Says c w.requests b = AllByRecursion-get (Says c w.requests) w.replies j b at at_j in
    let same : x.request.batch ≡ y.request.batch = one_batch c events x.at y.at x.request y.request x.stands y.stands (x.id_is ∙ ids ∙ sym y.id_is) in
    let both : true ≡ false = sym (x.done_in done) ∙ ap (is_let_in c) same ∙ y.refused_out refused in
    let never : true ≡ false → ⊥ = λ h. cc in never both
