-- The small open receiver is one of those that the law of a stopped shipper speaks of.
use Rattle.std.proofs.Common.{◌≡◌, ℕ, zero, suc, Bool, true, false, cond, [], ◌∷◌, slice_get, Some, Ok, refl, sym, ap, ◌∙◌, subst, arith}
use Rattle.std.specs.FinMap.{empty}
use Rattle.std.specs.declared.alloc.Global.{Global}
use Rattle.std.specs.declared.sync.Arc.{Arc}
use Rattle.std.proofs.lemmas.Option.{same_Some, none-some}
use Rattle.rw_types.proofs.shared.BeginningLemmas.{begins_itself}
use Rattle.rw_types.specs.Labels.{Labels}
use Rattle.rw_types.specs.LabelOrder.{labels_eq}
use Rattle.rw_types.specs.Rising.{Rises}
use Rattle.rw_write_request.specs.Canon.{canon}
use Rattle.rw_write_request.specs.Message.{WriteRequest}
use Rattle.rw_write_request.specs.Read.{read}
use Rattle.rw_write_request.specs.Valid.{IsMessage}
use Rattle.rw_worker.specs.Setups.{WorkerSetup}
use Rattle.rw_worker.specs.Transcript.{Exchange}
use Rattle.rw_worker.specs.declared.transport.Reply.{Reply}
use Rattle.rw_head.specs.Growth.{EachRises}
use Rattle.rw_head.specs.Lists.{IsEarlier}
use Rattle.rw_head.specs.Store.{list_of}
use Rattle.rw_head.proofs.shared.StoreLemmas.{list_of-empty, list_of-with_list}
use Rattle.rw_restarts.specs.Arrivals.{Arrival, Receives, IsAnsweredBy}
use Rattle.rw_restarts.specs.Stopped.{IsGrown, IsOpenReceiver}
use Rattle.rw_restarts.specs.Examples.{example_series, first, with_first}
use Rattle.rw_restarts.specs.WireExamples as wire
use Rattle.rw_restarts.specs.OpenExamples.{arrival, arrivals, heads, answered, exchanges}
use Rattle.rw_restarts.proofs.WireExampleLemmas.{only-one, same_reply, received}

rises-empty : EachRises empty
rises-empty l = subst (Rises IsEarlier) (sym (list_of-empty l)) tt

rises-first : EachRises with_first
rises-first l = subst (Rises IsEarlier) (sym (list_of-with_list example_series (first ∷ []) empty l)) (by_label (labels_eq l example_series))
  where
    by_label : (b : Bool) → Rises IsEarlier (cond b (first ∷ []) (list_of empty l))
    by_label true = (tt, tt)
    by_label false = rises-empty l

grown : IsGrown with_first with_first
grown = record { rises = rises-first; begins = λ l. begins_itself (list_of with_first l) }

module _ (reads : (m : WriteRequest) → IsMessage m → read (canon m) ≡ Ok m) (worker : WorkerSetup) (shared : Arc Labels Global) where
  abbrev HasReceived : ℕ → Arrival → Type 0
  HasReceived n a =
      (x : Exchange) × (slice_get (exchanges worker shared a.epoch a.shard) a.number ≡ Some x) × Receives wire.receiver a.how x.request (heads n) a.status (answered n)

  receives : (n : ℕ) (a : Arrival) → slice_get arrivals n ≡ Some a → HasReceived n a
  receives zero a e = subst (HasReceived 0) (same_Some arrival a e) (wire.exchange worker shared, refl, received reads worker shared)
  receives (suc n) a e = absurd (none-some a e)

  given : (e k i : ℕ) (x : Exchange) (r : Reply) → slice_get (exchanges worker shared e k) i ≡ Some x → x.answer ≡ Ok r → IsAnsweredBy arrivals 1 e k i r.status
  given zero zero i x r is answer =
      let one = only-one (wire.exchange worker shared) x i is in
      record {
        at = 0;
        early = omega arith;
        a = arrival;
        is = refl;
        epoch_is = refl;
        shard_is = refl;
        number_is = sym one.0;
        status_is = ap (λ (y : Reply). y.status) (same_reply (record { status = 204 }) r (ap (λ (y : Exchange). y.answer) one.1 ∙ answer));
      }
  given zero (suc k) i x r is answer = absurd (none-some x is)
  given (suc e) k i x r is answer = absurd (none-some x is)

  pub open-receiver-is : IsOpenReceiver wire.receiver (exchanges worker shared) arrivals heads answered
  open-receiver-is = record {
    rises = rises-empty;
    receives = receives;
    between = λ n early. grown;
    statuses_given = given;
  }
