-- Requests come to the receiver: what has come, and is answered.
use Rattle.std.proofs.Common.{◌≡◌, ℕ, zero, suc, ◌<◌, ◌==◌, ◌&&◌, Bool, true, false, cond, List, [], ◌∷◌, ◌++◌, filter, length, Some, slice_get, refl, sym, ap, ◌∙◌, subst, length-append, arith, ◌⊎◌, inl, inr}
use Rattle.std.specs.List.{AllByRecursion}
use Rattle.std.proofs.lemmas.Bool.Decides.{eqb_tells}
use Rattle.std.proofs.lemmas.List.Elements.{filter-append}
use Rattle.std.proofs.lemmas.Option.{same_Some, none-some}
use Rattle.rw_shard_core.specs.Shard.{IsReadAgain}
use Rattle.rw_worker.specs.Transcript.{Exchange, batch_request}
use Rattle.rw_head.specs.Head.{State}
use Rattle.rw_machine.specs.Worlds.{Setup, Request, World, start}
use Rattle.rw_machine.specs.Worlds as worlds
use Rattle.rw_machine.specs.Steps.{with_answer, arrive, endpoint_answer, happens, run}
use Rattle.rw_machine.specs.Promises.{CarriesItsBatch}
use Rattle.rw_machine.specs.declared.event.How.{How}
use Rattle.rw_machine.specs.declared.event.How.TheVariants.{Plain, Busy, OutOfMemory}
use Rattle.rw_machine.specs.declared.event.Event.{Event}
use Rattle.rw_machine.specs.declared.event.Event.TheVariants as event
use Rattle.rw_machine.proofs.shared.Settles.{run_append}
use Rattle.rw_restarts.specs.Arrivals.{Arrival, Receives}
use Rattle.rw_restarts.proofs.shared.ListLemmas.{get-first}
use Rattle.rw_simulation.specs.Freely.{Happening, IsOwn, run_freely}
use Rattle.rw_simulation.specs.Tallies.{requests_of}
use Rattle.rw_simulation.specs.OneReceivers.{IsOneReceiver}
use Rattle.rw_simulation.proofs.Changes.{get-last}
use Rattle.rw_simulation.proofs.OwnRuns.{OwnRun, own-run}

-- ---- the requests of a shard
abbrev pub is_of : ℕ → ℕ → Request → Bool
is_of epoch k r = (r.id.epoch == epoch) && (r.id.shard == k)

-- a request stays at its place, whatever comes after
pub still-at : (epoch k i : ℕ) (rs more : List Request) (r : Request) → slice_get (requests_of epoch k rs) i ≡ Some r → slice_get (requests_of epoch k (rs ++ more)) i ≡ Some r
still-at epoch k i rs more r at = ap (λ (xs : List Request). slice_get xs i) (filter-append (is_of epoch k) rs more) ∙ get-first (requests_of epoch k rs) (filter (is_of epoch k) more) i r at

-- and it is one of all
pub find-in : (p : Request → Bool) (rs : List Request) (i : ℕ) (r : Request) → slice_get (filter p rs) i ≡ Some r → (j : ℕ) × (slice_get rs j ≡ Some r)
find-in p [] i r e = absurd (none-some r e)
find-in p (x ∷ xs) i r e = by_test (p x) i e (λ j f. find-in p xs j r f)
  where
    by_test : (b : Bool) (i : ℕ) → slice_get (cond b (x ∷ filter p xs) (filter p xs)) i ≡ Some r → ((j : ℕ) → slice_get (filter p xs) j ≡ Some r → (j : ℕ) × (slice_get xs j ≡ Some r)) → (j : ℕ) × (slice_get (x ∷ xs) j ≡ Some r)
    by_test true zero e go = (0, e)
    by_test true (suc i) e go = let h = go i e in (suc h.0, h.1)
    by_test false i e go = let h = go i e in (suc h.0, h.1)

-- ---- what reads again
-- the body of each of these requests reads again as the message of its batch
abbrev pub AreRead : List Request → Type 0
AreRead requests = (i : ℕ) (r : Request) → slice_get requests i ≡ Some r → IsReadAgain r.batch

pub none-read : AreRead []
none-read i r e = absurd (none-some r e)

pub one-read : (r : Request) → IsReadAgain r.batch → AreRead (r ∷ [])
one-read r read zero q e = subst (λ (x : Request). IsReadAgain x.batch) (same_Some _ _ e) read
one-read r read (suc i) q e = absurd (none-some q e)

-- the i-th of these requests has the bytes of the exchange, and its body reads again
abbrev pub IsSentAs : List Request → ℕ → Exchange → Type 0
IsSentAs requests i x = (r : Request) × (slice_get requests i ≡ Some r) × (r.bytes ≡ x.request) × IsReadAgain r.batch

pub below_it : (k m : ℕ) → k < suc m → (k ≡ m → ⊥) → k < m
below_it k m lt differ = omega arith

-- ---- what has come
module _ (c : Setup) (exs : ℕ → ℕ → List Exchange) (arrivals : List Arrival) (heads : ℕ → State) (one : IsOneReceiver c exs arrivals heads) where
  -- the arrival is of a request that was sent, and the reply to it is there
  pub record IsAnsweredAs (requests : List Request) (replies : List worlds.Reply) (i : ℕ) (a : Arrival) : Type 0 where
    pub request : Request
    pub at : slice_get (requests_of a.epoch a.shard requests) a.number ≡ Some request
    pub reply : slice_get replies i ≡ Some (record { id = request.id; status = a.status })

  -- A schedule of the machine leads here, in which these arrivals and no others were made.
  pub record HasArrived (m : ℕ) (w : World) : Type 0 where
    pub events : List Event
    pub is : run c events (start c) ≡ w
    pub count : length w.replies ≡ m
    pub head : w.head ≡ heads m
    pub each : (i : ℕ) (a : Arrival) → i < m → slice_get arrivals i ≡ Some a → IsAnsweredAs w.requests w.replies i a

  pub arrived-own : (m : ℕ) (w v : World) (hs : List Happening) → HasArrived m w → AllByRecursion IsOwn hs → run_freely c hs w ≡ v → HasArrived m v
  arrived-own m w v hs a own is = record {
    events = a.events ++ r.events;
    is = run_append c a.events r.events (start c) ∙ ap (run c r.events) a.is ∙ r.is ∙ is;
    count = ap length replies ∙ a.count;
    head = ap (λ (x : World). x.head) (sym is) ∙ r.grows.head ∙ a.head;
    each = λ i b lt e. let x = a.each i b lt e in record {
      request = x.request;
      at = ap (λ (rs : List Request). slice_get (requests_of b.epoch b.shard rs) b.number) requests ∙ still-at b.epoch b.shard b.number w.requests r.grows.more x.request x.at;
      reply = ap (λ (rs : List worlds.Reply). slice_get rs i) replies ∙ x.reply;
    };
  }
    where
      r : OwnRun c hs w
      r = own-run c hs w own

      replies : v.replies ≡ w.replies
      replies = ap (λ (x : World). x.replies) (sym is) ∙ r.grows.replies

      requests : v.requests ≡ w.requests ++ r.grows.more
      requests = ap (λ (x : World). x.requests) (sym is) ∙ r.grows.requests

  -- the request has come, and is answered
  abbrev pub came : ℕ → World → Arrival → Request → World
  came m w a r = record w { replies = w.replies ++ record { id = r.id; status = a.status } ∷ []; head = heads (suc m) }

  pub comes : (m : ℕ) (w : World) (a : Arrival) (r : Request) (x : Exchange) → w.head ≡ heads m → slice_get arrivals m ≡ Some a → slice_get (requests_of a.epoch a.shard w.requests) a.number ≡ Some r → slice_get (exs a.epoch a.shard) a.number ≡ Some x → r.bytes ≡ x.request → CarriesItsBatch c r → IsReadAgain r.batch
      → (j : ℕ) × (happens c w (event.Arrive j a.how) ≡ came m w a r)
  comes m w a r x head at sent is bytes carries read = (found.0, ap (arrive c w a.how) found.1 ∙ by_how a.how received.2)
    where
      found : (j : ℕ) × (slice_get w.requests j ≡ Some r)
      found = find-in (is_of a.epoch a.shard) w.requests a.number r sent

      received : (y : Exchange) × (slice_get (exs a.epoch a.shard) a.number ≡ Some y) × Receives c a.how y.request (heads m) a.status (heads (suc m))
      received = one.receives m a at

      carried : received.0.request ≡ batch_request c.target r.batch
      carried = ap (λ (y : Exchange). y.request) (same_Some _ _ (sym received.1 ∙ is)) ∙ sym bytes ∙ carries

      by_how : (how : How) → Receives c how received.0.request (heads m) a.status (heads (suc m)) → arrive c w how (Some r) ≡ came m w a r
      by_how Plain h = ap (λ (s : State). with_answer w r.id (endpoint_answer c s r.batch)) head ∙ ap (with_answer w r.id) (h r.batch read carried)
      by_how Busy h = let status = sym h.0 in let next = head ∙ sym h.1 in λ i. with_answer w r.id (record { status = status i; head = next i })
      by_how OutOfMemory h = let status = sym h.0 in let next = head ∙ sym h.1 in λ i. with_answer w r.id (record { status = status i; head = next i })

  pub arrived-next : (m : ℕ) (w : World) (a : Arrival) (r : Request) → HasArrived m w → slice_get arrivals m ≡ Some a → slice_get (requests_of a.epoch a.shard w.requests) a.number ≡ Some r → (j : ℕ) → happens c w (event.Arrive j a.how) ≡ came m w a r → HasArrived (suc m) (came m w a r)
  arrived-next m w a r h at sent j is = record {
    events = h.events ++ event.Arrive j a.how ∷ [];
    is = run_append c h.events (event.Arrive j a.how ∷ []) (start c) ∙ ap (λ (x : World). happens c x (event.Arrive j a.how)) h.is ∙ is;
    count = one_more w.replies (record { id = r.id; status = a.status }) m h.count;
    head = refl;
    each = λ i b lt e. by_place i b lt e (eqb_tells i m);
  }
    where
      one_more : (rs : List worlds.Reply) (x : worlds.Reply) (n : ℕ) → length rs ≡ n → length (rs ++ x ∷ []) ≡ suc n
      one_more rs x n e = let l = length-append rs (x ∷ []) in omega arith

      by_place : (i : ℕ) (b : Arrival) → i < suc m → slice_get arrivals i ≡ Some b → (((i == m) ≡ true) × (i ≡ m)) ⊎ (((i == m) ≡ false) × (i ≡ m → ⊥)) → IsAnsweredAs w.requests (w.replies ++ record { id = r.id; status = a.status } ∷ []) i b
      by_place i b lt e (inl same) =
          let own : a ≡ b = same_Some _ _ (sym at ∙ ap (slice_get arrivals) (sym same.1) ∙ e) in
          subst (λ (y : Arrival). IsAnsweredAs w.requests (w.replies ++ record { id = r.id; status = a.status } ∷ []) i y) own (record {
            request = r;
            at = sent;
            reply = ap (slice_get (w.replies ++ record { id = r.id; status = a.status } ∷ [])) (same.1 ∙ sym h.count) ∙ get-last w.replies (record { id = r.id; status = a.status });
          })
      by_place i b lt e (inr differ) = let x = h.each i b (below_it i m lt differ.1) e in record {
        request = x.request;
        at = x.at;
        reply = get-first w.replies (record { id = r.id; status = a.status } ∷ []) i _ x.reply;
      }
