-- Requests come to the receiver in whatever order, while the workers of an epoch go on.
use Rattle.std.proofs.Common.{◌≡◌, ℕ, zero, suc, ◌+◌, ◌-◌, ◌<◌, ◌≤◌, ◌==◌, true, false, List, [], ◌∷◌, ◌++◌, map, length, Option, None, Some, Result, Ok, Err, slice_get, refl, sym, ap, ◌∙◌, subst, append-nil, append_assoc, length-append, arith, ◌⊎◌, inl, inr}
use Rattle.std.specs.List.{AllByRecursion}
use Rattle.std.proofs.lemmas.Bool.Decides.{eqb_tells}
use Rattle.std.proofs.lemmas.List.{length-map, map-append}
use Rattle.std.proofs.lemmas.List.Elements.{filter-append}
use Rattle.std.proofs.lemmas.Option.{same_Some, slice_get_within}
use Rattle.rw_types.specs.declared.entry.Entry.{Entry}
use Rattle.rw_ledger.specs.Names.{Named}
use Rattle.rw_retry.specs.Judgements.{judgement_of}
use Rattle.rw_plain_queue.specs.declared.item.Item.{Item}
use Rattle.rw_shard_core.specs.Shard.{Core, IsReadAgain, settle, lose, batch_id, freeze}
use Rattle.rw_worker.specs.declared.transport.Reply.{Reply}
use Rattle.rw_worker.specs.declared.transport.Lost.{Lost}
use Rattle.rw_worker.specs.Transcript.{Exchange, exchange_of}
use Rattle.rw_worker.specs.Steps.{Working, working, Step, Takes, Freezes, Sends, Waits, AreSteps, after, after_step, items_of, exchanges_of}
use Rattle.rw_head.specs.Head.{State}
use Rattle.rw_machine.specs.Shards.{Shard, Queued, is_drained, shard_take, shard_freeze, shard_lost, with_core}
use Rattle.rw_machine.specs.Worlds.{Setup, Request, World}
use Rattle.rw_machine.specs.Steps.{change, happens, names_after_reply, reply_to, request_by, take_reply, unless_over}
use Rattle.rw_machine.specs.Promises.{CarriesItsBatch, CarriesEachBatch}
use Rattle.rw_machine.specs.declared.event.Event.TheVariants as event
use Rattle.rw_machine.proofs.shared.Places.{get_some, length_change}
use Rattle.rw_restarts.specs.Arrivals.{Arrival, IsAnsweredBy}
use Rattle.rw_restarts.proofs.shared.ListLemmas.{get-first, get-either, get_map, map_get}
use Rattle.rw_simulation.specs.Freely.{Happening, Of, IsOwn, run_freely}
use Rattle.rw_simulation.specs.FreeLaws.{world_of}
use Rattle.rw_simulation.specs.WorkerRuns.{queued, IsIdOf, IsShardNumbered, CanEnd, sent_bytes, request_in}
use Rattle.rw_simulation.specs.Tallies.{Past, IsTallied, requests_of}
use Rattle.rw_simulation.specs.EpochRuns.{ShardFate}
use Rattle.rw_simulation.specs.OneReceivers.{IsOneReceiver}
use Rattle.rw_simulation.proofs.Changes.{change-is, change-get, get-last, Goes, not-over}
use Rattle.rw_simulation.proofs.FreeLaws.{keeps-laws}
use Rattle.rw_simulation.proofs.WorkerSteps.{moved, take-is, sent_core, sent_shard, sent_awaits, sent_answers, out_is, own_ids, ledger-step}
use Rattle.rw_simulation.proofs.WorkerLists.{core_after, after-is, numbered-after, epoch-step, goes-on, can-end-after}
use Rattle.rw_simulation.proofs.Tallies.{Names, GrowAlike, alike-self, alike-by, own-requests, other-requests, with_part, part-own, part-other, tallied-shard, tallied-still}
use Rattle.rw_simulation.proofs.EpochRuns.{each-update}
use Rattle.rw_simulation.proofs.EndRuns.{HasCome, IsOver, come-still}
use Rattle.rw_simulation.proofs.Arrived.{is_of, still-at, find-in, AreRead, none-read, one-read, IsSentAs, below_it, IsAnsweredAs, HasArrived, arrived-own, came, comes, arrived-next}

module _ (c : Setup) (exs : ℕ → ℕ → List Exchange) (arrivals : List Arrival) (heads : ℕ → State) (one : IsOneReceiver c exs arrivals heads) where
  -- ---- one epoch, from a world on in which each shard has been put all that it will be put
  module _ (past : Past) (epoch n : ℕ) (fates : ℕ → ShardFate) (placed : List Entry) (u : World) (alive : u.killed ≡ false) (within : (k i : ℕ) (x : Exchange) → slice_get (exs epoch k) i ≡ Some x → k < n) (tells : (k : ℕ) → k < n → (fates k).requests ≡ map request_in (exs epoch k)) where
    -- a shard whose request is out, or not
    abbrev shown : Option Exchange → Shard → Shard
    shown None s = s
    shown (Some e) s = sent_shard s

    abbrev with_held : Option Exchange → List Step → List Step
    with_held None ss = ss
    with_held (Some e) ss = Sends e ∷ ss

    -- what is out is the last one
    abbrev IsLast : Option Exchange → List Exchange → List Request → Shard → Type 0
    IsLast None sent own s = Unit {0}
    IsLast (Some e) sent own s = (before : List Exchange) × (sent ≡ before ++ e ∷ []) × (earlier : List Request) × (own ≡ earlier ++ request_by s ∷ [])

    -- Shard k has sent these requests of its own, with the one that is held out, and its worker
    -- will yet make these steps.
    pub record AtWork (k : ℕ) (held : Option Exchange) (steps : List Step) (sent : List Exchange) (own : List Request) (part : Names) (s : Shard) : Type 0 where
      pub rest : Shard
      pub ledger : Named
      pub is : s ≡ shown held rest
      pub numbered : IsShardNumbered k rest.core
      pub epoch_is : rest.core.epoch ≡ epoch
      pub allowed : AreSteps (working rest.core ledger) (with_held held steps)
      pub queue : rest.queue ≡ map queued (items_of steps) ++ (fates k).left
      pub put : rest.put ≡ (fates k).put
      pub worker : after (working rest.core ledger) (with_held held steps) ≡ (fates k).worker
      pub part_is : ledger.names ≡ part
      pub bytes : map sent_bytes own ≡ map request_in sent
      pub exchanges : sent ++ exchanges_of steps ≡ exs epoch k
      pub last : IsLast held sent own rest
      pub can_end : CanEnd rest (with_held held steps)

    pub record AnyWork (k : ℕ) (own : List Request) (part : Names) (s : Shard) : Type 0 where
      pub held : Option Exchange
      pub steps : List Step
      pub sent : List Exchange
      pub work : AtWork k held steps sent own part s

    -- m arrivals have been made, and the first j shards have come to their fates
    pub record AtWorks (j m : ℕ) (w : World) : Type 0 where
      pub same : w ≡ record u { shards = w.shards; names = w.names; requests = w.requests; replies = w.replies; head = w.head }
      pub count : length w.shards ≡ n
      pub parts : ℕ → Names
      pub tallied : IsTallied c past epoch n placed parts w
      pub each : (k : ℕ) (s : Shard) → slice_get w.shards k ≡ Some s → AnyWork k (requests_of epoch k w.requests) (parts k) s
      pub done : (k : ℕ) (s : Shard) → slice_get w.shards k ≡ Some s → k < j → HasCome epoch k w.requests (parts k) s (fates k)
      pub arrived : HasArrived c exs arrivals heads one m w
      pub read : (k : ℕ) → k < n → AreRead (requests_of epoch k w.requests)
      pub earlier : (e k i : ℕ) (x : Exchange) → e < epoch → slice_get (exs e k) i ≡ Some x → IsSentAs (requests_of e k w.requests) i x

    -- and shard k is so
    pub record Stands (j m k : ℕ) (held : Option Exchange) (steps : List Step) (sent : List Exchange) (w : World) : Type 0 where
      pub all : AtWorks j m w
      pub s : Shard
      pub at : slice_get w.shards k ≡ Some s
      pub work : AtWork k held steps sent (requests_of epoch k w.requests) (all.parts k) s

    not_itself : (j k : ℕ) → k < j → j ≤ k → ⊥
    not_itself j k lt le = omega arith

    -- a shard has moved on
    moves : (j m k : ℕ) (w : World) (all : AtWorks j m w) (s t : Shard) → slice_get w.shards k ≡ Some s → j ≤ k → (was now names : Names) (requests more : List Request) → was ≡ all.parts k → requests ≡ w.requests ++ more → AllByRecursion (IsIdOf epoch k) more → AreRead more
        → GrowAlike w.names names was now → (hs : List Happening) → AllByRecursion IsOwn hs → run_freely c hs w ≡ moved w k t names requests w.replies → (held : Option Exchange) (steps : List Step) (sent : List Exchange) → AtWork k held steps sent (requests_of epoch k requests) now t
        → Stands j m k held steps sent (moved w k t names requests w.replies)
    moves j m k w all s t at le was now names requests more part requests_are ids reads grow hs own is held steps sent work = record {
      all = record {
        same = ap (λ (x : World). record x { shards = later.shards; names = later.names; requests = later.requests; replies = later.replies; head = later.head }) all.same;
        count = length_change k (λ _. t) w.shards ∙ all.count;
        parts = with_part k now all.parts;
        tallied = tallied-shard c past epoch n placed all.parts w later hs k was now more all.tallied is (subst (λ (i : ℕ). k < i) all.count (slice_get_within w.shards k s at)) part requests_are ids grow;
        each = each-update (λ i v. AnyWork i (requests_of epoch i requests) (with_part k now all.parts i) v) t k w.shards
            (λ i v e differ. others i v differ (all.each i v e))
            (record { held = held; steps = steps; sent = sent; work = own_work });
        done = each-update (λ i v. i < j → HasCome epoch i requests (with_part k now all.parts i) v (fates i)) t k w.shards
            (λ i v e differ lt. subst (λ (rs : List Request). HasCome epoch i rs (with_part k now all.parts i) v (fates i)) (sym requests_are) (come-still epoch i k w.requests more now all.parts v (fates i) differ ids (all.done i v e lt)))
            (λ lt. absurd (not_itself j k lt le));
        arrived = arrived-own c exs arrivals heads one m w later hs all.arrived own is;
        read = λ i lt number r e. by_place i number r (get-either (requests_of epoch i w.requests) (requests_of epoch i more) number r (ap (λ (rs : List Request). slice_get rs number) (sym (filter-append (is_of epoch i) w.requests more) ∙ ap (requests_of epoch i) (sym requests_are)) ∙ e)) (λ b. all.read i lt number r b);
        earlier = λ e i number x lt got. let h = all.earlier e i number x lt got in (h.0, ap (λ (rs : List Request). slice_get (requests_of e i rs) number) requests_are ∙ still-at e i number w.requests more h.0 h.1, h.2, h.3);
      };
      s = t;
      at = change-get t k w.shards s at;
      work = own_work;
    }
      where
        later : World
        later = moved w k t names requests w.replies

        by_place : (i number : ℕ) (r : Request) → (slice_get (requests_of epoch i w.requests) number ≡ Some r) ⊎ ((d : ℕ) × (slice_get (requests_of epoch i more) d ≡ Some r)) → (slice_get (requests_of epoch i w.requests) number ≡ Some r → IsReadAgain r.batch) → IsReadAgain r.batch
        by_place i number r (inl b) before = before b
        by_place i number r (inr (d, b)) before = let f = find-in (is_of epoch i) more d r b in reads f.0 r f.1

        own_work : AtWork k held steps sent (requests_of epoch k requests) (with_part k now all.parts k) t
        own_work = subst (λ (p : Names). AtWork k held steps sent (requests_of epoch k requests) p t) (sym (part-own k now all.parts)) work

        others : (i : ℕ) (v : Shard) → (i ≡ k → ⊥) → AnyWork i (requests_of epoch i w.requests) (all.parts i) v → AnyWork i (requests_of epoch i requests) (with_part k now all.parts i) v
        others i v differ any =
            subst (λ (p : Names). AnyWork i (requests_of epoch i requests) p v) (sym (part-other k now all.parts i differ))
            (subst (λ (rs : List Request). AnyWork i rs (all.parts i) v) (sym (ap (requests_of epoch i) requests_are ∙ other-requests epoch i k w.requests more differ ids)) any)

    -- ---- a worker's step
    abbrev after_shard : Step → List Step → Shard → Named → List Queued → Shard
    after_shard st ss r l left = record r { queue = map queued (items_of ss) ++ left; core = (after_step st (working r.core l)).core }

    after-one : (k : ℕ) (st : Step) (ss : List Step) (sent : List Exchange) (own : List Request) (r : Shard) (l : Named) → AreSteps (working r.core l) (st ∷ ss) → IsShardNumbered k r.core → r.core.epoch ≡ epoch → r.queue ≡ map queued (items_of (st ∷ ss)) ++ (fates k).left → r.put ≡ (fates k).put
        → after (working r.core l) (st ∷ ss) ≡ (fates k).worker → map sent_bytes own ≡ map request_in sent → sent ++ exchanges_of ss ≡ exs epoch k → CanEnd r (st ∷ ss)
        → AtWork k None ss sent own (after_step st (working r.core l)).ledger.names (after_shard st ss r l (fates k).left)
    after-one k st ss sent own r l allowed numbered epoch_is queue put worker bytes exchanges can_end = record {
      rest = after_shard st ss r l (fates k).left;
      ledger = (after_step st (working r.core l)).ledger;
      is = refl;
      numbered = subst (IsShardNumbered k) (sym core_is) (numbered-after k st r.core allowed.0 numbered);
      epoch_is = epoch-step st (working r.core l) allowed.0 ∙ epoch_is;
      allowed = allowed.1;
      queue = refl;
      put = put;
      worker = worker;
      part_is = refl;
      bytes = bytes;
      exchanges = exchanges;
      last = tt;
      can_end = subst (λ (x : Core). CanEnd (record r { queue = map queued (items_of ss) ++ (fates k).left; core = x }) ss) (sym core_is) (can-end-after r st ss (fates k).left queue allowed.0 can_end);
    }
      where
        core_is : (after_step st (working r.core l)).core ≡ core_after st r.core
        core_is = after-is st r.core l allowed.0

    alive-now : (j m : ℕ) (w : World) → AtWorks j m w → w.killed ≡ false
    alive-now j m w all = ap (λ (x : World). x.killed) all.same ∙ alive

    -- it is not over before the step of a shard that has one to make
    undrained : (k : ℕ) (held : Option Exchange) (st : Step) (ss : List Step) (r : Shard) (l : Named) → (st ≡ Waits → ⊥) → AreSteps (working r.core l) (st ∷ ss) → CanEnd r (st ∷ ss) → is_drained (shown held r) ≡ false
    undrained k None st ss r l acts allowed can_end = goes-on r st ss acts allowed.0 can_end
    undrained k (Some e) st ss r l acts allowed can_end = goes-on r st ss acts allowed.0 can_end

    record Went (j m k : ℕ) (held : Option Exchange) (steps : List Step) (sent : List Exchange) : Type 0 where
      world : World
      stands : Stands j m k held steps sent world

    -- the world with another shard k, and nothing else changed
    no_more : (w : World) → w.requests ≡ w.requests ++ []
    no_more w = sym (append-nil w.requests)

    take-it : (j m k : ℕ) (x : Item) (ss : List Step) (sent : List Exchange) (w : World) → j ≤ k → Stands j m k None (Takes x ∷ ss) sent w → Went j m k None ss sent
    take-it j m k x ss sent w le h = record {
      world = moved w k t w.names w.requests w.replies;
      stands = moves j m k w h.all r t at le wk.ledger.names wk.ledger.names w.names w.requests [] wk.part_is (no_more w) tt none-read (alike-self w.names wk.ledger.names) (Of (event.Take k) ∷ []) (tt, tt) taken None ss sent
          (after-one k (Takes x) ss sent (requests_of epoch k w.requests) r wk.ledger wk.allowed wk.numbered wk.epoch_is wk.queue wk.put wk.worker wk.bytes wk.exchanges wk.can_end);
    }
      where
        wk : AtWork k None (Takes x ∷ ss) sent (requests_of epoch k w.requests) (h.all.parts k) h.s
        wk = h.work

        r : Shard
        r = wk.rest

        t : Shard
        t = after_shard (Takes x) ss r wk.ledger (fates k).left

        at : slice_get w.shards k ≡ Some r
        at = h.at ∙ ap Some wk.is

        taken : happens c w (event.Take k) ≡ moved w k t w.names w.requests w.replies
        taken =
            ap (unless_over c w (event.Take k)) (not-over w k r at (alive-now j m w h.all, inr (undrained k None (Takes x) ss r wk.ledger (λ e. cc) wk.allowed wk.can_end)))
            ∙ ap (λ zs. record w { shards = zs }) (change-is shard_take k w.shards r at ∙ ap (λ v. change k (λ _. v) w.shards) (take-is r x (map queued (items_of ss) ++ (fates k).left) wk.queue wk.allowed.0.0))

    freeze-it : (j m k : ℕ) (ss : List Step) (sent : List Exchange) (w : World) → j ≤ k → Stands j m k None (Freezes ∷ ss) sent w → Went j m k None ss sent
    freeze-it j m k ss sent w le h = record {
      world = moved w k t w.names w.requests w.replies;
      stands = moves j m k w h.all r t at le wk.ledger.names (after_step Freezes (working r.core wk.ledger)).ledger.names w.names w.requests [] wk.part_is (no_more w) tt none-read
          (subst (λ (l : Names). GrowAlike w.names w.names wk.ledger.names l) (sym (ledger-step Freezes (working r.core wk.ledger) wk.allowed.0)) (alike-self w.names wk.ledger.names)) (Of (event.Freeze k) ∷ []) (tt, tt) frozen None ss sent
          (after-one k Freezes ss sent (requests_of epoch k w.requests) r wk.ledger wk.allowed wk.numbered wk.epoch_is wk.queue wk.put wk.worker wk.bytes wk.exchanges wk.can_end);
    }
      where
        wk : AtWork k None (Freezes ∷ ss) sent (requests_of epoch k w.requests) (h.all.parts k) h.s
        wk = h.work

        r : Shard
        r = wk.rest

        t : Shard
        t = after_shard Freezes ss r wk.ledger (fates k).left

        at : slice_get w.shards k ≡ Some r
        at = h.at ∙ ap Some wk.is

        frozen : happens c w (event.Freeze k) ≡ moved w k t w.names w.requests w.replies
        frozen =
            ap (unless_over c w (event.Freeze k)) (not-over w k r at (alive-now j m w h.all, inr (undrained k None Freezes ss r wk.ledger (λ e. cc) wk.allowed wk.can_end)))
            ∙ ap (λ zs. record w { shards = zs }) (change-is shard_freeze k w.shards r at ∙ ap (λ (q : List Queued). change k (λ _. record r { queue = q; core = freeze r.core }) w.shards) wk.queue)

    -- a step that is not an event
    wait-it : (j m k : ℕ) (ss : List Step) (sent : List Exchange) (w : World) → Stands j m k None (Waits ∷ ss) sent w → Stands j m k None ss sent w
    wait-it j m k ss sent w h = let wk = h.work in record {
      all = h.all;
      s = h.s;
      at = h.at;
      work = record {
        rest = wk.rest;
        ledger = wk.ledger;
        is = wk.is;
        numbered = wk.numbered;
        epoch_is = wk.epoch_is;
        allowed = wk.allowed.1;
        queue = wk.queue;
        put = wk.put;
        worker = wk.worker;
        part_is = wk.part_is;
        bytes = wk.bytes;
        exchanges = wk.exchanges;
        last = tt;
        can_end = record { kept = wk.can_end.kept; ended = wk.can_end.ended; last = wk.can_end.last };
      };
    }

    -- the request goes out
    send-it : (j m k : ℕ) (e : Exchange) (ss : List Step) (sent : List Exchange) (w : World) → j ≤ k → Stands j m k None (Sends e ∷ ss) sent w → Went j m k (Some e) ss (sent ++ e ∷ [])
    send-it j m k e ss sent w le h = record {
      world = moved w k (sent_shard r) w.names (w.requests ++ request_by r ∷ []) w.replies;
      stands = moves j m k w h.all r (sent_shard r) at le wk.ledger.names wk.ledger.names w.names (w.requests ++ request_by r ∷ []) (request_by r ∷ []) wk.part_is refl ids (one-read (request_by r) wk.allowed.0.2) (alike-self w.names wk.ledger.names) (Of (event.Send k) ∷ []) (tt, tt)
          (out_is c w k r at goes wk.numbered wk.allowed.0.0) (Some e) ss (sent ++ e ∷ []) (record {
            rest = r;
            ledger = wk.ledger;
            is = refl;
            numbered = wk.numbered;
            epoch_is = wk.epoch_is;
            allowed = wk.allowed;
            queue = wk.queue;
            put = wk.put;
            worker = wk.worker;
            part_is = refl;
            bytes = ap (map sent_bytes) grown ∙ map-append sent_bytes (requests_of epoch k w.requests) (request_by r ∷ []) ∙ (λ i. wk.bytes i ++ sym wk.allowed.0.1 i ∷ []) ∙ sym (map-append request_in sent (e ∷ []));
            exchanges = append_assoc sent (e ∷ []) (exchanges_of ss) ∙ wk.exchanges;
            last = (sent, refl, requests_of epoch k w.requests, grown);
            can_end = wk.can_end;
          });
    }
      where
        wk : AtWork k None (Sends e ∷ ss) sent (requests_of epoch k w.requests) (h.all.parts k) h.s
        wk = h.work

        r : Shard
        r = wk.rest

        at : slice_get w.shards k ≡ Some r
        at = h.at ∙ ap Some wk.is

        goes : Goes w r
        goes = (alive-now j m w h.all, inr (undrained k None (Sends e) ss r wk.ledger (λ e. cc) wk.allowed wk.can_end))

        ids : AllByRecursion (IsIdOf epoch k) (request_by r ∷ [])
        ids = (subst (λ (i : ℕ). IsIdOf i k (request_by r)) wk.epoch_is (own_ids c w k r at goes wk.numbered wk.allowed.0.0), tt)

        grown : requests_of epoch k (w.requests ++ request_by r ∷ []) ≡ requests_of epoch k w.requests ++ request_by r ∷ []
        grown = own-requests epoch k w.requests (request_by r ∷ []) ids

    -- what is known of the answers to the first exchanges of a shard
    abbrev pub AreAnswered : ℕ → ℕ → ℕ → Type 0
    AreAnswered m k bound = (i : ℕ) (x : Exchange) (r : Reply) → slice_get (exs epoch k) i ≡ Some x → x.answer ≡ Ok r → i < bound → IsAnsweredBy arrivals m epoch k i r.status

    -- the place of the exchange that is out
    record IsPlaced (k : ℕ) (e : Exchange) (sent : List Exchange) (own : List Request) (r : Shard) : Type 0 where
      number : ℕ
      count : suc number ≡ length sent
      exchange : slice_get (exs epoch k) number ≡ Some e
      request : slice_get own number ≡ Some (request_by r)

    place-of : (k : ℕ) (e : Exchange) (ss : List Step) (sent : List Exchange) (own : List Request) (part : Names) (s : Shard) → (wk : AtWork k (Some e) ss sent own part s) → IsPlaced k e sent own wk.rest
    place-of k e ss sent own part s wk = record {
      number = length wk.last.0;
      count = sym (ap length wk.last.1 ∙ length_one wk.last.0 e);
      exchange = ap (λ (xs : List Exchange). slice_get xs (length wk.last.0)) (sym wk.exchanges ∙ ap (λ (xs : List Exchange). xs ++ exchanges_of ss) wk.last.1) ∙ get-first (wk.last.0 ++ e ∷ []) (exchanges_of ss) (length wk.last.0) e (get-last wk.last.0 e);
      request = ap (λ (rs : List Request). slice_get rs (length wk.last.0)) wk.last.3 ∙ ap (slice_get (wk.last.2 ++ request_by wk.rest ∷ [])) same_count ∙ get-last wk.last.2 (request_by wk.rest);
    }
      where
        length_one : {X : Type 0} (xs : List X) (x : X) → length (xs ++ x ∷ []) ≡ suc (length xs)
        length_one xs x = let l = length-append xs (x ∷ []) in omega arith

        inner : (a b : ℕ) → suc a ≡ suc b → a ≡ b
        inner a b e = omega arith

        same_count : length wk.last.0 ≡ length wk.last.2
        same_count = inner (length wk.last.0) (length wk.last.2) (sym (length_one wk.last.0 e) ∙ ap length (sym wk.last.1) ∙ sym (length-map sent request_in) ∙ ap length (sym wk.bytes) ∙ length-map own sent_bytes ∙ ap length wk.last.3 ∙ length_one wk.last.2 (request_by wk.rest))

    -- the answer comes back, or the attempt is given up
    settle-it : (j m k bound : ℕ) (bytes : List ℕ) (a : Result Reply Lost) (ss : List Step) (sent : List Exchange) (w : World) → j ≤ k → AreAnswered m k bound → length sent ≤ bound → Stands j m k (Some (exchange_of bytes a)) ss sent w → Went j m k None ss sent
    settle-it j m k bound bytes (Ok r) ss sent w le known few h = record {
      world = moved w k t (names_after_reply r.status q.core.batch w.names) w.requests w.replies;
      stands = moves j m k w h.all (sent_shard q) t at le wk.ledger.names (after_step st (working q.core wk.ledger)).ledger.names (names_after_reply r.status q.core.batch w.names) w.requests [] wk.part_is (no_more w) tt none-read
          (subst (λ (l : Names). GrowAlike w.names (names_after_reply r.status q.core.batch w.names) wk.ledger.names l) (sym (ledger-step st (working q.core wk.ledger) wk.allowed.0)) (alike-by (st ∷ []) (working q.core wk.ledger) w.names wk.ledger.names)) (Of (event.Reply answer.at) ∷ []) (tt, tt) replied None ss sent
          (after-one k st ss sent (requests_of epoch k w.requests) q wk.ledger wk.allowed wk.numbered wk.epoch_is wk.queue wk.put wk.worker wk.bytes wk.exchanges wk.can_end);
    }
      where
        st : Step
        st = Sends (exchange_of bytes (Ok r))

        wk : AtWork k (Some (exchange_of bytes (Ok r))) ss sent (requests_of epoch k w.requests) (h.all.parts k) h.s
        wk = h.work

        q : Shard
        q = wk.rest

        t : Shard
        t = after_shard st ss q wk.ledger (fates k).left

        at : slice_get w.shards k ≡ Some (sent_shard q)
        at = h.at ∙ ap Some wk.is

        place : IsPlaced k (exchange_of bytes (Ok r)) sent (requests_of epoch k w.requests) q
        place = place-of k (exchange_of bytes (Ok r)) ss sent (requests_of epoch k w.requests) (h.all.parts k) h.s wk

        inside : (i m b : ℕ) → suc i ≡ m → m ≤ b → i < b
        inside i m b e l = omega arith

        answer : IsAnsweredBy arrivals m epoch k place.number r.status
        answer = known place.number (exchange_of bytes (Ok r)) r place.exchange refl (inside place.number (length sent) bound place.count few)

        came_so : IsAnsweredAs c exs arrivals heads one w.requests w.replies answer.at answer.a
        came_so = h.all.arrived.each answer.at answer.a answer.early answer.is

        request_is : came_so.request ≡ request_by q
        request_is = same_Some _ _ (sym came_so.at ∙ (λ i. slice_get (requests_of (answer.epoch_is i) (answer.shard_is i) w.requests) (answer.number_is i)) ∙ place.request)

        reply : slice_get w.replies answer.at ≡ Some (record { id = batch_id q.core.batch; status = r.status })
        reply = came_so.reply ∙ (λ i. Some (record { id = (request_is i).id; status = answer.status_is i }))

        at_own : (batch_id q.core.batch).shard ≡ k
        at_own = (own_ids c (record w { shards = change k (λ _. q) w.shards }) k q (change-get q k w.shards (sent_shard q) at) (alive-now j m w h.all, inr (undrained k None st ss q wk.ledger (λ e. cc) wk.allowed wk.can_end)) wk.numbered wk.allowed.0.0).1

        core_is : settle (judgement_of r.status) (sent_core q.core) ≡ (after_step st (working q.core wk.ledger)).core
        core_is = sym (after-is st q.core wk.ledger wk.allowed.0)

        replied : happens c w (event.Reply answer.at) ≡ moved w k t (names_after_reply r.status q.core.batch w.names) w.requests w.replies
        replied =
            ap (unless_over c w (event.Reply answer.at)) (not-over w k (sent_shard q) at (alive-now j m w h.all, inr (undrained k (Some (exchange_of bytes (Ok r))) st ss q wk.ledger (λ e. cc) wk.allowed wk.can_end)))
            ∙ ap (take_reply w) reply
            ∙ ap (reply_to w (record { id = batch_id q.core.batch; status = r.status })) (ap (slice_get w.shards) at_own ∙ at)
            ∙ rw (sent_answers q.core wk.allowed.0.0) refl
            ∙ ap (λ (i : ℕ). record w { names = names_after_reply r.status q.core.batch w.names; shards = change i (with_core (settle (judgement_of r.status))) w.shards }) at_own
            ∙ ap (λ zs. record w { names = names_after_reply r.status q.core.batch w.names; shards = zs })
            (change-is (with_core (settle (judgement_of r.status))) k w.shards (sent_shard q) at ∙ (λ i. change k (λ _. record q { queue = wk.queue i; core = core_is i }) w.shards))
    settle-it j m k bound bytes (Err lost) ss sent w le known few h = record {
      world = moved w k t w.names w.requests w.replies;
      stands = moves j m k w h.all (sent_shard q) t at le wk.ledger.names wk.ledger.names w.names w.requests [] wk.part_is (no_more w) tt none-read (alike-self w.names wk.ledger.names) (Of (event.Lost k) ∷ []) (tt, tt) gone None ss sent
          (after-one k st ss sent (requests_of epoch k w.requests) q wk.ledger wk.allowed wk.numbered wk.epoch_is wk.queue wk.put wk.worker wk.bytes wk.exchanges wk.can_end);
    }
      where
        st : Step
        st = Sends (exchange_of bytes (Err lost))

        wk : AtWork k (Some (exchange_of bytes (Err lost))) ss sent (requests_of epoch k w.requests) (h.all.parts k) h.s
        wk = h.work

        q : Shard
        q = wk.rest

        t : Shard
        t = after_shard st ss q wk.ledger (fates k).left

        at : slice_get w.shards k ≡ Some (sent_shard q)
        at = h.at ∙ ap Some wk.is

        core_is : lose (sent_core q.core) ≡ (after_step st (working q.core wk.ledger)).core
        core_is = rw (sent_awaits q.core wk.allowed.0.0) refl ∙ sym (after-is st q.core wk.ledger wk.allowed.0)

        gone : happens c w (event.Lost k) ≡ moved w k t w.names w.requests w.replies
        gone =
            ap (unless_over c w (event.Lost k)) (not-over w k (sent_shard q) at (alive-now j m w h.all, inr (undrained k (Some (exchange_of bytes (Err lost))) st ss q wk.ledger (λ e. cc) wk.allowed wk.can_end)))
            ∙ ap (λ zs. record w { shards = zs }) (change-is shard_lost k w.shards (sent_shard q) at ∙ (λ i. change k (λ _. record q { queue = wk.queue i; core = core_is i }) w.shards))

    -- ---- some steps, one after the other
    record Passed (j m k : ℕ) (ys : List Step) (total : ℕ) : Type 0 where
      sent : List Exchange
      total_is : length sent ≡ total
      went : Went j m k None ys sent

    one_sent : (sent : List Exchange) (e : Exchange) (more : ℕ) → length (sent ++ e ∷ []) + more ≡ length sent + suc more
    one_sent sent e more = let l = length-append sent (e ∷ []) in omega arith

    sent_few : (sent : List Exchange) (e : Exchange) (more bound : ℕ) → length sent + suc more ≤ bound → length (sent ++ e ∷ []) ≤ bound
    sent_few sent e more bound le = let l = length-append sent (e ∷ []) in omega arith

    at_most : (a b c : ℕ) → a ≡ b → b ≤ c → a ≤ c
    at_most a b c e le = omega arith

    nothing_more : (a : ℕ) → a ≡ a + 0
    nothing_more a = omega arith

    work-through : (j m k bound : ℕ) (xs ys : List Step) (sent : List Exchange) (w : World) → j ≤ k → AreAnswered m k bound → length sent + length (exchanges_of xs) ≤ bound → Stands j m k None (xs ++ ys) sent w → Passed j m k ys (length sent + length (exchanges_of xs))
    work-through j m k bound [] ys sent w le known few h = record { sent = sent; total_is = nothing_more (length sent); went = record { world = w; stands = h } }
    work-through j m k bound (Takes x ∷ xs) ys sent w le known few h = let g = take-it j m k x (xs ++ ys) sent w le h in work-through j m k bound xs ys sent g.world le known few g.stands
    work-through j m k bound (Freezes ∷ xs) ys sent w le known few h = let g = freeze-it j m k (xs ++ ys) sent w le h in work-through j m k bound xs ys sent g.world le known few g.stands
    work-through j m k bound (Waits ∷ xs) ys sent w le known few h = work-through j m k bound xs ys sent w le known few (wait-it j m k (xs ++ ys) sent w h)
    work-through j m k bound (Sends e ∷ xs) ys sent w le known few h =
        let g = send-it j m k e (xs ++ ys) sent w le h in
        let f = settle-it j m k bound e.request e.answer (xs ++ ys) (sent ++ e ∷ []) g.world le known (sent_few sent e (length (exchanges_of xs)) bound few) g.stands in
        let p = work-through j m k bound xs ys (sent ++ e ∷ []) f.world le known (at_most _ _ _ (one_sent sent e (length (exchanges_of xs))) few) f.stands in
        record { sent = p.sent; total_is = p.total_is ∙ one_sent sent e (length (exchanges_of xs)); went = p.went }

    -- what is out is settled first
    rest-now : (j m k bound : ℕ) (w : World) (all : AtWorks j m w) (s : Shard) → slice_get w.shards k ≡ Some s → j ≤ k → AreAnswered m k bound → (held : Option Exchange) (steps : List Step) (sent : List Exchange) → length sent ≤ bound → AtWork k held steps sent (requests_of epoch k w.requests) (all.parts k) s
        → Went j m k None steps sent
    rest-now j m k bound w all s at le known None steps sent few wk = record { world = w; stands = record { all = all; s = s; at = at; work = wk } }
    rest-now j m k bound w all s at le known (Some e) steps sent few wk = settle-it j m k bound e.request e.answer steps sent w le known few (record { all = all; s = s; at = at; work = wk })

    -- ---- a shard goes on until an exchange of it is out
    record SplitAt (ss : List Step) (i : ℕ) : Type 0 where
      first : List Step
      e : Exchange
      rest : List Step
      is : ss ≡ first ++ Sends e ∷ rest
      count : length (exchanges_of first) ≡ i

    split-at : (ss : List Step) (i : ℕ) → i < length (exchanges_of ss) → SplitAt ss i
    split-at [] i lt = absurd (omega arith)
    split-at (Takes x ∷ ss) i lt = let h = split-at ss i lt in record { first = Takes x ∷ h.first; e = h.e; rest = h.rest; is = ap (λ (zs : List Step). Takes x ∷ zs) h.is; count = h.count }
    split-at (Freezes ∷ ss) i lt = let h = split-at ss i lt in record { first = Freezes ∷ h.first; e = h.e; rest = h.rest; is = ap (λ (zs : List Step). Freezes ∷ zs) h.is; count = h.count }
    split-at (Waits ∷ ss) i lt = let h = split-at ss i lt in record { first = Waits ∷ h.first; e = h.e; rest = h.rest; is = ap (λ (zs : List Step). Waits ∷ zs) h.is; count = h.count }
    split-at (Sends e ∷ ss) zero lt = record { first = []; e = e; rest = ss; is = refl; count = refl }
    split-at (Sends e ∷ ss) (suc i) lt = let h = split-at ss i (less i (length (exchanges_of ss)) lt) in record { first = Sends e ∷ h.first; e = h.e; rest = h.rest; is = ap (λ (zs : List Step). Sends e ∷ zs) h.is; count = ap suc h.count }
      where
        less : (a b : ℕ) → suc a < suc b → a < b
        less a b l = omega arith

    out-at : (k : ℕ) (held : Option Exchange) (steps : List Step) (sent : List Exchange) (own : List Request) (part : Names) (s : Shard) (i : ℕ) (x : Exchange) → AtWork k held steps sent own part s → AreRead own → i < length sent → slice_get (exs epoch k) i ≡ Some x → IsSentAs own i x
    out-at k held steps sent own part s i x wk read lt e = (h.0, h.1, h.2 ∙ ap (λ (y : Exchange). y.request) same_exchange, read i h.0 h.1)
      where
        got : (y : Exchange) × (slice_get sent i ≡ Some y)
        got = get_some sent i lt

        same_exchange : got.0 ≡ x
        same_exchange = same_Some _ _ (sym (ap (λ (xs : List Exchange). slice_get xs i) (sym wk.exchanges) ∙ get-first sent (exchanges_of steps) i got.0 got.1) ∙ e)

        h : (r : Request) × (slice_get own i ≡ Some r) × (sent_bytes r ≡ got.0.request)
        h = map_get sent_bytes own i got.0.request (ap (λ (bs : List (List ℕ)). slice_get bs i) wk.bytes ∙ get_map request_in sent i got.0 got.1)

    record Sent (m k i : ℕ) (x : Exchange) : Type 0 where
      world : World
      all : AtWorks 0 m world
      out : IsSentAs (requests_of epoch k world.requests) i x

    lt_or_le : (a b : ℕ) → (a < b) ⊎ (b ≤ a)
    lt_or_le a zero = inr (omega arith)
    lt_or_le zero (suc b) = inl (omega arith)
    lt_or_le (suc a) (suc b) = up (lt_or_le a b)
      where
        up : (a < b) ⊎ (b ≤ a) → (suc a < suc b) ⊎ (suc b ≤ suc a)
        up (inl h) = inl (omega arith)
        up (inr h) = inr (omega arith)

    advance-to : (m k i : ℕ) (x : Exchange) (w : World) (all : AtWorks 0 m w) (s : Shard) → slice_get w.shards k ≡ Some s → AreAnswered m k i → slice_get (exs epoch k) i ≡ Some x → Sent m k i x
    advance-to m k i x w all s at known e = by_count (lt_or_le i (length any.sent))
      where
        any : AnyWork k (requests_of epoch k w.requests) (all.parts k) s
        any = all.each k s at

        least : 0 ≤ k
        least = omega arith

        sum_is : length any.sent + length (exchanges_of any.steps) ≡ length (exs epoch k)
        sum_is = sym (length-append any.sent (exchanges_of any.steps)) ∙ ap length any.work.exchanges

        left : (a b t i : ℕ) → a + b ≡ t → i < t → a ≤ i → i - a < b
        left a b t i e lt le = omega arith

        back : (a b i : ℕ) → b ≡ i - a → a ≤ i → a + b ≤ i
        back a b i e le = omega arith

        reach : (a b c i : ℕ) → c ≡ a + b → b ≡ i - a → a ≤ i → i < suc c
        reach a b c i d e le = omega arith

        plus_one : (xs : List Exchange) (y : Exchange) (i : ℕ) → i < suc (length xs) → i < length (xs ++ y ∷ [])
        plus_one xs y i lt = let l = length-append xs (y ∷ []) in omega arith

        by_count : (i < length any.sent) ⊎ (length any.sent ≤ i) → Sent m k i x
        by_count (inl lt) = record { world = w; all = all; out = out-at k any.held any.steps any.sent (requests_of epoch k w.requests) (all.parts k) s i x any.work (all.read k (within k i x e)) lt e }
        by_count (inr le) =
            let g = rest-now 0 m k i w all s at least known any.held any.steps any.sent le any.work in
            let sp = split-at any.steps (i - length any.sent) (left (length any.sent) (length (exchanges_of any.steps)) (length (exs epoch k)) i sum_is (slice_get_within (exs epoch k) i x e) le) in
            let p = work-through 0 m k i sp.first (Sends sp.e ∷ sp.rest) any.sent g.world least known (back (length any.sent) (length (exchanges_of sp.first)) i sp.count le) (subst (λ (ss : List Step). Stands 0 m k None ss any.sent g.world) sp.is g.stands) in
            let f = send-it 0 m k sp.e sp.rest p.sent p.went.world least p.went.stands in
            record {
              world = f.world;
              all = f.stands.all;
              out = out-at k (Some sp.e) sp.rest (p.sent ++ sp.e ∷ []) (requests_of epoch k f.world.requests) (f.stands.all.parts k) f.stands.s i x f.stands.work (f.stands.all.read k (within k i x e))
                  (plus_one p.sent sp.e i (reach (length any.sent) (length (exchanges_of sp.first)) (length p.sent) i p.total_is sp.count le)) e;
            }

    -- ---- one arrival
    record Next (m : ℕ) : Type 0 where
      world : World
      all : AtWorks 0 m world

    carries : (w : World) (j : ℕ) (r : Request) → (hs : List Happening) × (world_of c hs ≡ w) → slice_get w.requests j ≡ Some r → CarriesItsBatch c r
    carries w j r reached e = subst (CarriesEachBatch c) reached.1 (keeps-laws c reached.0).bytes j r e

    arrives : (m : ℕ) (w : World) (a : Arrival) (x : Exchange) → AtWorks 0 m w → slice_get arrivals m ≡ Some a → slice_get (exs a.epoch a.shard) a.number ≡ Some x → IsSentAs (requests_of a.epoch a.shard w.requests) a.number x → Next (suc m)
    arrives m w a x all at e out = record {
      world = v;
      all = record {
        same = ap (λ (y : World). record y { shards = v.shards; names = v.names; requests = v.requests; replies = v.replies; head = v.head }) all.same;
        count = all.count;
        parts = all.parts;
        tallied = tallied-still c past epoch n placed all.parts w v (Of (event.Arrive event_is.0 a.how) ∷ []) all.tallied event_is.1 refl refl;
        each = all.each;
        done = all.done;
        arrived = arrived-next c exs arrivals heads one m w a out.0 all.arrived at out.1 event_is.0 event_is.1;
        read = all.read;
        earlier = all.earlier;
      };
    }
      where
        v : World
        v = came c exs arrivals heads one m w a out.0

        found : (j : ℕ) × (slice_get w.requests j ≡ Some out.0)
        found = find-in (is_of a.epoch a.shard) w.requests a.number out.0 out.1

        event_is : (j : ℕ) × (happens c w (event.Arrive j a.how) ≡ came c exs arrivals heads one m w a out.0)
        event_is = comes c exs arrivals heads one m w a out.0 x all.arrived.head at out.1 e out.2 (carries w found.0 out.0 all.tallied.reached found.1) out.3

    arrive-one : (m : ℕ) (w : World) (a : Arrival) → AtWorks 0 m w → slice_get arrivals m ≡ Some a → a.epoch ≤ epoch → Next (suc m)
    arrive-one m w a all at le = by_epoch (lt_or_le a.epoch epoch)
      where
        x : Exchange
        x = (one.receives m a at).0

        e : slice_get (exs a.epoch a.shard) a.number ≡ Some x
        e = (one.receives m a at).1

        equal : (b d : ℕ) → b ≤ d → d ≤ b → b ≡ d
        equal b d l g = omega arith

        by_epoch : (a.epoch < epoch) ⊎ (epoch ≤ a.epoch) → Next (suc m)
        by_epoch (inl lt) = arrives m w a x all at e (all.earlier a.epoch a.shard a.number x lt e)
        by_epoch (inr ge) = arrives m sent.world a x sent.all at e (subst (λ (i : ℕ). IsSentAs (requests_of i a.shard sent.world.requests) a.number x) (sym same_epoch) sent.out)
          where
            same_epoch : a.epoch ≡ epoch
            same_epoch = equal a.epoch epoch le ge

            here : slice_get (exs epoch a.shard) a.number ≡ Some x
            here = ap (λ (i : ℕ). slice_get (exs i a.shard) a.number) (sym same_epoch) ∙ e

            shard : (s : Shard) × (slice_get w.shards a.shard ≡ Some s)
            shard = get_some w.shards a.shard (subst (λ (i : ℕ). a.shard < i) (sym all.count) (within a.shard a.number x here))

            sent : Sent m a.shard a.number x
            sent = advance-to m a.shard a.number x w all shard.0 shard.1 (λ i y r got answer lt. one.told.later m a epoch a.shard i y r at got answer (inr (sym same_epoch, refl, lt))) here

    -- ---- all arrivals of this epoch and of those before
    abbrev pub HasStop : ℕ → Type 0
    HasStop m = (m ≡ length arrivals) ⊎ ((a : Arrival) × (slice_get arrivals m ≡ Some a) × (epoch < a.epoch))

    record Stopped : Type 0 where
      m : ℕ
      world : World
      all : AtWorks 0 m world
      stop : HasStop m

    arrive-all : (fuel m : ℕ) (w : World) → m + fuel ≡ length arrivals → AtWorks 0 m w → Stopped
    arrive-all zero m w sum all = record { m = m; world = w; all = all; stop = inl (end m (length arrivals) sum) }
      where
        end : (a b : ℕ) → a + 0 ≡ b → a ≡ b
        end a b e = omega arith
    arrive-all (suc fuel) m w sum all = by_epoch (lt_or_le epoch found.0.epoch) (λ v h. arrive-all fuel (suc m) v (shift m fuel (length arrivals) sum) h)
      where
        before_end : (a f b : ℕ) → a + suc f ≡ b → a < b
        before_end a f b e = omega arith

        shift : (a f b : ℕ) → a + suc f ≡ b → suc a + f ≡ b
        shift a f b e = omega arith

        found : (a : Arrival) × (slice_get arrivals m ≡ Some a)
        found = get_some arrivals m (before_end m fuel (length arrivals) sum)

        by_epoch : (epoch < found.0.epoch) ⊎ (found.0.epoch ≤ epoch) → ((v : World) → AtWorks 0 (suc m) v → Stopped) → Stopped
        by_epoch (inl lt) go = record { m = m; world = w; all = all; stop = inr (found.0, found.1, lt) }
        by_epoch (inr le) go = let next = arrive-one m w found.0 all found.1 le in go next.world next.all

    -- then all exchanges of the epoch are answered
    known-then : (m : ℕ) → HasStop m → (k bound : ℕ) → AreAnswered m k bound
    known-then m (inl end) k bound i x r got answer lt = subst (λ (j : ℕ). IsAnsweredBy arrivals j epoch k i r.status) (sym end) (one.told.all epoch k i x r got answer)
    known-then m (inr (a, at, later)) k bound i x r got answer lt = one.told.later m a epoch k i x r at got answer (inl later)

    -- ---- each worker makes the steps that are left
    record Finished (j m : ℕ) : Type 0 where
      world : World
      all : AtWorks j m world

    come-to : (k : ℕ) (sent : List Exchange) (requests : List Request) (part : Names) (s : Shard) → k < n → AtWork k None [] sent (requests_of epoch k requests) part s → HasCome epoch k requests part s (fates k)
    come-to k sent requests part s lt wk = record {
      put = ap (λ (x : Shard). x.put) wk.is ∙ wk.put;
      core = ap (λ (x : Shard). x.core) wk.is ∙ ap (λ (x : Working). x.core) wk.worker;
      queue = ap (λ (x : Shard). x.queue) wk.is ∙ wk.queue;
      requests_are = wk.bytes ∙ ap (map request_in) (sym (append-nil sent) ∙ wk.exchanges) ∙ sym (tells k lt);
      part_is = ap (λ (x : Working). x.ledger.names) (sym wk.worker) ∙ wk.part_is;
    }

    finish-one : (j m : ℕ) (w : World) → j < n → ((k bound : ℕ) → AreAnswered m k bound) → AtWorks j m w → Finished (suc j) m
    finish-one j m w lt known all = record {
      world = p.went.world;
      all = let now = p.went.stands.all in record {
        same = now.same;
        count = now.count;
        parts = now.parts;
        tallied = now.tallied;
        each = now.each;
        done = λ k s e le. by_shard k s e le (eqb_tells k j);
        arrived = now.arrived;
        read = now.read;
        earlier = now.earlier;
      };
    }
      where
        found : (s : Shard) × (slice_get w.shards j ≡ Some s)
        found = get_some w.shards j (subst (λ (i : ℕ). j < i) (sym all.count) lt)

        any : AnyWork j (requests_of epoch j w.requests) (all.parts j) found.0
        any = all.each j found.0 found.1

        total : ℕ
        total = length (exs epoch j)

        sum_is : length any.sent + length (exchanges_of any.steps) ≡ length (exs epoch j)
        sum_is = sym (length-append any.sent (exchanges_of any.steps)) ∙ ap length any.work.exchanges

        itself : (k : ℕ) → k ≤ k
        itself k = omega arith

        first : (a b t : ℕ) → a + b ≡ t → a ≤ t
        first a b t e = omega arith

        both_few : (a t : ℕ) → a ≡ t → a ≤ t
        both_few a t e = omega arith

        g : Went j m j None any.steps any.sent
        g = rest-now j m j total w all found.0 found.1 (itself j) (known j total) any.held any.steps any.sent (first (length any.sent) (length (exchanges_of any.steps)) total sum_is) any.work

        p : Passed j m j [] (length any.sent + length (exchanges_of any.steps))
        p = work-through j m j total any.steps [] any.sent g.world (itself j) (known j total) (both_few _ _ sum_is) (subst (λ (ss : List Step). Stands j m j None ss any.sent g.world) (sym (append-nil any.steps)) g.stands)

        by_shard : (k : ℕ) (s : Shard) → slice_get p.went.world.shards k ≡ Some s → k < suc j → (((k == j) ≡ true) × (k ≡ j)) ⊎ (((k == j) ≡ false) × (k ≡ j → ⊥)) → HasCome epoch k p.went.world.requests (p.went.stands.all.parts k) s (fates k)
        by_shard k s e le (inl same) =
            let own : s ≡ p.went.stands.s = same_Some _ _ (sym e ∙ ap (slice_get p.went.world.shards) same.1 ∙ p.went.stands.at) in
            subst (λ (i : ℕ). HasCome epoch i p.went.world.requests (p.went.stands.all.parts i) s (fates i)) (sym same.1)
            (subst (λ (x : Shard). HasCome epoch j p.went.world.requests (p.went.stands.all.parts j) x (fates j)) (sym own) (come-to j p.sent p.went.world.requests (p.went.stands.all.parts j) p.went.stands.s lt p.went.stands.work))
        by_shard k s e le (inr differ) = p.went.stands.all.done k s e (below_it k j le differ.1)

    finish-from : (more j m : ℕ) (w : World) → j + more ≡ n → ((k bound : ℕ) → AreAnswered m k bound) → AtWorks j m w → Finished n m
    finish-from zero j m w sum known all = record { world = w; all = subst (λ (i : ℕ). AtWorks i m w) (end j sum) all }
      where
        end : (j : ℕ) → j + 0 ≡ n → j ≡ n
        end j e = omega arith
    finish-from (suc more) j m w sum known all = let f = finish-one j m w (less j more sum) known all in finish-from more (suc j) m f.world (shift j more sum) known f.all
      where
        less : (j more : ℕ) → j + suc more ≡ n → j < n
        less j more e = omega arith

        shift : (j more : ℕ) → j + suc more ≡ n → suc j + more ≡ n
        shift j more e = omega arith

    -- ---- the whole epoch
    -- what each exchange of the epochs below this one has sent
    abbrev pub HasSentBelow : ℕ → World → Type 0
    HasSentBelow end w = (e k i : ℕ) (x : Exchange) → e < end → slice_get (exs e k) i ≡ Some x → IsSentAs (requests_of e k w.requests) i x

    -- All arrivals of the epoch have been made, and its shards have come to their fates.
    pub record HasGone : Type 0 where
      pub m : ℕ
      pub world : World
      pub over : IsOver c past epoch n fates placed u world
      pub arrived : HasArrived c exs arrivals heads one m world
      pub stop : HasStop m
      pub sent : HasSentBelow (suc epoch) world

    pub epoch-goes : (m : ℕ) (w : World) → m ≤ length arrivals → AtWorks 0 m w → HasGone
    epoch-goes m w few all = record {
      m = st.m;
      world = f.world;
      over = record { same = f.all.same; count = f.all.count; parts = f.all.parts; tallied = f.all.tallied; done = done };
      arrived = f.all.arrived;
      stop = st.stop;
      sent = λ e k i x lt got. by_epoch e k i x got (lt_or_le e epoch) (lt_or_le epoch e) lt;
    }
      where
        fuel : (a b : ℕ) → a ≤ b → a + (b - a) ≡ b
        fuel a b le = omega arith

        zero_plus : (n : ℕ) → 0 + n ≡ n
        zero_plus n = omega arith

        st : Stopped
        st = arrive-all (length arrivals - m) m w (fuel m (length arrivals) few) all

        f : Finished n st.m
        f = finish-from n 0 st.m st.world (zero_plus n) (known-then st.m st.stop) st.all

        done : (k : ℕ) (s : Shard) → slice_get f.world.shards k ≡ Some s → HasCome epoch k f.world.requests (f.all.parts k) s (fates k)
        done k s e = f.all.done k s e (subst (λ (i : ℕ). k < i) f.all.count (slice_get_within f.world.shards k s e))

        equal : (e : ℕ) → epoch ≤ e → e < suc epoch → e ≡ epoch
        equal e le lt = omega arith

        not_above : (e : ℕ) → epoch < e → e < suc epoch → ⊥
        not_above e gt lt = omega arith

        own : (k i : ℕ) (x : Exchange) → slice_get (exs epoch k) i ≡ Some x → IsSentAs (requests_of epoch k f.world.requests) i x
        own k i x got = (h.0, h.1, h.2, f.all.read k lt i h.0 h.1)
          where
            lt : k < n
            lt = within k i x got

            shard : (s : Shard) × (slice_get f.world.shards k ≡ Some s)
            shard = get_some f.world.shards k (subst (λ (i : ℕ). k < i) (sym f.all.count) lt)

            h : (r : Request) × (slice_get (requests_of epoch k f.world.requests) i ≡ Some r) × (sent_bytes r ≡ x.request)
            h = map_get sent_bytes (requests_of epoch k f.world.requests) i x.request (ap (λ (bs : List (List ℕ)). slice_get bs i) ((done k shard.0 shard.1).requests_are ∙ tells k lt) ∙ get_map request_in (exs epoch k) i x got)

        by_epoch : (e k i : ℕ) (x : Exchange) → slice_get (exs e k) i ≡ Some x → (e < epoch) ⊎ (epoch ≤ e) → (epoch < e) ⊎ (e ≤ epoch) → e < suc epoch → IsSentAs (requests_of e k f.world.requests) i x
        by_epoch e k i x got (inl lt) other all_lt = f.all.earlier e k i x lt got
        by_epoch e k i x got (inr ge) (inl gt) all_lt = absurd (not_above e gt all_lt)
        by_epoch e k i x got (inr ge) (inr le) all_lt =
            let same = equal e ge all_lt in
            subst (λ (j : ℕ). IsSentAs (requests_of j k f.world.requests) i x) (sym same) (own k i x (ap (λ (j : ℕ). slice_get (exs j k) i) (sym same) ∙ got))
