-- A head in the same process holds the samples.
use Rattle.std.proofs.Common.{◌≡◌, ◌⊎◌, inl, inr, ℕ, zero, suc, ◌<◌, true, List, [], ◌∷◌, ◌++◌, map, length, Option, None, Some, slice_get, refl, sym, ap, ◌∙◌, subst, arith}
use Rattle.std.proofs.lemmas.List.{length-map}
use Rattle.std.proofs.lemmas.Option.{same_Some, none-some, slice_get_within}
use Rattle.rw_types.specs.Requests.{is_host_name}
use Rattle.rw_wal_tail.specs.Fed.{piece_of}
use Rattle.rw_wal_tail.specs.declared.piece.Piece.{Piece}
use Rattle.rw_shard_core.specs.Shard.{body_of}
use Rattle.rw_shard_core.specs.declared.config.Target.{Target}
use Rattle.rw_plain_queue.specs.Items.{Placed}
use Rattle.rw_plain_queue.specs.declared.item.Kind.TheVariants.{Orderly}
use Rattle.rw_head.specs.Head.{State}
use Rattle.rw_head.specs.Store.{Store}
use Rattle.rw_recv_head.specs.Seats.{Seated}
use Rattle.rw_worker.specs.Transcript.{Exchange, Settled, Settles, AreTries, AreTriesOf, IsTranscript, batch_request}
use Rattle.rw_worker.specs.Setups.{WorkerSetup as WorkerSetup, start_of}
use Rattle.rw_worker.specs.Steps.{exchanges_of, after}
use Rattle.rw_fleet.specs.ShardHistories.{ShardHistory, AreSame, AreSetUp, IsSetUp}
use Rattle.rw_fleet.specs.Work.{IsWorked, AreWorked, AreResolved, lane_of, finished_of}
use Rattle.rw_fleet.specs.Fleets.{EndBy}
use Rattle.rw_fleet.specs.declared.joined.Finished.{Finished}
use Rattle.rw_fleet.specs.declared.joined.StoppedShard.{StoppedShard}
use Rattle.rw_shard_core.specs.declared.config.ConfigFields.{ConfigFields}
use Rattle.rw_sender.specs.Reports.{IsAbandoned, workers_of}
use Rattle.rw_sender.specs.Shipping.{Shipping, PlacesAll, HasStopped}
use Rattle.rw_sender.specs.declared.report.Report.{Report}
use Rattle.rw_shard_core.specs.declared.outcome.Outcome.{Outcome}
use Rattle.rw_shard_core.specs.declared.outcome.Outcome.TheVariants as outcome
use Rattle.rw_machine.specs.Worlds.{Setup}
use Rattle.rw_machine.specs.Promises.{CanWork}
use Rattle.rw_restarts.specs.Arrivals.{Arrival, AreOfSteps, AreExchangesOf}
use Rattle.rw_restarts.proofs.shared.ListLemmas.{map_get, get_map}
use Rattle.rw_simulation.specs.OneReceivers.{IsOneReceiver}
use Rattle.rw_simulation.specs.Seatings.{IsSeatOf, AreSeated}
use Rattle.rw_simulation.specs.StoppedRuns.{IsMachineOf, first_number}
use Rattle.rw_simulation.specs.Received.{IsHeld}
use Rattle.rw_simulation.proofs.shared.Seatings.{seats-as-one}
use Rattle.rw_simulation.proofs.shared.ReceivedRuns.{receives-in-order, receives-abandoned}
use Rattle.rw_in_memory.specs.Lines.{SeatLine, AreMade, IsSeatLine}
use Rattle.rw_in_memory.specs.Held.{seen_by, IsAnyones, seat_of, AreLines, IsFirst, HasEnded, HoldsInMemory}

-- ---- a worker's requests are such as a sender makes
made-both : (path : List ℕ) (xs ys : List Exchange) → AreMade path xs → AreMade path ys → AreMade path (xs ++ ys)
made-both path [] ys a b = b
made-both path (x ∷ xs) ys a b = (a.0, made-both path xs ys a.1 b)

module _ (target : Target) (host : is_host_name target.host ≡ true) where
  made-tries : (batch : List Placed) (es : List Exchange) → AreTries (batch_request target batch) es → AreMade target.path es
  made-tries batch [] t = tt
  made-tries batch (e ∷ es) t = ((target.host, body_of batch, host, t.0), made-tries batch es t.2)

  made-settles : (b : Settled) (es : List Exchange) → Settles target b es → AreMade target.path es
  made-settles b es h = subst (AreMade target.path) (sym h.is) (made-both target.path h.tries _ (made-tries b.samples h.tries h.tried) ((target.host, body_of b.samples, host, refl), tt))

  made-transcript : (bs : List Settled) (es : List Exchange) → IsTranscript target bs es → AreMade target.path es
  made-transcript [] es t = subst (AreMade target.path) (sym t) tt
  made-transcript (b ∷ bs) es t = subst (AreMade target.path) (sym t.2) (made-both target.path t.0 t.1 (made-settles b t.0 t.3) (made-transcript bs t.1 t.4))

  made-tried : (batch : List Placed) (es : List Exchange) → AreTriesOf target batch es → AreMade target.path es
  made-tried [] es t = subst (AreMade target.path) (sym t) tt
  made-tried (x ∷ xs) es t = made-tries (x ∷ xs) es t

-- ---- lists
worked-at : (opening : State) (path : List ℕ) (limit : ℕ) (js : List (StoppedShard SeatLine)) (k : ℕ) (j : StoppedShard SeatLine) → AreWorked (IsSeatLine opening path limit) seen_by IsAnyones js → slice_get js k ≡ Some j → IsWorked (IsSeatLine opening path limit) seen_by IsAnyones j
worked-at opening path limit [] k j w e = absurd (none-some j e)
worked-at opening path limit (i ∷ is) zero j w e = subst (IsWorked (IsSeatLine opening path limit) seen_by IsAnyones) (same_Some i j e) w.0
worked-at opening path limit (i ∷ is) (suc k) j w e = worked-at opening path limit is k j w.1 e

setup-at : (config : ConfigFields) (js : List (StoppedShard SeatLine)) (k : ℕ) (j : StoppedShard SeatLine) → AreSetUp config (map lane_of js) → slice_get js k ≡ Some j → IsSetUp config j.worker.value
setup-at config [] k j w e = absurd (none-some j e)
setup-at config (i ∷ is) zero j w e = subst (λ (x : StoppedShard SeatLine). IsSetUp config x.worker.value) (same_Some i j e) w.0
setup-at config (i ∷ is) (suc k) j w e = setup-at config is k j w.1 e

-- the first of two lists of same shards has a shard if the second has one
same-at : (ls ms : List ShardHistory) (k : ℕ) (m : ShardHistory) → AreSame ls ms → slice_get ms k ≡ Some m → (l : ShardHistory) × (slice_get ls k ≡ Some l) × (m.setup ≡ l.setup)
same-at [] [] k m s e = absurd (none-some m e)
same-at [] (y ∷ ys) k m s e = absurd s
same-at (x ∷ xs) [] k m s e = absurd s
same-at (x ∷ xs) (y ∷ ys) zero m s e = (x, refl, sym (ap (λ (l : ShardHistory). l.setup) (same_Some y m e)) ∙ s.0)
same-at (x ∷ xs) (y ∷ ys) (suc k) m s e = same-at xs ys k m s.2 e

none-turned : (epochs : List (List ShardHistory)) → 0 ≡ length epochs → epochs ≡ []
none-turned [] e = refl
none-turned (x ∷ xs) e = absurd (omega arith)

abbrev seen_at : Option (Finished SeatLine) → List Exchange
seen_at None = []
seen_at (Some f) = f.transport.seen

-- the exchanges of each worker of the first epoch
abbrev exchanges_by : List (Finished SeatLine) → ℕ → ℕ → List Exchange
exchanges_by fs zero k = seen_at (slice_get fs k)
exchanges_by fs (suc e) k = []

module _ (opening : State) (path : List ℕ) (limit : ℕ) (s : Shipping SeatLine) (r : Report SeatLine) (store : Store) (c : Setup) (h : HasStopped (IsSeatLine opening path limit) seen_by IsAnyones s r) (p : PlacesAll s.log s.fleet) (machine : IsMachineOf c s) (first : IsFirst c s) (lines : AreLines c opening path limit (workers_of r) store) where
  abbrev exs : ℕ → ℕ → List Exchange
  exs = exchanges_by (workers_of r)

  joined_is : h.joined ≡ h.all.0
  joined_is = h.all.1 ∙ ap (λ (js : List (StoppedShard SeatLine)). js ++ h.all.0) first.none_ended

  -- what a worker's line has seen are the exchanges of its steps
  told : (j : StoppedShard SeatLine) → IsSeatLine opening path limit j.finished.transport → (work : IsWorked (IsSeatLine opening path limit) seen_by IsAnyones j) → j.finished.transport.seen ≡ exchanges_of work.report.steps
  told j line work = (work.report.made.adds line).1 ∙ ap (λ (xs : List Exchange). xs ++ exchanges_of work.report.steps) work.none

  -- the k-th shard is of the first epoch, and has this number
  record IsShardAt (k : ℕ) (j : StoppedShard SeatLine) : Type 0 where
    epoch_is : j.worker.value.queue.epoch ≡ 0
    shard_is : j.worker.value.queue.shard ≡ k
    work : IsWorked (IsSeatLine opening path limit) seen_by IsAnyones j
    line : IsSeatLine opening path limit j.finished.transport
    seen_is : j.finished.transport.seen ≡ exchanges_of work.report.steps
    exchanges_are : exs 0 k ≡ j.finished.transport.seen
    made : AreMade c.target.path j.finished.transport.seen

  shard-at : (k : ℕ) (j : StoppedShard SeatLine) → slice_get h.joined k ≡ Some j → IsShardAt k j
  shard-at k j at = record {
    epoch_is = ap (λ (x : WorkerSetup). x.queue.epoch) lane.2 ∙ (p.dealt.each k lane.0 lane.1).0 ∙ first.epoch_is;
    shard_is = ap (λ (x : WorkerSetup). x.queue.shard) lane.2 ∙ (p.dealt.each k lane.0 lane.1).1;
    work = work;
    line = line;
    seen_is = seen;
    exchanges_are = ap seen_at here;
    made = subst (AreMade c.target.path) (sym seen) (subst (λ (t : Target). AreMade t.path (exchanges_of work.report.steps)) target_is
        (subst (AreMade target.path) (sym work.report.worked.exchanges_are)
        (made-both target.path work.report.worked.settling work.report.worked.tries (made-transcript target host work.report.worked.settled work.report.worked.settling work.report.worked.transcript) (made-tried target host _ work.report.worked.tries work.report.worked.tried))));
  }
    where
      here : slice_get (workers_of r) k ≡ Some (finished_of j)
      here = ap (λ (fs : List (Finished SeatLine)). slice_get fs k) h.workers ∙ get_map finished_of h.joined k j at

      lane : (l : ShardHistory) × (slice_get s.fleet.current k ≡ Some l) × ((lane_of j).setup ≡ l.setup)
      lane = same-at s.fleet.current (map lane_of h.all.0) k (lane_of j) h.all.2 (get_map lane_of h.all.0 k j (ap (λ (js : List (StoppedShard SeatLine)). slice_get js k) (sym joined_is) ∙ at))

      work : IsWorked (IsSeatLine opening path limit) seen_by IsAnyones j
      work = worked-at opening path limit h.joined k j h.worked at

      line : IsSeatLine opening path limit j.finished.transport
      line = lines.each k (finished_of j) here

      seen : j.finished.transport.seen ≡ exchanges_of work.report.steps
      seen = told j line work

      target : Target
      target = (after (start_of j.worker.value) work.report.steps).core.target

      target_is : target ≡ c.target
      target_is = work.report.target ∙ (setup-at s.fleet.config h.joined k j h.setup at).0 ∙ sym machine.0.target

      host : is_host_name target.host ≡ true
      host = subst (λ (t : Target). is_host_name t.host ≡ true) (sym target_is) lines.host

  -- ---- the exchanges are those of the shards' workers
  of-steps : (js : List (StoppedShard SeatLine)) (w : AreWorked (IsSeatLine opening path limit) seen_by IsAnyones js) → ((k : ℕ) (j : StoppedShard SeatLine) (work : IsWorked (IsSeatLine opening path limit) seen_by IsAnyones j) → slice_get js k ≡ Some j → exs j.worker.value.queue.epoch j.worker.value.queue.shard ≡ exchanges_of work.report.steps)
      → AreOfSteps (IsSeatLine opening path limit) seen_by IsAnyones exs js w
  of-steps [] w f = tt
  of-steps (j ∷ js) w f = (f 0 j w.0 refl, of-steps js w.1 (λ k i work at. f (suc k) i work at))

  by-number : (j : StoppedShard SeatLine) (k : ℕ) → j.worker.value.queue.epoch ≡ 0 → j.worker.value.queue.shard ≡ k → exs j.worker.value.queue.epoch j.worker.value.queue.shard ≡ exs 0 k
  by-number j k e n i = exs (e i) (n i)

  -- whose exchange it is
  record IsOwned (e k i : ℕ) : Type 0 where
    epoch_is : e ≡ 0
    f : Finished SeatLine
    at : slice_get (workers_of r) k ≡ Some f
    j : StoppedShard SeatLine
    there : slice_get h.joined k ≡ Some j
    same : finished_of j ≡ f

  shard-of : (k : ℕ) (f : Finished SeatLine) → slice_get (workers_of r) k ≡ Some f → (j : StoppedShard SeatLine) × (slice_get h.joined k ≡ Some j) × (finished_of j ≡ f)
  shard-of k f at = map_get finished_of h.joined k f (ap (λ (fs : List (Finished SeatLine)). slice_get fs k) (sym h.workers) ∙ at)

  owned : (e k i : ℕ) (x : Exchange) → slice_get (exs e k) i ≡ Some x → IsOwned e k i
  owned (suc e) k i x got = absurd (none-some x got)
  owned zero k i x got = by_found (slice_get (workers_of r) k) refl got
    where
      by_found : (o : Option (Finished SeatLine)) → slice_get (workers_of r) k ≡ o → slice_get (seen_at o) i ≡ Some x → IsOwned 0 k i
      by_found None at got = absurd (none-some x got)
      by_found (Some f) at got = let j = shard-of k f at in record { epoch_is = refl; f = f; at = at; j = j.0; there = j.1; same = j.2 }

  exchanges-of-all : AreExchangesOf (IsSeatLine opening path limit) seen_by IsAnyones h.joined h.worked exs
  exchanges-of-all = record {
    each = of-steps h.joined h.worked (λ k j work at. let i = shard-at k j at in by-number j k i.epoch_is i.shard_is ∙ i.exchanges_are ∙ told j i.line work);
    owned = λ e k i x got. let o = owned e k i x got in let a = shard-at k o.j o.there in (k, o.j, o.there, a.epoch_is ∙ sym o.epoch_is, a.shard_is);
  }

  -- ---- each seat is that of its worker
  seat-at : (k : ℕ) (t : Seated) → slice_get (map seat_of (workers_of r)) k ≡ Some t → IsSeatOf c.target.path c.max_body opening (exs 0 k) t
  seat-at k t at = subst (λ (xs : List Exchange). IsSeatOf c.target.path c.max_body opening xs t) (sym exchanges_are)
      (subst (IsSeatOf c.target.path c.max_body opening m.0.transport.seen) m.2
      (subst (λ (l : ℕ). IsSeatOf c.target.path l opening m.0.transport.seen m.0.transport.seat) lines.limit_is
      (subst (λ (d : List ℕ). IsSeatOf d limit opening m.0.transport.seen m.0.transport.seat) lines.path_is
      (lines.each k m.0 m.1 (subst (λ (d : List ℕ). AreMade d m.0.transport.seen) (sym lines.path_is) made)))))
    where
      m : (f : Finished SeatLine) × (slice_get (workers_of r) k ≡ Some f) × (seat_of f ≡ t)
      m = map_get seat_of (workers_of r) k t at

      j : (j : StoppedShard SeatLine) × (slice_get h.joined k ≡ Some j) × (finished_of j ≡ m.0)
      j = shard-of k m.0 m.1

      made : AreMade c.target.path m.0.transport.seen
      made = subst (λ (f : Finished SeatLine). AreMade c.target.path f.transport.seen) j.2 (shard-at k j.0 j.1).made

      exchanges_are : exs 0 k ≡ m.0.transport.seen
      exchanges_are = ap seen_at m.1

  seated : AreSeated c exs opening (map seat_of (workers_of r)) store
  seated = record {
    empty_is = lines.empty_is;
    limits_are = lines.limits_are;
    host = lines.host;
    gathered = lines.gathered;
    seat = seat-at;
    alone = λ e k i x got. let o = owned e k i x got in (o.epoch_is, subst (λ (n : ℕ). k < n) (sym (length-map (workers_of r) seat_of)) (slice_get_within (workers_of r) k o.f o.at));
  }

  -- ---- so the head holds the samples
  first-number : first_number p.epochs s.fleet.current ≡ c.shards
  first-number = ap (λ (es : List (List ShardHistory)). first_number es s.fleet.current) (none-turned p.epochs (sym first.epoch_is ∙ p.numbered)) ∙ first.shards

  held : (fed : List Piece) → CanWork c → s.log.pieces ≡ map piece_of fed → HasEnded s r → IsHeld s r store
  held fed work fed_are ended = subst (IsHeld s r) (sym one.3) (by_end ended (is_abandoned r.outcome))
    where
      one : (arrivals : List Arrival) × (heads : ℕ → State) × IsOneReceiver c exs arrivals heads × (store ≡ (heads (length arrivals)).store)
      one = seats-as-one c exs opening (map seat_of (workers_of r)) store lines.calm seated

      resolved : AreResolved s.fleet.ended
      resolved k j at = absurd (none-some j (ap (λ (js : List (StoppedShard SeatLine)). slice_get js k) (sym first.none_ended) ∙ at))

      left : IsAbandoned r.outcome → IsHeld s r (one.1 (length one.0)).store
      left stopped = receives-abandoned (IsSeatLine opening path limit) seen_by IsAnyones s r c fed h s.fleet p machine work fed_are h.all resolved first.number first-number stopped exs one.0 one.1 exchanges-of-all one.2

      whole : EndBy Orderly s.fleet (workers_of r) → (IsAbandoned r.outcome → ⊥) → IsHeld s r (one.1 (length one.0)).store
      whole ends none = receives-in-order (IsSeatLine opening path limit) seen_by IsAnyones s r c fed h p machine work fed_are first.number first-number ends none exs one.0 one.1 exchanges-of-all one.2

      is_abandoned : (o : Outcome) → (IsAbandoned o → ⊥) ⊎ IsAbandoned o
      is_abandoned (outcome.Complete end) = inl (λ a. a)
      is_abandoned (outcome.Damaged f) = inl (λ a. a)
      is_abandoned (outcome.Abandoned count samples) = inr tt

      by_end : HasEnded s r → (IsAbandoned r.outcome → ⊥) ⊎ IsAbandoned r.outcome → IsHeld s r (one.1 (length one.0)).store
      by_end any (inr stopped) = left stopped
      by_end (inr stopped) any = left stopped
      by_end (inl ends) (inl none) = whole ends none

pub holds-in-memory : (opening : State) (path : List ℕ) (limit : ℕ) (s : Shipping SeatLine) (r : Report SeatLine) (store : Store) → HoldsInMemory opening path limit s r store
holds-in-memory opening path limit s r store c fed h p machine work fed_are first lines ended = held opening path limit s r store c h p machine first lines fed work fed_are ended
