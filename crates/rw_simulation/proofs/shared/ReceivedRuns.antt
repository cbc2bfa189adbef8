-- What one receiver holds, by a run of the machine in which the requests come in the order in which
-- they came.
use Rattle.std.proofs.Common.{◌≡◌, ℕ, zero, suc, ◌+◌, ◌<◌, ◌≤◌, ◌==◌, ◌||◌, true, false, List, [], ◌∷◌, ◌++◌, map, length, take, Option, None, Some, slice_get, refl, sym, ap, ◌∙◌, subst, append-nil, append_assoc, length-append, arith, ◌⊎◌, inl, inr}
use Rattle.std.specs.List.{AllByRecursion, list_all, list_any}
use Rattle.std.specs.FinMap.{empty}
use Rattle.std.proofs.lemmas.Bool.{eqb-true, and_parts}
use Rattle.std.proofs.lemmas.List.{length-map, take-append-le}
use Rattle.std.proofs.lemmas.Option.{none-some, slice_get_within}
use Rattle.rw_types.proofs.shared.AllLemmas.{AllByRecursion-left, AllByRecursion-right}
use Rattle.rw_types.specs.Beginnings.{Begins}
use Rattle.rw_types.specs.Rising.{Rises}
use Rattle.rw_types.specs.Labels.{Labels}
use Rattle.rw_types.specs.declared.entry.Entry.{Entry}
use Rattle.rw_types.specs.declared.entry.Entry.TheVariants as entry
use Rattle.rw_types.specs.Gathering.{gather_from}
use Rattle.rw_wal_format.specs.Pieces.{Piece, entries, fault}
use Rattle.rw_wal_format.specs.declared.tail_fault.TailFault.{TailFault}
use Rattle.rw_wal_tail.specs.Fed.{piece_of}
use Rattle.rw_relabel.specs.declared.choice.Choice.{Choice}
use Rattle.rw_series_cache.specs.Known.{known as known_in}
use Rattle.rw_series_cache.specs.Points.{kept_points, kept_points_below}
use Rattle.rw_plain_queue.specs.Items.{Placed}
use Rattle.rw_plain_queue.specs.declared.item.Item.{Item}
use Rattle.rw_plain_queue.specs.declared.item.Kind.{Kind}
use Rattle.rw_plain_queue.specs.declared.item.Kind.TheVariants as kind
use Rattle.rw_shard_core.specs.declared.config.ConfigFields.{ConfigFields}
use Rattle.rw_shard_core.specs.declared.outcome.Outcome.{Outcome}
use Rattle.rw_shard_core.specs.declared.outcome.Outcome.TheVariants as outcome
use Rattle.rw_worker.specs.Transcript.{Exchange}
use Rattle.rw_worker.specs.Steps.{Step, exchanges_of, items_of}
use Rattle.rw_head.specs.Head.{State}
use Rattle.rw_head.specs.Growth.{EachRises}
use Rattle.rw_head.specs.Lists.{IsEarlier}
use Rattle.rw_head.specs.Order.{holds}
use Rattle.rw_head.specs.Store.{list_of}
use Rattle.rw_fleet.specs.ShardHistories.{ShardHistory, put_into}
use Rattle.rw_fleet.specs.Work.{AreResolved, AreWorked, IsWorked, AreEndedBy, lane_of, put_of}
use Rattle.rw_fleet.specs.Fleets.{Shards, AreAll, EndBy}
use Rattle.rw_fleet.specs.declared.joined.StoppedShard.{StoppedShard}
use Rattle.rw_fleet.specs.declared.joined.Finished.{Finished}
use Rattle.rw_fleet.proofs.shared.LaneLemmas.{same_length}
use Rattle.rw_wal_tail.specs.Taking.{HasRead}
use Rattle.rw_simulation.proofs.shared.PlainLogs.{read-plain, begins-plain}
use Rattle.rw_sender.specs.Logs.{Sent, sent, sent_of}
use Rattle.rw_sender.specs.Placement.{IsDealt, IsShardCount, Places, joined_epochs}
use Rattle.rw_sender.specs.Reports.{IsAbandoned, abandoned_in, parts_of}
use Rattle.rw_sender.specs.Shipping.{Shipping, PlacesAll, HasStopped, HasEndedAs}
use Rattle.rw_sender.specs.declared.report.Report.{Report}
use Rattle.rw_sender.proofs.shared.PlacementLemmas.{whole_is, whole_placed}
use Rattle.rw_sender.proofs.shared.ShippingLemmas.{all_is, ends_last}
use Rattle.rw_sender.proofs.shared.SpreadLemmas.{none_below}
use Rattle.rw_machine.specs.Shards.{Shard, is_drained, pending_in_shard}
use Rattle.rw_machine.specs.Worlds.{Setup, World, start, log, ended_as, is_pending, report}
use Rattle.rw_shard_core.specs.Endings.{Complete, Damaged}
use Rattle.rw_machine.specs.Steps.{run}
use Rattle.rw_machine.specs.declared.event.Event.{Event}
use Rattle.rw_machine.specs.declared.event.Event.TheVariants as event
use Rattle.rw_machine.specs.declared.event.How.{How}
use Rattle.rw_machine.specs.declared.event.How.TheVariants.{Plain, Busy, OutOfMemory}
use Rattle.rw_machine.specs.Promises.{CanWork, HoldsAll, HoldsBeginning, HoldsBeginningBelow, OwedRises, LoggedPoint, StoresResolved, owed, owed_below, pair_of}
use Rattle.rw_machine.proofs.shared.Lists.{Lists}
use Rattle.rw_machine.proofs.shared.Stored.{resolved_is_stored}
use Rattle.rw_machine.proofs.shared.Runs.{in_order, of_placed, owed_rises, held_rises, all_when_complete, all_when_damaged}
use Rattle.rw_restarts.specs.Arrivals.{Arrival, Receives, AreOfSteps, AreExchangesOf}
use Rattle.rw_restarts.specs.Listed.{is_left}
use Rattle.rw_restarts.proofs.shared.ListLemmas.{get-first, get-either, get_map, map_get}
use Rattle.rw_simulation.specs.Freely.{Happening, Of, IsOwn, run_freely}
use Rattle.rw_simulation.specs.Tallies.{Past, IsTallied, requests_of}
use Rattle.rw_simulation.specs.EpochRuns.{ShardFate, AreUnsent, IsAllPut, Reaches}
use Rattle.rw_simulation.specs.FleetRuns.{IsShardRun, fate_at}
use Rattle.rw_simulation.specs.StoppedRuns.{IsSetAs, NamesAll, first_number}
use Rattle.rw_simulation.specs.OneReceivers.{IsOneReceiver}
use Rattle.rw_simulation.specs.Received.{IsHeld, owed_of_placed, ReceivesInOrder, ReceivesAbandoned}
use Rattle.rw_simulation.proofs.EpochTurns.{turned-before, Turns, AtLast, turn-all}
use Rattle.rw_simulation.proofs.OrderlyEnds.{HasEnded, closed, orderly-run, has-ended}
use Rattle.rw_simulation.proofs.ReshardRuns.{BeginsEpoch, draining, drain-run, next, next-begins, restarts}
use Rattle.rw_simulation.proofs.EndRuns.{IsResolvedFate, IsOver, tallies-at}
use Rattle.rw_simulation.proofs.Tallies.{Passes, lists-at, tallied-next}
use Rattle.rw_simulation.proofs.shared.Pasts.{past_of, passes-of, names-all}
use Rattle.rw_simulation.proofs.StoppedRuns.{Fed, feeds, Known, AreAsked, known-all, Sound, sound-all, Found, find, steps_in, lane-at, fates, fate-end, fate-resolved, reports-at, begun, fed-all, begins}
use Rattle.rw_simulation.proofs.AbandonedRuns as soft
use Rattle.rw_simulation.proofs.AbandonedRuns.{KnownOf, FoundAt, find-at, come, soft_lane, put-split, left-by-last}
use Rattle.rw_simulation.proofs.RisingOrders.{is_in}
use Rattle.rw_simulation.proofs.FlushedShards.{flushed, exchanges_of-flushed}
use Rattle.rw_simulation.proofs.Arrived.{IsSentAs, HasArrived, arrived-own}
use Rattle.rw_simulation.proofs.EpochArrivals.{put_by, first_at, same-end, sent-own, put-first, put-quiet, Gone, goes}
use Rattle.rw_simulation.proofs.EntryRuns.{plus_none}

-- ---- a queue that holds all
-- how many items were put in all, and one more
abbrev pub total_put : {T : Type 0} → List (StoppedShard T) → ℕ
total_put [] = 1
total_put (j ∷ js) = length (put_of j.finished.ends) + total_put js

some_put : {T : Type 0} (js : List (StoppedShard T)) → 1 ≤ total_put js
some_put [] = omega arith
some_put (j ∷ js) = more (length (put_of j.finished.ends)) (total_put js) (some_put js)
  where
    more : (a b : ℕ) → 1 ≤ b → 1 ≤ a + b
    more a b h = omega arith

fits-all : {T : Type 0} (wide : ℕ) (js : List (StoppedShard T)) → total_put js ≤ wide → AllByRecursion (λ (j : StoppedShard T). length (put_of j.finished.ends) ≤ wide) js
fits-all wide [] h = tt
fits-all wide (j ∷ js) h = (first (length (put_of j.finished.ends)) (total_put js) wide h, fits-all wide js (later (length (put_of j.finished.ends)) (total_put js) wide h))
  where
    first : (a b n : ℕ) → a + b ≤ n → a ≤ n
    first a b n h = omega arith

    later : (a b n : ℕ) → a + b ≤ n → b ≤ n
    later a b n h = omega arith

abbrev pub widened : Setup → ℕ → Setup
widened c wide = record c { capacity = wide }

-- to a receiver it is all one how much a queue holds
one-wide : (c : Setup) (wide : ℕ) (exs : ℕ → ℕ → List Exchange) (arrivals : List Arrival) (heads : ℕ → State) → IsOneReceiver c exs arrivals heads → IsOneReceiver (widened c wide) exs arrivals heads
one-wide c wide exs arrivals heads one = record {
  begins = one.begins;
  receives = λ n a at. let h = one.receives n a at in (h.0, h.1, by_how a.how h.0.request (heads n) a.status (heads (suc n)) h.2);
  told = one.told;
}
  where
    by_how : (how : How) (bytes : List ℕ) (head : State) (status : ℕ) (after : State) → Receives c how bytes head status after → Receives (widened c wide) how bytes head status after
    by_how Plain bytes head status after h = h
    by_how Busy bytes head status after h = h
    by_how OutOfMemory bytes head status after h = h

-- ---- which shards there are
-- the shards of an epoch, counted from the first of these
abbrev pub lanes_at : List (List ShardHistory) → ℕ → List ShardHistory
lanes_at [] e = []
lanes_at (lanes ∷ later) zero = lanes
lanes_at (lanes ∷ later) (suc e) = lanes_at later e

-- exchanges are of these shards alone
abbrev pub AreWithin : (ℕ → ℕ → List Exchange) → ℕ → List (List ShardHistory) → Type 0
AreWithin exs epoch epochs = (e k i : ℕ) (x : Exchange) → slice_get (exs (epoch + e) k) i ≡ Some x → k < length (lanes_at epochs e)

shift : (a e : ℕ) → suc a + e ≡ a + suc e
shift a e = omega arith

within-first : (exs : ℕ → ℕ → List Exchange) (epoch : ℕ) (lanes : List ShardHistory) (later : List (List ShardHistory)) → AreWithin exs epoch (lanes ∷ later) → (k i : ℕ) (x : Exchange) → slice_get (exs epoch k) i ≡ Some x → k < length lanes
within-first exs epoch lanes later h k i x e = h 0 k i x (ap (λ (n : ℕ). slice_get (exs n k) i) (sym (plus_none epoch)) ∙ e)

within-later : (exs : ℕ → ℕ → List Exchange) (epoch : ℕ) (lanes : List ShardHistory) (later : List (List ShardHistory)) → AreWithin exs epoch (lanes ∷ later) → AreWithin exs (suc epoch) later
within-later exs epoch lanes later h e k i x got = h (suc e) k i x (ap (λ (n : ℕ). slice_get (exs n k) i) (sym (shift epoch e)) ∙ got)

-- a shard is of one of the epochs
record IsOfEpoch (epoch : ℕ) (epochs : List (List ShardHistory)) (l : ShardHistory) : Type 0 where
  e : ℕ
  epoch_is : l.setup.queue.epoch ≡ epoch + e
  shard_lt : l.setup.queue.shard < length (lanes_at epochs e)

of-epoch : (epoch : ℕ) (epochs : List (List ShardHistory)) (xs : List Sent) → Places epoch epochs xs → (i : ℕ) (l : ShardHistory) → slice_get (joined_epochs epochs) i ≡ Some l → IsOfEpoch epoch epochs l
of-epoch epoch [] xs p i l e = absurd (none-some l e)
of-epoch epoch (lanes ∷ later) xs p i l e = by_place (get-either lanes (joined_epochs later) i l e) (λ k at. of-epoch (suc epoch) later p.1 p.4 k l at)
  where
    up : IsOfEpoch (suc epoch) later l → IsOfEpoch epoch (lanes ∷ later) l
    up h = record { e = suc h.e; epoch_is = h.epoch_is ∙ shift epoch h.e; shard_lt = h.shard_lt }

    by_place : (slice_get lanes i ≡ Some l) ⊎ ((k : ℕ) × (slice_get (joined_epochs later) k ≡ Some l)) → ((k : ℕ) → slice_get (joined_epochs later) k ≡ Some l → IsOfEpoch (suc epoch) later l) → IsOfEpoch epoch (lanes ∷ later) l
    by_place (inl at) go = let d = p.3.each i l at in record { e = 0; epoch_is = d.0 ∙ plus_none epoch; shard_lt = subst (λ (k : ℕ). k < length lanes) (sym d.1) (slice_get_within lanes i l at) }
    by_place (inr (k, at)) go = up (go k at)

module _ {T : Type 0} (tells : T → Type 0) (seen : T → List Exchange) (is_for : ℕ → ℕ → T → Type 0) (c0 : Setup) (config : ConfigFields) (set : IsSetAs c0 config) (work : CanWork c0) (wide : ℕ) (room : 1 ≤ wide)
    (exs : ℕ → ℕ → List Exchange) (arrivals : List Arrival) (heads : ℕ → State) (one : IsOneReceiver (widened c0 wide) exs arrivals heads) where
  abbrev pub c : Setup
  c = widened c0 wide

  -- its exchanges are these, and what it was put fits
  pub record IsTold (j : StoppedShard T) (h : IsWorked tells seen is_for j) : Type 0 where
    pub exchanges : exs j.worker.value.queue.epoch j.worker.value.queue.shard ≡ exchanges_of h.report.steps
    pub fits : length (put_of j.finished.ends) ≤ wide

  abbrev pub IsSound : StoppedShard T → Type 0
  IsSound = Sound tells seen is_for c0 config set work IsTold

  abbrev pub Arrived : ℕ → World → Type 0
  Arrived m w = HasArrived c exs arrivals heads one m w

  abbrev pub SentBelow : ℕ → World → Type 0
  SentBelow end w = (e k i : ℕ) (x : Exchange) → e < end → slice_get (exs e k) i ≡ Some x → IsSentAs (requests_of e k w.requests) i x

  -- a world on the way, with these arrivals made
  pub record IsReached (m epoch : ℕ) (w : World) : Type 0 where
    pub few : m ≤ length arrivals
    pub arrived : Arrived m w
    pub sent : SentBelow epoch w

  -- and it is at the start of an epoch of this many shards
  pub record IsBegun (pieces : List Piece) (done : List (StoppedShard T)) (epoch n : ℕ) (before : List Entry) : Type 0 where
    pub m : ℕ
    pub world : World
    pub begins : BeginsEpoch c (past_of tells seen done) pieces epoch n before world
    pub at : IsReached m epoch world

  -- all has come but what is of later epochs
  pub record Came (epoch : ℕ) (P : World → Type 0) : Type 0 where
    pub made : ℕ
    pub world : World
    pub arrived : Arrived made world
    pub stop : (made ≡ length arrivals) ⊎ ((a : Arrival) × (slice_get arrivals made ≡ Some a) × (epoch < a.epoch))
    pub holds : P world

  pub on-own : (m epoch : ℕ) (w v : World) (hs : List Happening) → IsReached m epoch w → AllByRecursion IsOwn hs → run_freely c hs w ≡ v → IsReached m epoch v
  on-own m epoch w v hs h own is = record {
    few = h.few;
    arrived = arrived-own c exs arrivals heads one m w v hs h.arrived own is;
    sent = sent-own c exs arrivals heads one (past_of tells seen []) epoch 0 w v hs h.sent own is;
  }

  -- ---- one epoch
  module _ (epoch : ℕ) (kd : Kind) (js : List (StoppedShard T)) (sound : AllByRecursion IsSound js) (some_lanes : 1 ≤ length (map lane_of js)) (by : AreEndedBy kd (map put_into (map lane_of js))) (before es : List Entry) (dealt : IsDealt epoch (map lane_of js) (gather_from (sent_of c.choice) before es)) where
    abbrev pub lanes : List ShardHistory
    lanes = map lane_of js

    abbrev pub steps : ℕ → List Step
    steps k = steps_in tells seen is_for c0 config set work IsTold js sound k

    abbrev pub goals : ℕ → ShardFate
    goals = fates tells seen is_for c0 config set work IsTold epoch kd js sound some_lanes by before es dealt

    pub real-at : (k : ℕ) (l : ShardHistory) → slice_get lanes k ≡ Some l → IsShardRun c0 epoch k l (steps k) []
    real-at k l e = lane-at tells seen is_for c0 config set work IsTold epoch kd js sound some_lanes by before es dealt k l e

    pub runs : (k : ℕ) (l : ShardHistory) → slice_get lanes k ≡ Some l → IsShardRun c epoch k l (steps k) []
    runs k l e = let h = real-at k l e in record { target = h.target; batch = h.batch; epoch_is = h.epoch_is; shard_is = h.shard_is; history = h.history; allowed = h.allowed; split = h.split; within = omega arith }

    pub fits-at : (k : ℕ) (l : ShardHistory) → slice_get lanes k ≡ Some l → length l.put ≤ wide
    fits-at k l e = let f = find tells seen is_for c0 config set work IsTold js sound k l e in subst (λ (x : ShardHistory). length x.put ≤ wide) f.lane f.sound.asked.fits

    pub first-runs : (k : ℕ) (l : ShardHistory) → slice_get lanes k ≡ Some l → IsShardRun c epoch k l [] (put_by (slice_get lanes k))
    first-runs k l e = let h = real-at k l e in record { target = h.target; batch = h.batch; epoch_is = h.epoch_is; shard_is = h.shard_is; history = h.history; allowed = tt; split = sym (ap put_by e); within = subst (λ (o : Option ShardHistory). length (put_by o) ≤ wide) (sym e) (fits-at k l e) }

    pub told-at : (k : ℕ) (l : ShardHistory) → slice_get lanes k ≡ Some l → exchanges_of (steps k) ≡ exs epoch k
    told-at k l e = ap exchanges_of (sym f.steps) ∙ sym f.sound.asked.exchanges ∙ (λ i. exs (d.0 i) (d.1 i))
      where
        f : Found tells seen is_for c0 config set work IsTold js sound k l
        f = find tells seen is_for c0 config set work IsTold js sound k l e

        d : (f.j.worker.value.queue.epoch ≡ epoch) × (f.j.worker.value.queue.shard ≡ k)
        d = let q = dealt.each k (lane_of f.j) (get_map lane_of js k f.j f.at) in (q.0, q.1)

    pub first-end : (k : ℕ) → k < length lanes → (first_at lanes k).end ≡ Some kd
    first-end k lt = same-end lanes steps (λ k. []) k ∙ fate-end tells seen is_for c0 config set work IsTold epoch kd js sound some_lanes by before es dealt k lt

    pub resolved : (k : ℕ) → k < length lanes → IsResolvedFate (goals k)
    resolved = fate-resolved tells seen is_for c0 config set work IsTold epoch kd js sound some_lanes by before es dealt

    pub pass : (done : List (StoppedShard T)) → Passes c (past_of tells seen done) epoch (length lanes) (past_of tells seen (done ++ js)) (λ k. (goals k).worker.ledger.names) (λ k. (goals k).requests)
    pass done = passes-of tells seen c epoch (length lanes) done js goals (sym (length-map js lane_of)) (reports-at tells seen is_for c0 config set work IsTold epoch kd js sound some_lanes by before es dealt)

    pub few-then : (m : ℕ) → (m ≡ length arrivals) ⊎ ((a : Arrival) × (slice_get arrivals m ≡ Some a) × (epoch < a.epoch)) → m ≤ length arrivals
    few-then m (inl e) = equal m (length arrivals) e
      where
        equal : (a b : ℕ) → a ≡ b → a ≤ b
        equal a b e = omega arith
    few-then m (inr (a, at, lt)) = less m (length arrivals) (slice_get_within arrivals m a at)
      where
        less : (a b : ℕ) → a < b → a ≤ b
        less a b l = omega arith

    module _ (within : (k i : ℕ) (x : Exchange) → slice_get (exs epoch k) i ≡ Some x → k < length lanes) (done : List (StoppedShard T)) (pieces : List Piece) (rest : List Entry) (m : ℕ) (w : World) (b : BeginsEpoch c (past_of tells seen done) pieces epoch (length lanes) before w) (at : IsReached m epoch w) (all : entries pieces ≡ before ++ (es ++ rest)) where
      abbrev pub past : Past
      past = past_of tells seen done

      pub put : Reaches (AreUnsent (first_at lanes)) c w (IsAllPut c past pieces epoch (length lanes) (first_at lanes) (before ++ es))
      put = put-first c exs arrivals heads one past pieces epoch lanes before es rest w room work.batch some_lanes dealt first-runs b all

      pub put-at : IsReached m epoch put.world
      put-at = on-own m epoch w put.world put.events at (put-quiet c exs arrivals heads one lanes w _ put) put.is

      -- all that is to be sent was sent, and each shard has been put its End
      pub record AllGone (u : World) : Type 0 where
        pub made : ℕ
        pub world : World
        pub over : IsOver c past epoch (length lanes) goals (before ++ es) u world
        pub now : IsReached made (suc epoch) world
        pub stop : (made ≡ length arrivals) ⊎ ((a : Arrival) × (slice_get arrivals made ≡ Some a) × (epoch < a.epoch))

      pub all-gone : (v u : World) → u.killed ≡ false → (r : Reaches (AreUnsent (first_at lanes)) c v (IsOver c past epoch (length lanes) (first_at lanes) (before ++ es) u)) → IsReached m epoch v → AllGone u
      all-gone v u alive r now = record { made = gone.m; world = gone.world; over = gone.over; now = record { few = few-then gone.m gone.stop; arrived = gone.arrived; sent = gone.sent }; stop = gone.stop }
        where
          here : IsReached m epoch r.world
          here = on-own m epoch v r.world r.events now (put-quiet c exs arrivals heads one lanes v _ r) r.is

          gone : Gone c exs arrivals heads one past epoch lanes steps (λ k. []) (before ++ es) u alive within told-at runs
          gone = goes c exs arrivals heads one past epoch lanes steps (λ k. []) (before ++ es) u alive within told-at runs m r.world here.few r.holds here.arrived here.sent

      -- ---- an epoch before the last one
      module _ (is_reshard : kd ≡ kind.Reshard) (next_number : ℕ) (least : 1 ≤ next_number) (most : next_number ≤ 1000) where
        abbrev asking : World
        asking = draining c past pieces epoch (length lanes) next_number (first_at lanes) (before ++ es) least most put.world put.holds

        gone-next : AllGone asking
        gone-next = all-gone put.world asking put.holds.under.going.0
            (drain-run c past pieces epoch (length lanes) next_number (first_at lanes) (before ++ es) least most put.world put.holds room (λ k lt. first-end k lt ∙ ap Some is_reshard)) put-at

        abbrev next-world : World
        next-world = next c past (past_of tells seen (done ++ js)) pieces epoch (length lanes) next_number (first_at lanes) goals (before ++ es) resolved put.world put.holds (pass done) gone-next.world gone-next.over

        pub begun-next : IsBegun pieces (done ++ js) (suc epoch) next_number (before ++ es)
        begun-next = record {
          m = gone-next.made;
          world = next-world;
          begins = next-begins c past (past_of tells seen (done ++ js)) pieces epoch (length lanes) next_number (first_at lanes) goals (before ++ es) resolved put.world put.holds (pass done) gone-next.world gone-next.over;
          at = on-own gone-next.made (suc epoch) gone-next.world next-world (Of event.Restart ∷ []) gone-next.now (tt, tt)
              (restarts c past (past_of tells seen (done ++ js)) pieces epoch (length lanes) next_number (first_at lanes) goals (before ++ es) resolved put.world put.holds (pass done) gone-next.world gone-next.over);
        }

      -- ---- the last one, if the shards are ended in order
      module _ (is_orderly : kd ≡ kind.Orderly) (none_rest : rest ≡ []) where
        whole-read : entries pieces ≡ before ++ es
        whole-read = all ∙ ap (λ (xs : List Entry). before ++ (es ++ xs)) none_rest ∙ ap (λ (xs : List Entry). before ++ xs) (append-nil es)

        abbrev last-closed : World
        last-closed = closed c past pieces epoch (length lanes) (first_at lanes) (before ++ es) whole-read put.world put.holds

        gone-last : AllGone last-closed
        gone-last = all-gone put.world last-closed put.holds.under.going.0
            (orderly-run c past pieces epoch (length lanes) (first_at lanes) (before ++ es) whole-read put.world put.holds room (λ k lt. first-end k lt ∙ ap Some is_orderly)) put-at

        -- all has come, and the machine has come to its report
        pub came-whole : Came epoch (HasEnded c pieces epoch (before ++ es) (past_of tells seen (done ++ js)))
        came-whole = record {
          made = gone-last.made;
          world = gone-last.world;
          arrived = gone-last.now.arrived;
          stop = gone-last.stop;
          holds = has-ended c past pieces epoch (length lanes) (first_at lanes) (before ++ es) whole-read put.world put.holds (past_of tells seen (done ++ js)) goals resolved (pass done) gone-last.world gone-last.over;
        }

  -- ---- the epochs before the last one
  abbrev pub IsAt : List Piece → List ShardHistory → List (StoppedShard T) → ℕ → List (List ShardHistory) → List Entry → Type 0
  IsAt pieces last done epoch later before = IsBegun pieces done epoch (first_number later last) before × AreWithin exs epoch (later ++ last ∷ [])

  pub turn-arrive : (pieces : List Piece) (last : List ShardHistory) (done js : List (StoppedShard T)) (epoch : ℕ) (later : List (List ShardHistory)) (before es : List Entry) → Turns IsSound c.choice pieces last epoch js later before es
      → IsAt pieces last done epoch (map lane_of js ∷ later) before → IsAt pieces last (done ++ js) (suc epoch) later (before ++ es)
  turn-arrive pieces last done js epoch later before es t (a, within) = (
    begun-next epoch kind.Reshard js t.sound t.some t.by before es t.dealt (within-first exs epoch (map lane_of js) (later ++ last ∷ []) within) done pieces t.rest a.m a.world a.begins a.at t.begins refl (first_number later last) t.number.0 t.number.1,
    within-later exs epoch (map lane_of js) (later ++ last ∷ []) within,
  )

  -- ---- the last epoch, of which samples may be left: no End is put
  pub record IsLeft (pieces : List Piece) (epoch : ℕ) (done : List (StoppedShard T)) (placed : List Entry) (last : List (StoppedShard T)) (w : World) : Type 0 where
    pub tallied : IsTallied c (past_of tells seen done) (suc epoch) 0 placed (λ k. empty) w
    pub placed_are : w.placed ≡ length placed
    pub pieces_are : w.pieces ≡ pieces
    pub pending : (p : ℕ) → is_pending w p ≡ is_in (abandoned_in last) p

  module _ (epoch : ℕ) (js : List (StoppedShard T)) (known : AllByRecursion (KnownOf tells seen is_for c0 config set work IsTold) js) (some : 1 ≤ length js) (before es : List Entry) (dealt : IsDealt epoch (map lane_of js) (gather_from (sent_of c.choice) before es)) (within : (k i : ℕ) (x : Exchange) → slice_get (exs epoch k) i ≡ Some x → k < length js)
      (done : List (StoppedShard T)) (pieces : List Piece) (rest : List Entry) (m : ℕ) (w : World) (b : BeginsEpoch c (past_of tells seen done) pieces epoch (length js) before w) (at : IsReached m epoch w) (all : entries pieces ≡ before ++ (es ++ rest)) where
    abbrev pub soft_lanes : List ShardHistory
    soft_lanes = map (soft_lane tells seen is_for c0 config set work IsTold) js

    abbrev pub soft_steps : ℕ → List Step
    soft_steps k = soft.steps_in tells seen is_for c0 config set work IsTold js known k

    abbrev pub soft_left : ℕ → List Item
    soft_left k = soft.rest_in tells seen is_for c0 config set work IsTold js known k

    abbrev pub soft_goals : ℕ → ShardFate
    soft_goals = fate_at soft_lanes soft_steps soft_left

    pub count-is : length soft_lanes ≡ length js
    count-is = soft.n-is tells seen is_for c0 config set work IsTold epoch js known some before es dealt

    pub run-of : (k : ℕ) (l : ShardHistory) → slice_get soft_lanes k ≡ Some l → IsShardRun c0 epoch k l (soft_steps k) (soft_left k)
    run-of k l e = soft.runs tells seen is_for c0 config set work IsTold epoch js known some before es dealt k l e

    pub soft-fits : (k : ℕ) (l : ShardHistory) → slice_get soft_lanes k ≡ Some l → length l.put ≤ wide
    soft-fits k l e = let g = map_get (soft_lane tells seen is_for c0 config set work IsTold) js k l e in
        let f = find-at tells seen is_for c0 config set work IsTold js known k g.0 g.1 in
        subst (λ (x : ShardHistory). length x.put ≤ wide) g.2 (subst (λ (n : ℕ). n ≤ wide) (sym (length-map (put_of g.0.finished.ends) flushed)) (subst (λ (x : StoppedShard T). length (put_of x.finished.ends) ≤ wide) f.same f.known.asked.fits))

    pub left_fits : (put taken left n : ℕ) → put ≡ taken + left → put ≤ n → left ≤ n
    left_fits put taken left n e le = omega arith

    pub soft-runs : (k : ℕ) (l : ShardHistory) → slice_get soft_lanes k ≡ Some l → IsShardRun c epoch k l (soft_steps k) (soft_left k)
    soft-runs k l e = let h = run-of k l e in record {
      target = h.target;
      batch = h.batch;
      epoch_is = h.epoch_is;
      shard_is = h.shard_is;
      history = h.history;
      allowed = h.allowed;
      split = h.split;
      within = left_fits (length l.put) (length (items_of (soft_steps k))) (length (soft_left k)) wide (ap length h.split ∙ length-append (items_of (soft_steps k)) (soft_left k)) (soft-fits k l e);
    }

    pub soft-first : (k : ℕ) (l : ShardHistory) → slice_get soft_lanes k ≡ Some l → IsShardRun c epoch k l [] (put_by (slice_get soft_lanes k))
    soft-first k l e = let h = run-of k l e in record { target = h.target; batch = h.batch; epoch_is = h.epoch_is; shard_is = h.shard_is; history = h.history; allowed = tt; split = sym (ap put_by e); within = subst (λ (o : Option ShardHistory). length (put_by o) ≤ wide) (sym e) (soft-fits k l e) }

    pub soft-told : (k : ℕ) (l : ShardHistory) → slice_get soft_lanes k ≡ Some l → exchanges_of (soft_steps k) ≡ exs epoch k
    soft-told k l e = ap exchanges_of (sym f.steps) ∙ exchanges_of-flushed f.known.worked.report.steps ∙ sym f.known.asked.exchanges ∙ (λ i. exs (d.0 i) (d.1 i))
      where
        g : (j : StoppedShard T) × (slice_get js k ≡ Some j) × (soft_lane tells seen is_for c0 config set work IsTold j ≡ l)
        g = map_get (soft_lane tells seen is_for c0 config set work IsTold) js k l e

        f : FoundAt tells seen is_for c0 config set work IsTold js known k g.0
        f = find-at tells seen is_for c0 config set work IsTold js known k g.0 g.1

        at_it : slice_get js k ≡ Some f.it
        at_it = g.1 ∙ ap Some (sym f.same)

        d : (f.it.worker.value.queue.epoch ≡ epoch) × (f.it.worker.value.queue.shard ≡ k)
        d = let q = dealt.each k (lane_of f.it) (get_map lane_of js k f.it at_it) in (q.0, q.1)

    pub soft-within : (k i : ℕ) (x : Exchange) → slice_get (exs epoch k) i ≡ Some x → k < length soft_lanes
    soft-within = subst (λ (n : ℕ). (k i : ℕ) (x : Exchange) → slice_get (exs epoch k) i ≡ Some x → k < n) (sym count-is) within

    pub soft-open : (k : ℕ) → (first_at soft_lanes k).end ≡ None
    soft-open k = same-end soft_lanes soft_steps soft_left k ∙ soft.goal-open tells seen is_for c0 config set work IsTold epoch js known some before es dealt k (slice_get soft_lanes k) refl

    pub soft-put : Reaches (AreUnsent (first_at soft_lanes)) c w (IsAllPut c (past_of tells seen done) pieces epoch (length soft_lanes) (first_at soft_lanes) (before ++ es))
    soft-put = put-first c exs arrivals heads one (past_of tells seen done) pieces epoch soft_lanes before es rest w room work.batch (soft.some_lanes tells seen is_for c0 config set work IsTold epoch js known some before es dealt) (soft.dealt-so tells seen is_for c0 config set work IsTold epoch js known some before es dealt) soft-first
        (subst (λ (n : ℕ). BeginsEpoch c (past_of tells seen done) pieces epoch n before w) (sym count-is) b) all

    pub soft-at : IsReached m epoch soft-put.world
    soft-at = on-own m epoch w soft-put.world soft-put.events at (put-quiet c exs arrivals heads one soft_lanes w _ soft-put) soft-put.is

    pub soft-over : IsOver c (past_of tells seen done) epoch (length soft_lanes) (first_at soft_lanes) (before ++ es) soft-put.world soft-put.world
    soft-over = record {
      same = refl;
      count = soft-put.holds.under.count;
      parts = soft-put.holds.under.parts;
      tallied = soft-put.holds.under.tallied;
      done = λ k s e. come c epoch k soft-put.world.requests (soft-put.holds.under.parts k) s (first_at soft_lanes k) (soft-put.holds.each k s e) (soft-open k);
    }

    soft-gone : Gone c exs arrivals heads one (past_of tells seen done) epoch soft_lanes soft_steps soft_left (before ++ es) soft-put.world soft-put.holds.under.going.0 soft-within soft-told soft-runs
    soft-gone = goes c exs arrivals heads one (past_of tells seen done) epoch soft_lanes soft_steps soft_left (before ++ es) soft-put.world soft-put.holds.under.going.0 soft-within soft-told soft-runs m soft-put.world soft-at.few soft-over soft-at.arrived soft-at.sent

    -- all has come, and what is pending was abandoned
    pub came-left : Came epoch (IsLeft pieces epoch (done ++ js) (before ++ es) js)
    came-left = record {
      made = soft-gone.m;
      world = soft-gone.world;
      arrived = soft-gone.arrived;
      stop = soft-gone.stop;
      holds = record {
        tallied = tallied-next c (past_of tells seen done) epoch (length soft_lanes) (past_of tells seen (done ++ js)) (before ++ es) soft-gone.over.parts (λ k. (soft_goals k).worker.ledger.names) (λ k. (soft_goals k).requests) soft-gone.world soft-gone.world [] 0 soft-gone.over.tallied refl refl refl
            (tallies-at epoch (length soft_lanes) soft_goals soft-gone.world.requests soft-gone.over.parts soft-gone.world.shards soft-gone.over.count soft-gone.over.done)
            (passes-of tells seen c epoch (length soft_lanes) done js soft_goals (sym count-is) (soft.reports-at tells seen is_for c0 config set work IsTold epoch js known some before es dealt));
        placed_are = ap (λ (x : World). x.placed) soft-gone.over.same ∙ soft-put.holds.under.placed;
        pieces_are = ap (λ (x : World). x.pieces) soft-gone.over.same ∙ soft-put.holds.under.pieces_are;
        pending = soft.tells-left tells seen is_for c0 config set work IsTold epoch js known some before es dealt c soft-gone.world soft-gone.over.parts (soft-gone.over.count ∙ count-is) (lists-at c soft-gone.world soft-gone.over.tallied.reached) soft-gone.over.done;
      };
    }

-- ---- from the start
own-feeds : (fed : List Fed) → AllByRecursion IsOwn (feeds fed)
own-feeds [] = tt
own-feeds (p ∷ ps) = (tt, own-feeds ps)

itself : (n : ℕ) → n ≤ n
itself n = omega arith

same_epoch : (e d q : ℕ) → q ≡ 0 + e → q ≡ 0 + d → d ≡ e
same_epoch e d q a b = omega arith

after-it : (a b : ℕ) → a < b → (d : ℕ) × (b ≡ a + suc d)
after-it zero zero lt = absurd (omega arith)
after-it zero (suc b) lt = (b, omega arith)
after-it (suc a) zero lt = absurd (omega arith)
after-it (suc a) (suc b) lt = let h = after-it a b (less a b lt) in (h.0, up a b h.0 h.1)
  where
    up : (a b d : ℕ) → b ≡ a + suc d → suc b ≡ suc a + suc d
    up a b d e = omega arith

    less : (a b : ℕ) → suc a < suc b → a < b
    less a b l = omega arith

-- what the machine's theorem says of a world with this report
all-of : (c : Setup) (events : List Event) (w : World) → run c events (start c) ≡ w → (o : Option TailFault) (n : ℕ) → report w ≡ Some (ended_as o n) → w.placed ≡ n → (l : Labels) → HoldsAll c w n l
all-of c events w is None n reported placed l = subst (λ (v : World). report v ≡ Some (Complete n) → HoldsAll c v n l) is (λ h. all_when_complete c events n h l) reported
all-of c events w is (Some f) n reported placed l = subst (λ (m : ℕ). HoldsAll c w m l) placed (subst (λ (v : World). report v ≡ Some (Damaged f) → HoldsAll c v v.placed l) is (λ h. all_when_damaged c events f h l) reported)

-- if all is drained nothing is pending
no_rest : (xs ys zs : List Placed) → xs ≡ ys ++ zs → length ys ≡ length xs → zs ≡ []
no_rest xs ys [] e same = refl
no_rest xs ys (z ∷ zs) e same = absurd (never (length ys) (length zs) (same ∙ ap length e ∙ length-append ys (z ∷ zs)))
  where
    never : (a b : ℕ) → a ≡ a + suc b → ⊥
    never a b e = omega arith

none-pending : (c : Setup) (p : ℕ) (ms : List Shard) → ((k : ℕ) (m : Shard) → slice_get ms k ≡ Some m → Lists c m) → list_all is_drained ms ≡ true → list_any (λ (m : Shard). list_any (λ (x : Placed). x.place.pos == p) (pending_in_shard m)) ms ≡ false
none-pending c p [] kept all = refl
none-pending c p (m ∷ ms) kept all =
    let both = and_parts (is_drained m) (list_all is_drained ms) all in
    let ended = and_parts m.core.ended (length m.core.resolved == length m.put) both.0 in
    ap (λ (xs : List Placed). list_any (λ (x : Placed). x.place.pos == p) xs || list_any (λ (n : Shard). list_any (λ (x : Placed). x.place.pos == p) (pending_in_shard n)) ms)
    (no_rest m.put m.core.resolved (pending_in_shard m) (put-split c m (kept 0 m refl)) (eqb-true (length m.core.resolved) (length m.put) ended.1)) ∙ none-pending c p ms (λ k n e. kept (suc k) n e) both.1

-- a head that holds what the machine's does
held-so : {T : Type 0} (c : Setup) (s : Shipping T) (r : Report T) (v : World) (head : State) (events : List Event) → run c events (start c) ≡ v → v.head ≡ head → v.pieces ≡ s.log.pieces → c.choice ≡ s.log.choice → NamesAll v.names (parts_of r) → ((IsAbandoned r.outcome → ⊥) → (l : Labels) → HoldsAll c v (length s.log.placed) l)
    → (rest : List Entry) → entries s.log.pieces ≡ s.log.placed ++ rest → v.placed ≡ length s.log.placed → ((p : ℕ) → is_left r.outcome p ≡ false → is_pending v p ≡ false) → IsHeld s r head.store
held-so c s r v head events is head_is pieces_are choice named all rest read placed none_pending = record {
  names = v.names;
  named = named;
  in_order = λ l. subst (λ (st : State). Begins (list_of st.store l) (map pair_of (owed v.names (kept_points s.log.choice (entries s.log.pieces) l)))) head_is
      (subst (λ (ps : List Piece). Begins (list_of v.head.store l) (map pair_of (owed v.names (kept_points s.log.choice (entries ps) l)))) pieces_are
      (subst (λ (ch : Choice). Begins (list_of v.head.store l) (map pair_of (owed v.names (kept_points ch (log v) l)))) choice (subst (λ (x : World). HoldsBeginning c x l) is (in_order c events l))));
  of_placed = λ l. subst (λ (st : State). Begins (list_of st.store l) (map pair_of (owed_of_placed s v.names l))) head_is
      (subst (λ (os : List LoggedPoint). Begins (list_of v.head.store l) (map pair_of os)) (owed-is l) (subst (λ (x : World). HoldsBeginningBelow c x x.placed l) is (of_placed c events l)));
  owed_rises = λ l. subst (λ (os : List LoggedPoint). Rises IsEarlier (map pair_of os)) (owed-is l) (subst (OwedRises c) is (owed_rises c events) l);
  rises = subst (λ (st : State). EachRises st.store) head_is (subst (λ (x : World). EachRises x.head.store) is (held_rises c events));
  whole = λ left l. subst (λ (st : State). list_of st.store l ≡ map pair_of (owed v.names (kept_points_below s.log.choice (entries s.log.pieces) l (length s.log.placed)))) head_is
      (subst (λ (ps : List Piece). list_of v.head.store l ≡ map pair_of (owed v.names (kept_points_below s.log.choice (entries ps) l (length s.log.placed)))) pieces_are
      (subst (λ (ch : Choice). list_of v.head.store l ≡ map pair_of (owed v.names (kept_points_below ch (log v) l (length s.log.placed)))) choice (all left l)));
  settled = λ p ref t word l at is_known left unnamed. subst (λ (st : State). holds (t, word) (list_of st.store l) ≡ true) head_is
      (subst (λ (x : World). StoresResolved c x) is (resolved_is_stored c events) p ref t word l
      (subst (λ (n : ℕ). p < n) (sym placed) (slice_get_within s.log.placed p (entry.Sample ref t word) at))
      (ap (λ (es : List Entry). slice_get es p) log-is ∙ get-first s.log.placed rest p (entry.Sample ref t word) at)
      ((λ i. known_in (choice i) (take p (log-is i)) ref) ∙ ap (λ (es : List Entry). known_in s.log.choice es ref) (take-append-le p s.log.placed rest (below p (length s.log.placed) (slice_get_within s.log.placed p (entry.Sample ref t word) at))) ∙ is_known)
      (none_pending p left) unnamed);
}
  where
    log-is : log v ≡ s.log.placed ++ rest
    log-is = ap entries pieces_are ∙ read

    owed-is : (l : Labels) → owed_below c v v.placed l ≡ owed_of_placed s v.names l
    owed-is l = λ i. owed v.names (kept_points_below (choice i) (entries (pieces_are i)) l (placed i))

    below : (a b : ℕ) → a < b → a ≤ b
    below a b lt = omega arith

module _ {T : Type 0} (tells : T → Type 0) (seen : T → List Exchange) (is_for : ℕ → ℕ → T → Type 0) (c0 : Setup) (s : Shipping T) (r : Report T) (fed : List Fed) (h : HasStopped tells seen is_for s r) (was : Shards T) (p : PlacesAll s.log was) (set : IsSetAs c0 s.fleet.config) (choice : c0.choice ≡ s.log.choice) (work : CanWork c0) (fed_are : s.log.pieces ≡ map piece_of fed)
    (alls : AreAll was h.joined) (resolved : AreResolved was.ended) (number : IsShardCount (length was.current)) (first : first_number p.epochs was.current ≡ c0.shards)
    (exs : ℕ → ℕ → List Exchange) (arrivals : List Arrival) (heads : ℕ → State) (told : AreExchangesOf tells seen is_for h.joined h.worked exs) (one : IsOneReceiver c0 exs arrivals heads) where
  abbrev wide : ℕ
  wide = total_put h.joined

  abbrev setup : Setup
  setup = widened c0 wide

  room : 1 ≤ wide
  room = some_put h.joined

  one-so : IsOneReceiver setup exs arrivals heads
  one-so = one-wide c0 wide exs arrivals heads one

  abbrev AskedHere : (j : StoppedShard T) → IsWorked tells seen is_for j → Type 0
  AskedHere = IsTold tells seen is_for c0 s.fleet.config set work wide room exs arrivals heads one-so

  abbrev IsSoundHere : StoppedShard T → Type 0
  IsSoundHere = Sound tells seen is_for c0 s.fleet.config set work AskedHere

  abbrev IsKnownHere : StoppedShard T → Type 0
  IsKnownHere = Known tells seen is_for c0 s.fleet.config set work AskedHere

  abbrev last : List (StoppedShard T)
  last = alls.0

  -- ---- what is known of the shards
  asked-all : (js : List (StoppedShard T)) (w : AreWorked tells seen is_for js) → AreOfSteps tells seen is_for exs js w → AllByRecursion (λ (j : StoppedShard T). length (put_of j.finished.ends) ≤ wide) js → AreAsked tells seen is_for c0 s.fleet.config set work AskedHere js w
  asked-all [] w e f = tt
  asked-all (j ∷ js) w e f = (record { exchanges = e.0; fits = f.0 }, asked-all js w.1 e.1 f.1)

  known-joined : AllByRecursion IsKnownHere h.joined
  known-joined = known-all tells seen is_for c0 s.fleet.config set work AskedHere h.joined h.worked h.setup (asked-all h.joined h.worked told.each (fits-all wide h.joined (itself wide)))

  known : AllByRecursion IsKnownHere (was.ended ++ last)
  known = subst (AllByRecursion IsKnownHere) alls.1 known-joined

  sound-ended : AllByRecursion IsSoundHere was.ended
  sound-ended = sound-all tells seen is_for c0 s.fleet.config set work AskedHere was.ended (AllByRecursion-left IsKnownHere was.ended last known) resolved

  known-last : AllByRecursion IsKnownHere last
  known-last = AllByRecursion-right IsKnownHere was.ended last known

  same : length (map lane_of last) ≡ length was.current
  same = same_length was.current (map lane_of last) alls.2

  abbrev epochs : List (List ShardHistory)
  epochs = p.epochs ++ map lane_of last ∷ []

  placed : Places 0 epochs (sent setup.choice s.log.placed)
  placed = subst (λ (ch : Choice). Places 0 epochs (sent ch s.log.placed)) (sym choice) (whole_placed was.epoch (map lane_of was.ended) was.current (map lane_of last) (sent s.log.choice s.log.placed) p alls.2)

  lanes-are : map lane_of h.joined ≡ joined_epochs epochs
  lanes-are = whole_is was.epoch (map lane_of was.ended) was.current (map lane_of last) (map lane_of h.joined) (sent s.log.choice s.log.placed) p (all_is was h.joined alls)

  within : AreWithin exs 0 epochs
  within e k i x got = subst (λ (d : ℕ). k < length (lanes_at epochs d)) (same_epoch e of.e owner.1.worker.value.queue.epoch owner.3 of.epoch_is)
      (subst (λ (d : ℕ). d < length (lanes_at epochs of.e)) owner.4 of.shard_lt)
    where
      owner : (n : ℕ) × (j : StoppedShard T) × (slice_get h.joined n ≡ Some j) × (j.worker.value.queue.epoch ≡ 0 + e) × (j.worker.value.queue.shard ≡ k)
      owner = told.owned (0 + e) k i x got

      of : IsOfEpoch 0 epochs (lane_of owner.1)
      of = of-epoch 0 epochs (sent setup.choice s.log.placed) placed owner.0 (lane_of owner.1) (ap (λ (ls : List ShardHistory). slice_get ls owner.0) (sym lanes-are) ∙ get_map lane_of h.joined owner.0 owner.1 owner.2)

  first-is : (turned : List (List ShardHistory)) → first_number turned (map lane_of last) ≡ first_number turned was.current
  first-is [] = same
  first-is (x ∷ xs) = refl

  -- ---- all is fed
  abbrev origin : World
  origin = begun tells seen setup s.log.pieces fed fed_are

  abbrev IsReachedHere : ℕ → ℕ → World → Type 0
  IsReachedHere = IsReached tells seen is_for c0 s.fleet.config set work wide room exs arrivals heads one-so

  abbrev IsAtHere : List ShardHistory → List (StoppedShard T) → ℕ → List (List ShardHistory) → List Entry → Type 0
  IsAtHere = IsAt tells seen is_for c0 s.fleet.config set work wide room exs arrivals heads one-so s.log.pieces

  at-start : IsReachedHere 0 0 (start setup)
  at-start = record {
    few = omega arith;
    arrived = record { events = []; is = refl; count = refl; head = sym one.begins; each = λ i a lt. absurd (none_below i lt) };
    sent = λ e k i x lt. absurd (none_below e lt);
  }

  at-origin : IsReachedHere 0 0 origin
  at-origin = on-own tells seen is_for c0 s.fleet.config set work wide room exs arrivals heads one-so 0 0 (start setup) origin (feeds fed) at-start (own-feeds fed) (fed-all tells seen setup s.log.pieces fed fed_are)

  some_lanes : 1 ≤ length (map lane_of last)
  some_lanes = subst (λ (i : ℕ). 1 ≤ i) (sym same) number.0

  module _ (rest : List Entry) (read : entries s.log.pieces ≡ s.log.placed ++ rest) where
    at-last : AtLast setup.choice (map lane_of last) (IsAtHere (map lane_of last)) was.ended [] s.log.placed
    at-last = turn-all IsSoundHere setup.choice s.log.pieces (map lane_of last) rest (IsAtHere (map lane_of last)) (turn-arrive tells seen is_for c0 s.fleet.config set work wide room exs arrivals heads one-so s.log.pieces (map lane_of last)) p.epochs 0 [] was.ended [] s.log.placed
        sound-ended p.ended_is placed (turned-before p.epochs (map lane_of last) p.turned (subst IsShardCount (sym same) number)) read
        (record { m = 0; world = origin; begins = subst (λ (i : ℕ). BeginsEpoch setup (past_of tells seen []) s.log.pieces 0 i [] origin) (sym (first-is p.epochs ∙ first)) (begins tells seen setup s.log.pieces fed fed_are); at = at-origin }, within)

    abbrev last-begun : IsBegun tells seen is_for c0 s.fleet.config set work wide room exs arrivals heads one-so s.log.pieces was.ended at-last.epoch (length (map lane_of last)) at-last.now
    last-begun = at-last.at.0

    within-last : (k i : ℕ) (x : Exchange) → slice_get (exs at-last.epoch k) i ≡ Some x → k < length (map lane_of last)
    within-last = within-first exs at-last.epoch (map lane_of last) [] at-last.at.1

    whole-log : entries s.log.pieces ≡ at-last.now ++ (at-last.later ++ rest)
    whole-log = read ∙ ap (λ (xs : List Entry). xs ++ rest) at-last.are ∙ append_assoc at-last.now at-last.later rest

    -- nothing comes of an epoch after the last one
    no_later : (m : ℕ) (a : Arrival) → slice_get arrivals m ≡ Some a → at-last.epoch < a.epoch → ⊥
    no_later m a at lt =
        let d = after-it at-last.epoch a.epoch lt in
        let x = one.receives m a at in
        none_below a.shard (at-last.at.1 (suc d.0) a.shard a.number x.0 (ap (λ (e : ℕ). slice_get (exs e a.shard) a.number) (sym d.1) ∙ x.1))

    all-came : (m : ℕ) → (m ≡ length arrivals) ⊎ ((a : Arrival) × (slice_get arrivals m ≡ Some a) × (at-last.epoch < a.epoch)) → m ≡ length arrivals
    all-came m (inl e) = e
    all-came m (inr (a, at, lt)) = absurd (no_later m a at lt)

    tallied-so : (v : World) → IsTallied setup (past_of tells seen (was.ended ++ last)) (suc at-last.epoch) 0 (at-last.now ++ at-last.later) (λ k. empty) v → NamesAll v.names (parts_of r)
    tallied-so v t = names-all tells seen is_for setup s r h choice (suc at-last.epoch) v
        (subst (λ (js : List (StoppedShard T)). IsTallied setup (past_of tells seen js) (suc at-last.epoch) 0 s.log.placed (λ k. empty) v) (sym alls.1)
        (subst (λ (es : List Entry). IsTallied setup (past_of tells seen (was.ended ++ last)) (suc at-last.epoch) 0 es (λ k. empty) v) (sym at-last.are) t))

    -- ---- if samples were left
    module _ (left : IsAbandoned r.outcome) where
      some-last : 1 ≤ length last
      some-last = subst (λ (i : ℕ). 1 ≤ i) (length-map last lane_of) some_lanes

      within-left : (k i : ℕ) (x : Exchange) → slice_get (exs at-last.epoch k) i ≡ Some x → k < length last
      within-left = subst (λ (n : ℕ). (k i : ℕ) (x : Exchange) → slice_get (exs at-last.epoch k) i ≡ Some x → k < n) (length-map last lane_of) within-last

      begins-left : BeginsEpoch setup (past_of tells seen was.ended) s.log.pieces at-last.epoch (length last) at-last.now last-begun.world
      begins-left = subst (λ (n : ℕ). BeginsEpoch setup (past_of tells seen was.ended) s.log.pieces at-last.epoch n at-last.now last-begun.world) (length-map last lane_of) last-begun.begins

      left-came : Came tells seen is_for c0 s.fleet.config set work wide room exs arrivals heads one-so at-last.epoch (IsLeft tells seen is_for c0 s.fleet.config set work wide room exs arrivals heads one-so s.log.pieces at-last.epoch (was.ended ++ last) (at-last.now ++ at-last.later) last)
      left-came = came-left tells seen is_for c0 s.fleet.config set work wide room exs arrivals heads one-so at-last.epoch last known-last some-last at-last.now at-last.later at-last.dealt within-left was.ended s.log.pieces rest last-begun.m last-begun.world begins-left last-begun.at whole-log

      -- nothing is pending but what the report lists
      pending-by : (o : Outcome) → HasEndedAs s h.joined o → IsAbandoned o → (p : ℕ) → is_left o p ≡ false → is_in (abandoned_in last) p ≡ false
      pending-by (outcome.Complete end) ends stopped p not_left = absurd stopped
      pending-by (outcome.Damaged f) ends stopped p not_left = absurd stopped
      pending-by (outcome.Abandoned count samples) ends stopped p not_left = ap (λ (ps : List ℕ). is_in ps p) (sym (ends.1 ∙ left-by-last h.joined was.ended last alls.1 resolved)) ∙ not_left

      pub held-left : IsHeld s r (heads (length arrivals)).store
      held-left = held-so setup s r left-came.world (heads (length arrivals)) left-came.arrived.events left-came.arrived.is (left-came.arrived.head ∙ ap heads (all-came left-came.made left-came.stop)) left-came.holds.pieces_are choice (tallied-so left-came.world left-came.holds.tallied)
          (λ whole. absurd (whole left)) rest read (left-came.holds.placed_are ∙ ap length (sym at-last.are)) (λ p not_left. left-came.holds.pending p ∙ pending-by r.outcome h.ends left p not_left)

    -- ---- if nothing was left
    module _ (resolved_all : AreResolved h.joined) (by : AreEndedBy kind.Orderly (map put_into (map lane_of last))) (none : rest ≡ []) where
      sound-last : AllByRecursion IsSoundHere last
      sound-last = AllByRecursion-right IsSoundHere was.ended last (subst (AllByRecursion IsSoundHere) alls.1 (sound-all tells seen is_for c0 s.fleet.config set work AskedHere h.joined known-joined resolved_all))

      whole-came : Came tells seen is_for c0 s.fleet.config set work wide room exs arrivals heads one-so at-last.epoch (HasEnded setup s.log.pieces at-last.epoch (at-last.now ++ at-last.later) (past_of tells seen (was.ended ++ last)))
      whole-came = came-whole tells seen is_for c0 s.fleet.config set work wide room exs arrivals heads one-so at-last.epoch kind.Orderly last sound-last some_lanes by at-last.now at-last.later at-last.dealt within-last was.ended s.log.pieces rest last-begun.m last-begun.world last-begun.begins last-begun.at whole-log refl none

      report-is : report whole-came.world ≡ Some (ended_as (fault s.log.pieces) (length s.log.placed))
      report-is = whole-came.holds.reported ∙ ap (λ (es : List Entry). Some (ended_as (fault s.log.pieces) (length es))) (sym at-last.are)

      placed-is : whole-came.world.placed ≡ length s.log.placed
      placed-is = whole-came.holds.placed_are ∙ ap length (sym at-last.are)

      pub held-whole : IsHeld s r (heads (length arrivals)).store
      held-whole = held-so setup s r whole-came.world (heads (length arrivals)) whole-came.arrived.events whole-came.arrived.is (whole-came.arrived.head ∙ ap heads (all-came whole-came.made whole-came.stop)) whole-came.holds.pieces_are choice (tallied-so whole-came.world whole-came.holds.tallied)
          (λ whole l. all-of setup whole-came.arrived.events whole-came.world whole-came.arrived.is (fault s.log.pieces) (length s.log.placed) report-is placed-is l)
          rest read placed-is (λ p not_left. none-pending setup p whole-came.world.shards (lists-at setup whole-came.world whole-came.holds.tallied.reached) whole-came.holds.drained)

resolved-front : {T : Type 0} (xs ys : List (StoppedShard T)) → AreResolved (xs ++ ys) → AreResolved xs
resolved-front xs ys h k j e = h k j (get-first xs ys k j e)

pub receives-in-order : {T : Type 0} (tells : T → Type 0) (seen : T → List Exchange) (is_for : ℕ → ℕ → T → Type 0) (s : Shipping T) (r : Report T) → ReceivesInOrder tells seen is_for s r
receives-in-order {T} tells seen is_for s r c fed h p machine work fed_are number first ends left exs arrivals heads told one = by_outcome r.outcome refl h.ends left
  where
    by : AreEndedBy kind.Orderly (map put_into (map lane_of h.all.0))
    by = ends_last kind.Orderly s.fleet h.joined h.all (subst (λ (fs : List (Finished T)). EndBy kind.Orderly s.fleet fs) h.workers ends)

    with-all : (found : Option TailFault) → AreResolved h.joined → HasRead s.log.pieces s.log.placed found → IsHeld s r (heads (length arrivals)).store
    with-all found resolved read = held-whole tells seen is_for c s r fed h s.fleet p machine.0 machine.1 work fed_are h.all (resolved-front s.fleet.ended h.all.0 (subst AreResolved h.all.1 resolved)) number first exs arrivals heads told one [] (sym read.all ∙ sym (append-nil s.log.placed)) resolved by refl

    by_outcome : (o : Outcome) → r.outcome ≡ o → HasEndedAs s h.joined o → (IsAbandoned o → ⊥) → IsHeld s r (heads (length arrivals)).store
    by_outcome (outcome.Complete end) is ended whole = with-all None ended.2 (read-plain s.log None machine.2 ended.1)
    by_outcome (outcome.Damaged f) is ended whole = with-all (Some f) ended.1 (read-plain s.log (Some f) machine.2 ended.0)
    by_outcome (outcome.Abandoned count samples) is ended whole = absurd (whole tt)

pub receives-abandoned : {T : Type 0} (tells : T → Type 0) (seen : T → List Exchange) (is_for : ℕ → ℕ → T → Type 0) (s : Shipping T) (r : Report T) → ReceivesAbandoned tells seen is_for s r
receives-abandoned tells seen is_for s r c fed h was p machine work fed_are all resolved number first stopped exs arrivals heads told one =
    held-left tells seen is_for c s r fed h was p machine.0 machine.1 work fed_are all resolved number first exs arrivals heads told one begun.0 begun.1 stopped
  where
    begun : Begins s.log.placed (entries s.log.pieces)
    begun = begins-plain s.log machine.2 h.read
