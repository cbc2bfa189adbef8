-- A shipper that abandoned what was left is a run of the machine, which is killed.
use Rattle.std.proofs.Common.{◌≡◌, ℕ, zero, suc, ◌+◌, ◌≤◌, ◌==◌, ◌||◌, true, List, [], ◌∷◌, ◌++◌, map, length, drop, filter, Option, None, Some, slice_get, refl, sym, ap, ◌∙◌, subst, append-nil, append_assoc, arith, ◌⊎◌, inl, inr}
use Rattle.std.specs.List.{AllByRecursion, list_any}
use Rattle.std.specs.FinMap.{empty}
use Rattle.std.proofs.lemmas.Bool.{eqb-true, and_parts}
use Rattle.std.proofs.lemmas.List.{length-map, map-append}
use Rattle.std.proofs.lemmas.List.Folds.{list_any-append}
use Rattle.std.proofs.lemmas.Option.{same_Some, none-some}
use Rattle.rw_types.specs.Beginnings.{Begins}
use Rattle.rw_simulation.proofs.shared.PlainLogs.{begins-plain}
use Rattle.rw_types.specs.declared.entry.Entry.{Entry}
use Rattle.rw_types.specs.declared.place.Place.{Place}
use Rattle.rw_types.specs.Gathering.{gather_from}
use Rattle.rw_types.proofs.shared.AllLemmas.{AllByRecursion-left, AllByRecursion-right}
use Rattle.rw_wal_format.specs.Pieces.{Piece, entries}
use Rattle.rw_wal_tail.specs.Fed.{piece_of}
use Rattle.rw_relabel.specs.declared.choice.Choice.{Choice}
use Rattle.rw_plain_queue.specs.Items.{Placed, samples_in, places_in}
use Rattle.rw_plain_queue.specs.declared.item.Item.{Item}
use Rattle.rw_plain_queue.specs.declared.item.Item.TheVariants as item
use Rattle.rw_shard_core.specs.Shard.{Core, positions}
use Rattle.rw_shard_core.specs.declared.config.ConfigFields.{ConfigFields}
use Rattle.rw_shard_core.specs.declared.outcome.Outcome.{Outcome}
use Rattle.rw_shard_core.specs.declared.outcome.Outcome.TheVariants as outcome
use Rattle.rw_worker.specs.Transcript.{Exchange}
use Rattle.rw_worker.specs.Setups.{start_of}
use Rattle.rw_worker.specs.Steps.{Working, Step, Takes, Freezes, Sends, Waits, working, after, items_of, exchanges_of}
use Rattle.rw_fleet.specs.ShardHistories.{ShardHistory}
use Rattle.rw_fleet.specs.Work.{AreResolved, IsWorked, is_compared, lane_of, finished_of, put_of, taken_of, positions_in}
use Rattle.rw_fleet.specs.Fleets.{Shards, AreAll}
use Rattle.rw_fleet.specs.declared.joined.StoppedShard.{StoppedShard}
use Rattle.rw_fleet.specs.declared.joined.Finished.{Finished}
use Rattle.rw_fleet.proofs.shared.LaneLemmas.{same_length}
use Rattle.rw_sender.specs.Logs.{Sent, sent_of, sent, filtered}
use Rattle.rw_sender.specs.Placement.{as_sent, samples_put, of_shard, IsDealt, IsShardCount, Places}
use Rattle.rw_sender.specs.Reports.{IsAbandoned, abandoned_in}
use Rattle.rw_sender.specs.Shipping.{Shipping, PlacesAll, HasStopped, HasEndedAs}
use Rattle.rw_sender.specs.declared.report.Report.{Report}
use Rattle.rw_sender.proofs.shared.PlacementLemmas.{whole_placed}
use Rattle.rw_sender.proofs.shared.ListingLemmas.{abandoned_append}
use Rattle.rw_machine.specs.Shards.{Shard, Queued, pending_in_shard, samples_waiting as waiting_in}
use Rattle.rw_machine.specs.Worlds.{Setup, Request, World, start, new_shards, is_pending, up_to, report}
use Rattle.rw_shard_core.specs.Endings.{Abandoned}
use Rattle.rw_machine.specs.Steps.{happens, unless_over}
use Rattle.rw_machine.specs.declared.event.Event.TheVariants as event
use Rattle.rw_machine.specs.Promises.{CanWork}
use Rattle.rw_machine.proofs.shared.Lists.{Lists}
use Rattle.rw_machine.proofs.shared.Lists as lists
use Rattle.rw_restarts.proofs.shared.ListLemmas.{get_map, map_get}
use Rattle.rw_simulation.specs.Freely.{Of, run_freely}
use Rattle.rw_simulation.specs.FreeLaws.{world_of}
use Rattle.rw_simulation.specs.WorkerRuns.{queued, sent_bytes, request_in}
use Rattle.rw_simulation.specs.Tallies.{Past, IsTallied, requests_of}
use Rattle.rw_simulation.specs.EpochRuns.{StartsByTaking, ShardFate, end_in, HasOnlyEnd, IsPutAllButEnd, AreUnsent, IsAllPut, Reaches}
use Rattle.rw_simulation.specs.FleetRuns.{IsShardRun, fate_of, shard_fate_by, fate_at}
use Rattle.rw_simulation.specs.StoppedShards.{IsShardOf}
use Rattle.rw_simulation.specs.StoppedRuns.{IsSetAs, IsAlike, IsRisingOrderOf, Tells, IsRun, first_number, StopsAbandoned}
use Rattle.rw_simulation.proofs.Changes.{run-append}
use Rattle.rw_simulation.proofs.EntryRuns.{over_not}
use Rattle.rw_simulation.proofs.EpochRuns.{go-on}
use Rattle.rw_simulation.proofs.FreeLaws.{keeps-laws}
use Rattle.rw_simulation.proofs.FleetRuns.{fleet-run}
use Rattle.rw_simulation.proofs.ReshardRuns.{BeginsEpoch}
use Rattle.rw_simulation.proofs.EndRuns.{HasCome, tallies-at}
use Rattle.rw_simulation.proofs.Tallies.{Names, lists-at, tallied-next}
use Rattle.rw_simulation.proofs.shared.Pasts.{past_of, ReportsAt, passes-of, seen-is, names-all, sends-all}
use Rattle.rw_simulation.proofs.StoppedShards.{has-taken, with-what-is-left}
use Rattle.rw_simulation.proofs.RisingOrders.{is_in, passing-permutes, passing-rises}
use Rattle.rw_simulation.proofs.Positions.{position_of, ArePartOf, AreApart, part-of, part-dropped, positions_in-is, all-apart}
use Rattle.rw_simulation.proofs.FlushedShards.{flushed, flushed_step, flushed_lane, samples_in-flushed, end_in-flushed, exchanges_of-flushed, names-flushed, goes-alike, run-flushed}
use Rattle.rw_simulation.proofs.StoppedRuns.{Fed, no_more, none-asked, Known, known-all, Sound, sound-all, Comes, turn-run, begun-run}
use Rattle.rw_simulation.proofs.EpochTurns.{turned-before, AtLast, turn-all}

-- ---- a shard to which no End is to come has done all
no_queued : (x : Queued) (xs : List Queued) → [] ≡ x ∷ xs → ⊥
no_queued x xs e = cc

none-taken : (ss : List Step) (left : List Queued) → StartsByTaking ss → [] ≡ map queued (items_of ss) ++ left → ss ≡ []
none-taken [] left starts e = refl
none-taken (Takes x ∷ ss) left starts e = absurd (no_queued (queued x) (map queued (items_of ss) ++ left) e)
none-taken (Freezes ∷ ss) left starts e = absurd starts
none-taken (Sends x ∷ ss) left starts e = absurd starts
none-taken (Waits ∷ ss) left starts e = absurd starts

pub come-with : (c : Setup) (epoch k : ℕ) (requests : List Request) (part : Names) (s : Shard) (f : ShardFate) (p : IsPutAllButEnd c epoch k requests part s f) → f.end ≡ None → (ps : List Item) → p.way.coming.puts ≡ ps → HasCome epoch k requests part s f
come-with c epoch k requests part s f p open_still (item.Sample place t word labels ∷ ps) is = absurd (subst HasOnlyEnd is p.at_end)
come-with c epoch k requests part s f p open_still (item.Flush ∷ ps) is = absurd (subst HasOnlyEnd is p.at_end)
come-with c epoch k requests part s f p open_still (item.End kind ∷ ps) is = absurd (none-some kind (sym open_still ∙ sym p.way.end ∙ ap end_in is))
come-with c epoch k requests part s f p open_still [] is = record {
  put = sym (append-nil s.put) ∙ ap (λ (xs : List Item). s.put ++ samples_in xs) (sym is) ∙ p.way.put;
  core = ap (λ (ss : List Step). (after (working s.core p.way.coming.ledger) ss).core) (sym none) ∙ ap (λ (x : Working). x.core) p.way.worker;
  queue = queue_is ∙ ap (λ (ss : List Step). map queued (items_of ss) ++ p.way.coming.left) none ∙ p.way.left;
  requests_are = sym (append-nil (map sent_bytes (requests_of epoch k requests))) ∙ ap (λ (ss : List Step). map sent_bytes (requests_of epoch k requests) ++ map request_in (exchanges_of ss)) (sym none) ∙ p.way.requests_are;
  part_is = ap (λ (x : Working). x.ledger.names) (sym p.way.worker) ∙ ap (λ (ss : List Step). (after (working s.core p.way.coming.ledger) ss).ledger.names) none ∙ p.part_is;
}
  where
    queue_is : s.queue ≡ map queued (items_of p.way.coming.steps) ++ p.way.coming.left
    queue_is = sym (append-nil s.queue) ∙ ap (λ (xs : List Item). s.queue ++ map queued xs) (sym is) ∙ p.way.ready.split

    by_eager : (s.queue ≡ []) ⊎ (p.way.coming.steps ≡ []) → p.way.coming.steps ≡ []
    by_eager (inl empty) = none-taken p.way.coming.steps p.way.coming.left p.way.ready.starts (sym empty ∙ queue_is)
    by_eager (inr done) = done

    none : p.way.coming.steps ≡ []
    none = by_eager p.way.ready.eager

pub come : (c : Setup) (epoch k : ℕ) (requests : List Request) (part : Names) (s : Shard) (f : ShardFate) → IsPutAllButEnd c epoch k requests part s f → f.end ≡ None → HasCome epoch k requests part s f
come c epoch k requests part s f p open_still = come-with c epoch k requests part s f p open_still p.way.coming.puts refl

-- ---- what is left of a shard
places_in-is : (xs : List Item) → places_in xs ≡ map (λ (x : Placed). x.place) (samples_in xs)
places_in-is [] = refl
places_in-is (item.Sample place t word labels ∷ xs) = ap (λ (ps : List Place). place ∷ ps) (places_in-is xs)
places_in-is (item.Flush ∷ xs) = places_in-is xs
places_in-is (item.End kind ∷ xs) = places_in-is xs

positions-behind : (xs ys : List Placed) → drop (length xs) (positions (xs ++ ys)) ≡ positions ys
positions-behind [] ys = refl
positions-behind (x ∷ xs) ys = positions-behind xs ys

pub put-split : (c : Setup) (m : Shard) → Lists c m → m.put ≡ m.core.resolved ++ pending_in_shard m
put-split c m h = h.queued ∙ ap (λ (xs : List Placed). xs ++ waiting_in m.queue) h.held ∙ append_assoc m.core.resolved (m.core.batch ++ m.core.builder) (waiting_in m.queue)

positions-pending : (c : Setup) (m : Shard) → Lists c m → positions (pending_in_shard m) ≡ drop (length m.core.resolved) (positions m.put)
positions-pending c m h = sym (positions-behind m.core.resolved (pending_in_shard m)) ∙ ap (λ (xs : List Placed). drop (length m.core.resolved) (positions xs)) (sym (put-split c m h))

list_any-positions : (p : ℕ) (xs : List Placed) → list_any (λ (x : Placed). x.place.pos == p) xs ≡ is_in (positions xs) p
list_any-positions p [] = refl
list_any-positions p (x ∷ xs) = ap (λ b. (x.place.pos == p) || b) (list_any-positions p xs)

no_less : (n : ℕ) → 0 ≡ suc n → ⊥
no_less n e = omega arith

none_long : (xs : List ℕ) → length xs ≡ 0 → xs ≡ []
none_long [] e = refl
none_long (x ∷ xs) e = absurd (no_less (length xs) (sym e))

module _ {T : Type 0} where
  -- a position is pending if the shards left it
  list_any-pending : (p : ℕ) (ms : List Shard) (js : List (StoppedShard T)) → length ms ≡ length js → ((k : ℕ) (m : Shard) (j : StoppedShard T) → slice_get ms k ≡ Some m → slice_get js k ≡ Some j → positions (pending_in_shard m) ≡ j.abandoned.items)
      → list_any (λ (m : Shard). list_any (λ (x : Placed). x.place.pos == p) (pending_in_shard m)) ms ≡ is_in (abandoned_in js) p
  list_any-pending p [] [] same each = refl
  list_any-pending p [] (j ∷ js) same each = absurd (no_less (length js) same)
  list_any-pending p (m ∷ ms) [] same each = absurd (no_less (length ms) (sym same))
  list_any-pending p (m ∷ ms) (j ∷ js) same each =
      ap (λ b. b || list_any (λ (x : Shard). list_any (λ (y : Placed). y.place.pos == p) (pending_in_shard x)) ms) (list_any-positions p (pending_in_shard m) ∙ ap (λ (xs : List ℕ). is_in xs p) (each 0 m j refl refl))
      ∙ ap (λ b. is_in j.abandoned.items p || b) (list_any-pending p ms js (shorter (length ms) (length js) same) (λ k x y e f. each (suc k) x y e f))
      ∙ sym (list_any-append (λ q. q == p) j.abandoned.items (abandoned_in js))
    where
      shorter : (a b : ℕ) → suc a ≡ suc b → a ≡ b
      shorter a b e = omega arith

  -- nothing is left of what is resolved
  abandoned_in-none : (js : List (StoppedShard T)) → AreResolved js → abandoned_in js ≡ []
  abandoned_in-none [] r = refl
  abandoned_in-none (j ∷ js) r = ap (λ (ps : List ℕ). ps ++ abandoned_in js) (none_long j.abandoned.items (eqb-true (length j.abandoned.items) 0 (and_parts (is_compared j.finished.ends) (length j.abandoned.items == 0) (r 0 j refl)).1)) ∙ abandoned_in-none js (λ k i e. r (suc k) i e)

  -- so what is left is what the last ones left
  pub left-by-last : (js ended last : List (StoppedShard T)) → js ≡ ended ++ last → AreResolved ended → abandoned_in js ≡ abandoned_in last
  left-by-last js ended last are resolved = ap abandoned_in are ∙ abandoned_append ended last ∙ ap (λ (ps : List ℕ). ps ++ abandoned_in last) (abandoned_in-none ended resolved)

module _ {T : Type 0} (tells : T → Type 0) (seen : T → List Exchange) (is_for : ℕ → ℕ → T → Type 0) (c : Setup) (config : ConfigFields) (set : IsSetAs c config) (work : CanWork c) (Asked : (j : StoppedShard T) → IsWorked tells seen is_for j → Type 0) where
  abbrev pub KnownOf : StoppedShard T → Type 0
  KnownOf = Known tells seen is_for c config set work Asked

  -- the machine is killed, with these shards at the end
  record Killed (done : List (StoppedShard T)) (pieces : List Piece) (all : List Entry) (last : List (StoppedShard T)) (v : World) : Type 0 where
    pieces_are : v.pieces ≡ pieces
    placed_are : v.placed ≡ length all
    counted : v.filtered ≡ length (filtered c.choice all)
    shards : length v.shards ≡ length last
    each : (k : ℕ) (m : Shard) (j : StoppedShard T) → slice_get v.shards k ≡ Some m → slice_get last k ≡ Some j → IsAlike j.finished m
    left : List ℕ
    reported : report v ≡ Some (Abandoned (length all) left)
    order : IsRisingOrderOf (abandoned_in last) left
    epoch : ℕ
    tallied : IsTallied c (past_of tells seen (done ++ last)) epoch 0 all (λ k. empty) v

  -- what the workers did, with a Flush for an End
  abbrev pub soft_lane : StoppedShard T → ShardHistory
  soft_lane j = flushed_lane (lane_of j)

  abbrev pub steps_in : (js : List (StoppedShard T)) → AllByRecursion KnownOf js → ℕ → List Step
  steps_in [] h k = []
  steps_in (j ∷ js) h zero = map flushed_step h.0.worked.report.steps
  steps_in (j ∷ js) h (suc k) = steps_in js h.1 k

  abbrev pub rest_in : (js : List (StoppedShard T)) → AllByRecursion KnownOf js → ℕ → List Item
  rest_in [] h k = []
  rest_in (j ∷ js) h zero = map flushed h.0.worked.begins.0
  rest_in (j ∷ js) h (suc k) = rest_in js h.1 k

  pub record FoundAt (js : List (StoppedShard T)) (all : AllByRecursion KnownOf js) (k : ℕ) (j : StoppedShard T) : Type 0 where
    pub it : StoppedShard T
    pub same : it ≡ j
    pub known : KnownOf it
    pub steps : map flushed_step known.worked.report.steps ≡ steps_in js all k
    pub rest : map flushed known.worked.begins.0 ≡ rest_in js all k

  pub find-at : (js : List (StoppedShard T)) (all : AllByRecursion KnownOf js) (k : ℕ) (j : StoppedShard T) → slice_get js k ≡ Some j → FoundAt js all k j
  find-at [] all k j e = absurd (none-some j e)
  find-at (x ∷ xs) all zero j e = record { it = x; same = same_Some _ _ e; known = all.0; steps = refl; rest = refl }
  find-at (x ∷ xs) all (suc k) j e = let h = find-at xs all.1 k j e in record { it = h.it; same = h.same; known = h.known; steps = h.steps; rest = h.rest }

  -- ---- the last epoch
  module _ (epoch : ℕ) (js : List (StoppedShard T)) (known : AllByRecursion KnownOf js) (some : 1 ≤ length js) (before es : List Entry) (dealt : IsDealt epoch (map lane_of js) (gather_from (sent_of c.choice) before es)) where
    abbrev pub lanes : List ShardHistory
    lanes = map soft_lane js

    abbrev pub steps : ℕ → List Step
    steps k = steps_in js known k

    abbrev pub left_at : ℕ → List Item
    left_at k = rest_in js known k

    abbrev pub goals : ℕ → ShardFate
    goals = fate_at lanes (λ k. steps_in js known k) (λ k. rest_in js known k)

    abbrev pub samples : List Sent
    samples = gather_from (sent_of c.choice) before es

    abbrev pub n : ℕ
    n = length lanes

    pub n-is : n ≡ length js
    n-is = length-map js soft_lane

    pub own : (k : ℕ) (j : StoppedShard T) → KnownOf j → slice_get js k ≡ Some j → IsShardOf c epoch k j
    own k j h at = record {
      target = h.up.0 ∙ sym set.target;
      batch = h.up.1 ∙ sym set.batch;
      capacity = h.up.2 ∙ sym set.capacity;
      epoch_is = (dealt.each k (lane_of j) (get_map lane_of js k j at)).0;
      shard_is = (dealt.each k (lane_of j) (get_map lane_of js k j at)).1;
    }

    pub run-at : (k : ℕ) (j : StoppedShard T) → slice_get js k ≡ Some j → IsShardRun c epoch k (soft_lane j) (steps k) (left_at k)
    run-at k j at = subst (λ (x : StoppedShard T). IsShardRun c epoch k (soft_lane x) (steps k) (left_at k)) f.same
        (subst (λ (xs : List Item). IsShardRun c epoch k (soft_lane f.it) (steps k) xs) f.rest
        (subst (λ (ss : List Step). IsShardRun c epoch k (soft_lane f.it) ss (map flushed f.known.worked.begins.0)) f.steps
        (run-flushed c epoch k (lane_of f.it) f.known.worked.report.steps f.known.worked.begins.0
        (with-what-is-left tells seen is_for f.it c epoch k f.known.worked (own k f.it f.known (at ∙ ap Some (sym f.same)))))))
      where
        f : FoundAt js known k j
        f = find-at js known k j at

    pub runs : (k : ℕ) (l : ShardHistory) → slice_get lanes k ≡ Some l → IsShardRun c epoch k l (steps k) (left_at k)
    runs k l e = let g = map_get soft_lane js k l e in subst (λ (x : ShardHistory). IsShardRun c epoch k x (steps k) (left_at k)) g.2 (run-at k g.0 g.1)

    pub same-count : length (map lane_of js) ≡ n
    same-count = length-map js lane_of ∙ sym n-is

    pub put-same : (j : StoppedShard T) → samples_put (soft_lane j) ≡ samples_put (lane_of j)
    put-same j = ap (map as_sent) (samples_in-flushed (put_of j.finished.ends))

    pub dealt-at : (k : ℕ) (j : StoppedShard T) → slice_get js k ≡ Some j → ((soft_lane j).setup.queue.epoch ≡ epoch) × ((soft_lane j).setup.queue.shard ≡ k) × (samples_put (soft_lane j) ≡ of_shard n k samples)
    dealt-at k j at = let d = dealt.each k (lane_of j) (get_map lane_of js k j at) in (d.0, d.1, put-same j ∙ d.2 ∙ ap (λ (m : ℕ). of_shard m k samples) same-count)

    pub some_lanes : 1 ≤ n
    some_lanes = subst (λ (m : ℕ). 1 ≤ m) (sym n-is) some

    pub no_lane : (m : ℕ) → 1 ≤ m → m ≡ 0 → ⊥
    no_lane m le e = omega arith

    pub dealt-so : IsDealt epoch lanes samples
    dealt-so = record {
      each = λ k l e. let g = map_get soft_lane js k l e in subst (λ (x : ShardHistory). (x.setup.queue.epoch ≡ epoch) × (x.setup.queue.shard ≡ k) × (samples_put x ≡ of_shard n k samples)) g.2 (dealt-at k g.0 g.1);
      none = λ none. absurd (no_lane n some_lanes (ap length none));
    }

    -- ---- each shard has come to what its worker reports
    pub goal-open : (k : ℕ) (o : Option ShardHistory) → slice_get lanes k ≡ o → (shard_fate_by o (steps k) (left_at k)).end ≡ None
    goal-open k None e = refl
    goal-open k (Some l) e = let g = map_get soft_lane js k l e in subst (λ (x : ShardHistory). end_in x.put ≡ None) g.2 (end_in-flushed (put_of g.0.finished.ends))

    -- each shard's goal is what it reports
    pub reports-at : (k : ℕ) (j : StoppedShard T) → slice_get js k ≡ Some j → ReportsAt tells seen epoch k (goals k) j
    reports-at k j at = record {
      epoch_is = (dealt.each k (lane_of j) (get_map lane_of js k j at)).0;
      shard_is = (dealt.each k (lane_of j) (get_map lane_of js k j at)).1;
      part_is = ap (λ (o : Option ShardHistory). (shard_fate_by o (steps k) (left_at k)).worker.ledger.names) (get_map soft_lane js k j at)
          ∙ ap (λ (ss : List Step). (after (start_of j.worker.value) ss).ledger.names) (sym f.steps)
          ∙ ap (λ (x : StoppedShard T). (after (start_of x.worker.value) (map flushed_step f.known.worked.report.steps)).ledger.names) (sym f.same)
          ∙ names-flushed (start_of f.it.worker.value) f.known.worked.report.steps refl f.known.worked.report.made.allowed
          ∙ sym f.known.worked.report.names
          ∙ ap (λ (x : StoppedShard T). x.part.names) f.same;
      sent_is = λ told. ap (λ (o : Option ShardHistory). (shard_fate_by o (steps k) (left_at k)).requests) (get_map soft_lane js k j at)
          ∙ ap (λ (ss : List Step). map request_in (exchanges_of ss)) (sym f.steps)
          ∙ ap (map request_in) (exchanges_of-flushed f.known.worked.report.steps ∙ sym (seen-is tells seen is_for f.it f.known.worked (subst (λ (x : StoppedShard T). tells x.finished.transport) (sym f.same) told)))
          ∙ ap (λ (x : StoppedShard T). map request_in (seen x.finished.transport)) f.same;
    }
      where
        f : FoundAt js known k j
        f = find-at js known k j at

    resolved-is : (k : ℕ) (j : StoppedShard T) → slice_get js k ≡ Some j → length (after (start_of j.worker.value) (steps k)).core.resolved ≡ j.finished.resolved
    resolved-is k j at = subst (λ (x : StoppedShard T). length (after (start_of x.worker.value) (steps k)).core.resolved ≡ x.finished.resolved) f.same
        (subst (λ (ss : List Step). length (after (start_of f.it.worker.value) ss).core.resolved ≡ f.it.finished.resolved) f.steps
        (ap (λ (x : Core). length x.resolved) (goes-alike (start_of f.it.worker.value) (start_of f.it.worker.value) f.known.worked.report.steps refl f.known.worked.report.made.allowed).core ∙ sym f.known.worked.report.counted))
      where
        f : FoundAt js known k j
        f = find-at js known k j at

    taken-is : (k : ℕ) (j : StoppedShard T) → slice_get js k ≡ Some j → (after (start_of j.worker.value) (steps k)).core.taken ≡ samples_in (taken_of j.finished.ends)
    taken-is k j at = subst (λ (x : StoppedShard T). (after (start_of x.worker.value) (steps k)).core.taken ≡ samples_in (taken_of x.finished.ends)) f.same
        (subst (λ (ss : List Step). (after (start_of f.it.worker.value) ss).core.taken ≡ samples_in (taken_of f.it.finished.ends)) f.steps
        (ap (λ (x : Core). x.taken) (goes-alike (start_of f.it.worker.value) (start_of f.it.worker.value) f.known.worked.report.steps refl f.known.worked.report.made.allowed).core ∙ has-taken tells seen is_for f.it f.known.worked))
      where
        f : FoundAt js known k j
        f = find-at js known k j at

    abandoned-is : (k : ℕ) (j : StoppedShard T) → slice_get js k ≡ Some j → j.abandoned.items ≡ drop j.finished.resolved (positions_in (put_of j.finished.ends))
    abandoned-is k j at = let f = find-at js known k j at in subst (λ (x : StoppedShard T). x.abandoned.items ≡ drop x.finished.resolved (positions_in (put_of x.finished.ends))) f.same f.known.worked.abandoned

    -- ---- a world in which each shard has come to that
    module _ (d : Setup) (v : World) (parts : ℕ → Names) (count : length v.shards ≡ length js) (kept : lists.All d v) (has_come : (k : ℕ) (m : Shard) → slice_get v.shards k ≡ Some m → HasCome epoch k v.requests (parts k) m (goals k)) where
      come-at : (k : ℕ) (m : Shard) (j : StoppedShard T) → slice_get v.shards k ≡ Some m → slice_get js k ≡ Some j → HasCome epoch k v.requests (parts k) m (fate_of (soft_lane j) (steps k) (left_at k))
      come-at k m j e at = subst (λ (o : Option ShardHistory). HasCome epoch k v.requests (parts k) m (shard_fate_by o (steps k) (left_at k))) (get_map soft_lane js k j at) (has_come k m e)

      alike-at : (k : ℕ) (m : Shard) (j : StoppedShard T) → slice_get v.shards k ≡ Some m → slice_get js k ≡ Some j → IsAlike j.finished m
      alike-at k m j e at = let h = come-at k m j e at in record {
        put = h.put ∙ samples_in-flushed (put_of j.finished.ends);
        taken = ap (λ (x : Core). x.taken) h.core ∙ taken-is k j at;
        resolved = ap (λ (x : Core). length x.resolved) h.core ∙ resolved-is k j at;
      }

      left-at : (k : ℕ) (m : Shard) (j : StoppedShard T) → slice_get v.shards k ≡ Some m → slice_get js k ≡ Some j → positions (pending_in_shard m) ≡ j.abandoned.items
      left-at k m j e at = let a = alike-at k m j e at in
          positions-pending d m (kept k m e)
          ∙ ap (λ (r : ℕ). drop r (positions m.put)) a.resolved
          ∙ ap (λ (xs : List Placed). drop j.finished.resolved (positions xs)) a.put
          ∙ ap (λ (ps : List Place). drop j.finished.resolved (map (λ (p : Place). p.pos) ps)) (sym (places_in-is (put_of j.finished.ends)))
          ∙ sym (abandoned-is k j at)

      -- what is pending is what the shards left
      pub tells-left : (p : ℕ) → is_pending v p ≡ is_in (abandoned_in js) p
      tells-left p = list_any-pending p v.shards js count left-at

    module _ (rest : List Entry) (done : List (StoppedShard T)) (pieces : List Piece) (w : World) (b : BeginsEpoch c (past_of tells seen done) pieces epoch (length js) before w) (begins-so : entries pieces ≡ before ++ (es ++ rest)) where
      abbrev past : Past
      past = past_of tells seen done

      reach : Reaches (AreUnsent goals) c w (IsAllPut c past pieces epoch n goals (before ++ es))
      reach = fleet-run c past pieces epoch lanes (λ k. steps_in js known k) (λ k. rest_in js known k) before es w work.capacity work.batch some_lanes (record {
        going = b.going;
        pieces_are = b.pieces_are;
        epoch_is = b.epoch_is;
        shards = b.shards ∙ ap (λ (m : ℕ). new_shards c epoch 0 m) (sym n-is);
        placed = b.placed_are;
        rest = rest;
        begins = begins-so;
        series = b.series;
        counted = b.counted;
        tallied = subst (λ (m : ℕ). IsTallied c past epoch m before (λ k. empty) w) (sym n-is) b.tallied;
        unsent = b.unsent;
        dealt = dealt-so;
        runs = runs;
      })

      abbrev put : World
      put = reach.world

      put-is : IsAllPut c past pieces epoch n goals (before ++ es) put
      put-is = reach.holds

      lists-put : lists.All c put
      lists-put = lists-at c put put-is.under.tallied.reached

      come-goal : (k : ℕ) (m : Shard) → slice_get put.shards k ≡ Some m → HasCome epoch k put.requests (put-is.under.parts k) m (goals k)
      come-goal k m e = come c epoch k put.requests (put-is.under.parts k) m (goals k) (put-is.each k m e) (goal-open k (slice_get lanes k) refl)

      -- ---- what they left differs, and is below what was placed
      part-at : (k : ℕ) (j : StoppedShard T) → slice_get js k ≡ Some j → ArePartOf n (0 + k) samples (length (before ++ es)) j.abandoned.items
      part-at k j at = subst (λ (ps : List ℕ). ArePartOf n (0 + k) samples (length (before ++ es)) ps) (sym (abandoned-is k j at))
          (part-dropped n (0 + k) samples (length (before ++ es)) j.finished.resolved (positions_in (put_of j.finished.ends))
          (subst (λ (ps : List ℕ). ArePartOf n (0 + k) samples (length (before ++ es)) ps) (sym positions_are) (part-of n (0 + k) c.choice before es)))
        where
          zero_plus : (i : ℕ) → i ≡ 0 + i
          zero_plus i = omega arith

          positions_are : positions_in (put_of j.finished.ends) ≡ map position_of (of_shard n (0 + k) samples)
          positions_are = positions_in-is (put_of j.finished.ends) ∙ ap (map position_of) ((dealt.each k (lane_of j) (get_map lane_of js k j at)).2 ∙ ap (λ (m : ℕ). of_shard m k samples) same-count ∙ ap (λ (i : ℕ). of_shard n i samples) (zero_plus k))

      apart : AreApart n samples (length (before ++ es)) 0 (abandoned_in js)
      apart = all-apart n samples (length (before ++ es)) 0 js part-at

      -- ---- and the machine is killed
      abbrev killed : World
      killed = record put { killed = true }

      kills : happens c put event.Kill ≡ killed
      kills = ap (unless_over c put event.Kill) (over_not put put-is.under.going.0 put-is.under.going.1)

      shards-are : length put.shards ≡ length js
      shards-are = put-is.under.count ∙ n-is

      abbrev left : List ℕ
      left = filter (is_pending killed) (up_to (length (before ++ es)))

      abandoned-run : Reaches ⊥ c w (Killed done pieces (before ++ es) js)
      abandoned-run = record {
        events = reach.events ++ Of event.Kill ∷ [];
        world = killed;
        own = λ no. absurd no;
        is = run-append c reach.events (Of event.Kill ∷ []) w ∙ ap (run_freely c (Of event.Kill ∷ [])) reach.is ∙ kills;
        holds = record {
          pieces_are = put-is.under.pieces_are;
          placed_are = put-is.under.placed;
          counted = put-is.under.counted;
          shards = shards-are;
          each = alike-at c put put-is.under.parts shards-are lists-put come-goal;
          left = left;
          reported = ap (λ (i : ℕ). Some (Abandoned i (filter (is_pending killed) (up_to i)))) put-is.under.placed;
          order = record {
            same = passing-permutes (length (before ++ es)) (abandoned_in js) (is_pending killed) (tells-left c put put-is.under.parts shards-are lists-put come-goal) apart.differ apart.below;
            rises = passing-rises (length (before ++ es)) (is_pending killed);
          };
          epoch = suc epoch;
          tallied = tallied-next c past epoch n (past_of tells seen (done ++ js)) (before ++ es) put-is.under.parts (λ k. (goals k).worker.ledger.names) (λ k. (goals k).requests) put killed (Of event.Kill ∷ []) 0 put-is.under.tallied kills refl refl
              (tallies-at epoch n goals put.requests put-is.under.parts put.shards put-is.under.count come-goal) (passes-of tells seen c epoch n done js goals (sym n-is) reports-at);
        };
      }

-- ---- from the start
module _ {T : Type 0} (tells : T → Type 0) (seen : T → List Exchange) (is_for : ℕ → ℕ → T → Type 0) (c : Setup) (s : Shipping T) (r : Report T) (fed : List Fed) (h : HasStopped tells seen is_for s r) (was : Shards T) (p : PlacesAll s.log was) (set : IsSetAs c s.fleet.config) (choice : c.choice ≡ s.log.choice) (plain : s.log.labels ≡ []) (work : CanWork c) (fed_are : s.log.pieces ≡ map piece_of fed)
    (all : AreAll was h.joined) (resolved : AreResolved was.ended) (number : IsShardCount (length was.current)) (first : first_number p.epochs was.current ≡ c.shards) where
  abbrev last : List (StoppedShard T)
  last = all.0

  begun : Begins s.log.placed (entries s.log.pieces)
  begun = begins-plain s.log plain h.read

  same : length (map lane_of last) ≡ length was.current
  same = same_length was.current (map lane_of last) all.2

  known : AllByRecursion (Known tells seen is_for c s.fleet.config set work (no_more tells seen is_for)) (was.ended ++ last)
  known = subst (AllByRecursion (Known tells seen is_for c s.fleet.config set work (no_more tells seen is_for))) all.1 (known-all tells seen is_for c s.fleet.config set work (no_more tells seen is_for) h.joined h.worked h.setup (none-asked tells seen is_for c s.fleet.config set work h.joined h.worked))

  known-last : AllByRecursion (Known tells seen is_for c s.fleet.config set work (no_more tells seen is_for)) last
  known-last = AllByRecursion-right (Known tells seen is_for c s.fleet.config set work (no_more tells seen is_for)) was.ended last known

  sound : AllByRecursion (Sound tells seen is_for c s.fleet.config set work (no_more tells seen is_for)) was.ended
  sound = sound-all tells seen is_for c s.fleet.config set work (no_more tells seen is_for) was.ended (AllByRecursion-left (Known tells seen is_for c s.fleet.config set work (no_more tells seen is_for)) was.ended last known) resolved

  placed : Places 0 (p.epochs ++ map lane_of last ∷ []) (sent c.choice s.log.placed)
  placed = subst (λ (ch : Choice). Places 0 (p.epochs ++ map lane_of last ∷ []) (sent ch s.log.placed)) (sym choice) (whole_placed was.epoch (map lane_of was.ended) was.current (map lane_of last) (sent s.log.choice s.log.placed) p all.2)

  first-is : (turned : List (List ShardHistory)) → first_number turned (map lane_of last) ≡ first_number turned was.current
  first-is [] = same
  first-is (x ∷ xs) = refl

  abbrev ComesHere : List (StoppedShard T) → ℕ → List (List ShardHistory) → List Entry → Type 0
  ComesHere = Comes tells seen is_for c s.fleet.config set work (no_more tells seen is_for) s.log.pieces (map lane_of last)

  at-last : AtLast c.choice (map lane_of last) ComesHere was.ended [] s.log.placed
  at-last = turn-all (Sound tells seen is_for c s.fleet.config set work (no_more tells seen is_for)) c.choice s.log.pieces (map lane_of last) begun.0 ComesHere (turn-run tells seen is_for c s.fleet.config set work (no_more tells seen is_for) s.log.pieces (map lane_of last)) p.epochs 0 [] was.ended [] s.log.placed
      sound p.ended_is placed (turned-before p.epochs (map lane_of last) p.turned (subst IsShardCount (sym same) number)) begun.1
      (subst (λ (i : ℕ). Reaches ⊥ c (start c) (BeginsEpoch c (past_of tells seen []) s.log.pieces 0 i [])) (sym (first-is p.epochs ∙ first)) (begun-run tells seen c s.log.pieces fed fed_are))

  whole : Reaches ⊥ c (start c) (Killed tells seen is_for c s.fleet.config set work (no_more tells seen is_for) was.ended s.log.pieces (at-last.now ++ at-last.later) last)
  whole = go-on c (start c) _ _ at-last.at (λ w b. abandoned-run tells seen is_for c s.fleet.config set work (no_more tells seen is_for) at-last.epoch last known-last (subst (λ (m : ℕ). 1 ≤ m) (sym same ∙ length-map last lane_of) number.0) at-last.now at-last.later at-last.dealt begun.0 was.ended s.log.pieces w
      (subst (λ (m : ℕ). BeginsEpoch c (past_of tells seen was.ended) s.log.pieces at-last.epoch m at-last.now w) (length-map last lane_of) b)
      (begun.1 ∙ ap (λ (xs : List Entry). xs ++ begun.0) at-last.are ∙ append_assoc at-last.now at-last.later begun.0))

  over : Killed tells seen is_for c s.fleet.config set work (no_more tells seen is_for) was.ended s.log.pieces (at-last.now ++ at-last.later) last whole.world
  over = whole.holds

  tallied : IsTallied c (past_of tells seen h.joined) over.epoch 0 s.log.placed (λ k. empty) (world_of c whole.events)
  tallied = subst (λ (js : List (StoppedShard T)). IsTallied c (past_of tells seen js) over.epoch 0 s.log.placed (λ k. empty) (world_of c whole.events)) (sym all.1)
      (subst (λ (v : World). IsTallied c (past_of tells seen (was.ended ++ last)) over.epoch 0 s.log.placed (λ k. empty) v) (sym whole.is)
      (subst (λ (es : List Entry). IsTallied c (past_of tells seen (was.ended ++ last)) over.epoch 0 es (λ k. empty) whole.world) (sym at-last.are) over.tallied))

  tells-left-so : (o : Outcome) → HasEndedAs s h.joined o → IsAbandoned o → Tells o (report (world_of c whole.events))
  tells-left-so (outcome.Complete end) ends stopped = absurd stopped
  tells-left-so (outcome.Damaged f) ends stopped = absurd stopped
  tells-left-so (outcome.Abandoned count ps) ends stopped = (
    over.left,
    ap report whole.is ∙ over.reported ∙ ap (λ (i : ℕ). Some (Abandoned i over.left)) (ap length (sym at-last.are) ∙ sym ends.0),
    subst (λ (xs : List ℕ). IsRisingOrderOf xs over.left) (sym (ends.1 ∙ left-by-last h.joined was.ended last all.1 resolved)) over.order,
  )

  whole-run : IsAbandoned r.outcome → IsRun tells seen c s r
  whole-run stopped = (
    whole.events,
    record {
      log = ap (λ (x : World). x.pieces) whole.is ∙ over.pieces_are;
      placed = ap (λ (x : World). x.placed) whole.is ∙ over.placed_are ∙ ap length (sym at-last.are);
      filtered = ap (λ (x : World). x.filtered) whole.is ∙ over.counted ∙ ap (λ (xs : List Entry). length (filtered c.choice xs)) (sym at-last.are) ∙ ap (λ (ch : Choice). length (filtered ch s.log.placed)) choice ∙ sym h.filter_count;
      earlier = map finished_of was.ended;
      last = map finished_of last;
      workers = h.workers ∙ ap (map finished_of) all.1 ∙ map-append finished_of was.ended last;
      shards = ap (λ (x : World). length x.shards) whole.is ∙ over.shards ∙ sym (length-map last finished_of);
      each = λ k m f e at. let g = map_get finished_of last k f at in subst (λ (y : Finished T). IsAlike y m) g.2 (over.each k m g.0 (ap (λ (x : World). slice_get x.shards k) (sym whole.is) ∙ e) g.1);
      names = names-all tells seen is_for c s r h choice over.epoch (world_of c whole.events) tallied;
      requests = sends-all tells seen is_for c s r h choice over.epoch (world_of c whole.events) tallied;
      outcome_is = tells-left-so r.outcome h.ends stopped;
    },
    keeps-laws c whole.events,
  )

pub stops-abandoned : {T : Type 0} (tells : T → Type 0) (seen : T → List Exchange) (is_for : ℕ → ℕ → T → Type 0) (s : Shipping T) (r : Report T) → StopsAbandoned tells seen is_for s r
stops-abandoned {T} tells seen is_for s r c fed h was p machine work fed_are all resolved number first left = whole-run tells seen is_for c s r fed h was p machine.0 machine.1 machine.2 work fed_are all resolved number first left
