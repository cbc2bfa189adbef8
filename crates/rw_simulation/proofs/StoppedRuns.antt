-- A shipper that was stopped in order, and left nothing, is a run of the machine.
use Rattle.std.proofs.Common.{◌≡◌, ℕ, zero, suc, ◌<◌, ◌≤◌, ◌==◌, true, false, List, [], ◌∷◌, ◌++◌, map, length, Option, None, Some, slice_get, refl, sym, ap, ◌∙◌, subst, append-nil, append_assoc, inl, inr}
use Rattle.std.specs.List.{AllByRecursion}
use Rattle.std.specs.Ordering.{nat_cmp}
use Rattle.std.specs.FinMap.{empty, get, get-empty}
use Rattle.std.proofs.lemmas.List.{length-map, map-append}
use Rattle.std.proofs.lemmas.Bool.{and_parts}
use Rattle.std.proofs.lemmas.Option.{same_Some, none-some, slice_get_within}
use Rattle.rw_types.specs.declared.entry.Entry.{Entry}
use Rattle.rw_types.specs.Gathering.{gather_from}
use Rattle.rw_wal_format.specs.Pieces.{Piece, entries}
use Rattle.rw_wal_format.specs.declared.tail_fault.TailFault.{TailFault}
use Rattle.rw_wal_tail.specs.Fed.{piece_of}
use Rattle.rw_wal_tail.specs.declared.piece.Piece as piece
use Rattle.rw_relabel.specs.declared.choice.Choice.{Choice}
use Rattle.rw_ledger.specs.declared.ledger.Reason.{Reason}
use Rattle.rw_series_cache.proofs.shared.KnownLemmas.{series_of-none}
use Rattle.rw_plain_queue.specs.Items.{samples_in}
use Rattle.rw_plain_queue.specs.History.{EndIsLast, IsEnded}
use Rattle.rw_plain_queue.specs.declared.item.Item.{Item}
use Rattle.rw_plain_queue.specs.declared.item.Item.TheVariants.{Sample, Flush, End}
use Rattle.rw_plain_queue.specs.declared.item.Kind.{Kind}
use Rattle.rw_plain_queue.specs.declared.item.Kind.TheVariants as kind
use Rattle.rw_shard_core.specs.Shard.{Core}
use Rattle.rw_shard_core.specs.declared.config.ConfigFields.{ConfigFields}
use Rattle.rw_shard_core.specs.declared.outcome.Outcome.{Outcome}
use Rattle.rw_shard_core.specs.declared.outcome.Outcome.TheVariants as outcome
use Rattle.rw_worker.specs.Transcript.{Exchange}
use Rattle.rw_worker.specs.Setups.{start_of}
use Rattle.rw_worker.specs.Steps.{Working, Step, Takes, Freezes, Sends, Waits, AreSteps, after, after_step, items_of, exchanges_of}
use Rattle.rw_fleet.specs.ShardHistories.{ShardHistory, IsSetUp, AreSetUp, put_into}
use Rattle.rw_fleet.specs.Work.{IsWorked, AreWorked, AreResolved, AreEndedBy, IsEndedBy, lane_of, finished_of, put_of, taken_of, is_compared, is_resolved}
use Rattle.rw_fleet.specs.declared.joined.StoppedShard.{StoppedShard}
use Rattle.rw_fleet.specs.declared.joined.Finished.{Finished}
use Rattle.rw_fleet.specs.Fleets.{EndBy}
use Rattle.rw_fleet.proofs.shared.LaneLemmas.{same_length}
use Rattle.rw_wal_tail.specs.Taking.{HasRead}
use Rattle.rw_simulation.proofs.shared.PlainLogs.{read-plain}
use Rattle.rw_sender.specs.Logs.{sent, sent_of, filtered}
use Rattle.rw_sender.specs.Placement.{IsDealt, IsShardCount, AreTurned, Places, joined_epochs}
use Rattle.rw_sender.specs.Reports.{IsAbandoned}
use Rattle.rw_sender.specs.Shipping.{Shipping, HasStopped, HasEndedAs}
use Rattle.rw_sender.specs.declared.report.Report.{Report}
use Rattle.rw_sender.proofs.shared.PlacementLemmas.{whole_is, whole_placed, joined_push}
use Rattle.rw_sender.proofs.shared.ShippingLemmas.{all_is, ends_last}
use Rattle.rw_types.proofs.shared.AllLemmas.{AllByRecursion-left, AllByRecursion-right}
use Rattle.rw_machine.specs.Shards.{Shard}
use Rattle.rw_machine.specs.Worlds.{Setup, Request, World, start, ended_as, report}
use Rattle.rw_shard_core.specs.Endings.{Ending, Complete, ending_of}
use Rattle.rw_machine.specs.Steps.{happens, unless_over}
use Rattle.rw_machine.specs.declared.event.Event.TheVariants as event
use Rattle.rw_machine.specs.Promises.{CanWork}
use Rattle.rw_machine.proofs.shared.Places.{get_some}
use Rattle.rw_restarts.proofs.shared.EndLemmas.{resolves-all, same_items}
use Rattle.rw_restarts.proofs.shared.ListLemmas.{get_map, map_get}
use Rattle.rw_simulation.specs.Freely.{Happening, Of, run_freely}
use Rattle.rw_simulation.specs.FreeLaws.{world_of}
use Rattle.rw_simulation.specs.WorkerRuns.{request_in}
use Rattle.rw_simulation.specs.Tallies.{Past, IsNamedSo, IsTallied}
use Rattle.rw_simulation.specs.EpochRuns.{ShardFate, end_in, AreUnsent, IsAllPut, Reaches}
use Rattle.rw_simulation.specs.FleetRuns.{IsShardRun, shard_fate_by, fate_at}
use Rattle.rw_simulation.specs.StoppedShards.{IsShardOf}
use Rattle.rw_simulation.specs.StoppedRuns.{IsSetAs, HasNumbers, AreNumbers, EndInTurn, first_number, IsAlike, Tells, IsRun, StopsAsRun, StopsInOrder}
use Rattle.rw_simulation.proofs.ReshardRuns.{BeginsEpoch, reshard-run}
use Rattle.rw_simulation.proofs.WorkerLists.{core_after, after-is, ended-after, last_tail}
use Rattle.rw_simulation.proofs.EntryRuns.{over_not}
use Rattle.rw_simulation.proofs.FreeLaws.{keeps-laws}
use Rattle.rw_simulation.proofs.FleetRuns.{fleet-run}
use Rattle.rw_simulation.proofs.StoppedShards.{compared-is-run, has-taken}
use Rattle.rw_simulation.proofs.EpochRuns.{stay, go-on, aloud}
use Rattle.rw_simulation.proofs.EpochTurns.{Split, split_map, AreBefore, Turns, AtLast, turn-all}
use Rattle.rw_simulation.proofs.OrderlyEnds.{HasEnded, closed, orderly-run, has-ended}
use Rattle.rw_simulation.proofs.EndRuns.{HasCome, IsResolvedFate, IsOver}
use Rattle.rw_simulation.proofs.Tallies.{Names, Passes}
use Rattle.rw_simulation.proofs.shared.Pasts.{past_of, ReportsAt, passes-of, seen-is, names-all, sends-all}

-- ---- an End that was taken
stays_ended : (st : Step) (c : Core) → c.ended ≡ true → (core_after st c).ended ≡ true
stays_ended (Takes (Sample place t word labels)) c h = h
stays_ended (Takes Flush) c h = h
stays_ended (Takes (End k)) c h = refl
stays_ended Freezes c h = h
stays_ended Waits c h = h
stays_ended (Sends e) c h = ended-after (Sends e) c refl ∙ h

all_ended : (w : Working) (ss : List Step) → AreSteps w ss → w.core.ended ≡ true → (after w ss).core.ended ≡ true
all_ended w [] h e = e
all_ended w (s ∷ ss) h e = all_ended (after_step s w) ss h.1 (ap (λ (k : Core). k.ended) (after-is s w.core w.ledger h.0) ∙ stays_ended s w.core e)

ended_in : (w : Working) (ss : List Step) (k : Kind) → AreSteps w ss → end_in (items_of ss) ≡ Some k → (after w ss).core.ended ≡ true
ended_in w [] k h e = absurd (none-some k e)
ended_in w (Takes (Sample place t word labels) ∷ ss) k h e = ended_in (after_step (Takes (Sample place t word labels)) w) ss k h.1 e
ended_in w (Takes Flush ∷ ss) k h e = ended_in (after_step (Takes Flush) w) ss k h.1 e
ended_in w (Takes (End other) ∷ ss) k h e = all_ended (after_step (Takes (End other)) w) ss h.1 refl
ended_in w (Freezes ∷ ss) k h e = ended_in (after_step Freezes w) ss k h.1 e
ended_in w (Sends x ∷ ss) k h e = ended_in (after_step (Sends x) w) ss k h.1 e
ended_in w (Waits ∷ ss) k h e = ended_in w ss k h.1 e

no_end : (front : List Item) (k : Kind) → front ++ End k ∷ [] ≡ [] → ⊥
no_end [] k e = cc
no_end (x ∷ xs) k e = cc

-- if it is the last item, it is the one that is there
end_in_last : (front : List Item) (k : Kind) → EndIsLast (front ++ End k ∷ []) → end_in (front ++ End k ∷ []) ≡ Some k
end_in_last [] k last = refl
end_in_last (Sample place t word labels ∷ xs) k last = end_in_last xs k (last_tail (Sample place t word labels) (xs ++ End k ∷ []) last)
end_in_last (Flush ∷ xs) k last = end_in_last xs k (last_tail Flush (xs ++ End k ∷ []) last)
end_in_last (End other ∷ xs) k last = absurd (no_end xs k (last [] (xs ++ End k ∷ []) other refl))

end_is : (put : List Item) (k : Kind) → EndIsLast put → IsEnded put → IsEndedBy k put → end_in put ≡ Some k
end_is put k last ended by =
    ap end_in ended.2 ∙ end_in_last ended.0 ended.1 (subst EndIsLast ended.2 last) ∙ ap Some (by ended.1 ended.0 ended.2)

-- ---- all pieces are fed
abbrev pub Fed : Type 0
Fed = piece.Piece

abbrev pub feeds : List Fed → List Happening
feeds [] = []
feeds (p ∷ ps) = Of (event.Feed p) ∷ feeds ps

feed-all : (c : Setup) (fed : List Fed) (w : World) → w.killed ≡ false → w.closed ≡ None → run_freely c (feeds fed) w ≡ record w { pieces = w.pieces ++ map piece_of fed }
feed-all c [] w k n = ap (λ ps. record w { pieces = ps }) (sym (append-nil w.pieces))
feed-all c (p ∷ ps) w k n =
    ap (run_freely c (feeds ps)) fed_one
    ∙ feed-all c ps (record w { pieces = w.pieces ++ piece_of p ∷ [] }) k n
    ∙ ap (λ qs. record w { pieces = qs }) (append_assoc w.pieces (piece_of p ∷ []) (map piece_of ps))
  where
    fed_one : happens c w (event.Feed p) ≡ record w { pieces = w.pieces ++ piece_of p ∷ [] }
    fed_one = ap (unless_over c w (event.Feed p)) (over_not w k n) ∙ rw n refl

ended_by_at : (kd : Kind) (puts : List (List Item)) (k : ℕ) (put : List Item) → AreEndedBy kd puts → slice_get puts k ≡ Some put → IsEndedBy kd put
ended_by_at kd [] k put h e = absurd (none-some put e)
ended_by_at kd (x ∷ xs) zero put h e = let is : x ≡ put = same_Some _ _ e in subst (IsEndedBy kd) is h.0
ended_by_at kd (x ∷ xs) (suc k) put h e = ended_by_at kd xs k put h.1 e

-- ---- what was put is resolved
-- all epochs, with the last one apart
pub record Divided (lanes : List ShardHistory) (later : List (List ShardHistory)) : Type 0 where
  pub turned : List (List ShardHistory)
  pub last : List ShardHistory
  pub are : lanes ∷ later ≡ turned ++ last ∷ []
  pub first : first_number turned last ≡ length lanes
  pub before : AreBefore turned last
  pub some : 1 ≤ length last
  pub by : AreEndedBy kind.Orderly (map put_into last)

pub divide : (lanes : List ShardHistory) (later : List (List ShardHistory)) → 1 ≤ length lanes → AreNumbers later → EndInTurn (lanes ∷ later) → Divided lanes later
divide lanes [] some numbers turn = record { turned = []; last = lanes; are = refl; first = refl; before = tt; some = some; by = turn }
divide lanes (next ∷ later) some numbers turn = let d = divide next later numbers.0.0 numbers.1 turn.1 in record {
  turned = lanes ∷ d.turned;
  last = d.last;
  are = ap (λ (es : List (List ShardHistory)). lanes ∷ es) d.are;
  first = refl;
  before = (some, turn.0, subst IsShardCount (sym d.first) numbers.0, d.before);
  some = d.some;
  by = d.by;
}

-- of an outcome that leaves nothing the report says the same
tells-so : (o : Outcome) (found : Option Ending) → (IsAbandoned o → ⊥) → found ≡ Some (ending_of o) → Tells o found
tells-so (outcome.Complete end) found whole e = e
tells-so (outcome.Abandoned placed samples) found whole e = absurd (whole tt)
tells-so (outcome.Damaged f) found whole e = e

module _ {T : Type 0} (tells : T → Type 0) (seen : T → List Exchange) (is_for : ℕ → ℕ → T → Type 0) (c : Setup) (config : ConfigFields) (set : IsSetAs c config) (work : CanWork c) (Asked : (j : StoppedShard T) → IsWorked tells seen is_for j → Type 0) where
  -- what is known of each shard: it is set up so, and it did what its worker reports
  pub record Known (j : StoppedShard T) : Type 0 where
    pub worked : IsWorked tells seen is_for j
    pub up : IsSetUp config j.worker.value
    pub asked : Asked j worked

  -- and what is asked of each besides
  abbrev pub AreAsked : (js : List (StoppedShard T)) → AreWorked tells seen is_for js → Type 0
  AreAsked [] h = Unit {0}
  AreAsked (j ∷ js) h = Asked j h.0 × AreAsked js h.1

  pub known-all : (js : List (StoppedShard T)) → (h : AreWorked tells seen is_for js) → AreSetUp config (map lane_of js) → AreAsked js h → AllByRecursion Known js
  known-all [] h up asked = tt
  known-all (j ∷ js) h up asked = (record { worked = h.0; up = up.0; asked = asked.0 }, known-all js h.1 up.1 asked.1)

  -- and nothing is left
  pub record Sound (j : StoppedShard T) : Type 0 where
    pub worked : IsWorked tells seen is_for j
    pub up : IsSetUp config j.worker.value
    pub resolved : is_resolved j ≡ true
    pub asked : Asked j worked

  pub sound-all : (js : List (StoppedShard T)) → AllByRecursion Known js → AreResolved js → AllByRecursion Sound js
  sound-all [] h r = tt
  sound-all (j ∷ js) h r = (record { worked = h.0.worked; up = h.0.up; resolved = r 0 j refl; asked = h.0.asked }, sound-all js h.1 (λ k i e. r (suc k) i e))

  all_put_resolved : (j : StoppedShard T) → (h : Sound j) → length (samples_in (put_of j.finished.ends)) ≤ length (after (start_of j.worker.value) h.worked.report.steps).core.resolved
  all_put_resolved j h = resolves-all tells seen is_for j h.worked h.resolved

  -- the steps that the workers report
  abbrev pub steps_in : (js : List (StoppedShard T)) → AllByRecursion Sound js → ℕ → List Step
  steps_in [] h k = []
  steps_in (j ∷ js) h zero = h.0.worked.report.steps
  steps_in (j ∷ js) h (suc k) = steps_in js h.1 k

  pub record Found (js : List (StoppedShard T)) (all : AllByRecursion Sound js) (k : ℕ) (l : ShardHistory) : Type 0 where
    pub j : StoppedShard T
    pub at : slice_get js k ≡ Some j
    pub lane : lane_of j ≡ l
    pub sound : Sound j
    pub steps : sound.worked.report.steps ≡ steps_in js all k

  pub find : (js : List (StoppedShard T)) (all : AllByRecursion Sound js) (k : ℕ) (l : ShardHistory) → slice_get (map lane_of js) k ≡ Some l → Found js all k l
  find [] all k l e = absurd (none-some l e)
  find (j ∷ js) all zero l e = record { j = j; at = refl; lane = same_Some _ _ e; sound = all.0; steps = refl }
  find (j ∷ js) all (suc k) l e = let h = find js all.1 k l e in record { j = h.j; at = h.at; lane = h.lane; sound = h.sound; steps = h.steps }

  -- the machine has come to its report, with these shards at the end
  record Final (done : List (StoppedShard T)) (pieces : List Piece) (all : List Entry) (last : List (StoppedShard T)) (v : World) : Type 0 where
    epoch : ℕ
    end : HasEnded c pieces epoch all (past_of tells seen (done ++ last)) v
    counted : v.filtered ≡ length (filtered c.choice all)
    shards : length v.shards ≡ length last
    each : (k : ℕ) (m : Shard) (j : StoppedShard T) → slice_get v.shards k ≡ Some m → slice_get last k ≡ Some j → IsAlike j.finished m

  -- ---- one epoch
  module _ (epoch : ℕ) (kd : Kind) (js : List (StoppedShard T)) (sound : AllByRecursion Sound js) (some_lanes : 1 ≤ length (map lane_of js)) (by : AreEndedBy kd (map put_into (map lane_of js))) (before es : List Entry) (dealt : IsDealt epoch (map lane_of js) (gather_from (sent_of c.choice) before es)) where
    abbrev pub n : ℕ
    n = length (map lane_of js)

    abbrev pub steps : ℕ → List Step
    steps k = steps_in js sound k

    abbrev pub fates : ℕ → ShardFate
    fates = fate_at (map lane_of js) (λ k. steps_in js sound k) (λ k. [])

    pub is-compared : (j : StoppedShard T) → Sound j → is_compared j.finished.ends ≡ true
    is-compared j h = (and_parts (is_compared j.finished.ends) (length j.abandoned.items == 0) h.resolved).0

    pub lane-at : (k : ℕ) (l : ShardHistory) → slice_get (map lane_of js) k ≡ Some l → IsShardRun c epoch k l (steps k) []
    lane-at k l e = subst (λ ss. IsShardRun c epoch k l ss []) f.steps (subst (λ (x : ShardHistory). IsShardRun c epoch k x f.sound.worked.report.steps []) f.lane (compared-is-run tells seen is_for f.j c epoch k f.sound.worked own (is-compared f.j f.sound)))
      where
        f : Found js sound k l
        f = find js sound k l e

        own : IsShardOf c epoch k f.j
        own = record {
          target = f.sound.up.0 ∙ sym set.target;
          batch = f.sound.up.1 ∙ sym set.batch;
          capacity = f.sound.up.2 ∙ sym set.capacity;
          epoch_is = ap (λ (x : ShardHistory). x.setup.queue.epoch) f.lane ∙ (dealt.each k l e).0;
          shard_is = ap (λ (x : ShardHistory). x.setup.queue.shard) f.lane ∙ (dealt.each k l e).1;
        }

    pub lane-end : (k : ℕ) (l : ShardHistory) → slice_get (map lane_of js) k ≡ Some l → end_in l.put ≡ Some kd
    lane-end k l e = end_is l.put kd (lane-at k l e).history.ending
        (subst (λ (x : ShardHistory). IsEnded x.put) f.lane (subst IsEnded (sym (same_items f.j.finished.ends (is-compared f.j f.sound))) (f.sound.worked.last (is-compared f.j f.sound))))
        (ended_by_at kd (map put_into (map lane_of js)) k l.put by (get_map put_into (map lane_of js) k l e))
      where
        f : Found js sound k l
        f = find js sound k l e

    pub fate-end : (k : ℕ) → k < n → (fates k).end ≡ Some kd
    fate-end k lt = let l = get_some (map lane_of js) k lt in subst (λ (o : Option ShardHistory). (shard_fate_by o (steps k) []).end ≡ Some kd) (sym l.1) (lane-end k l.0 l.1)

    pub fate-resolved : (k : ℕ) → k < n → IsResolvedFate (fates k)
    fate-resolved k lt = subst (λ (o : Option ShardHistory). IsResolvedFate (shard_fate_by o (steps k) [])) (sym l.1) (
      ended_in (start_of l.0.setup) (steps k) kd own.allowed (sym (ap end_in (own.split ∙ append-nil (items_of (steps k)))) ∙ lane-end k l.0 l.1),
      subst (λ (ss : List Step). length (samples_in l.0.put) ≤ length (after (start_of l.0.setup) ss).core.resolved) f.steps
          (subst (λ (x : ShardHistory). length (samples_in x.put) ≤ length (after (start_of x.setup) f.sound.worked.report.steps).core.resolved) f.lane (all_put_resolved f.j f.sound)),
    )
      where
        l : (l : ShardHistory) × (slice_get (map lane_of js) k ≡ Some l)
        l = get_some (map lane_of js) k lt

        own : IsShardRun c epoch k l.0 (steps k) []
        own = lane-at k l.0 l.1

        f : Found js sound k l.0
        f = find js sound k l.0 l.1

    put-all : (past : Past) (pieces : List Piece) (rest : List Entry) (w : World) → BeginsEpoch c past pieces epoch n before w → entries pieces ≡ before ++ (es ++ rest) → Reaches (AreUnsent fates) c w (IsAllPut c past pieces epoch n fates (before ++ es))
    put-all past pieces rest w b begins = fleet-run c past pieces epoch (map lane_of js) (λ k. steps_in js sound k) (λ k. []) before es w work.capacity work.batch some_lanes (record {
      going = b.going;
      pieces_are = b.pieces_are;
      epoch_is = b.epoch_is;
      shards = b.shards;
      placed = b.placed_are;
      rest = rest;
      begins = begins;
      series = b.series;
      counted = b.counted;
      tallied = b.tallied;
      unsent = b.unsent;
      dealt = dealt;
      runs = lane-at;
    })

    -- each shard's fate is what it reports
    pub reports-at : (k : ℕ) (j : StoppedShard T) → slice_get js k ≡ Some j → ReportsAt tells seen epoch k (fates k) j
    reports-at k j at = record {
      epoch_is = (dealt.each k (lane_of j) here).0;
      shard_is = (dealt.each k (lane_of j) here).1;
      part_is = ap (λ (o : Option ShardHistory). (shard_fate_by o (steps k) []).worker.ledger.names) here
          ∙ ap (λ (ss : List Step). (after (start_of j.worker.value) ss).ledger.names) (sym g.steps)
          ∙ ap (λ (x : StoppedShard T). (after (start_of x.worker.value) g.sound.worked.report.steps).ledger.names) (sym same)
          ∙ sym g.sound.worked.report.names
          ∙ ap (λ (x : StoppedShard T). x.part.names) same;
      sent_is = λ told. ap (λ (o : Option ShardHistory). (shard_fate_by o (steps k) []).requests) here
          ∙ ap (λ (ss : List Step). map request_in (exchanges_of ss)) (sym g.steps)
          ∙ ap (map request_in) (sym (seen-is tells seen is_for g.j g.sound.worked (subst (λ (x : StoppedShard T). tells x.finished.transport) (sym same) told)))
          ∙ ap (λ (x : StoppedShard T). map request_in (seen x.finished.transport)) same;
    }
      where
        here : slice_get (map lane_of js) k ≡ Some (lane_of j)
        here = get_map lane_of js k j at

        g : Found js sound k (lane_of j)
        g = find js sound k (lane_of j) here

        same : g.j ≡ j
        same = same_Some _ _ (sym g.at ∙ at)

    passes : (done : List (StoppedShard T)) → Passes c (past_of tells seen done) epoch n (past_of tells seen (done ++ js)) (λ k. (fates k).worker.ledger.names) (λ k. (fates k).requests)
    passes done = passes-of tells seen c epoch n done js fates (sym (length-map js lane_of)) reports-at

    alike : (k : ℕ) (requests : List Request) (part : Names) (m : Shard) (j : StoppedShard T) → k < n → HasCome epoch k requests part m (fates k) → slice_get js k ≡ Some j → IsAlike j.finished m
    alike k requests part m j lt come at = record {
      put = come.put ∙ ap (λ (o : Option ShardHistory). (shard_fate_by o (steps k) []).put) l.1 ∙ ap (λ (x : ShardHistory). samples_in x.put) (sym g.lane) ∙ ap (λ (y : StoppedShard T). samples_in (put_of y.finished.ends)) same;
      taken = ap (λ (y : Core). y.taken) come.core
          ∙ ap (λ (o : Option ShardHistory). (shard_fate_by o (steps k) []).worker.core.taken) l.1
          ∙ ap (λ (ss : List Step). (after (start_of l.0.setup) ss).core.taken) (sym g.steps)
          ∙ ap (λ (x : ShardHistory). (after (start_of x.setup) g.sound.worked.report.steps).core.taken) (sym g.lane)
          ∙ has-taken tells seen is_for g.j g.sound.worked
          ∙ ap (λ (y : StoppedShard T). samples_in (taken_of y.finished.ends)) same;
      resolved = ap (λ (y : Core). length y.resolved) come.core
          ∙ ap (λ (o : Option ShardHistory). length (shard_fate_by o (steps k) []).worker.core.resolved) l.1
          ∙ ap (λ (ss : List Step). length (after (start_of l.0.setup) ss).core.resolved) (sym g.steps)
          ∙ ap (λ (x : ShardHistory). length (after (start_of x.setup) g.sound.worked.report.steps).core.resolved) (sym g.lane)
          ∙ sym g.sound.worked.report.counted
          ∙ ap (λ (y : StoppedShard T). y.finished.resolved) same;
    }
      where
        l : (l : ShardHistory) × (slice_get (map lane_of js) k ≡ Some l)
        l = get_some (map lane_of js) k lt

        g : Found js sound k l.0
        g = find js sound k l.0 l.1

        same : g.j ≡ j
        same = same_Some _ _ (sym g.at ∙ at)

  -- ---- the last epoch
  module _ (epoch : ℕ) (js : List (StoppedShard T)) (sound : AllByRecursion Sound js) (some_lanes : 1 ≤ length (map lane_of js)) (by : AreEndedBy kind.Orderly (map put_into (map lane_of js))) (before es : List Entry) (dealt : IsDealt epoch (map lane_of js) (gather_from (sent_of c.choice) before es)) (done : List (StoppedShard T)) (pieces : List Piece) (all : entries pieces ≡ before ++ es) where
    abbrev past : Past
    past = past_of tells seen done

    abbrev m : ℕ
    m = length (map lane_of js)

    abbrev ends_so : ℕ → ShardFate
    ends_so = fates epoch kind.Orderly js sound some_lanes by before es dealt

    final : (put over : World) (is : IsAllPut c past pieces epoch m ends_so (before ++ es) put) → IsOver c past epoch m ends_so (before ++ es) (closed c past pieces epoch m ends_so (before ++ es) all put is) over → Final done pieces (before ++ es) js over
    final put over is at = record {
      epoch = epoch;
      end = has-ended c past pieces epoch m ends_so (before ++ es) all put is (past_of tells seen (done ++ js)) ends_so (fate-resolved epoch kind.Orderly js sound some_lanes by before es dealt) (passes epoch kind.Orderly js sound some_lanes by before es dealt done) over at;
      counted = ap (λ (x : World). x.filtered) at.same ∙ is.under.counted;
      shards = at.count ∙ length-map js lane_of;
      each = λ k s j e got. let lt = subst (λ (i : ℕ). k < i) at.count (slice_get_within over.shards k s e) in alike epoch kind.Orderly js sound some_lanes by before es dealt k over.requests (at.parts k) s j lt (at.done k s e) got;
    }

    last-run : (w : World) → BeginsEpoch c past pieces epoch m before w → Reaches ⊥ c w (Final done pieces (before ++ es) js)
    last-run w b =
        go-on c w _ _ (aloud c w _ (put-all epoch kind.Orderly js sound some_lanes by before es dealt past pieces [] w b (all ∙ ap (λ (xs : List Entry). before ++ xs) (sym (append-nil es)))))
        (λ put is. go-on c put _ _ (aloud c put _ (orderly-run c past pieces epoch m ends_so (before ++ es) all put is work.capacity (fate-end epoch kind.Orderly js sound some_lanes by before es dealt))) (λ over at. stay c over _ (final put over is at)))

  -- ---- the epochs before the last one
  -- the machine comes to the start of this epoch
  abbrev pub Comes : List Piece → List ShardHistory → List (StoppedShard T) → ℕ → List (List ShardHistory) → List Entry → Type 0
  Comes pieces last done epoch later before = Reaches ⊥ c (start c) (BeginsEpoch c (past_of tells seen done) pieces epoch (first_number later last) before)

  pub turn-run : (pieces : List Piece) (last : List ShardHistory) (done js : List (StoppedShard T)) (epoch : ℕ) (later : List (List ShardHistory)) (before es : List Entry) → Turns Sound c.choice pieces last epoch js later before es
      → Comes pieces last done epoch (map lane_of js ∷ later) before → Comes pieces last (done ++ js) (suc epoch) later (before ++ es)
  turn-run pieces last done js epoch later before es t r =
      go-on c (start c) _ _ r (λ w b. go-on c w _ _ (aloud c w _ (put-all epoch kind.Reshard js t.sound t.some t.by before es t.dealt (past_of tells seen done) pieces t.rest w b t.begins))
      (λ v put. reshard-run c (past_of tells seen done) (past_of tells seen (done ++ js)) pieces epoch (length (map lane_of js)) (first_number later last) (fates epoch kind.Reshard js t.sound t.some t.by before es t.dealt) (before ++ es) work.capacity t.number.0 t.number.1
      (fate-end epoch kind.Reshard js t.sound t.some t.by before es t.dealt) (fate-resolved epoch kind.Reshard js t.sound t.some t.by before es t.dealt) v put (passes epoch kind.Reshard js t.sound t.some t.by before es t.dealt done)))

-- ---- from the start
-- nothing more is asked of a shard
abbrev pub no_more : {T : Type 0} (tells : T → Type 0) (seen : T → List Exchange) (is_for : ℕ → ℕ → T → Type 0) (j : StoppedShard T) → IsWorked tells seen is_for j → Type 0
no_more tells seen is_for j h = Unit {0}

pub none-asked : {T : Type 0} (tells : T → Type 0) (seen : T → List Exchange) (is_for : ℕ → ℕ → T → Type 0) (c : Setup) (config : ConfigFields) (set : IsSetAs c config) (work : CanWork c) (js : List (StoppedShard T)) (h : AreWorked tells seen is_for js) → AreAsked tells seen is_for c config set work (no_more tells seen is_for) js h
none-asked tells seen is_for c config set work [] h = tt
none-asked tells seen is_for c config set work (j ∷ js) h = (tt, none-asked tells seen is_for c config set work js h.1)

module _ {T : Type 0} (tells : T → Type 0) (seen : T → List Exchange) (c : Setup) (pieces : List Piece) (fed : List Fed) (fed_are : pieces ≡ map piece_of fed) where
  abbrev pub begun : World
  begun = record (start c) { pieces = pieces }

  pub fed-all : run_freely c (feeds fed) (start c) ≡ begun
  fed-all = feed-all c fed (start c) refl refl ∙ ap (λ ps. record (start c) { pieces = ps }) (sym fed_are)

  no_name : {X : Type 0} (p : ℕ) (reason : Reason) → get begun.names p ≡ Some reason → X
  no_name p reason h = absurd (none-some reason (sym (get-empty nat_cmp p) ∙ h))

  begins_tallied : IsTallied c (past_of tells seen []) 0 c.shards [] (λ k. empty) begun
  begins_tallied = record {
    reached = (feeds fed, fed-all);
    named = λ p reason h. no_name p reason h;
    names = begins_named;
    sent = λ e k bytes h. absurd (none-some h.0 h.1.at);
    owned = tt;
  }
    where
      begins_named : (p : ℕ) (reason : Reason) → IsNamedSo c (past_of tells seen []) c.shards [] (λ k. empty) p reason → get begun.names p ≡ Some reason
      begins_named p reason (inl own) = own
      begins_named p reason (inr (inl (i, j, e, h))) = absurd (none-some j e)
      begins_named p reason (inr (inr (k, lt, e))) = e

  pub begins : BeginsEpoch c (past_of tells seen []) pieces 0 c.shards [] begun
  begins = record {
    going = (refl, refl, refl);
    pieces_are = refl;
    epoch_is = refl;
    shards = refl;
    placed_are = refl;
    series = sym (series_of-none c.choice);
    counted = refl;
    tallied = begins_tallied;
    unsent = λ k. refl;
  }

  pub begun-run : Reaches ⊥ c (start c) (BeginsEpoch c (past_of tells seen []) pieces 0 c.shards [])
  begun-run = record { events = feeds fed; world = begun; is = fed-all; holds = begins; own = λ no. absurd no }

module _ {T : Type 0} (tells : T → Type 0) (seen : T → List Exchange) (is_for : ℕ → ℕ → T → Type 0) (c : Setup) (s : Shipping T) (r : Report T) (fed : List Fed) (h : HasStopped tells seen is_for s r) (set : IsSetAs c s.fleet.config) (choice : c.choice ≡ s.log.choice) (work : CanWork c) (fed_are : s.log.pieces ≡ map piece_of fed) where
  abbrev IsSoundHere : StoppedShard T → Type 0
  IsSoundHere = Sound tells seen is_for c s.fleet.config set work (no_more tells seen is_for)

  abbrev ComesHere : List ShardHistory → List (StoppedShard T) → ℕ → List (List ShardHistory) → List Entry → Type 0
  ComesHere = Comes tells seen is_for c s.fleet.config set work (no_more tells seen is_for) s.log.pieces

  finish : (epochs : List (List ShardHistory)) → map lane_of h.joined ≡ joined_epochs epochs → Places 0 epochs (sent c.choice s.log.placed) → HasNumbers c epochs → EndInTurn epochs → AreResolved h.joined → (IsAbandoned r.outcome → ⊥) → (found : Option TailFault) → HasRead s.log.pieces s.log.placed found → ending_of r.outcome ≡ ended_as found (length s.log.placed) → IsRun tells seen c s r
  finish [] e p numbers turn resolved left_none found read out = absurd numbers
  finish (lanes ∷ later) e p numbers turn resolved left_none found read out = (
    whole.events,
    record {
      log = ap (λ (x : World). x.pieces) whole.is ∙ last.end.pieces_are;
      placed = ap (λ (x : World). x.placed) whole.is ∙ last.end.placed_are;
      filtered = ap (λ (x : World). x.filtered) whole.is ∙ last.counted ∙ ap (λ (ch : Choice). length (filtered ch s.log.placed)) choice ∙ sym h.filter_count;
      earlier = map finished_of sp.first;
      last = map finished_of sp.later;
      workers = h.workers ∙ ap (map finished_of) sp.are ∙ map-append finished_of sp.first sp.later;
      shards = ap (λ (x : World). length x.shards) whole.is ∙ last.shards ∙ sym (length-map sp.later finished_of);
      each = λ k m f e at. let g = map_get finished_of sp.later k f at in subst (λ (y : Finished T). IsAlike y m) g.2 (last.each k m g.0 (ap (λ (x : World). slice_get x.shards k) (sym whole.is) ∙ e) g.1);
      names = names-all tells seen is_for c s r h choice (suc last.epoch) (world_of c whole.events) tallied;
      requests = sends-all tells seen is_for c s r h choice (suc last.epoch) (world_of c whole.events) tallied;
      outcome_is = tells-so r.outcome (report (world_of c whole.events)) left_none (ap report whole.is ∙ last.end.reported ∙ ap Some (ap (λ (o : Option TailFault). ended_as o (length s.log.placed)) read.fault_is ∙ sym out));
    },
    keeps-laws c whole.events,
  )
    where
      d : Divided lanes later
      d = divide lanes later (subst (λ (i : ℕ). 1 ≤ i) (sym numbers.0) work.shards) numbers.1 turn

      sp : Split lane_of h.joined (joined_epochs d.turned) d.last
      sp = split_map lane_of h.joined (joined_epochs d.turned) d.last (e ∙ ap joined_epochs d.are ∙ joined_push d.turned d.last)

      sound : AllByRecursion IsSoundHere (sp.first ++ sp.later)
      sound = subst (AllByRecursion IsSoundHere) sp.are (sound-all tells seen is_for c s.fleet.config set work (no_more tells seen is_for) h.joined (known-all tells seen is_for c s.fleet.config set work (no_more tells seen is_for) h.joined h.worked h.setup (none-asked tells seen is_for c s.fleet.config set work h.joined h.worked)) resolved)

      at-last : AtLast c.choice d.last (ComesHere d.last) sp.first [] s.log.placed
      at-last = turn-all IsSoundHere c.choice s.log.pieces d.last [] (ComesHere d.last) (turn-run tells seen is_for c s.fleet.config set work (no_more tells seen is_for) s.log.pieces d.last) d.turned 0 [] sp.first [] s.log.placed
          (AllByRecursion-left IsSoundHere sp.first sp.later sound) sp.first_is (subst (λ (es : List (List ShardHistory)). Places 0 es (sent c.choice s.log.placed)) d.are p) d.before (sym read.all ∙ sym (append-nil s.log.placed))
          (subst (λ (i : ℕ). Reaches ⊥ c (start c) (BeginsEpoch c (past_of tells seen []) s.log.pieces 0 i [])) (sym (d.first ∙ numbers.0)) (begun-run tells seen c s.log.pieces fed fed_are))

      same : d.last ≡ map lane_of sp.later
      same = sym sp.later_is

      whole : Reaches ⊥ c (start c) (Final tells seen is_for c s.fleet.config set work (no_more tells seen is_for) sp.first s.log.pieces (at-last.now ++ at-last.later) sp.later)
      whole = go-on c (start c) _ _ at-last.at (λ w b. last-run tells seen is_for c s.fleet.config set work (no_more tells seen is_for) at-last.epoch sp.later (AllByRecursion-right IsSoundHere sp.first sp.later sound)
          (subst (λ (ls : List ShardHistory). 1 ≤ length ls) same d.some) (subst (λ (ls : List ShardHistory). AreEndedBy kind.Orderly (map put_into ls)) same d.by) at-last.now at-last.later
          (subst (λ (ls : List ShardHistory). IsDealt at-last.epoch ls (gather_from (sent_of c.choice) at-last.now at-last.later)) same at-last.dealt) sp.first s.log.pieces (sym read.all ∙ at-last.are) w
          (subst (λ (ls : List ShardHistory). BeginsEpoch c (past_of tells seen sp.first) s.log.pieces at-last.epoch (length ls) at-last.now w) same b))

      last : Final tells seen is_for c s.fleet.config set work (no_more tells seen is_for) sp.first s.log.pieces s.log.placed sp.later whole.world
      last = subst (λ (es : List Entry). Final tells seen is_for c s.fleet.config set work (no_more tells seen is_for) sp.first s.log.pieces es sp.later whole.world) (sym at-last.are) whole.holds

      tallied : IsTallied c (past_of tells seen h.joined) (suc last.epoch) 0 s.log.placed (λ k. empty) (world_of c whole.events)
      tallied = subst (λ (js : List (StoppedShard T)). IsTallied c (past_of tells seen js) (suc last.epoch) 0 s.log.placed (λ k. empty) (world_of c whole.events)) (sym sp.are)
          (subst (λ (v : World). IsTallied c (past_of tells seen (sp.first ++ sp.later)) (suc last.epoch) 0 s.log.placed (λ k. empty) v) (sym whole.is) last.end.tallied)

pub stops-as-run : {T : Type 0} (tells : T → Type 0) (seen : T → List Exchange) (is_for : ℕ → ℕ → T → Type 0) (s : Shipping T) (r : Report T) → StopsAsRun tells seen is_for s r
stops-as-run {T} tells seen is_for s r c fed h epochs machine work fed_are e p numbers turn left = by_outcome r.outcome refl h.ends left
  where
    placed : Places 0 epochs (sent c.choice s.log.placed)
    placed = subst (λ (ch : Choice). Places 0 epochs (sent ch s.log.placed)) (sym machine.1) p

    by_outcome : (o : Outcome) → r.outcome ≡ o → HasEndedAs s h.joined o → (IsAbandoned o → ⊥) → IsRun tells seen c s r
    by_outcome (outcome.Complete end) is ended whole = finish tells seen is_for c s r fed h machine.0 machine.1 work fed_are epochs e placed numbers turn ended.2 left None (read-plain s.log None machine.2 ended.1) (ap ending_of is ∙ ap Complete ended.0)
    by_outcome (outcome.Damaged f) is ended whole = finish tells seen is_for c s r fed h machine.0 machine.1 work fed_are epochs e placed numbers turn ended.1 left (Some f) (read-plain s.log (Some f) machine.2 ended.0) (ap ending_of is)
    by_outcome (outcome.Abandoned count samples) is ended whole = absurd (whole tt)

-- ---- the epochs that the shipper knows, and the last one
turn_of : (es : List (List ShardHistory)) (last : List ShardHistory) → AreTurned es → AreEndedBy kind.Orderly (map put_into last) → EndInTurn (es ++ last ∷ [])
turn_of [] last t h = h
turn_of (x ∷ []) last t h = (t.1, h)
turn_of (x ∷ y ∷ ys) last t h = (t.1, turn_of (y ∷ ys) last t.2 h)

later_numbers : (es : List (List ShardHistory)) (last : List ShardHistory) → AreTurned es → IsShardCount (length last) → AreNumbers (es ++ last ∷ [])
later_numbers [] last t n = (n, tt)
later_numbers (x ∷ xs) last t n = (t.0, later_numbers xs last t.2 n)

numbers_of : (c : Setup) (es : List (List ShardHistory)) (current last : List ShardHistory) → length last ≡ length current → AreTurned es → IsShardCount (length last) → first_number es current ≡ c.shards → HasNumbers c (es ++ last ∷ [])
numbers_of c [] current last same t n e = (same ∙ e, tt)
numbers_of c (x ∷ xs) current last same t n e = (e, later_numbers xs last t.2 n)

pub stops-in-order : {T : Type 0} (tells : T → Type 0) (seen : T → List Exchange) (is_for : ℕ → ℕ → T → Type 0) (s : Shipping T) (r : Report T) → StopsInOrder tells seen is_for s r
stops-in-order {T} tells seen is_for s r c fed h p machine work fed_are number first ends left =
    stops-as-run tells seen is_for s r c fed h (p.epochs ++ last ∷ []) machine work fed_are
    (whole_is s.fleet.epoch (map lane_of s.fleet.ended) s.fleet.current last (map lane_of h.joined) (sent s.log.choice s.log.placed) p (all_is s.fleet h.joined h.all))
    (whole_placed s.fleet.epoch (map lane_of s.fleet.ended) s.fleet.current last (sent s.log.choice s.log.placed) p h.all.2)
    (numbers_of c p.epochs s.fleet.current last same p.turned (subst IsShardCount (sym same) number) first)
    (turn_of p.epochs last p.turned (ends_last kind.Orderly s.fleet h.joined h.all (subst (λ (fs : List (Finished T)). EndBy kind.Orderly s.fleet fs) h.workers ends)))
    left
  where
    last : List ShardHistory
    last = map lane_of h.all.0

    same : length last ≡ length s.fleet.current
    same = same_length s.fleet.current last h.all.2
