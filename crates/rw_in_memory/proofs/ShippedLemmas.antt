-- A shipper over lines, from its start until the head is back.
use Rattle.std.proofs.Common.{◌≡◌, inl, inr, ℕ, ◌≤◌, List, [], ◌++◌, All, drop, map, take, length, Option, None, Some, Result, Ok, Err, IfOk, IfSome, slice_get, get_or, refl, sym, ap, ◌∙◌, subst, arith}
use Rattle.std.specs.Prelude.{IsSome, is_some, OnOk}
use Rattle.std.specs.FinMap.{empty}
use Rattle.std.proofs.lemmas.List.{length-map}
use Rattle.std.proofs.lemmas.Option.{none-some, slice_get_within, get_or_from_slice_get, slice_get-get_or}
use Rattle.rw_wal_tail.specs.Fed.{piece_of}
use Rattle.rw_wal_tail.specs.declared.piece.Piece.{Piece}
use Rattle.rw_wal_format.specs.Pieces.{entries}
use Rattle.rw_wal_format.specs.declared.tail_fault.TailFault.{TailFault}
use Rattle.rw_shard_core.specs.Configs.{choice_of}
use Rattle.rw_shard_core.specs.declared.config.ConfigFields.{ConfigFields}
use Rattle.rw_shard_core.specs.declared.outcome.Outcome.TheVariants.{Complete, Damaged}
use Rattle.rw_head.specs.Head.{State}
use Rattle.rw_head.specs.declared.limits.Limits.{Limits}
use Rattle.rw_sender.specs.Feeders.{Sorting}
use Rattle.rw_wal_tail.specs.Taking.{HasRead}
use Rattle.rw_simulation.proofs.shared.PlainLogs.{read-plain, begins-plain}
use Rattle.rw_fleet.specs.ShardHistories.{AreFresh}
use Rattle.rw_fleet.specs.Work.{lane_of, finished_of}
use Rattle.rw_fleet.specs.Fleets.{Shards, EndBy}
use Rattle.rw_fleet.specs.declared.joined.StoppedShard.{StoppedShard}
use Rattle.rw_fleet.specs.declared.running_shard.Fault.{Fault}
use Rattle.rw_fleet.specs.declared.running_shard.Fault.TheVariants as queue_fault
use Rattle.rw_fleet.proofs.shared.LaneLemmas.{same_length}
use Rattle.rw_sender.specs.Reports.{IsAbandoned, end_kind, workers_of}
use Rattle.rw_sender.specs.Shipping.{Shipping, HasStopped, HasEndedAs, Feeds}
use Rattle.rw_sender.specs.declared.report.Report.{Report}
use Rattle.rw_sender.specs.declared.shipper.FeedFault.{FeedFault}
use Rattle.rw_sender.specs.declared.shipper.FeedFault.TheVariants as feed_fault
use Rattle.rw_machine.specs.Worlds.{Setup}
use Rattle.rw_machine.specs.Promises.{CanWork}
use Rattle.rw_simulation.specs.StoppedRuns.{IsMachineOf}
use Rattle.rw_simulation.specs.Received.{IsHeld}
use Rattle.rw_in_memory.specs.Lines.{SeatLine}
use Rattle.rw_in_memory.specs.Held.{seen_by, IsAnyones, AreLines, IsFirst, HasEnded}
use Rattle.rw_in_memory.specs.Shipped.{IsGathered, IsOneEpoch, IsShippedTo, IsNew, IsShipped}
use Rattle.rw_in_memory.specs.inner.Shipped.{IsSound, HasFed}
use Rattle.rw_in_memory.specs.declared.ship_log.Shipped.{Shipped}
use Rattle.rw_in_memory.proofs.Held.{holds-in-memory}

-- ---- as many workers as shards
pub workers_count : (tells : SeatLine → Type 0) (s : Shipping SeatLine) (r : Report SeatLine) → HasStopped tells seen_by IsAnyones s r → s.fleet.ended ≡ [] → length (workers_of r) ≡ length s.fleet.current
workers_count tells s r h none =
    ap length h.workers
    ∙ length-map h.joined finished_of
    ∙ ap length (h.all.1 ∙ ap (λ (js : List (StoppedShard SeatLine)). js ++ h.all.0) none)
    ∙ sym (length-map h.all.0 lane_of)
    ∙ same_length s.fleet.current (map lane_of h.all.0) h.all.2

-- ---- no shard is folded in the first epoch
pub all_kept : {X Y : Type 0} (folded : ℕ) (was : List Y) (all kept : List X) → kept ≡ drop folded all → folded ≤ length was → was ≡ [] → kept ≡ all
all_kept folded was all kept is few none =
    let len = ap length none in
    let first : folded ≡ 0 = omega (arith, few) in
    is ∙ ap (λ n. drop n all) first

-- ---- how it was stopped
pub ended_so : (fault : Option Fault) (s : Shipping SeatLine) (r : Report SeatLine) → EndBy (end_kind (is_some fault)) s.fleet (workers_of r) → IfSome fault (λ f. IsAbandoned r.outcome) → HasEnded s r
ended_so None s r by failed = inl by
ended_so (Some f) s r by failed = inr failed

-- ---- each of a list
pub each_of : {X : Type 0} (P : X → Type 0) (xs : List X) → All P xs → (k : ℕ) (x : X) → slice_get xs k ≡ Some x → P x
each_of P xs all k x at = subst P (get_or_from_slice_get xs k x x at) (all k x (slice_get_within xs k x at))

pub all_of : {X : Type 0} (P : X → Type 0) (xs : List X) → ((k : ℕ) (x : X) → slice_get xs k ≡ Some x → P x) → All P xs
all_of P xs each k d lt = each k (get_or xs k d) (slice_get-get_or xs k d lt)

pub if_ok : {X E : Type 0} (P Q : X → Type 0) (r : Result X E) → IfOk r P → ((x : X) → P x → Q x) → IfOk r Q
if_ok P Q (Ok x) h f = f x h
if_ok P Q (Err e) h f = tt

-- ---- if nothing was fed yet
-- ---- to a new head
pub shipped_new : (opening : State) (limits : Limits) (config : ConfigFields) (log : List Piece) (v : Shipped) (path : List ℕ) (limit : ℕ) → IsNew limits opening → path ≡ config.target.path → limit ≡ 67108864
    → IsShippedTo opening path limit config log v → IsShipped config limits log v
shipped_new opening limits config log v path limit new same bound shipped =
    let so = subst (λ (p : List ℕ). IsShippedTo opening p limit config log v) same shipped in
    (opening, new, subst (λ (n : ℕ). IsShippedTo opening config.target.path n config log v) bound so)

-- ---- from the start to the end
module _ (opening : State) (path : List ℕ) (limit : ℕ) (config : ConfigFields) (log : List Piece) (was now : Shipping SeatLine) (answer : Result (Unit {0}) FeedFault) (v : Shipped)
    (log_is : was.log ≡ record { choice = choice_of config; labels = []; pieces = []; placed = []; hand = [] }) (config_is : was.fleet.config ≡ record config { rules = [] })
    (opened : (was.fleet.epoch ≡ 0) × (was.fleet.ended ≡ []) × (length was.fleet.current ≡ config.shards) × AreFresh 0 was.fleet.current)
    (fed : HasFed was now log answer) (g : IsGathered opening path limit now v) (fed_is : v.fed ≡ answer) (empty_is : opening.store ≡ empty) (path_is : path ≡ config.target.path) (sound : IsSound config) where
  setup : Setup
  setup = record {
    target = config.target;
    shards = config.shards;
    capacity = config.capacity;
    batch = config.batch;
    choice = choice_of config;
    limits = opening.limits;
    max_body = limit;
    busy = 0;
  }

  choice_is : now.log.choice ≡ choice_of config
  choice_is = fed.choice ∙ ap (λ (l : Sorting). l.choice) log_is

  labels_are : now.log.labels ≡ []
  labels_are = fed.labels ∙ ap (λ (l : Sorting). l.labels) log_is

  pieces_are : now.log.pieces ≡ map piece_of (take fed.fed log)
  pieces_are = fed.pieces ∙ ap (λ (l : Sorting). l.pieces ++ map piece_of (take fed.fed log)) log_is

  config_now : now.fleet.config ≡ record config { rules = [] }
  config_now = ap (λ (f : Shards SeatLine). f.config) fed.fleet ∙ config_is

  machine : IsMachineOf setup now
  unfolding setup
  machine = (
    record {
      target = sym (ap (λ (c : ConfigFields). c.target) config_now);
      capacity = sym (ap (λ (c : ConfigFields). c.capacity) config_now);
      batch = sym (ap (λ (c : ConfigFields). c.batch) config_now);
    },
    sym choice_is,
    labels_are,
  )

  work : CanWork setup
  unfolding setup
  work = record { capacity = sound.capacity; batch = sound.batch; shards = sound.shards.0 }

  count : length now.fleet.current ≡ config.shards
  count = fed.len ∙ opened.2

  first : IsFirst setup now
  unfolding setup
  first = record {
    epoch_is = ap (λ (f : Shards SeatLine). f.epoch) fed.fleet ∙ opened.0;
    none_ended = ap (λ (f : Shards SeatLine). f.ended) fed.fleet ∙ opened.1;
    number = subst (λ (n : ℕ). (1 ≤ n) × (n ≤ 1000)) (sym count) sound.shards;
    shards = count;
  }

  lines : AreLines setup opening path limit (workers_of g.r) v.head.store
  unfolding setup
  lines = record {
    host = sound.host;
    calm = refl;
    empty_is = empty_is;
    limits_are = refl;
    path_is = path_is;
    limit_is = refl;
    each = g.each;
    gathered = g.gathered;
  }

  held : IsHeld now g.r v.head.store
  held = holds-in-memory opening path limit now g.r v.head.store setup (take fed.fed log) g.stopped g.placed machine work pieces_are first lines g.ended

  -- nothing is left if the outcome says complete
  whole : (end : ℕ) → g.r.outcome ≡ Complete end → (length log ≤ fed.fed) × (end ≡ length now.log.placed) × (now.log.placed ≡ entries now.log.pieces)
  whole end is = (by_answer answer fed.whole fed.feeds, ends.0, (read-plain now.log None labels_are ends.1).all)
    where
      ends : HasEndedAs now g.stopped.joined (Complete end)
      ends = subst (HasEndedAs now g.stopped.joined) is g.stopped.ends

      fails : (f : Fault) → now.fault ≡ Some f → length log ≤ fed.fed
      fails f e = absurd (subst IsAbandoned is (g.failed (subst IsSome (sym e) refl)))

      by_answer : (a : Result (Unit {0}) FeedFault) → OnOk a (length log ≤ fed.fed) → Feeds now a → length log ≤ fed.fed
      by_answer (Ok u) ok feeds = ok
      by_answer (Err (feed_fault.Damaged f)) ok feeds = absurd (none-some f (sym ends.1.fault_is ∙ feeds.0.fault_is))
      by_answer (Err feed_fault.OutOfMemory) ok feeds = fails queue_fault.OutOfMemory feeds
      by_answer (Err feed_fault.Gone) ok feeds = fails queue_fault.Gone feeds

  fault_read : (f : TailFault) → g.r.outcome ≡ Damaged f → HasRead now.log.pieces now.log.placed (Some f)
  fault_read f is = read-plain now.log (Some f) labels_are (subst (HasEndedAs now g.stopped.joined) is g.stopped.ends).0

  epoch : IsOneEpoch config now
  epoch = record {
    choice_is = choice_is;
    config_is = config_now;
    epoch_is = first.epoch_is;
    none_ended = first.none_ended;
    shards = count;
  }

  pub shipped_so : IsShippedTo opening path limit config log v
  shipped_so = record {
    fed = fed.fed;
    s = now;
    epoch = epoch;
    gathered = g;
    pieces_are = pieces_are;
    read = begins-plain now.log labels_are g.stopped.read;
    feeds = subst (Feeds now) (sym fed_is) fed.feeds;
    whole = subst (λ (a : Result (Unit {0}) FeedFault). OnOk a (length log ≤ fed.fed)) (sym fed_is) fed.whole;
    filter_count = g.filter_count ∙ g.stopped.filter_count;
    complete = λ end is. whole end (sym g.outcome_is ∙ is);
    damaged = λ f is. fault_read f (sym g.outcome_is ∙ is);
    cut = λ none is. g.cut none (subst IsAbandoned g.outcome_is is);
    held = held;
  }
