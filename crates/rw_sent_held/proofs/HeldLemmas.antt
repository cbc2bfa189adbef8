-- What one receiver holds of a shipper that was stopped, by its report.
use Rattle.std.proofs.Common.{◌≡◌, ◌⊎◌, inl, inr, ℕ, suc, ◌≤◌, List, [], ◌∷◌, ◌++◌, length, map, Option, None, Some, refl, true, false, sym, ap, ◌∙◌, subst, append-nil, arith}
use Rattle.std.specs.Prelude.{IsSome}
use Rattle.std.specs.Global.{Global}
use Rattle.std.specs.Vec.{vec_allocator}
use Rattle.std.specs.Ptr.{null_ptr}
use Rattle.std.proofs.lemmas.List.{take_all}
use Rattle.rw_types.specs.Labels.{Labels}
use Rattle.rw_types.specs.declared.entry.Entry.{Entry}
use Rattle.rw_wal_format.specs.Pieces as pieces
use Rattle.rw_wal_format.specs.Pieces.{entries}
use Rattle.rw_wal_tail.specs.Fed.{piece_of}
use Rattle.rw_wal_tail.specs.declared.piece.Piece.{Piece}
use Rattle.rw_wal_tail.specs.declared.piece.Piece.TheVariants as piece
use Rattle.rw_relabel.specs.declared.choice.Choice.{Choice}
use Rattle.rw_series_cache.specs.Points.{kept_points, kept_points_below}
use Rattle.rw_series_cache.proofs.shared.PointLemmas.{below_a_position}
use Rattle.rw_plain_queue.specs.declared.item.Kind.TheVariants.{Orderly}
use Rattle.rw_shard_core.specs.Configs.{choice_of}
use Rattle.rw_shard_core.specs.declared.config.ConfigFields.{ConfigFields}
use Rattle.rw_shard_core.specs.declared.outcome.Outcome.{Outcome}
use Rattle.rw_shard_core.specs.declared.outcome.Outcome.TheVariants.{Complete, Abandoned, Damaged}
use Rattle.rw_head.specs.Head.{State}
use Rattle.rw_head.specs.Store.{Store}
use Rattle.rw_machine.specs.Worlds.{Setup}
use Rattle.rw_machine.specs.declared.event.How.{How}
use Rattle.rw_machine.specs.declared.event.How.TheVariants.{Plain, Busy, OutOfMemory}
use Rattle.rw_machine.specs.Promises.{CanWork, owed, pair_of}
use Rattle.rw_worker.specs.Transcript.{Exchange}
use Rattle.rw_fleet.specs.Fleets.{Shards, AreAll, EndBy}
use Rattle.rw_fleet.specs.ShardHistories.{ShardHistory, AreSame}
use Rattle.rw_fleet.specs.Work.{lane_of}
use Rattle.rw_fleet.specs.declared.joined.StoppedShard.{StoppedShard}
use Rattle.rw_fleet.specs.declared.running_shard.Fault.{Fault}
use Rattle.rw_sender.specs.Placement.{AreTurned, IsShardCount}
use Rattle.rw_sender.specs.Reports.{IsAbandoned, workers_of}
use Rattle.rw_sender.specs.Shipping.{Shipping, HasEndedAs, PlacesAll}
use Rattle.rw_sender.specs.declared.report.Report.{Report}
use Rattle.rw_restarts.specs.Arrivals.{Arrival, Receives}
use Rattle.rw_simulation.specs.OneReceivers.{IsOneReceiver}
use Rattle.rw_simulation.specs.Received.{IsHeld, ReceivesAbandoned, ReceivesInOrder}
use Rattle.rw_simulation.specs.StoppedRuns.{IsMachineOf, first_number}
use Rattle.rw_send.specs.Segments.{AreShortPieces, IsShortPiece, IsShortLog}
use Rattle.rw_send.specs.Sending.{EndsFor, IsReportOf}
use Rattle.rw_simulation.proofs.shared.PlainLogs.{read-plain}
use Rattle.rw_sent_held.specs.Held.{ComesToOne, Holds, HoldsAllOf, machine_of}

-- ---- short pieces are such as a shipper is fed

with_bytes : Global → (p : pieces.Piece) → IsShortPiece p → (q : Piece) × (p ≡ piece_of q)
with_bytes g (pieces.bytes b) short = (
  piece.Bytes (record {
    ptr = null_ptr;
    len = length b;
    cap = length b;
    alloc = g;
    items = b;
    ok = (refl, omega arith);
    small = omega (arith, short);
  }),
  refl,
)
with_bytes g pieces.next_segment short = (piece.NextSegment, refl)
with_bytes g pieces.may_compress short = absurd short

fed_as : Global → (ps : List pieces.Piece) → AreShortPieces ps → (qs : List Piece) × (ps ≡ map piece_of qs)
fed_as g [] short = ([], refl)
fed_as g (p ∷ ps) short =
    let first = with_bytes g p short.0 in
    let later = fed_as g ps short.1 in
    (first.0 ∷ later.0, ap (λ (x : pieces.Piece). x ∷ ps) first.1 ∙ ap (λ (xs : List pieces.Piece). piece_of first.0 ∷ xs) later.1)

-- all of a log without Snappy blocks was fed
pub all_fed : (ps : List pieces.Piece) → IsShortLog false ps → AreShortPieces ps
all_fed [] short = tt
all_fed (pieces.bytes b ∷ ps) short = short.1
all_fed (pieces.next_segment ∷ ps) short = short.1
all_fed (pieces.may_compress ∷ ps) short = absurd (let never : true ≡ false = short.0 in cc)

-- ---- the machine's first epoch has a shard

first_some : (epochs : List (List ShardHistory)) (current : List ShardHistory) → AreTurned epochs → IsShardCount (length current) → 1 ≤ first_number epochs current
first_some [] current turned number = number.0
first_some (lanes ∷ later) current turned number = turned.0.0

none_of : (found : Option Fault) → (IsSome found → ⊥) → found ≡ None
none_of None never = refl
none_of (Some f) never = absurd (never refl)

-- ---- a receiver does not look at the number of shards

receives_same : (m : Setup) (n : ℕ) (how : How) (bytes : List ℕ) (head : State) (status : ℕ) (next : State) → Receives m how bytes head status next → Receives (record m { shards = n }) how bytes head status next
receives_same m n Plain bytes head status next h = λ batch again is. h batch again is
receives_same m n Busy bytes head status next h = h
receives_same m n OutOfMemory bytes head status next h = h

one_for : (m : Setup) (n : ℕ) (exchanges : ℕ → ℕ → List Exchange) (arrivals : List Arrival) (heads : ℕ → State) → IsOneReceiver m exchanges arrivals heads → IsOneReceiver (record m { shards = n }) exchanges arrivals heads
one_for m n exchanges arrivals heads one = record {
  begins = one.begins;
  receives = λ i a at.
      let x = one.receives i a at in
      (x.0, x.1, receives_same m n a.how x.0.request (heads i) a.status (heads (suc i)) x.2);
  told = one.told;
}

-- ---- all that was fed

all_below : (choice : Choice) (es : List Entry) (l : Labels) (placed : List Entry) → placed ≡ es → kept_points_below choice es l (length placed) ≡ kept_points choice es l
all_below choice es l placed same =
    below_a_position choice es l (length placed) ∙ ap (λ (xs : List Entry). kept_points choice xs l) (take_all (length placed) es (omega (arith, ap length same)))

-- ---- the epoch before the last shards were ended

none_more : {T : Type 0} (lanes : List ShardHistory) (more : List (StoppedShard T)) → lanes ≡ [] → AreSame lanes (map lane_of more) → more ≡ []
none_more lanes [] none same = refl
none_more {T} lanes (j ∷ js) none same = let never : ⊥ = subst (λ (ls : List ShardHistory). AreSame ls (map lane_of (j ∷ js))) none same in absurd never

-- there are no others than those that had ended
all_ended : {T : Type 0} (s : Shards T) (js : List (StoppedShard T)) → s.current ≡ [] → AreAll s js → js ≡ s.ended
all_ended {T} s js none (more, are, same) =
    are ∙ ap (λ (ms : List (StoppedShard T)). s.ended ++ ms) (none_more s.current more none same) ∙ append-nil s.ended

pub all_from : {T : Type 0} (s : Shipping T) (before : Shards T) (js : List (StoppedShard T)) → (before ≡ s.fleet) ⊎ ((s.fleet.current ≡ []) × AreAll before s.fleet.ended × PlacesAll s.log before) → AreAll s.fleet js → AreAll before js
all_from {T} s before js (inl same) all = subst (λ (f : Shards T). AreAll f js) (sym same) all
all_from {T} s before js (inr (none, were, placed)) all = subst (AreAll before) (sym (all_ended s.fleet js none all)) were

pub placed_from : {T : Type 0} (s : Shipping T) (before : Shards T) → (before ≡ s.fleet) ⊎ ((s.fleet.current ≡ []) × AreAll before s.fleet.ended × PlacesAll s.log before) → PlacesAll s.log s.fleet → PlacesAll s.log before
placed_from {T} s before (inl same) placed = subst (λ (f : Shards T). PlacesAll s.log f) (sym same) placed
placed_from s before (inr (none, were, placed)) now = placed

-- one of the shards of an epoch
some_shard : {T : Type 0} (lanes : List ShardHistory) (more : List (StoppedShard T)) → 1 ≤ length lanes → AreSame lanes (map lane_of more) → StoppedShard T
some_shard [] more some same = absurd (omega (arith, some))
some_shard (l ∷ ls) [] some same = absurd same
some_shard (l ∷ ls) (j ∷ js) some same = j

module _ {T : Type 0} (tells : T → Type 0) (seen : T → List Exchange) (is_for : ℕ → ℕ → T → Type 0)
    (in_order : (s : Shipping T) (r : Report T) → ReceivesInOrder tells seen is_for s r)
    (abandoned : (s : Shipping T) (r : Report T) → ReceivesAbandoned tells seen is_for s r)
    (c : ConfigFields) (limit : Option ℕ) (cause : Type 0) (ps : List pieces.Piece) (r : Report T)
    (report : IsReportOf tells seen is_for c limit [] cause ps r) (short : AreShortPieces ps) (store : Store)
    (comes : ComesToOne tells seen is_for c report.shipping r report.stopped store) where
  abbrev s : Shipping T
  s = report.shipping

  abbrev machine : ℕ → Setup
  machine n = record (machine_of c comes.limits comes.max_body comes.busy) { shards = n }

  is_machine : (n : ℕ) → IsMachineOf (machine n) s
  is_machine n = (
    record {
      target = sym (ap (λ (f : ConfigFields). f.target) report.config);
      capacity = sym (ap (λ (f : ConfigFields). f.capacity) report.config);
      batch = sym (ap (λ (f : ConfigFields). f.batch) report.config);
    },
    sym report.choice,
    report.labels_are,
  )

  can_work : (n : ℕ) → 1 ≤ n → CanWork (machine n)
  can_work n some = record { capacity = report.capacity; batch = report.batch; shards = some }

  one : (n : ℕ) → IsOneReceiver (machine n) comes.exchanges comes.arrivals comes.heads
  one n = one_for (machine_of c comes.limits comes.max_body comes.busy) n comes.exchanges comes.arrivals comes.heads comes.one

  fed : (f : Shards T) → 1 ≤ length f.current → AreAll f report.stopped.joined → (qs : List Piece) × (ps ≡ map piece_of qs)
  fed f some all = fed_as (vec_allocator (some_shard f.current all.0 some all.2).abandoned) ps short

  orderly : (IsAbandoned r.outcome → ⊥) → EndsFor cause s r → EndBy Orderly s.fleet (workers_of r)
  orderly left (inl by) = by
  orderly left (inr (by, abandoned, why)) = absurd (left abandoned)

  of_all : (IsAbandoned r.outcome → ⊥) → IsHeld s r store
  of_all left =
      let number : IsShardCount (length s.fleet.current) = report.number (none_of s.fault (λ some. left (report.failed some))) in
      let n = first_number report.placed.epochs s.fleet.current in
      let given = fed s.fleet number.0 report.stopped.all in
      subst (λ (st : Store). IsHeld s r st) comes.last
      (in_order s r (machine n) given.0 report.stopped report.placed (is_machine n) (can_work n (first_some report.placed.epochs s.fleet.current report.placed.turned number)) (report.pieces_are ∙ given.1) number refl
      (orderly left report.ended) left comes.exchanges comes.arrivals comes.heads comes.of_workers (one n))

  of_some : IsAbandoned r.outcome → length s.fleet.current ≤ 1000 → IsHeld s r store
  of_some is few =
      let last = report.last in
      let number : IsShardCount (length last.before.current) = (last.some, last.few few) in
      let placed = placed_from s last.before last.is report.placed in
      let n = first_number placed.epochs last.before.current in
      let all = all_from s last.before report.stopped.joined last.is report.stopped.all in
      let given = fed last.before last.some all in
      subst (λ (st : Store). IsHeld s r st) comes.last
      (abandoned s r (machine n) given.0 report.stopped last.before placed (is_machine n) (can_work n (first_some placed.epochs last.before.current placed.turned number)) (report.pieces_are ∙ given.1)
      all last.resolved number refl is comes.exchanges comes.arrivals comes.heads comes.of_workers (one n))

  held : (o : Outcome) → r.outcome ≡ o → (IsAbandoned r.outcome → length s.fleet.current ≤ 1000) → IsHeld s r store
  held (Complete end) is few = of_all (λ left. subst IsAbandoned is left)
  held (Abandoned placed samples) is few = let left : IsAbandoned r.outcome = subst IsAbandoned (sym is) tt in of_some left (few left)
  held (Damaged f) is few = of_all (λ left. subst IsAbandoned is left)

  complete : (end : ℕ) → r.outcome ≡ Complete end → HoldsAllOf c ps r store
  complete end is = record {
    names = all.names;
    named = all.named;
    each = λ l.
        all.whole left l
        ∙ ap (λ qs. map pair_of (owed all.names qs)) (all_below s.log.choice (entries s.log.pieces) l s.log.placed (read-plain s.log None report.labels_are ends.1).all)
        ∙ ap (λ (choice : Choice). map pair_of (owed all.names (kept_points choice (entries s.log.pieces) l))) report.choice
        ∙ ap (λ (qs : List pieces.Piece). map pair_of (owed all.names (kept_points (choice_of c) (entries qs) l))) report.pieces_are;
  }
    where
      left : IsAbandoned r.outcome → ⊥
      left h = subst IsAbandoned is h

      all : IsHeld s r store
      all = of_all left

      ends : HasEndedAs s report.stopped.joined (Complete end)
      ends = subst (HasEndedAs s report.stopped.joined) is report.stopped.ends

  pub holds : Holds c report.shipping ps r store
  holds = record { placed = held r.outcome refl; complete = complete }
