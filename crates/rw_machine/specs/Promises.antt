-- What every schedule keeps, said of the log, the rules, the named samples and the store.
use Rattle.std.specs.Prelude.{◌≡◌, ◌⊎◌, ◌&&◌, if◌then◌else◌, ℕ, ◌<◌, ◌≤◌, ℤ, Bool, true, false, List, [], ◌∷◌, ◌++◌, length, take, map, filter, Option, Some, None, is_none, slice_get}
use Rattle.std.specs.Ordering.{nat_cmp}
use Rattle.std.specs.FinMap.{FinMap, get}
use Rattle.rw_types.specs.Beginnings.{Begins}
use Rattle.rw_types.specs.Rising.{Rises}
use Rattle.rw_types.specs.Labels.{Labels, label_fault_number}
use Rattle.rw_types.specs.declared.entry.Entry.{Entry}
use Rattle.rw_types.specs.declared.entry.Entry.TheVariants.{Def, Sample}
use Rattle.rw_wal_format.specs.Pieces.{fault}
use Rattle.rw_wal_format.specs.declared.tail_fault.TailFault.{TailFault}
use Rattle.rw_series_cache.specs.Known.{Standing, Unknown, Bad, Filtered, Kept, known}
use Rattle.rw_series_cache.specs.Points.{kept_points, kept_points_below}
use Rattle.rw_series_cache.specs.Rising.{rises}
use Rattle.rw_ledger.specs.declared.ledger.Reason.{Reason}
use Rattle.rw_ledger.specs.declared.ledger.Reason.TheVariants.{Status, BadLabels, NoSeries, NotRising}
use Rattle.rw_retry.specs.Judgements.{judgement_of}
use Rattle.rw_retry.specs.declared.judgement.Judgement.{Judgement}
use Rattle.rw_retry.specs.declared.judgement.Judgement.TheVariants.{Done, Again, Refused}
use Rattle.rw_shard_core.specs.Shard.{is_answer, positions, body_of}
use Rattle.rw_shard_core.specs.SentRequest.{request_of}
use Rattle.rw_head.specs.Lists.{IsEarlier}
use Rattle.rw_head.specs.Order.{holds}
use Rattle.rw_head.specs.Store.{list_of}
use Rattle.rw_machine.specs.Shards.{Shard, samples_waiting}
use Rattle.rw_machine.specs.Worlds.{Setup, Request, Reply, World, log, start, up_to, is_pending, is_over, report, ended_as}
use Rattle.rw_shard_core.specs.Endings.{Ending, Complete, Damaged}
use Rattle.rw_machine.specs.Steps.{happens, run}
use Rattle.rw_machine.specs.Settling.{settle_world, settle_events}
use Rattle.rw_machine.specs.declared.event.Event.{Event}
use Rattle.rw_machine.specs.declared.event.Event.TheVariants as event

-- a sample of a series in the log: its position, timestamp and word
abbrev pub LoggedPoint : Type 0
LoggedPoint = ℕ × ℤ × ℕ

-- what a store holds of a sample
abbrev pub pair_of : LoggedPoint → ℤ × ℕ
pair_of p = (p.1, p.2)

-- those that are not named
abbrev pub owed : FinMap nat_cmp Reason → List LoggedPoint → List LoggedPoint
owed names ps = filter (λ (p : LoggedPoint). is_none (get names p.0)) ps

-- the head holds a prefix of the label set's logged samples, less the named ones. Of a label set
-- that the rules do not keep none are logged samples: there it holds nothing
abbrev pub HoldsBeginning : Setup → World → Labels → Type 0
HoldsBeginning c w l = Begins (list_of w.head.store l) (map pair_of (owed w.names (kept_points c.choice (log w) l)))

-- the samples of a label set below a position, less the named ones
abbrev pub owed_below : Setup → World → ℕ → Labels → List LoggedPoint
owed_below c w end l = owed w.names (kept_points_below c.choice (log w) l end)

-- the head holds a prefix of them
abbrev pub HoldsBeginningBelow : Setup → World → ℕ → Labels → Type 0
HoldsBeginningBelow c w end l = Begins (list_of w.head.store l) (map pair_of (owed_below c w end l))

-- it holds all of them below a position
abbrev pub HoldsAll : Setup → World → ℕ → Labels → Type 0
HoldsAll c w end l = list_of w.head.store l ≡ map pair_of (owed_below c w end l)

-- whatever the schedule and the timestamps: each series in order, each sample once, less the
-- dropped ones
abbrev pub IsInOrder : Setup → World → Type 0
IsInOrder c w = (l : Labels) → HoldsBeginning c w l

-- no sample arrives before it is placed
abbrev pub IsOfPlaced : Setup → World → Type 0
IsOfPlaced c w = (l : Labels) → HoldsBeginningBelow c w w.placed l

-- what is owed of the placed samples of a label set rises strictly in time, so no timestamp is in
-- it twice
abbrev pub OwedRises : Setup → World → Type 0
OwedRises c w = (l : Labels) → Rises IsEarlier (map pair_of (owed_below c w w.placed l))

-- and all of it up to the position asked for, once complete
abbrev pub IsWhole : Setup → World → Type 0
IsWhole c w = (end : ℕ) → report w ≡ Some (Complete end) → (l : Labels) → HoldsAll c w end l

-- as if the log was found damaged after what was placed
abbrev pub IsWholeBeforeDamage : Setup → World → Type 0
IsWholeBeforeDamage c w = (f : TailFault) → report w ≡ Some (Damaged f) → (l : Labels) → HoldsAll c w w.placed l

-- a label set that the rules do not keep holds nothing
abbrev pub HoldsNothingElse : Setup → World → Type 0
HoldsNothingElse c w = (l : Labels) → kept_points c.choice (log w) l ≡ [] → list_of w.head.store l ≡ []

-- a queue whose End was taken returns nothing, nor does any after a kill
abbrev pub IsClosedForGood : Setup → World → Type 0
IsClosedForGood c w = (i : ℕ) (s : Shard) → slice_get w.shards i ≡ Some s → (s.core.ended ≡ true) ⊎ (w.killed ≡ true) → happens c w (event.Take i) ≡ w

-- how a sample of a kept series is accounted for, by whether it is later than those before it
abbrev pub AccountedKept : Option Reason → Bool → Type 0
AccountedKept named true = (named ≡ None) ⊎ ((status : ℕ) × (named ≡ Some (Status status)))
AccountedKept named false = named ≡ Some NotRising

-- how a sample below `placed` is accounted for, by what is known of its reference there, and
-- whether it rises in a series
abbrev pub Accounted : Option Reason → (Labels → Bool) → Standing → Type 0
Accounted named rising Unknown = named ≡ Some NoSeries
Accounted named rising (Bad f) = named ≡ Some (BadLabels (label_fault_number f))
Accounted named rising Filtered = named ≡ None
Accounted named rising (Kept l) = AccountedKept named (rising l)

abbrev pub AccountedEntry : Setup → World → ℕ → Option Entry → Type 0
AccountedEntry c w p None = get w.names p ≡ None
AccountedEntry c w p (Some (Def r l)) = get w.names p ≡ None
AccountedEntry c w p (Some (Sample r t word)) =
    Accounted (get w.names p) (λ l. rises c.choice (take p (log w)) l t) (known c.choice (take p (log w)) r)

-- each position below `placed` is in one class, and no other is named
abbrev pub HasOneClassEach : Setup → World → Type 0
HasOneClassEach c w = (p : ℕ) → (p < w.placed → AccountedEntry c w p (slice_get (log w) p)) × ((p < w.placed → ⊥) → get w.names p ≡ None)

-- at this position is a sample of a series that the rules drop
abbrev pub is_filtered : Standing → Bool
is_filtered Unknown = false
is_filtered (Bad f) = false
is_filtered Filtered = true
is_filtered (Kept l) = false

abbrev pub is_filtered_entry : Setup → List Entry → ℕ → Option Entry → Bool
is_filtered_entry c entries p None = false
is_filtered_entry c entries p (Some (Def r l)) = false
is_filtered_entry c entries p (Some (Sample r t word)) = is_filtered (known c.choice (take p entries) r)

abbrev pub is_filtered_at : Setup → List Entry → ℕ → Bool
is_filtered_at c entries p = is_filtered_entry c entries p (slice_get entries p)

-- the count is of those below `placed`
abbrev pub CountsFiltered : Setup → World → Type 0
CountsFiltered c w = w.filtered ≡ length (filter (is_filtered_at c (log w)) (up_to w.placed))

-- one id, one batch: what is sent again under an id is what was sent first
abbrev pub HasOneBatchEachId : World → Type 0
HasOneBatchEachId w = (i j : ℕ) (r q : Request) → slice_get w.requests i ≡ Some r → slice_get w.requests j ≡ Some q → r.id ≡ q.id → r.batch ≡ q.batch

-- the bytes of each request are those that carry its batch to the target (RFC 9112)
abbrev pub CarriesItsBatch : Setup → Request → Type 0
CarriesItsBatch c r = r.bytes ≡ request_of c.target.host c.target.path (body_of r.batch)

abbrev pub CarriesEachBatch : Setup → World → Type 0
CarriesEachBatch c w = (k : ℕ) (r : Request) → slice_get w.requests k ≡ Some r → CarriesItsBatch c r

-- and under one id the same bytes are sent each time
abbrev pub SendsSameBytes : World → Type 0
SendsSameBytes w = (i j : ℕ) (r q : Request) → slice_get w.requests i ≡ Some r → slice_get w.requests j ≡ Some q → r.id ≡ q.id → r.bytes ≡ q.bytes

-- no batch is both taken and refused permanently, in whatever order: two replies to one id never
-- say so
abbrev pub NeverTakesAndRefuses : Setup → World → Type 0
NeverTakesAndRefuses c w =
    (i j : ℕ) (a b : Reply) → slice_get w.replies i ≡ Some a → slice_get w.replies j ≡ Some b → a.id ≡ b.id →
    judgement_of a.status ≡ Done → judgement_of b.status ≡ Refused → ⊥

-- a placed sample of a kept series that no shard holds any more, and that is not named, is in the
-- store
abbrev pub StoresResolved : Setup → World → Type 0
StoresResolved c w =
    (p r : ℕ) (t : ℤ) (word : ℕ) (l : Labels) → p < w.placed → slice_get (log w) p ≡ Some (Sample r t word) →
    known c.choice (take p (log w)) r ≡ Kept l → is_pending w p ≡ false → get w.names p ≡ None → holds (t, word) (list_of w.head.store l) ≡ true

-- a shard's lists: what was put is what was taken and what the queue holds; what was taken is what
-- was resolved, the open batch and the builder; and the queue is within its capacity
abbrev pub HasShardLists : Setup → World → Type 0
HasShardLists c w =
    (i : ℕ) (s : Shard) → slice_get w.shards i ≡ Some s →
    (s.put ≡ s.core.taken ++ samples_waiting s.queue) × (s.core.taken ≡ s.core.resolved ++ (s.core.batch ++ s.core.builder))
    × (length s.queue ≤ c.capacity)

abbrev pub is_refused : Judgement → Bool
is_refused Done = false
is_refused Again = false
is_refused Refused = true

-- the positions that a reply refuses, with its status
abbrev pub refused_positions : Reply → Option Shard → List (ℕ × ℕ)
refused_positions a None = []
refused_positions a (Some s) = if is_answer a.id s.core && is_refused (judgement_of a.status) then map (λ p. (p, a.status)) (positions s.core.batch) else []

abbrev pub refusal_by : World → Option Reply → List (ℕ × ℕ)
refusal_by w None = []
refusal_by w (Some a) = refused_positions a (slice_get w.shards a.id.shard)

abbrev pub refused_in : World → Event → Bool → List (ℕ × ℕ)
refused_in w (event.Reply k) false = refusal_by w (slice_get w.replies k)
refused_in w e over = []

-- all that a schedule refuses
abbrev pub refusals : Setup → List Event → World → List (ℕ × ℕ)
refusals c [] w = []
refusals c (e ∷ es) w = refused_in w e (is_over w) ++ refusals c es (happens c w e)

abbrev pub Stands : ℕ × ℕ → List (ℕ × ℕ) → Type 0
Stands q xs = (k : ℕ) × (slice_get xs k ≡ Some q)

-- a status is named of a position exactly if it is among what was refused
abbrev pub NamesExactly : FinMap nat_cmp Reason → List (ℕ × ℕ) → Type 0
NamesExactly names refused =
    (p s : ℕ) → (get names p ≡ Some (Status s) → Stands (p, s) refused) × (Stands (p, s) refused → get names p ≡ Some (Status s))

-- that is, if a reply with that status refused a batch with it
abbrev pub NamesRefusals : Setup → List Event → Type 0
NamesRefusals c events = NamesExactly (run c events (start c)).names (refusals c events (start c))

-- room for an entry, batches of a sample, and a shard
pub record CanWork (c : Setup) : Type 0 where
  pub capacity : 1 ≤ c.capacity
  pub batch : 1 ≤ c.batch
  pub shards : 1 ≤ c.shards

-- what `settle_world` leaves: a report; if nothing was killed, that everything is resolved or that
-- the log was damaged, and the head holds all of it
pub record IsSettled (c : Setup) (w v : World) : Type 0 where
  pub reports : (e : Ending) × (report v ≡ Some e)
  pub same_log : log v ≡ log w
  pub ending : w.killed ≡ false → report v ≡ Some (ended_as (fault w.pieces) (length (log w)))
  pub holds : w.killed ≡ false → (l : Labels) → HoldsAll c v (length (log w)) l

-- enough rounds of `settle_world` come to a report, and more rounds add no event
abbrev pub SettleEnds : Setup → World → Type 0
SettleEnds c w = (enough : ℕ) × ((n : ℕ) → enough ≤ n → IsSettled c w (settle_world c n w) × (settle_events c n w ≡ settle_events c enough w))
