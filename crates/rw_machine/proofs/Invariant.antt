-- What holds after every event, and that the small steps of a shard keep it.
use Rattle.std.proofs.Common.{◌≡◌, ℕ, ◌+◌, ◌%◌, ◌<◌, ◌≤◌, Bool, true, false, cond, List, [], ◌∷◌, ◌++◌, length, map, take, Option, Some, None, is_some, slice_get, refl, sym, ap, ◌∙◌, subst, ◌&&◌, not, arith, inl, inr, ◌⊎◌}
use Rattle.std.specs.List.{AllByRecursion, list_any}
use Rattle.rw_types.proofs.shared.AllLemmas.{AllByRecursion-weaker}
use Rattle.rw_machine.proofs.shared.Steps.{Each, each_change}
use Rattle.rw_machine.proofs.shared.Others.{pending_flush, pending_end, pending_take, pending_freeze, pending_lost}
use Rattle.rw_machine.proofs.shared.Places.{at_change, Numbered, length_change}
use Rattle.rw_plain_queue.specs.declared.item.Kind.TheVariants as kind
use Rattle.std.specs.FinMap.{get}
use Rattle.std.proofs.lemmas.Option.{same_Some}
use Rattle.rw_batch.specs.declared.batch.BatchId.{BatchId}
use Rattle.rw_head.specs.Order.{holds}
use Rattle.rw_head.specs.Store.{list_of}
use Rattle.rw_retry.specs.Judgements.{judgement_of}
use Rattle.rw_retry.specs.declared.judgement.Judgement.TheVariants.{Done, Refused}
use Rattle.rw_machine.proofs.shared.Views.{IsKept, Ledger, Store, is_let_in, of, owed_by, pairs, points, shard_again}
use Rattle.rw_machine.specs.Promises.{LoggedPoint, pair_of}
use Rattle.rw_machine.specs.Shards.{EndMark, FlushMark, One, Queued, Shard, has_room, pending_in_shard, shard_end, shard_flush, shard_freeze, shard_lost, shard_send, shard_take, take_front}
use Rattle.rw_machine.specs.Steps.{change, changed, flush_shard, shard_mark}
use Rattle.rw_machine.specs.Worlds.{Reply, Request, Setup, World, is_finished, log}
use Rattle.rw_shard_core.specs.Shard.{Core, again, awaits, batch_id, can_freeze, can_send, can_take, is_empty}
use Rattle.rw_series_cache.specs.Known.{Kept, known}
use Rattle.rw_series_cache.specs.Numbers.{number_of}
use Rattle.rw_plain_queue.specs.Items.{Placed}
use Rattle.rw_types.specs.LabelOrder.{labels_eq}
use Rattle.rw_types.specs.Labels.{Labels}
use Rattle.rw_types.proofs.shared.Booleans.{either}
use Rattle.rw_shard_core.proofs.shared.EmptyLemmas.{nil_from_empty}

abbrev pub as_points : List Placed → List LoggedPoint
as_points = map (λ (x : Placed). (x.place.pos, x.t, x.word))

abbrev pub waits : Option Shard → List Placed
waits None = []
waits (Some s) = pending_in_shard s

-- a series' shard
abbrev pub home : ℕ → List Labels → Labels → ℕ
home width series l = number_of series l % width

-- the id of a batch that begins with this number of a shard
abbrev pub id_at : ℕ → ℕ → ℕ → BatchId
id_at epoch i n = record { epoch = epoch; shard = i; seq = n }

-- an id that is resolved
abbrev pub Past : ℕ → List Shard → BatchId → Type 0
Past epoch shards id = (id.epoch < epoch) ⊎ ((id.epoch ≡ epoch) × ((s : Shard) → slice_get shards id.shard ≡ Some s → id.seq < length s.core.resolved))

-- a pending sample
pub record SampleOk (c : Setup) (epoch placed width : ℕ) (series : List Labels) (ledger : Ledger) (ident : ℕ → BatchId) (i n : ℕ) (x : Placed) : Type 0 where
  pub epoch_is : x.place.epoch ≡ epoch
  pub shard_is : x.place.shard ≡ i
  pub seq_is : x.place.seq ≡ n
  pub ident_is : ident x.place.pos ≡ id_at epoch i n
  pub below : x.place.pos < placed
  pub unnamed : ledger x.place.pos ≡ None
  pub kept : IsKept c x.labels
  pub member : list_any (labels_eq x.labels) series ≡ true
  pub home_is : home width series x.labels ≡ i

pub record ShardOk (c : Setup) (epoch placed width : ℕ) (series : List Labels) (ledger : Ledger) (ident : ℕ → BatchId) (i : ℕ) (s : Shard) : Type 0 where
  pub counted : length s.put ≡ length s.core.resolved + length (pending_in_shard s)
  pub numbered : Numbered (SampleOk c epoch placed width series ledger ident i) (length s.core.resolved) (pending_in_shard s)

-- what the head has of an open batch: nothing, or all of it
abbrev pub GotOk : Setup → Option Shard → List Placed → Type 0
GotOk c None got = got ≡ []
GotOk c (Some s) got = (got ≡ []) ⊎ ((got ≡ s.core.batch) × (is_let_in c s.core.batch ≡ true))

abbrev pub DoneOk : ℕ → List Shard → ℕ → (ℕ → BatchId) → LoggedPoint → Type 0
DoneOk epoch shards placed ident q = Past epoch shards (ident q.0) × (q.0 < placed)

abbrev pub IsOpen : Option Shard → List Placed → Type 0
IsOpen None batch = ⊥
IsOpen (Some s) batch = (s.core.batch ≡ batch) × (is_empty batch ≡ false)

abbrev pub InStore : Store → Placed → Type 0
InStore store x = holds (x.t, x.word) (store x.labels) ≡ true

pub record RequestOk (c : Setup) (epoch : ℕ) (shards : List Shard) (store : Store) (r : Request) : Type 0 where
  pub id_is : r.id ≡ batch_id r.batch
  pub kept : AllByRecursion (λ (x : Placed). IsKept c x.labels) r.batch
  pub fate : (Past epoch shards r.id × (is_let_in c r.batch ≡ true → AllByRecursion (InStore store) r.batch)) ⊎ ((r.id.epoch ≡ epoch) × IsOpen (slice_get shards r.id.shard) r.batch)

abbrev pub AnswersOpen : Setup → List Placed → Reply → Option Shard → Type 0
AnswersOpen c got a None = ⊥
AnswersOpen c got a (Some s) = (a.id ≡ batch_id s.core.batch) × (is_empty s.core.batch ≡ false) × (judgement_of a.status ≡ Done → got ≡ s.core.batch) × (judgement_of a.status ≡ Refused → is_let_in c s.core.batch ≡ false)

abbrev pub AnswerOk : Setup → ℕ → List Shard → (ℕ → List Placed) → Reply → Type 0
AnswerOk c epoch shards got a = Past epoch shards a.id ⊎ ((a.id.epoch ≡ epoch) × AnswersOpen c (got a.id.shard) a (slice_get shards a.id.shard))

pub record Inv (c : Setup) (w : World) : Type 0 where
  pub width : ℕ
  pub ident : ℕ → BatchId  -- each position's id, permanently
  pub done : Labels → List LoggedPoint  -- the resolved points of a series
  pub got : ℕ → List Placed  -- what the head has of each open batch
  pub limited : w.head.limits ≡ c.limits
  pub wide : length w.shards ≡ width
  pub placed_in : w.placed ≤ length (log w)
  pub series_in : (r : ℕ) (l : Labels) → known c.choice (take w.placed (log w)) r ≡ Kept l → list_any (labels_eq l) w.series ≡ true
  pub shards_ok : Each (ShardOk c w.epoch w.placed width w.series (get w.names) ident) w.shards
  pub got_ok : (i : ℕ) → GotOk c (slice_get w.shards i) (got i)
  pub mine : (l : Labels) → IsKept c l → points c l (take w.placed (log w)) ≡ done l ++ as_points (of l (waits (slice_get w.shards (home width w.series l))))
  pub stored : (l : Labels) → IsKept c l → list_of w.head.store l ≡ map pair_of (owed_by (get w.names) (done l)) ++ pairs (of l (got (home width w.series l)))
  pub done_ok : (l : Labels) → IsKept c l → AllByRecursion (DoneOk w.epoch w.shards w.placed ident) (done l)
  pub fresh : (p : ℕ) → w.placed ≤ p → get w.names p ≡ None
  pub requests_ok : AllByRecursion (RequestOk c w.epoch w.shards (list_of w.head.store)) w.requests
  pub answers_ok : AllByRecursion (AnswerOk c w.epoch w.shards got) w.replies

-- a step of a shard that resolves nothing
pub record IsQuiet (f : Shard → Shard) (s : Shard) : Type 0 where
  pub same_pending : pending_in_shard (f s) ≡ pending_in_shard s
  pub same_resolved : (f s).core.resolved ≡ s.core.resolved
  pub same_put : (f s).put ≡ s.put
  pub same_batch : is_empty s.core.batch ≡ false → (f s).core.batch ≡ s.core.batch

pub past_change : (epoch : ℕ) (j : ℕ) (f : Shard → Shard) (ss : List Shard) → ((s : Shard) → length s.core.resolved ≤ length (f s).core.resolved) → (id : BatchId) → Past epoch ss id → Past epoch (change j f ss) id
past_change epoch j f ss more id (inl h) = inl h
past_change epoch j f ss more id (inr h) = inr (
  h.0,
  at_change (λ o. (s : Shard) → o ≡ Some s → id.seq < length s.core.resolved) j id.shard f ss
      (λ s e k at t same. let here : id.seq < length s.core.resolved = at s refl in let le : length s.core.resolved ≤ length (f s).core.resolved = more s in subst (λ u. id.seq < length u.core.resolved) (same_Some _ _ same) (omega arith)) h.1,
)

pub by_bool : (P : Type 0) (b : Bool) → (b ≡ true → P) → (b ≡ false → P) → P
by_bool P true on off = on refl
by_bool P false on off = off refl

pub quiet : (c : Setup) (w : World) (j : ℕ) (f : Shard → Shard) → ((s : Shard) → IsQuiet f s) → Inv c w → Inv c (changed w j f)
quiet c w j f q at = record {
  width = at.width;
  ident = at.ident;
  done = at.done;
  got = at.got;
  limited = at.limited;
  wide = length_change j f w.shards ∙ at.wide;
  placed_in = at.placed_in;
  series_in = at.series_in;
  shards_ok = each_change (ShardOk c w.epoch w.placed at.width w.series (get w.names) at.ident) f j w.shards at.shards_ok (λ s _ ok. kept_ok s ok);
  got_ok = λ i. at_change (λ o. GotOk c o (at.got i)) j i f w.shards (λ s _ _ g. kept_got s (at.got i) g) (at.got_ok i);
  mine = λ l k. at_change (λ o. points c l (take w.placed (log w)) ≡ at.done l ++ as_points (of l (waits o))) j (home at.width w.series l) f w.shards (λ s _ _ h. subst (λ ps. points c l (take w.placed (log w)) ≡ at.done l ++ as_points (of l ps)) (sym ((q s).same_pending)) h) (at.mine l k);
  stored = at.stored;
  done_ok = λ l k. AllByRecursion-weaker (DoneOk w.epoch w.shards w.placed at.ident) (DoneOk w.epoch (change j f w.shards) w.placed at.ident) (λ p ok. (past (at.ident p.0) ok.0, ok.1)) (at.done l) (at.done_ok l k);
  fresh = at.fresh;
  requests_ok = AllByRecursion-weaker (RequestOk c w.epoch w.shards (list_of w.head.store)) (RequestOk c w.epoch (change j f w.shards) (list_of w.head.store)) (λ r ok. record { id_is = ok.id_is; kept = ok.kept; fate = kept_fate r ok.fate }) w.requests at.requests_ok;
  answers_ok = AllByRecursion-weaker (AnswerOk c w.epoch w.shards at.got) (AnswerOk c w.epoch (change j f w.shards) at.got) (λ a ok. kept_answer a ok) w.replies at.answers_ok;
}
  where
    past : (id : BatchId) → Past w.epoch w.shards id → Past w.epoch (change j f w.shards) id
    past id h = past_change w.epoch j f w.shards (λ s. let e : length (f s).core.resolved ≡ length s.core.resolved = ap length ((q s).same_resolved) in omega arith) id h

    kept_ok : {i : ℕ} (s : Shard) → ShardOk c w.epoch w.placed at.width w.series (get w.names) at.ident i s → ShardOk c w.epoch w.placed at.width w.series (get w.names) at.ident i (f s)
    kept_ok {i} s ok = record {
      counted = ap length ((q s).same_put) ∙ ok.counted ∙ (λ k. length (sym (q s).same_resolved k) + length (sym (q s).same_pending k));
      numbered = subst (λ (n : ℕ). Numbered (SampleOk c w.epoch w.placed at.width w.series (get w.names) at.ident i) n (pending_in_shard (f s))) (sym (ap length ((q s).same_resolved))) (subst (λ ps. Numbered (SampleOk c w.epoch w.placed at.width w.series (get w.names) at.ident i) (length s.core.resolved) ps) (sym ((q s).same_pending)) ok.numbered);
    }

    kept_got : (s : Shard) (got : List Placed) → GotOk c (Some s) got → GotOk c (Some (f s)) got
    kept_got s got (inl h) = inl h
    kept_got s got (inr h) = by_bool (GotOk c (Some (f s)) got) (is_empty s.core.batch)
        (λ e. inl (h.0 ∙ nil_from_empty s.core.batch e))
        (λ e. inr (h.0 ∙ sym ((q s).same_batch e), ap (is_let_in c) ((q s).same_batch e) ∙ h.1))

    kept_open : (i : ℕ) (batch : List Placed) → IsOpen (slice_get w.shards i) batch → IsOpen (slice_get (change j f w.shards) i) batch
    kept_open i batch h = at_change (λ o. IsOpen o batch) j i f w.shards (λ s _ _ k. ((q s).same_batch (ap is_empty k.0 ∙ k.1) ∙ k.0, k.1)) h

    kept_fate : (r : Request) → ((Past w.epoch w.shards r.id × (is_let_in c r.batch ≡ true → AllByRecursion (InStore (list_of w.head.store)) r.batch)) ⊎ ((r.id.epoch ≡ w.epoch) × IsOpen (slice_get w.shards r.id.shard) r.batch)) → ((Past w.epoch (change j f w.shards) r.id × (is_let_in c r.batch ≡ true → AllByRecursion (InStore (list_of w.head.store)) r.batch)) ⊎ ((r.id.epoch ≡ w.epoch) × IsOpen (slice_get (change j f w.shards) r.id.shard) r.batch))
    kept_fate r (inl h) = inl (past r.id h.0, h.1)
    kept_fate r (inr h) = inr (h.0, kept_open r.id.shard r.batch h.1)

    kept_answer : (a : Reply) → AnswerOk c w.epoch w.shards at.got a → AnswerOk c w.epoch (change j f w.shards) at.got a
    kept_answer a (inl h) = inl (past a.id h)
    kept_answer a (inr h) = inr (
      h.0,
      at_change (AnswersOpen c (at.got a.id.shard) a) j a.id.shard f w.shards
          (λ s _ _ k. let e = (q s).same_batch k.1 in (k.0 ∙ ap batch_id (sym e), ap is_empty e ∙ k.1, λ d. k.2 d ∙ sym e, λ d. ap (is_let_in c) e ∙ k.3 d)) h.1,
    )

-- what a step leaves alone
pub record Leaves (s t : Shard) : Type 0 where
  pub resolved : t.core.resolved ≡ s.core.resolved
  pub put : t.put ≡ s.put
  pub batch : t.core.batch ≡ s.core.batch

-- the quiet steps
pub quiet_send : (s : Shard) → IsQuiet shard_send s
quiet_send s = record {
  same_pending = either (λ d. pending_in_shard (record s { core = d }) ≡ pending_in_shard s) (can_send s.core) _ s.core (λ _. refl) (λ _. refl);
  same_resolved = either (λ d. d.resolved ≡ s.core.resolved) (can_send s.core) _ s.core (λ _. refl) (λ _. refl);
  same_put = refl;
  same_batch = λ _. either (λ d. d.batch ≡ s.core.batch) (can_send s.core) _ s.core (λ _. refl) (λ _. refl);
}

pub quiet_again : (s : Shard) → IsQuiet shard_again s
quiet_again s = record { same_pending = refl; same_resolved = refl; same_put = refl; same_batch = λ _. refl }

pub quiet_lost : (s : Shard) → IsQuiet shard_lost s
quiet_lost s = record {
  same_pending = pending_lost s;
  same_resolved = either (λ d. d.resolved ≡ s.core.resolved) (awaits s.core) (again s.core) s.core (λ _. refl) (λ _. refl);
  same_put = refl;
  same_batch = λ _. either (λ d. d.batch ≡ s.core.batch) (awaits s.core) (again s.core) s.core (λ _. refl) (λ _. refl);
}

front_leaves : (q : List Queued) (s : Shard) → Leaves s (take_front q s)
front_leaves [] s = record { resolved = refl; put = refl; batch = refl }
front_leaves (One x ∷ is) s = record { resolved = refl; put = refl; batch = refl }
front_leaves (FlushMark ∷ is) s = record { resolved = refl; put = refl; batch = refl }
front_leaves (EndMark k ∷ is) s = record { resolved = refl; put = refl; batch = refl }

pub quiet_take : (s : Shard) → IsQuiet shard_take s
quiet_take s =
    let left : Leaves s (shard_take s) = either (Leaves s) (can_take s.core) (take_front s.queue s) s (λ _. front_leaves s.queue s) (λ _. record { resolved = refl; put = refl; batch = refl }) in
    record { same_pending = pending_take s; same_resolved = left.resolved; same_put = left.put; same_batch = λ _. left.batch }

no_freeze : (c : Core) → is_empty c.batch ≡ false → can_freeze c ≡ true → ⊥
no_freeze c full h = never c.killed (is_empty c.builder) (sym (ap (λ b. not c.killed && (b && not (is_empty c.builder))) full) ∙ h)
  where
    never : (k e : Bool) → (not k && (false && not e)) ≡ true → ⊥
    never true e h = let no : false ≡ true → ⊥ = λ z. cc in no h
    never false e h = let no : false ≡ true → ⊥ = λ z. cc in no h

pub quiet_freeze : (s : Shard) → IsQuiet shard_freeze s
quiet_freeze s = record {
  same_pending = pending_freeze s;
  same_resolved = either (λ d. d.resolved ≡ s.core.resolved) (can_freeze s.core) _ s.core (λ _. refl) (λ _. refl);
  same_put = refl;
  same_batch = λ full. either (λ d. d.batch ≡ s.core.batch) (can_freeze s.core) _ s.core (λ h. absurd (no_freeze s.core full h)) (λ _. refl);
}

pub quiet_flush : (c : Setup) (w : World) (s : Shard) → IsQuiet (flush_shard c w) s
quiet_flush c w s = by_guard (not s.end_put && has_room c.capacity s)
  where
    by_mark : (b d : Bool) → Leaves s (cond b (shard_end kind.Orderly s) (cond d (shard_end kind.Reshard s) (shard_flush s)))
    by_mark true d = record { resolved = refl; put = refl; batch = refl }
    by_mark false true = record { resolved = refl; put = refl; batch = refl }
    by_mark false false = record { resolved = refl; put = refl; batch = refl }

    pend : (b d : Bool) → pending_in_shard (cond b (shard_end kind.Orderly s) (cond d (shard_end kind.Reshard s) (shard_flush s))) ≡ pending_in_shard s
    pend true d = pending_end kind.Orderly s
    pend false true = pending_end kind.Reshard s
    pend false false = pending_flush s

    left : (b : Bool) → Leaves s (cond b (shard_mark w s) s)
    left true = by_mark (is_finished w) (is_some w.draining)
    left false = record { resolved = refl; put = refl; batch = refl }

    pends : (b : Bool) → pending_in_shard (cond b (shard_mark w s) s) ≡ pending_in_shard s
    pends true = pend (is_finished w) (is_some w.draining)
    pends false = refl

    by_guard : (b : Bool) → IsQuiet (flush_shard c w) s
    by_guard b = let g : Bool = not s.end_put && has_room c.capacity s in record { same_pending = pends g; same_resolved = (left g).resolved; same_put = (left g).put; same_batch = λ _. (left g).batch }
