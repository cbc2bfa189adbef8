-- Each round of `settle` leaves less work.
use Rattle.std.proofs.Common.{◌≡◌, ℕ, suc, ◌+◌, ◌-◌, ◌*◌, ◌<◌, ◌≤◌, Bool, true, false, cond, List, [], ◌∷◌, ◌++◌, length, map, take, Option, Some, None, Result, Ok, Err, is_some, slice_get, refl, sym, ap, ◌∙◌, subst, ℤ, ◌||◌, ◌&&◌, not, nat_lt, length-append, arith, inl, inr, ◌⊎◌}
use Rattle.std.specs.List.{AllByRecursion, list_any}
use Rattle.std.proofs.lemmas.Bool.{ltb-true, true≢false, not-true, cond-false, cond-true, and_parts, and_from}
use Rattle.rw_types.proofs.shared.AllLemmas.{AllByRecursion-left}
use Rattle.rw_machine.proofs.shared.Places.{get_below}
use Rattle.rw_machine.proofs.Live.{HasId, Going}
use Rattle.rw_machine.proofs.Measure.{builder_work, batch_work, end_work, shard_work, shards_work, drain_work, work, work_change}
use Rattle.rw_machine.specs.declared.event.Event.TheVariants as event
use Rattle.rw_plain_queue.specs.declared.item.Kind.{Kind}
use Rattle.rw_plain_queue.specs.declared.item.Kind.TheVariants as kind
use Rattle.rw_batch.specs.declared.batch.BatchId.{BatchId}
use Rattle.rw_retry.specs.Judgements.{judgement_of}
use Rattle.rw_retry.specs.declared.judgement.Judgement.{Judgement}
use Rattle.rw_retry.specs.declared.judgement.Judgement.TheVariants.{Again, Done, Refused}
use Rattle.rw_machine.proofs.shared.Resolves.{same_id_is}
use Rattle.rw_machine.proofs.shared.Views.{shard_again, shard_resolve}
use Rattle.rw_head.specs.Head.{Answer, State, answer_to, status_of}
use Rattle.rw_head.specs.Head as head
use Rattle.rw_head.specs.Order.{Point, points, accept}
use Rattle.rw_head.specs.Store.{Store, list_of}
use Rattle.rw_head.specs.Verdicts.{LabelLimits, accepted, judged, refusal, taken, taken_all, taken_unless}
use Rattle.rw_head.specs.Verdicts as verdicts
use Rattle.rw_machine.proofs.Heads.{RefusedForGood, refused_for_good}
use Rattle.rw_head.specs.declared.verdict.Verdict.{Verdict}
use Rattle.rw_batch.specs.Grouping.{message}
use Rattle.rw_write_request.specs.Message.{TimeSeries, WriteRequest}
use Rattle.rw_series_cache.specs.Fates.{kept_fate}
use Rattle.rw_machine.specs.Settling.{can_place, can_place_as, can_place_entry, can_place_known, newest_from, room_at}
use Rattle.rw_machine.specs.Shards.{EndMark, FlushMark, One, Queued, Shard, has_room, samples_waiting, shard_end, shard_flush, shard_freeze, shard_put, shard_send, shard_take, take_front, with_core}
use Rattle.rw_machine.specs.Steps.{act, with_answer, arrive, change, changed, endpoint_answer, flush_shard, happens, shard_mark, next_sample, place, place_entry, place_kept, place_sample, put_if_room, reply_to, request_by, run, send_batch, settled, shard_of_labels, take_reply, unless_over}
use Rattle.rw_machine.specs.Worlds.{Reply, Request, Setup, World, is_finished, is_over, log}
use Rattle.rw_machine.specs.declared.event.Event.{Event}
use Rattle.rw_machine.specs.declared.event.How.TheVariants.{Plain}
use Rattle.rw_shard_core.specs.Shard.{Core, awaits, batch_id, body_of, can_freeze, can_send, can_take, is_answer, is_empty, labelled, same_id, settle}
use Rattle.rw_shard_core.proofs.shared.StepGuards.{same_id-self}
use Rattle.rw_series_cache.specs.Known.{Bad, Filtered, Kept, Standing, Unknown, known}
use Rattle.rw_series_cache.specs.Rising.{rises}
use Rattle.rw_plain_queue.specs.Items.{Placed}
use Rattle.rw_types.specs.Labels.{Labels}
use Rattle.rw_types.specs.declared.entry.Entry.{Entry}
use Rattle.rw_types.specs.declared.entry.Entry.TheVariants.{Def, Sample}
use Rattle.rw_types.proofs.shared.Booleans.{either}

no_shard : {P : Type 0} {s : Shard} → None ≡ Some s → P
no_shard e = cc

-- what settling leaves
pub record Same (w v : World) : Type 0 where
  pub killed : v.killed ≡ w.killed
  pub pieces : v.pieces ≡ w.pieces
  pub closed : v.closed ≡ w.closed

pub record Round (w v : World) : Type 0 where
  pub lower : work v < work w
  pub same : Same w v

pub acts : (c : Setup) (w : World) (e : Event) → is_over w ≡ false → happens c w e ≡ act c w e
acts c w (event.Feed piece) h = ap (unless_over c w (event.Feed piece)) h
acts c w event.Place h = ap (unless_over c w event.Place) h
acts c w (event.Flush i) h = ap (unless_over c w (event.Flush i)) h
acts c w (event.Take i) h = ap (unless_over c w (event.Take i)) h
acts c w (event.Freeze i) h = ap (unless_over c w (event.Freeze i)) h
acts c w (event.Send i) h = ap (unless_over c w (event.Send i)) h
acts c w (event.Arrive k how) h = refl
acts c w (event.Reply k) h = ap (unless_over c w (event.Reply k)) h
acts c w (event.Lost i) h = ap (unless_over c w (event.Lost i)) h
acts c w (event.Reshard n) h = ap (unless_over c w (event.Reshard n)) h
acts c w event.Restart h = ap (unless_over c w event.Restart) h
acts c w event.Close h = ap (unless_over c w event.Close) h
acts c w event.Kill h = ap (unless_over c w event.Kill) h

pub single : (c : Setup) (w : World) (e : Event) → is_over w ≡ false → Round w (act c w e) → Round w (run c (e ∷ []) w)
single c w e over r = subst (Round w) (sym (acts c w e over)) r

-- sums
shard_less : (e s t d b u v : ℕ) → t + u ≡ s + v → v < u → e + t + d + b < e + s + d + b
shard_less e s t d b u v h lt = omega arith

entry_less : (m n s d b : ℕ) → n < m → 5 * (m - suc n) + s + d + b < 5 * (m - n) + s + d + b
entry_less m n s d b lt = omega arith

put_less : (m n s t d b u v : ℕ) → n < m → t + u ≡ s + v → v ≡ u + 4 → 5 * (m - suc n) + t + d + b < 5 * (m - n) + s + d + b
put_less m n s t d b u v lt h e = omega arith

-- a step of one shard that leaves less of it
pub shard_round : (w : World) (i : ℕ) (f : Shard → Shard) (s : Shard) → slice_get w.shards i ≡ Some s → shard_work (f s) < shard_work s → Round w (changed w i f)
shard_round w i f s e lt = record {
  lower = shard_less (5 * (length (log w) - w.placed)) (shards_work w.shards) (shards_work (change i f w.shards)) (drain_work w.draining) (2 * w.head.busy) (shard_work s) (shard_work (f s)) (work_change i f w.shards s e) lt;
  same = record { killed = refl; pieces = refl; closed = refl };
}

-- event.Place
pub place_round : (c : Setup) (w : World) → can_place c w ≡ true → Round w (place c w)
place_round c w can = subst (Round w) (sym (cond-false (is_some w.draining) w (place_entry c w (slice_get (log w) w.placed)) (not-true (is_some w.draining) (and_parts (not (is_some w.draining)) (can_place_entry c w (slice_get (log w) w.placed)) can).0))) (by_entry (slice_get (log w) w.placed) refl (and_parts (not (is_some w.draining)) (can_place_entry c w (slice_get (log w) w.placed)) can).1)
  where
    left : (x : Entry) → slice_get (log w) w.placed ≡ Some x → 5 * (length (log w) - suc w.placed) + shards_work w.shards + drain_work w.draining + 2 * w.head.busy < work w
    left x e = entry_less (length (log w)) w.placed (shards_work w.shards) (drain_work w.draining) (2 * w.head.busy) (get_below (log w) w.placed x e)

    by_shard : (x : Entry) → slice_get (log w) w.placed ≡ Some x → (l : Labels) (t : ℤ) (word i : ℕ) (o : Option Shard) → slice_get w.shards i ≡ o → room_at c o ≡ true → Round w (put_if_room c w i l t word o)
    by_shard x e l t word i None at_i room = absurd (true≢false (sym room))
    by_shard x e l t word i (Some s) at_i room = subst (Round w) (sym (cond-true (has_room c.capacity s) (record w { shards = change i (shard_put (next_sample w i l t word s)) w.shards; placed = suc w.placed }) w room)) (record {
      lower = put_less (length (log w)) w.placed (shards_work w.shards) (shards_work (change i (shard_put (next_sample w i l t word s)) w.shards)) (drain_work w.draining) (2 * w.head.busy) (shard_work s) (shard_work (shard_put (next_sample w i l t word s) s)) (get_below (log w) w.placed x e) (work_change i (shard_put (next_sample w i l t word s)) w.shards s at_i) (let long : length (s.queue ++ One (next_sample w i l t word s) ∷ []) ≡ length s.queue + 1 = length-append s.queue (One (next_sample w i l t word s) ∷ []) in omega arith);
      same = record { killed = refl; pieces = refl; closed = refl };
    })

    by_rising : (x : Entry) → slice_get (log w) w.placed ≡ Some x → (l : Labels) (t : ℤ) (word : ℕ) (b : Bool) → can_place_as c w (kept_fate b l) ≡ true → Round w (place_kept c w l t word b)
    by_rising x e l t word true h = by_shard x e l t word (shard_of_labels w l) (slice_get w.shards (shard_of_labels w l)) refl h
    by_rising x e l t word false h = record { lower = left x e; same = record { killed = refl; pieces = refl; closed = refl } }

    by_known : (x : Entry) → slice_get (log w) w.placed ≡ Some x → (t : ℤ) (word : ℕ) (k : Standing) → can_place_known c w t k ≡ true → Round w (place_sample c w t word k)
    by_known x e t word Unknown h = record { lower = left x e; same = record { killed = refl; pieces = refl; closed = refl } }
    by_known x e t word (Bad f) h = record { lower = left x e; same = record { killed = refl; pieces = refl; closed = refl } }
    by_known x e t word Filtered h = record { lower = left x e; same = record { killed = refl; pieces = refl; closed = refl } }
    by_known x e t word (Kept l) h = by_rising x e l t word (rises c.choice (take w.placed (log w)) l t) h

    by_entry : (o : Option Entry) → slice_get (log w) w.placed ≡ o → can_place_entry c w o ≡ true → Round w (place_entry c w o)
    by_entry None e h = absurd (true≢false (sym h))
    by_entry (Some (Def r m)) e h = record { lower = left (Def r m) e; same = record { killed = refl; pieces = refl; closed = refl } }
    by_entry (Some (Sample r t word)) e h = by_known (Sample r t word) e t word (known c.choice (take w.placed (log w)) r) h

-- event.Freeze, event.Take, event.Flush
empty_batch : (b : List Placed) (v : Bool) → is_empty b ≡ true → batch_work b v ≡ 0
empty_batch [] v h = refl
empty_batch (x ∷ b) v h = absurd (true≢false (sym h))

most_batch : (b : List Placed) (v : Bool) → batch_work b v ≤ 2
most_batch [] v = omega arith
most_batch (x ∷ b) true = omega arith
most_batch (x ∷ b) false = omega arith

full_builder : (b : List Placed) → is_empty b ≡ false → builder_work b ≡ 3
full_builder [] h = absurd (true≢false h)
full_builder (x ∷ b) h = refl

most_builder : (b : List Placed) → builder_work b ≤ 3
most_builder [] = omega arith
most_builder (x ∷ b) = omega arith

pub frozen_less : (s : Shard) → s.core.killed ≡ false → is_empty s.core.batch ≡ true → is_empty s.core.builder ≡ false → shard_work (shard_freeze s) < shard_work s
frozen_less s alive e f =
    let t : Shard = record s { core = record s.core { builder = []; marked = false; batch = s.core.builder; waiting = false } } in
    let is : shard_freeze s ≡ t = ap (λ (k : Core). record s { core = k }) (cond-true (can_freeze s.core) _ s.core (and_from (not s.core.killed) (is_empty s.core.batch && not (is_empty s.core.builder)) (ap not alive) (and_from (is_empty s.core.batch) (not (is_empty s.core.builder)) e (ap not f)))) in
    let a : batch_work s.core.batch s.core.waiting ≡ 0 = empty_batch s.core.batch s.core.waiting e in
    let b : builder_work s.core.builder ≡ 3 = full_builder s.core.builder f in
    let d : batch_work s.core.builder false ≤ 2 = most_batch s.core.builder false in
    let lt : shard_work t < shard_work s = omega arith in
    subst (λ t. shard_work t < shard_work s) (sym is) lt

pub taken_less : (s : Shard) → can_take s.core ≡ true → is_empty s.queue ≡ false → shard_work (shard_take s) < shard_work s
taken_less s can some = subst (λ t. shard_work t < shard_work s) (sym (cond-true (can_take s.core) (take_front s.queue s) s can)) (by_queue s.queue refl some)
  where
    less : (q b d m e n : ℕ) → q ≡ suc n → d ≤ b + 3 → 4 * n + d + m + e < 4 * q + b + m + e
    less q b d m e n h le = omega arith

    by_queue : (q : List Queued) → s.queue ≡ q → is_empty q ≡ false → shard_work (take_front q s) < shard_work s
    by_queue [] e h = absurd (true≢false h)
    by_queue (One x ∷ q) e h = less (length s.queue) (builder_work s.core.builder) (builder_work (s.core.builder ++ x ∷ [])) (batch_work s.core.batch s.core.waiting) (end_work s.end_put) (length q) (ap length e) (let le : builder_work (s.core.builder ++ x ∷ []) ≤ 3 = most_builder (s.core.builder ++ x ∷ []) in omega arith)
    by_queue (FlushMark ∷ q) e h = less (length s.queue) (builder_work s.core.builder) (builder_work s.core.builder) (batch_work s.core.batch s.core.waiting) (end_work s.end_put) (length q) (ap length e) (omega arith)
    by_queue (EndMark k ∷ q) e h = less (length s.queue) (builder_work s.core.builder) (builder_work s.core.builder) (batch_work s.core.batch s.core.waiting) (end_work s.end_put) (length q) (ap length e) (omega arith)

ended_less : (k : Kind) (s : Shard) → s.end_put ≡ false → shard_work (shard_end k s) < shard_work s
ended_less k s h =
    let long : length (s.queue ++ EndMark k ∷ []) ≡ length s.queue + 1 = length-append s.queue (EndMark k ∷ []) in
    let e : end_work s.end_put ≡ 5 = ap end_work h in
    omega arith

or_cases : (a b : Bool) → (a || b) ≡ true → (a ≡ true) ⊎ ((a ≡ false) × (b ≡ true))
or_cases true b h = inl refl
or_cases false b h = inr (refl, h)

pub flush_less : (c : Setup) (w : World) (s : Shard) → (is_finished w || is_some w.draining) ≡ true → s.end_put ≡ false → has_room c.capacity s ≡ true → shard_work (flush_shard c w s) < shard_work s
flush_less c w s ending unput room = subst (λ t. shard_work t < shard_work s) (sym (cond-true (not s.end_put && has_room c.capacity s) (shard_mark w s) s (and_from (not s.end_put) (has_room c.capacity s) (ap not unput) room))) (by_case (or_cases (is_finished w) (is_some w.draining) ending))
  where
    by_case : (is_finished w ≡ true) ⊎ ((is_finished w ≡ false) × (is_some w.draining ≡ true)) → shard_work (shard_mark w s) < shard_work s
    by_case (inl f) = subst (λ t. shard_work t < shard_work s) (sym (cond-true (is_finished w) (shard_end kind.Orderly s) (cond (is_some w.draining) (shard_end kind.Reshard s) (shard_flush s)) f)) (ended_less kind.Orderly s unput)
    by_case (inr h) = subst (λ t. shard_work t < shard_work s) (sym (cond-false (is_finished w) (shard_end kind.Orderly s) (cond (is_some w.draining) (shard_end kind.Reshard s) (shard_flush s)) h.0 ∙ cond-true (is_some w.draining) (shard_end kind.Reshard s) (shard_flush s) h.1)) (ended_less kind.Reshard s unput)

-- event.Send
sent_less : (b : List Placed) → is_empty b ≡ false → batch_work b true < batch_work b false
sent_less [] h = absurd (true≢false h)
sent_less (x ∷ b) h = omega arith

pub send_round : (w : World) (i : ℕ) (s : Shard) → slice_get w.shards i ≡ Some s → s.core.killed ≡ false → is_empty s.core.batch ≡ false → s.core.waiting ≡ false → Round w (send_batch w i (slice_get w.shards i))
send_round w i s e alive full still =
    let can : can_send s.core ≡ true = and_from (not s.core.killed) (not (is_empty s.core.batch) && not s.core.waiting) (ap not alive) (and_from (not (is_empty s.core.batch)) (not s.core.waiting) (ap not full) (ap not still)) in
    let is : send_batch w i (slice_get w.shards i) ≡ record w { requests = w.requests ++ request_by s ∷ []; shards = change i shard_send w.shards } = ap (send_batch w i) e ∙ cond-true (can_send s.core) _ w can in
    let t : Shard = record s { core = record s.core { waiting = true } } in
    let sent : shard_send s ≡ t = ap (λ (k : Core). record s { core = k }) (cond-true (can_send s.core) _ s.core can) in
    let was : batch_work s.core.batch s.core.waiting ≡ batch_work s.core.batch false = ap (batch_work s.core.batch) still in
    let lt : batch_work s.core.batch true < batch_work s.core.batch false = sent_less s.core.batch full in
    let less : shard_work t < shard_work s = omega arith in
    subst (Round w) (sym is) (record {
      lower = shard_less (5 * (length (log w) - w.placed)) (shards_work w.shards) (shards_work (change i shard_send w.shards)) (drain_work w.draining) (2 * w.head.busy) (shard_work s) (shard_work (shard_send s)) (work_change i shard_send w.shards s e) (subst (λ t. shard_work t < shard_work s) (sym sent) less);
      same = record { killed = refl; pieces = refl; closed = refl };
    })

-- the newest request with an id
abbrev Newest : BatchId → ℕ → List Request → ℕ → ℕ → Type 0
Newest id k rs found n = ((list_any (λ (r : Request). same_id id r.id) rs ≡ false) × (n ≡ found)) ⊎ ((j : ℕ) × (r : Request) × (n ≡ k + j) × (slice_get rs j ≡ Some r) × (same_id id r.id ≡ true))

newest : (id : BatchId) (k : ℕ) (rs : List Request) (found : ℕ) → Newest id k rs found (newest_from id k rs found)
newest id k [] found = inl (refl, refl)
newest id k (r ∷ rs) found = by_rest (newest id (suc k) rs (cond (same_id id r.id) k found))
  where
    by_test : (b : Bool) → same_id id r.id ≡ b → list_any (λ (r : Request). same_id id r.id) rs ≡ false → newest_from id (suc k) rs (cond (same_id id r.id) k found) ≡ cond b k found → Newest id k (r ∷ rs) found (newest_from id (suc k) rs (cond (same_id id r.id) k found))
    by_test true e none is = inr (0, r, is ∙ (let z : k ≡ k + 0 = omega arith in z), refl, e)
    by_test false e none is = inl (ap (λ (b : Bool). b || list_any (λ (r : Request). same_id id r.id) rs) e ∙ none, is)

    by_rest : Newest id (suc k) rs (cond (same_id id r.id) k found) (newest_from id (suc k) rs (cond (same_id id r.id) k found)) → Newest id k (r ∷ rs) found (newest_from id (suc k) rs (cond (same_id id r.id) k found))
    by_rest (inl h) = by_test (same_id id r.id) refl h.0 h.1
    by_rest (inr h) = inr (suc h.0, h.1, h.2 ∙ (let z : suc k + h.0 ≡ k + suc h.0 = omega arith in z), h.3, h.4)

newest_stands : (id : BatchId) (rs : List Request) → HasId rs id → (r : Request) × (slice_get rs (newest_from id 0 rs 0) ≡ Some r) × (same_id id r.id ≡ true)
newest_stands id rs has = by_case (newest id 0 rs 0)
  where
    by_case : Newest id 0 rs 0 (newest_from id 0 rs 0) → (r : Request) × (slice_get rs (newest_from id 0 rs 0) ≡ Some r) × (same_id id r.id ≡ true)
    by_case (inl h) = absurd (true≢false (sym has ∙ h.0))
    by_case (inr h) = (h.1, ap (slice_get rs) (h.2 ∙ (let z : 0 + h.0 ≡ h.0 = omega arith in z)) ∙ h.3, h.4)

-- an answer lowers the busy count if it says busy, and leaves it elsewhere
pub record Calm (h : State) (a : Answer) : Type 0 where
  most : a.head.busy ≤ h.busy
  again : judgement_of a.status ≡ Again → a.head.busy < h.busy

-- a message that is judged is taken, or refused permanently
abbrev ForGood : Result Store Verdict → Type 0
ForGood (Ok store) = Unit {0}
ForGood (Err v) = status_of v ≡ 400

taken_for_good : (limits : LabelLimits) (store : Store) (s : TimeSeries) → ForGood (taken limits store s)
taken_for_good limits store s = by_refusal (refusal limits s.labels) (refused_for_good limits s.labels)
  where
    by_samples : (o : Option (List Point)) → ForGood (accepted s.labels store o)
    by_samples None = refl
    by_samples (Some xs) = tt

    by_refusal : (o : Option Verdict) → RefusedForGood o → ForGood (taken_unless o store s)
    by_refusal None h = by_samples (accept (Some (list_of store s.labels)) (points s.samples))
    by_refusal (Some v) h = h

all_for_good : (limits : LabelLimits) (r : Result Store Verdict) (m : WriteRequest) → ForGood r → ForGood (taken_all limits r m)
all_for_good limits r [] h = h
all_for_good limits (Ok store) (s ∷ ss) h = all_for_good limits (taken limits store s) ss (taken_for_good limits store s)
all_for_good limits (Err v) (s ∷ ss) h = all_for_good limits (Err v) ss h

answer_calm : (c : Setup) (h : State) (batch : List Placed) → Calm h (endpoint_answer c h batch)
answer_calm c h batch =
    either (Calm h) (nat_lt c.max_body (length (body_of batch))) (record { status = 413; head = h }) (answer_to h (Ok m))
    (λ _. record { most = omega arith; again = λ d. refused d })
    (λ _. either (Calm h) (nat_lt 0 h.busy) (record { status = 429; head = record h { busy = h.busy - 1 } }) (head.answered h (verdicts.apply h.limits h.store m))
    (λ b. let lt : 0 < h.busy = ltb-true 0 h.busy b in record { most = omega arith; again = λ _. omega arith })
    (λ _. by_result (taken_all h.limits (Ok h.store) m) (all_for_good h.limits (Ok h.store) m tt)))
  where
    m : WriteRequest
    m = message (map labelled batch)

    refused : {P : Type 0} → Refused ≡ Again → P
    refused e = cc

    done : {P : Type 0} → Done ≡ Again → P
    done e = cc

    by_result : (r : Result Store Verdict) → ForGood r → Calm h (head.answered h (judged h.store r))
    by_result (Ok store) z = record { most = omega arith; again = λ d. done d }
    by_result (Err v) z = record { most = omega arith; again = λ d. refused (sym (ap judgement_of z) ∙ d) }

waiting_work : (b : List Placed) → is_empty b ≡ false → batch_work b true ≡ 1
waiting_work [] h = absurd (true≢false h)
waiting_work (x ∷ b) h = refl

resolved_less : (e s t d b a u v : ℕ) → t + u ≡ s + v → v < u → a ≤ b → e + t + d + 2 * a < e + s + d + 2 * b
resolved_less e s t d b a u v h lt le = omega arith

busy_less : (e s t d b a u v : ℕ) → t + u ≡ s + v → v ≤ u + 1 → a < b → e + t + d + 2 * a < e + s + d + 2 * b
busy_less e s t d b a u v h le lt = omega arith

get_last : (xs : List Reply) (a : Reply) → slice_get (xs ++ a ∷ []) (length xs) ≡ Some a
get_last [] a = refl
get_last (x ∷ xs) a = get_last xs a

abbrev Lower : World → ℕ → Answer → Judgement → Type 0
Lower w i a d = 5 * (length (log w) - w.placed) + shards_work (change i (with_core (settle d)) w.shards) + drain_work w.draining + 2 * a.head.busy < work w

-- an open batch that waits: its newest request arrives, and its answer is read
pub exchange_round : (c : Setup) (w : World) (i : ℕ) (s : Shard) → slice_get w.shards i ≡ Some s → is_over w ≡ false → Going c w.requests i s → is_empty s.core.batch ≡ false → s.core.waiting ≡ true → Round w (run c (event.Arrive (newest_from (batch_id s.core.batch) 0 w.requests 0) Plain ∷ event.Reply (length w.replies) ∷ []) w)
exchange_round c w i s e over g full waits =
    subst (λ (v : World). Round w (happens c v (event.Reply (length w.replies)))) (sym arrived) (subst (Round w) (sym (acts c u (event.Reply (length w.replies)) over)) (subst (Round w) (sym replied) (record {
      lower = by_judgement (judgement_of verdict.status) calm.again;
      same = record { killed = refl; pieces = refl; closed = refl };
    })))
  where
    found : (r : Request) × (slice_get w.requests (newest_from (batch_id s.core.batch) 0 w.requests 0) ≡ Some r) × (same_id (batch_id s.core.batch) r.id ≡ true)
    found = newest_stands (batch_id s.core.batch) w.requests (g.sent full waits)

    r : Request
    r = found.0

    id_is : r.id ≡ batch_id s.core.batch
    id_is = sym (same_id_is (batch_id s.core.batch) r.id found.2)

    verdict : Answer
    verdict = endpoint_answer c w.head r.batch

    u : World
    u = with_answer w r.id verdict

    arrived : happens c w (event.Arrive (newest_from (batch_id s.core.batch) 0 w.requests 0) Plain) ≡ u
    arrived = ap (arrive c w Plain) found.1

    a : Reply
    a = record { id = r.id; status = verdict.status }

    shard_is : (b : List Placed) → is_empty b ≡ false → AllByRecursion (λ (x : Placed). x.place.shard ≡ i) b → (batch_id b).shard ≡ i
    shard_is [] h all = absurd (true≢false h)
    shard_is (x ∷ b) h all = all.0

    at_i : r.id.shard ≡ i
    at_i = ap (λ (d : BatchId). d.shard) id_is ∙ shard_is s.core.batch full (AllByRecursion-left (λ (x : Placed). x.place.shard ≡ i) s.core.batch s.core.builder (AllByRecursion-left (λ (x : Placed). x.place.shard ≡ i) (s.core.batch ++ s.core.builder) (samples_waiting s.queue) g.mine))

    here : slice_get w.shards r.id.shard ≡ Some s
    here = ap (slice_get w.shards) at_i ∙ e

    guard : is_answer r.id s.core ≡ true
    guard = and_from (awaits s.core) (same_id r.id (batch_id s.core.batch)) (and_from (not s.core.killed) (not (is_empty s.core.batch) && s.core.waiting) (ap not g.alive) (and_from (not (is_empty s.core.batch)) s.core.waiting (ap not full) waits)) (ap (λ (d : BatchId). same_id d (batch_id s.core.batch)) id_is ∙ same_id-self (batch_id s.core.batch))

    replied : take_reply u (slice_get u.replies (length w.replies)) ≡ settled u r.id.shard s verdict.status
    replied = ap (take_reply u) (get_last w.replies a) ∙ ap (reply_to u a) here ∙ cond-true (is_answer r.id s.core) (settled u r.id.shard s verdict.status) u guard

    calm : Calm w.head verdict
    calm = answer_calm c w.head r.batch

    was : batch_work s.core.batch s.core.waiting ≡ 1
    was = ap (batch_work s.core.batch) waits ∙ waiting_work s.core.batch full

    resolved : shard_work (shard_resolve s) < shard_work s
    resolved = let h : batch_work s.core.batch s.core.waiting ≡ 1 = was in omega arith

    freed : shard_work (shard_again s) ≤ shard_work s + 1
    freed = let h : batch_work s.core.batch s.core.waiting ≡ 1 = was in let le : batch_work s.core.batch false ≤ 2 = most_batch s.core.batch false in omega arith

    done : Lower w r.id.shard verdict Done
    done = resolved_less (5 * (length (log w) - w.placed)) (shards_work w.shards) (shards_work (change r.id.shard shard_resolve w.shards)) (drain_work w.draining) w.head.busy verdict.head.busy (shard_work s) (shard_work (shard_resolve s)) (work_change r.id.shard shard_resolve w.shards s here) resolved calm.most

    by_judgement : (d : Judgement) → (d ≡ Again → verdict.head.busy < w.head.busy) → Lower w r.id.shard verdict d
    by_judgement Done d = done
    by_judgement Refused d = done
    by_judgement Again d = busy_less (5 * (length (log w) - w.placed)) (shards_work w.shards) (shards_work (change r.id.shard shard_again w.shards)) (drain_work w.draining) w.head.busy verdict.head.busy (shard_work s) (shard_work (shard_again s)) (work_change r.id.shard shard_again w.shards s here) freed (d refl)
