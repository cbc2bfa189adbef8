-- What holds after every event, whatever the timestamps: what `settle` needs to come to a report.
use Rattle.std.proofs.Common.{◌≡◌, ℕ, suc, ◌+◌, ◌<◌, ◌≤◌, Bool, true, false, cond, List, [], ◌∷◌, ◌++◌, length, take, Option, Some, None, is_some, slice_get, refl, sym, ap, ◌∙◌, subst, ℤ, ◌||◌, ◌&&◌, not, nat_le, length-append, arith}
use Rattle.std.specs.List.{AllByRecursion, list_any}
use Rattle.std.proofs.lemmas.Bool.{leb-true, true≢false, not-true, and_parts}
use Rattle.std.proofs.lemmas.Option.{same_Some}
use Rattle.rw_types.proofs.shared.AllLemmas.{AllByRecursion-append, AllByRecursion-left, AllByRecursion-right}
use Rattle.rw_machine.proofs.shared.Steps.{always, Each, each_change, each_new}
use Rattle.rw_machine.proofs.shared.Others.{pending_put, pending_freeze, entries_grow}
use Rattle.rw_machine.proofs.shared.Places.{get_below, length_change}
use Rattle.rw_machine.proofs.Invariant.{quiet_take, quiet_flush}
use Rattle.rw_machine.proofs.shared.Resolves.{length_new}
use Rattle.rw_machine.proofs.Closed.{Ends, ends_act, ends_at, Shape, ShapeOf}
use Rattle.rw_machine.specs.declared.event.Event.TheVariants as event
use Rattle.rw_plain_queue.specs.declared.item.Kind.TheVariants as kind
use Rattle.rw_batch.specs.declared.batch.BatchId.{BatchId}
use Rattle.rw_wal_tail.specs.Fed.{piece_of}
use Rattle.rw_wal_tail.specs.declared.piece.Piece.{Piece}
use Rattle.rw_retry.specs.Judgements.{judgement_of}
use Rattle.rw_retry.specs.declared.judgement.Judgement.{Judgement}
use Rattle.rw_retry.specs.declared.judgement.Judgement.TheVariants.{Again, Done, Refused}
use Rattle.rw_machine.proofs.shared.Views.{shard_again, shard_resolve}
use Rattle.rw_machine.specs.Shards.{EndMark, FlushMark, One, Queued, Shard, has_room, new_shard, pending_in_shard, samples_waiting, shard_end, shard_flush, shard_freeze, shard_lost, shard_put, shard_send, shard_take, take_front, with_core}
use Rattle.rw_machine.specs.Steps.{act, arrive, change, changed, flush_shard, shard_mark, next_sample, place, place_entry, place_kept, place_sample, put_if_room, reply_to, request_by, restart_as, run, send_batch, settled, shard_of_labels, take_reply}
use Rattle.rw_machine.specs.Worlds.{Reply, Request, Setup, World, is_finished, log, new_shards, start}
use Rattle.rw_machine.specs.declared.event.Event.{Event}
use Rattle.rw_machine.specs.declared.event.How.{How}
use Rattle.rw_machine.specs.declared.event.How.TheVariants.{Busy, Plain, OutOfMemory}
use Rattle.rw_shard_core.specs.Shard.{Core, again, awaits, batch_id, can_freeze, can_send, can_take, is_empty, new_core, same_id, settle}
use Rattle.rw_series_cache.specs.Known.{Bad, Filtered, Kept, Standing, Unknown, known}
use Rattle.rw_series_cache.specs.Rising.{rises}
use Rattle.rw_plain_queue.specs.Items.{Placed}
use Rattle.rw_types.specs.Labels.{Labels}
use Rattle.rw_types.specs.declared.entry.Entry.{Entry}
use Rattle.rw_types.specs.declared.entry.Entry.TheVariants.{Def, Sample}
use Rattle.rw_types.proofs.shared.Booleans.{either}
use Rattle.rw_shard_core.proofs.shared.EmptyLemmas.{is_empty-push}
use Rattle.rw_shard_core.proofs.shared.StepGuards.{same_id-self}

-- a request with the id was sent
abbrev pub HasId : List Request → BatchId → Type 0
HasId requests id = list_any (λ (r : Request). same_id id r.id) requests ≡ true

has_more : (requests : List Request) (r : Request) (id : BatchId) → HasId requests id → HasId (requests ++ r ∷ []) id
has_more [] r id h = absurd (true≢false (sym h))
has_more (q ∷ qs) r id h = by_test (same_id id q.id) h (has_more qs r id)
  where
    by_test : (b : Bool) → (b || list_any (λ (r : Request). same_id id r.id) qs) ≡ true → (list_any (λ (r : Request). same_id id r.id) qs ≡ true → list_any (λ (r : Request). same_id id r.id) (qs ++ r ∷ []) ≡ true) → (b || list_any (λ (r : Request). same_id id r.id) (qs ++ r ∷ [])) ≡ true
    by_test true h more = refl
    by_test false h more = more h

has_own : (requests : List Request) (r : Request) → HasId (requests ++ r ∷ []) r.id
has_own [] r = ap (λ b. b || false) (same_id-self r.id)
has_own (q ∷ qs) r = by_test (same_id r.id q.id) (has_own qs r)
  where
    by_test : (b : Bool) → list_any (λ (p : Request). same_id r.id p.id) (qs ++ r ∷ []) ≡ true → (b || list_any (λ (p : Request). same_id r.id p.id) (qs ++ r ∷ [])) ≡ true
    by_test true h = refl
    by_test false h = h

-- a shard that nothing has stopped
pub record Going (c : Setup) (requests : List Request) (i : ℕ) (s : Shard) : Type 0 where
  pub alive : s.core.killed ≡ false
  pub full_is : s.core.full ≡ c.batch
  pub counted : length s.put ≡ length s.core.resolved + length (pending_in_shard s)
  pub mine : AllByRecursion (λ (x : Placed). x.place.shard ≡ i) (pending_in_shard s)
  pub held : s.core.marked ≡ true → is_empty s.core.builder ≡ false
  pub closes : s.core.ended ≡ true → is_empty s.core.builder ≡ false → s.core.marked ≡ true
  pub sent : is_empty s.core.batch ≡ false → s.core.waiting ≡ true → HasId requests (batch_id s.core.batch)

pub record Live (c : Setup) (w : World) : Type 0 where
  pub ends : Ends w
  pub placed_in : w.placed ≤ length (log w)
  pub wide : 1 ≤ length w.shards
  pub drains : (n : ℕ) → w.draining ≡ Some n → 1 ≤ n
  pub going : Each (Going c w.requests) w.shards

new_going : (c : Setup) (requests : List Request) (epoch n i : ℕ) → Going c requests i (new_shard (new_core c.target epoch n c.batch))
new_going c requests epoch n i = record { alive = refl; full_is = refl; counted = refl; mine = tt; held = λ e. absurd (true≢false (sym e)); closes = λ e _. absurd (true≢false (sym e)); sent = λ e _. absurd (true≢false e) }

more_going : (c : Setup) (requests : List Request) (r : Request) (i : ℕ) (s : Shard) → Going c requests i s → Going c (requests ++ r ∷ []) i s
more_going c requests r i s g = record { alive = g.alive; full_is = g.full_is; counted = g.counted; mine = g.mine; held = g.held; closes = g.closes; sent = λ x y. has_more requests r (batch_id s.core.batch) (g.sent x y) }

put_going : (c : Setup) (requests : List Request) (i : ℕ) (x : Placed) (s : Shard) → x.place.shard ≡ i → Going c requests i s → Going c requests i (shard_put x s)
put_going c requests i x s own g = record {
  alive = g.alive;
  full_is = g.full_is;
  counted = (let a : length (s.put ++ x ∷ []) ≡ length s.put + 1 = length-append s.put (x ∷ []) in let b : length (pending_in_shard (shard_put x s)) ≡ length (pending_in_shard s) + 1 = ap length (pending_put x s) ∙ length-append (pending_in_shard s) (x ∷ []) in let d : length s.put ≡ length s.core.resolved + length (pending_in_shard s) = g.counted in omega arith);
  mine = subst (AllByRecursion (λ (y : Placed). y.place.shard ≡ i)) (sym (pending_put x s)) (AllByRecursion-append (λ (y : Placed). y.place.shard ≡ i) (pending_in_shard s) (x ∷ []) g.mine (own, tt));
  held = g.held;
  closes = g.closes;
  sent = g.sent;
}

-- a step that leaves what is pending
record Leaves (s t : Shard) : Type 0 where
  same_pending : pending_in_shard t ≡ pending_in_shard s
  same_resolved : t.core.resolved ≡ s.core.resolved
  same_put : t.put ≡ s.put

left_counted : (s t : Shard) → Leaves s t → length s.put ≡ length s.core.resolved + length (pending_in_shard s) → length t.put ≡ length t.core.resolved + length (pending_in_shard t)
left_counted s t q e = ap length q.same_put ∙ e ∙ (λ k. length (sym q.same_resolved k) + length (sym q.same_pending k))

left_mine : (i : ℕ) (s t : Shard) → Leaves s t → AllByRecursion (λ (x : Placed). x.place.shard ≡ i) (pending_in_shard s) → AllByRecursion (λ (x : Placed). x.place.shard ≡ i) (pending_in_shard t)
left_mine i s t q h = subst (AllByRecursion (λ (x : Placed). x.place.shard ≡ i)) (sym q.same_pending) h

flush_core : (c : Setup) (w : World) (s : Shard) → (flush_shard c w s).core ≡ s.core
flush_core c w s = by_guard (not s.end_put && has_room c.capacity s)
  where
    by_mark : (b d : Bool) → (cond b (shard_end kind.Orderly s) (cond d (shard_end kind.Reshard s) (shard_flush s))).core ≡ s.core
    by_mark true d = refl
    by_mark false true = refl
    by_mark false false = refl

    by_guard : (b : Bool) → (cond b (shard_mark w s) s).core ≡ s.core
    by_guard true = by_mark (is_finished w) (is_some w.draining)
    by_guard false = refl

flush_going : (c : Setup) (w : World) (requests : List Request) (i : ℕ) (s : Shard) → Going c requests i s → Going c requests i (flush_shard c w s)
flush_going c w requests i s g =
    let q = quiet_flush c w s in
    let l : Leaves s (flush_shard c w s) = record { same_pending = q.same_pending; same_resolved = q.same_resolved; same_put = q.same_put } in
    let r = flush_core c w s in
    record {
      alive = ap (λ (k : Core). k.killed) r ∙ g.alive;
      full_is = ap (λ (k : Core). k.full) r ∙ g.full_is;
      counted = left_counted s (flush_shard c w s) l g.counted;
      mine = left_mine i s (flush_shard c w s) l g.mine;
      held = subst (λ (k : Core). k.marked ≡ true → is_empty k.builder ≡ false) (sym r) g.held;
      closes = subst (λ (k : Core). k.ended ≡ true → is_empty k.builder ≡ false → k.marked ≡ true) (sym r) g.closes;
      sent = subst (λ (k : Core). is_empty k.batch ≡ false → k.waiting ≡ true → HasId requests (batch_id k.batch)) (sym r) g.sent;
    }

-- taking the front
record Fronted (s t : Shard) : Type 0 where
  killed : t.core.killed ≡ s.core.killed
  full : t.core.full ≡ s.core.full
  held : t.core.marked ≡ true → is_empty t.core.builder ≡ false
  closes : t.core.ended ≡ true → is_empty t.core.builder ≡ false → t.core.marked ≡ true
  batch : t.core.batch ≡ s.core.batch
  waiting : t.core.waiting ≡ s.core.waiting

take_fronted : (s : Shard) → ShapeOf s → (s.core.marked ≡ true → is_empty s.core.builder ≡ false) → (s.core.ended ≡ true → is_empty s.core.builder ≡ false → s.core.marked ≡ true) → Fronted s (shard_take s)
take_fronted s shape held closes = either (Fronted s) (can_take s.core) (take_front s.queue s) s (λ _. by_queue s.queue s.end_put s.core.ended refl refl refl shape) (λ _. same)
  where
    same : Fronted s s
    same = record { killed = refl; full = refl; held = held; closes = closes; batch = refl; waiting = refl }

    no_item : (i : Queued) (is : List Queued) → i ∷ is ≡ [] → ⊥
    no_item i is h = let never : i ∷ is ≡ [] → ⊥ = λ h. cc in never h

    unended : (i : Queued) (is : List Queued) (b e : Bool) → s.core.ended ≡ e → Shape b e (i ∷ is) → s.core.ended ≡ false
    unended i is b false z h = z
    unended i is true true z h = absurd (no_item i is h)
    unended i is false true z h = absurd h

    by_queue : (q : List Queued) (b e : Bool) → s.queue ≡ q → s.end_put ≡ b → s.core.ended ≡ e → Shape b e q → Fronted s (take_front q s)
    by_queue [] b e x y z h = same
    by_queue (One p ∷ q) b e x y z h = record { killed = refl; full = refl; held = λ _. is_empty-push s.core.builder p; closes = λ k _. absurd (true≢false (sym k ∙ unended (One p) q b e z h)); batch = refl; waiting = refl }
    by_queue (FlushMark ∷ q) b e x y z h = record { killed = refl; full = refl; held = λ k. not-true (is_empty s.core.builder) k; closes = λ _ k. ap not k; batch = refl; waiting = refl }
    by_queue (EndMark d ∷ q) b e x y z h = record { killed = refl; full = refl; held = λ k. not-true (is_empty s.core.builder) k; closes = λ _ k. ap not k; batch = refl; waiting = refl }

take_going : (c : Setup) (requests : List Request) (i : ℕ) (s : Shard) → ShapeOf s → Going c requests i s → Going c requests i (shard_take s)
take_going c requests i s shape g =
    let q = quiet_take s in
    let l : Leaves s (shard_take s) = record { same_pending = q.same_pending; same_resolved = q.same_resolved; same_put = q.same_put } in
    let r = take_fronted s shape g.held g.closes in
    record {
      alive = r.killed ∙ g.alive;
      full_is = r.full ∙ g.full_is;
      counted = left_counted s (shard_take s) l g.counted;
      mine = left_mine i s (shard_take s) l g.mine;
      held = r.held;
      closes = r.closes;
      sent = λ h k. subst (λ b. HasId requests (batch_id b)) (sym r.batch) (g.sent (sym (ap is_empty r.batch) ∙ h) (sym r.waiting ∙ k));
    }

freeze_going : (c : Setup) (requests : List Request) (i : ℕ) (s : Shard) → Going c requests i s → Going c requests i (shard_freeze s)
freeze_going c requests i s g = either (λ (k : Core). pending_in_shard (record s { core = k }) ≡ pending_in_shard s → Going c requests i (record s { core = k })) (can_freeze s.core) (record s.core { builder = []; marked = false; batch = s.core.builder; waiting = false }) s.core (λ _ same. frozen same) (λ _ _. g) (pending_freeze s)
  where
    t : Shard
    t = record s { core = record s.core { builder = []; marked = false; batch = s.core.builder; waiting = false } }

    frozen : pending_in_shard t ≡ pending_in_shard s → Going c requests i t
    frozen same = record {
      alive = g.alive;
      full_is = g.full_is;
      counted = g.counted ∙ ap (λ ps. length s.core.resolved + length ps) (sym same);
      mine = subst (AllByRecursion (λ (x : Placed). x.place.shard ≡ i)) (sym same) g.mine;
      held = λ e. absurd (true≢false (sym e));
      closes = λ _ e. absurd (true≢false e);
      sent = λ _ e. absurd (true≢false (sym e));
    }

again_going : (c : Setup) (requests : List Request) (i : ℕ) (s : Shard) → Going c requests i s → Going c requests i (shard_again s)
again_going c requests i s g = record { alive = g.alive; full_is = g.full_is; counted = g.counted; mine = g.mine; held = g.held; closes = g.closes; sent = λ _ e. absurd (true≢false (sym e)) }

lost_going : (c : Setup) (requests : List Request) (i : ℕ) (s : Shard) → Going c requests i s → Going c requests i (shard_lost s)
lost_going c requests i s g = either (λ (k : Core). Going c requests i (record s { core = k })) (awaits s.core) (again s.core) s.core (λ _. again_going c requests i s g) (λ _. g)

send_going : (c : Setup) (requests : List Request) (i : ℕ) (s : Shard) → HasId requests (batch_id s.core.batch) → Going c requests i s → Going c requests i (shard_send s)
send_going c requests i s has g = either (λ (k : Core). Going c requests i (record s { core = k })) (can_send s.core) (record s.core { waiting = true }) s.core (λ _. record { alive = g.alive; full_is = g.full_is; counted = g.counted; mine = g.mine; held = g.held; closes = g.closes; sent = λ _ _. has }) (λ _. g)

resolve_going : (c : Setup) (requests : List Request) (i : ℕ) (s : Shard) → Going c requests i s → Going c requests i (shard_resolve s)
resolve_going c requests i s g = record {
  alive = g.alive;
  full_is = g.full_is;
  counted = (let a : length (s.core.resolved ++ s.core.batch) ≡ length s.core.resolved + length s.core.batch = length-append s.core.resolved s.core.batch in let b : length (pending_in_shard s) ≡ length (s.core.batch ++ s.core.builder) + length (samples_waiting s.queue) = length-append (s.core.batch ++ s.core.builder) (samples_waiting s.queue) in let e : length (s.core.batch ++ s.core.builder) ≡ length s.core.batch + length s.core.builder = length-append s.core.batch s.core.builder in let f : length (s.core.builder ++ samples_waiting s.queue) ≡ length s.core.builder + length (samples_waiting s.queue) = length-append s.core.builder (samples_waiting s.queue) in let d : length s.put ≡ length s.core.resolved + length (pending_in_shard s) = g.counted in omega arith);
  mine = AllByRecursion-append mine s.core.builder (samples_waiting s.queue) (AllByRecursion-right mine s.core.batch s.core.builder (AllByRecursion-left mine (s.core.batch ++ s.core.builder) (samples_waiting s.queue) g.mine)) (AllByRecursion-right mine (s.core.batch ++ s.core.builder) (samples_waiting s.queue) g.mine);
  held = g.held;
  closes = g.closes;
  sent = λ e _. absurd (true≢false e);
}
  where
    mine : Placed → Type 0
    mine x = x.place.shard ≡ i

settle_going : (c : Setup) (requests : List Request) (i : ℕ) (d : Judgement) (s : Shard) → Going c requests i s → Going c requests i (with_core (settle d) s)
settle_going c requests i Done s g = resolve_going c requests i s g
settle_going c requests i Refused s g = resolve_going c requests i s g
settle_going c requests i Again s g = again_going c requests i s g

-- a step of one shard
shard_live : (c : Setup) (w : World) (j : ℕ) (f : Shard → Shard) → Ends (changed w j f) → ((s : Shard) → slice_get w.shards j ≡ Some s → Going c w.requests j s → Going c w.requests j (f s)) → Live c w → Live c (changed w j f)
shard_live c w j f ends step at = record {
  ends = ends;
  placed_in = at.placed_in;
  wide = (let e : length (change j f w.shards) ≡ length w.shards = length_change j f w.shards in let le : 1 ≤ length w.shards = at.wide in omega arith);
  drains = at.drains;
  going = each_change (Going c w.requests) f j w.shards at.going step;
}

abbrev LiveIf : Setup → World → Type 0
LiveIf c w = Ends w → Live c w

place_live : (c : Setup) (w : World) → Live c w → LiveIf c (place c w)
place_live c w at = either (LiveIf c) (is_some w.draining) w (place_entry c w (slice_get (log w) w.placed)) (λ _ _. at) (λ _. by_entry (slice_get (log w) w.placed) refl)
  where
    moved : (x : Entry) → slice_get (log w) w.placed ≡ Some x → suc w.placed ≤ length (log w)
    moved x e = let lt : w.placed < length (log w) = get_below (log w) w.placed x e in omega arith

    by_shard : (x : Entry) → slice_get (log w) w.placed ≡ Some x → (l : Labels) (t : ℤ) (word i : ℕ) (o : Option Shard) → LiveIf c (put_if_room c w i l t word o)
    by_shard x e l t word i None = λ ends. at
    by_shard x e l t word i (Some s) = either (LiveIf c) (has_room c.capacity s) (record w { shards = change i (shard_put (next_sample w i l t word s)) w.shards; placed = suc w.placed }) w
        (λ _ ends. record {
          ends = ends;
          placed_in = moved x e;
          wide = (let e : length (change i (shard_put (next_sample w i l t word s)) w.shards) ≡ length w.shards = length_change i (shard_put (next_sample w i l t word s)) w.shards in let le : 1 ≤ length w.shards = at.wide in omega arith);
          drains = at.drains;
          going = each_change (Going c w.requests) (shard_put (next_sample w i l t word s)) i w.shards at.going (λ u _ g. put_going c w.requests i (next_sample w i l t word s) u refl g);
        })
        (λ _ _. at)

    by_rising : (x : Entry) → slice_get (log w) w.placed ≡ Some x → (l : Labels) (t : ℤ) (word : ℕ) (b : Bool) → LiveIf c (place_kept c w l t word b)
    by_rising x e l t word true = by_shard x e l t word (shard_of_labels w l) (slice_get w.shards (shard_of_labels w l))
    by_rising x e l t word false = λ ends. record { ends = ends; placed_in = moved x e; wide = at.wide; drains = at.drains; going = at.going }

    by_known : (x : Entry) → slice_get (log w) w.placed ≡ Some x → (t : ℤ) (word : ℕ) (k : Standing) → LiveIf c (place_sample c w t word k)
    by_known x e t word Unknown = λ ends. record { ends = ends; placed_in = moved x e; wide = at.wide; drains = at.drains; going = at.going }
    by_known x e t word (Bad f) = λ ends. record { ends = ends; placed_in = moved x e; wide = at.wide; drains = at.drains; going = at.going }
    by_known x e t word Filtered = λ ends. record { ends = ends; placed_in = moved x e; wide = at.wide; drains = at.drains; going = at.going }
    by_known x e t word (Kept l) = by_rising x e l t word (rises c.choice (take w.placed (log w)) l t)

    by_entry : (o : Option Entry) → slice_get (log w) w.placed ≡ o → LiveIf c (place_entry c w o)
    by_entry None e = λ ends. at
    by_entry (Some (Def r m)) e = λ ends. record { ends = ends; placed_in = moved (Def r m) e; wide = at.wide; drains = at.drains; going = at.going }
    by_entry (Some (Sample r t word)) e = by_known (Sample r t word) e t word (known c.choice (take w.placed (log w)) r)

send_live : (c : Setup) (w : World) (i : ℕ) (o : Option Shard) → slice_get w.shards i ≡ o → Live c w → LiveIf c (send_batch w i o)
send_live c w i None e at = λ ends. at
send_live c w i (Some s) e at = either (LiveIf c) (can_send s.core) (record w { requests = w.requests ++ r ∷ []; shards = change i shard_send w.shards }) w
    (λ _ ends. record {
      ends = ends;
      placed_in = at.placed_in;
      wide = (let e : length (change i shard_send w.shards) ≡ length w.shards = length_change i shard_send w.shards in let le : 1 ≤ length w.shards = at.wide in omega arith);
      drains = at.drains;
      going = each_change (Going c (w.requests ++ r ∷ [])) shard_send i w.shards (λ j u at_j. more_going c w.requests r j u (at.going j u at_j)) (λ u at_u g. let same : s ≡ u = same_Some _ _ (sym e ∙ at_u) in send_going c (w.requests ++ r ∷ []) i u (subst (λ (v : Shard). HasId (w.requests ++ r ∷ []) (batch_id v.core.batch)) same (has_own w.requests r)) g);
    })
    (λ _ _. at)
  where
    r : Request
    r = request_by s

reply_live : (c : Setup) (w : World) (o : Option Reply) → Live c w → LiveIf c (take_reply w o)
reply_live c w None at = λ ends. at
reply_live c w (Some a) at = by_shard (slice_get w.shards a.id.shard)
  where
    step : Shard → Shard
    step = with_core (settle (judgement_of a.status))

    by_shard : (o : Option Shard) → LiveIf c (reply_to w a o)
    by_shard None = λ ends. at
    by_shard (Some s) = either (LiveIf c) _ (settled w a.id.shard s a.status) w
        (λ _ ends. record {
          ends = ends;
          placed_in = at.placed_in;
          wide = (let e : length (change a.id.shard step w.shards) ≡ length w.shards = length_change a.id.shard step w.shards in let le : 1 ≤ length w.shards = at.wide in omega arith);
          drains = at.drains;
          going = each_change (Going c w.requests) step a.id.shard w.shards at.going (λ u _ g. settle_going c w.requests a.id.shard (judgement_of a.status) u g);
        })
        (λ _ _. at)

-- a further piece only adds entries
pub log_more : (w : World) (piece : Piece) → length (log w) ≤ length (log (record w { pieces = w.pieces ++ piece_of piece ∷ [] }))
log_more w piece =
    let longer = entries_grow w.pieces (piece_of piece ∷ []) in
    let e : length (log (record w { pieces = w.pieces ++ piece_of piece ∷ [] })) ≡ length (log w ++ longer.0) = ap length longer.1 in
    let k : length (log w ++ longer.0) ≡ length (log w) + length longer.0 = length-append (log w) longer.0 in
    omega arith

pub live_act : (c : Setup) (w : World) (e : Event) → Live c w → Live c (act c w e)
live_act c w e at = by_event e (ends_act c w e at.ends)
  where
    same : (v : World) → w.placed ≡ v.placed → length (log w) ≤ length (log v) → w.shards ≡ v.shards → w.requests ≡ v.requests → ((n : ℕ) → v.draining ≡ Some n → 1 ≤ n) → LiveIf c v
    same v p l s r d ends = record {
      ends = ends;
      placed_in = (let le : w.placed ≤ length (log w) = at.placed_in in omega arith);
      wide = subst (λ (ss : List Shard). 1 ≤ length ss) s at.wide;
      drains = d;
      going = subst (λ (ss : List Shard). Each (Going c v.requests) ss) s (subst (λ (rs : List Request). Each (Going c rs) w.shards) r at.going);
    }

    by_request : (how : How) (o : Option Request) → LiveIf c (arrive c w how o)
    by_request how None = λ ends. at
    by_request Plain (Some r) = λ ends. record { ends = ends; placed_in = at.placed_in; wide = at.wide; drains = at.drains; going = at.going }
    by_request Busy (Some r) = λ ends. record { ends = ends; placed_in = at.placed_in; wide = at.wide; drains = at.drains; going = at.going }
    by_request OutOfMemory (Some r) = λ ends. record { ends = ends; placed_in = at.placed_in; wide = at.wide; drains = at.drains; going = at.going }

    by_draining : (o : Option ℕ) → w.draining ≡ o → LiveIf c (restart_as c w o)
    by_draining None e = λ ends. at
    by_draining (Some n) e = either (LiveIf c) _ (record w { epoch = suc w.epoch; shards = new_shards c (suc w.epoch) 0 n; draining = None }) w
        (λ _ ends. record {
          ends = ends;
          placed_in = at.placed_in;
          wide = (let long : length (new_shards c (suc w.epoch) 0 n) ≡ n = length_new c (suc w.epoch) 0 n in let le : 1 ≤ n = at.drains n e in omega arith);
          drains = λ m h. let never : None ≡ Some m → ⊥ = λ h. cc in absurd (never h);
          going = each_new (Going c w.requests) c (suc w.epoch) 0 (λ j. new_going c w.requests (suc w.epoch) (0 + j) j) n;
        })
        (λ _ _. at)

    by_event : (e : Event) → LiveIf c (act c w e)
    by_event (event.Feed piece) = either (LiveIf c) (is_some w.closed) w (record w { pieces = w.pieces ++ piece_of piece ∷ [] }) (λ _ _. at) (λ _. same (record w { pieces = w.pieces ++ piece_of piece ∷ [] }) refl (log_more w piece) refl refl at.drains)
    by_event event.Place = place_live c w at
    by_event (event.Flush i) = λ ends. shard_live c w i (flush_shard c w) ends (λ s _ g. flush_going c w w.requests i s g) at
    by_event (event.Take i) = λ ends. shard_live c w i (shard_take) ends (λ s e g. take_going c w.requests i s ((at.ends.shapes i s e).0) g) at
    by_event (event.Freeze i) = λ ends. shard_live c w i shard_freeze ends (λ s _ g. freeze_going c w.requests i s g) at
    by_event (event.Send i) = send_live c w i (slice_get w.shards i) refl at
    by_event (event.Arrive k how) = by_request how (slice_get w.requests k)
    by_event (event.Reply k) = reply_live c w (slice_get w.replies k) at
    by_event (event.Lost i) = λ ends. shard_live c w i shard_lost ends (λ s _ g. lost_going c w.requests i s g) at
    by_event (event.Reshard n) = either (LiveIf c) (not (is_some w.draining) && (not (is_finished w) && (nat_le 1 n && nat_le n 1000))) (record w { draining = Some n }) w (λ h ends. record { ends = ends; placed_in = at.placed_in; wide = at.wide; drains = λ m e. let is : n ≡ m = same_Some _ _ e in subst (λ (k : ℕ). 1 ≤ k) is (leb-true 1 n (and_parts (nat_le 1 n) (nat_le n 1000) (and_parts (not (is_finished w)) (nat_le 1 n && nat_le n 1000) (and_parts (not (is_some w.draining)) (not (is_finished w) && (nat_le 1 n && nat_le n 1000)) h).1).1).0); going = at.going }) (λ _ _. at)
    by_event event.Restart = by_draining w.draining refl
    by_event event.Close = either (LiveIf c) (is_some w.closed) w (record w { closed = Some (length (log w)) }) (λ _ _. at) (λ _ ends. record { ends = ends; placed_in = at.placed_in; wide = at.wide; drains = at.drains; going = at.going })
    by_event event.Kill = λ ends. record { ends = ends; placed_in = at.placed_in; wide = at.wide; drains = at.drains; going = at.going }

pub live_at : (c : Setup) → 1 ≤ c.shards → (events : List Event) → Live c (run c events (start c))
live_at c some events = always (Live c) c (live_act c) events (start c) (record {
  ends = ends_at c [];
  placed_in = omega arith;
  wide = (let long : length (new_shards c 0 0 c.shards) ≡ c.shards = length_new c 0 0 c.shards in omega arith);
  drains = λ n e. let never : None ≡ Some n → ⊥ = λ h. cc in absurd (never e);
  going = each_new (Going c []) c 0 0 (λ j. new_going c [] 0 (0 + j) j) c.shards;
})
