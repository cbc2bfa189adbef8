-- The lists of a shard.
use Rattle.std.proofs.Common.{◌≡◌, ℕ, suc, ◌+◌, ◌<◌, ◌≤◌, true, false, cond, List, [], ◌∷◌, ◌++◌, length, take, Option, Some, None, is_some, slice_get, refl, sym, ap, ◌∙◌, subst, ℤ, ◌&&◌, not, nat_le, append-nil, append_assoc, length-append, arith, Bool}
use Rattle.std.proofs.lemmas.Bool.{ltb-true, and_parts}
use Rattle.std.proofs.lemmas.Option.{same_Some}
use Rattle.rw_machine.proofs.shared.Steps.{always, Each, each_change, each_new}
use Rattle.rw_machine.proofs.shared.Others.{samples_append, no_batch}
use Rattle.rw_machine.specs.declared.event.Event.TheVariants as event
use Rattle.rw_plain_queue.specs.declared.item.Kind.TheVariants as kind
use Rattle.rw_retry.specs.Judgements.{judgement_of}
use Rattle.rw_retry.specs.declared.judgement.Judgement.{Judgement}
use Rattle.rw_retry.specs.declared.judgement.Judgement.TheVariants.{Again, Done, Refused}
use Rattle.rw_machine.proofs.shared.Views.{shard_again, shard_resolve}
use Rattle.rw_machine.specs.Shards.{EndMark, FlushMark, One, Queued, Shard, has_room, samples_waiting, shard_end, shard_flush, shard_freeze, shard_lost, shard_put, shard_send, shard_take, take_front, with_core}
use Rattle.rw_machine.specs.Steps.{act, arrive, changed, flush_shard, shard_mark, next_sample, place, place_entry, place_kept, place_sample, put_if_room, reply_to, restart_as, run, send_batch, shard_of_labels, take_reply}
use Rattle.rw_machine.specs.Worlds.{Reply, Request, Setup, World, is_finished, log, start}
use Rattle.rw_machine.specs.Promises.{HasShardLists}
use Rattle.rw_machine.specs.declared.event.Event.{Event}
use Rattle.rw_machine.specs.declared.event.How.{How}
use Rattle.rw_machine.specs.declared.event.How.TheVariants.{Busy, Plain, OutOfMemory}
use Rattle.rw_shard_core.specs.Shard.{Core, again, awaits, can_freeze, can_send, can_take, settle}
use Rattle.rw_series_cache.specs.Known.{Bad, Filtered, Kept, Standing, Unknown, known}
use Rattle.rw_series_cache.specs.Rising.{rises}
use Rattle.rw_plain_queue.specs.Items.{Placed}
use Rattle.rw_types.specs.Labels.{Labels}
use Rattle.rw_types.specs.declared.entry.Entry.{Entry}
use Rattle.rw_types.specs.declared.entry.Entry.TheVariants.{Def, Sample}
use Rattle.rw_types.proofs.shared.Booleans.{either}

pub record Lists (c : Setup) (s : Shard) : Type 0 where
  pub queued : s.put ≡ s.core.taken ++ samples_waiting s.queue
  pub held : s.core.taken ≡ s.core.resolved ++ (s.core.batch ++ s.core.builder)
  pub within : length s.queue ≤ c.capacity

room_is : (c : Setup) (s : Shard) → has_room c.capacity s ≡ true → length s.queue < c.capacity
room_is c s h = ltb-true (length s.queue) c.capacity h

-- one more item at the back
back : (c : Setup) (s : Shard) (i : Queued) → has_room c.capacity s ≡ true → length (s.queue ++ i ∷ []) ≤ c.capacity
back c s i room = let e : length (s.queue ++ i ∷ []) ≡ length s.queue + 1 = length-append s.queue (i ∷ []) in let lt : length s.queue < c.capacity = room_is c s room in omega arith

lists_put : (c : Setup) (x : Placed) (s : Shard) → has_room c.capacity s ≡ true → Lists c s → Lists c (shard_put x s)
lists_put c x s room h = record {
  queued = ap (λ ps. ps ++ x ∷ []) h.queued ∙ append_assoc s.core.taken (samples_waiting s.queue) (x ∷ []) ∙ ap (λ ps. s.core.taken ++ ps) (sym (samples_append s.queue (One x)));
  held = h.held;
  within = back c s (One x) room;
}

lists_flush : (c : Setup) (w : World) (s : Shard) → Lists c s → Lists c (flush_shard c w s)
lists_flush c w s h = either (Lists c) (not s.end_put && has_room c.capacity s) (shard_mark w s) s (λ g. by_mark (and_parts (not s.end_put) (has_room c.capacity s) g).1) (λ _. h)
  where
    pushed : (i : Queued) → samples_waiting (i ∷ []) ≡ [] → s.put ≡ s.core.taken ++ samples_waiting (s.queue ++ i ∷ [])
    pushed i none = h.queued ∙ ap (λ ps. s.core.taken ++ ps) (sym (samples_append s.queue i ∙ ap (λ ps. samples_waiting s.queue ++ ps) none ∙ append-nil (samples_waiting s.queue)))

    by_mark : has_room c.capacity s ≡ true → Lists c (shard_mark w s)
    by_mark room = either (Lists c) (is_finished w) (shard_end kind.Orderly s) (cond (is_some w.draining) (shard_end kind.Reshard s) (shard_flush s))
        (λ _. record { queued = pushed (EndMark kind.Orderly) refl; held = h.held; within = back c s (EndMark kind.Orderly) room })
        (λ _. either (Lists c) (is_some w.draining) (shard_end kind.Reshard s) (shard_flush s)
        (λ _. record { queued = pushed (EndMark kind.Reshard) refl; held = h.held; within = back c s (EndMark kind.Reshard) room })
        (λ _. record { queued = pushed FlushMark refl; held = h.held; within = back c s FlushMark room }))

lists_take : (c : Setup) (s : Shard) → Lists c s → Lists c (shard_take s)
lists_take c s h = either (Lists c) (can_take s.core) (take_front s.queue s) s (λ _. by_queue s.queue refl) (λ _. h)
  where
    shorter : (i : Queued) (q : List Queued) → s.queue ≡ i ∷ q → length q ≤ c.capacity
    shorter i q e = let long : length s.queue ≡ suc (length q) = ap length e in let le : length s.queue ≤ c.capacity = h.within in omega arith

    by_queue : (q : List Queued) → s.queue ≡ q → Lists c (take_front q s)
    by_queue [] e = h
    by_queue (One x ∷ q) e = record {
      queued = h.queued ∙ ap (λ q. s.core.taken ++ samples_waiting q) e ∙ sym (append_assoc s.core.taken (x ∷ []) (samples_waiting q));
      held = ap (λ ps. ps ++ x ∷ []) h.held ∙ append_assoc s.core.resolved (s.core.batch ++ s.core.builder) (x ∷ []) ∙ ap (λ ps. s.core.resolved ++ ps) (append_assoc s.core.batch s.core.builder (x ∷ []));
      within = shorter (One x) q e;
    }
    by_queue (FlushMark ∷ q) e = record { queued = h.queued ∙ ap (λ q. s.core.taken ++ samples_waiting q) e; held = h.held; within = shorter FlushMark q e }
    by_queue (EndMark k ∷ q) e = record { queued = h.queued ∙ ap (λ q. s.core.taken ++ samples_waiting q) e; held = h.held; within = shorter (EndMark k) q e }

lists_freeze : (c : Setup) (s : Shard) → Lists c s → Lists c (shard_freeze s)
lists_freeze c s h = either (λ (k : Core). Lists c (record s { core = k })) (can_freeze s.core) (record s.core { builder = []; marked = false; batch = s.core.builder; waiting = false }) s.core
    (λ g. record {
      queued = h.queued;
      held = h.held ∙ ap (λ b. s.core.resolved ++ (b ++ s.core.builder)) (no_batch s.core g) ∙ ap (λ ps. s.core.resolved ++ ps) (sym (append-nil s.core.builder));
      within = h.within;
    })
    (λ _. record { queued = h.queued; held = h.held; within = h.within })

lists_again : (c : Setup) (s : Shard) → Lists c s → Lists c (shard_again s)
lists_again c s h = record { queued = h.queued; held = h.held; within = h.within }

lists_lost : (c : Setup) (s : Shard) → Lists c s → Lists c (shard_lost s)
lists_lost c s h = either (λ (k : Core). Lists c (record s { core = k })) (awaits s.core) (again s.core) s.core (λ _. lists_again c s h) (λ _. record { queued = h.queued; held = h.held; within = h.within })

lists_send : (c : Setup) (s : Shard) → Lists c s → Lists c (shard_send s)
lists_send c s h = either (λ (k : Core). Lists c (record s { core = k })) (can_send s.core) (record s.core { waiting = true }) s.core (λ _. record { queued = h.queued; held = h.held; within = h.within }) (λ _. record { queued = h.queued; held = h.held; within = h.within })

lists_resolve : (c : Setup) (s : Shard) → Lists c s → Lists c (shard_resolve s)
lists_resolve c s h = record { queued = h.queued; held = h.held ∙ sym (append_assoc s.core.resolved s.core.batch s.core.builder); within = h.within }

abbrev pub All : Setup → World → Type 0
All c w = Each (λ i s. Lists c s) w.shards

all_place : (c : Setup) (w : World) → All c w → All c (place c w)
all_place c w at = either (All c) (is_some w.draining) w (place_entry c w (slice_get (log w) w.placed)) (λ _. at) (λ _. by_entry (slice_get (log w) w.placed))
  where
    by_shard : (i : ℕ) (l : Labels) (t : ℤ) (word : ℕ) (o : Option Shard) → slice_get w.shards i ≡ o → All c (put_if_room c w i l t word o)
    by_shard i l t word None e = at
    by_shard i l t word (Some s) e = either (All c) (has_room c.capacity s) _ w (λ room. each_change (λ i s. Lists c s) (shard_put (next_sample w i l t word s)) i w.shards at (λ u at_u h. let same : s ≡ u = same_Some _ _ (sym e ∙ at_u) in lists_put c (next_sample w i l t word s) u (subst (λ (v : Shard). has_room c.capacity v ≡ true) same room) h)) (λ _. at)

    by_rising : (l : Labels) (t : ℤ) (word : ℕ) (b : Bool) → All c (place_kept c w l t word b)
    by_rising l t word true = by_shard (shard_of_labels w l) l t word (slice_get w.shards (shard_of_labels w l)) refl
    by_rising l t word false = at

    by_known : (t : ℤ) (word : ℕ) (k : Standing) → All c (place_sample c w t word k)
    by_known t word Unknown = at
    by_known t word (Bad f) = at
    by_known t word Filtered = at
    by_known t word (Kept l) = by_rising l t word (rises c.choice (take w.placed (log w)) l t)

    by_entry : (o : Option Entry) → All c (place_entry c w o)
    by_entry None = at
    by_entry (Some (Def r l)) = at
    by_entry (Some (Sample r t word)) = by_known t word (known c.choice (take w.placed (log w)) r)

all_change : (c : Setup) (w : World) (i : ℕ) (f : Shard → Shard) → ((s : Shard) → Lists c s → Lists c (f s)) → All c w → All c (changed w i f)
all_change c w i f step at = each_change (λ i s. Lists c s) f i w.shards at (λ s _ h. step s h)

all_reply : (c : Setup) (w : World) (o : Option Reply) → All c w → All c (take_reply w o)
all_reply c w None at = at
all_reply c w (Some a) at = by_shard (slice_get w.shards a.id.shard)
  where
    by_judgement : (d : Judgement) (s : Shard) → Lists c s → Lists c (with_core (settle d) s)
    by_judgement Done s h = lists_resolve c s h
    by_judgement Refused s h = lists_resolve c s h
    by_judgement Again s h = lists_again c s h

    by_shard : (o : Option Shard) → All c (reply_to w a o)
    by_shard None = at
    by_shard (Some s) = either (All c) _ _ w (λ _. all_change c w a.id.shard (with_core (settle (judgement_of a.status))) (by_judgement (judgement_of a.status)) at) (λ _. at)

pub all_act : (c : Setup) (w : World) (e : Event) → All c w → All c (act c w e)
all_act c w (event.Feed piece) at = either (All c) (is_some w.closed) w _ (λ _. at) (λ _. at)
all_act c w event.Place at = all_place c w at
all_act c w (event.Flush i) at = all_change c w i (flush_shard c w) (lists_flush c w) at
all_act c w (event.Take i) at = all_change c w i (shard_take) (lists_take c) at
all_act c w (event.Freeze i) at = all_change c w i shard_freeze (lists_freeze c) at
all_act c w (event.Send i) at = by_shard (slice_get w.shards i)
  where
    by_shard : (o : Option Shard) → All c (send_batch w i o)
    by_shard None = at
    by_shard (Some s) = either (All c) (can_send s.core) _ w (λ _. each_change (λ i s. Lists c s) shard_send i w.shards at (λ u _ h. lists_send c u h)) (λ _. at)
all_act c w (event.Arrive k how) at = by_request how (slice_get w.requests k)
  where
    by_request : (how : How) (o : Option Request) → All c (arrive c w how o)
    by_request how None = at
    by_request Plain (Some r) = at
    by_request Busy (Some r) = at
    by_request OutOfMemory (Some r) = at
all_act c w (event.Reply k) at = all_reply c w (slice_get w.replies k) at
all_act c w (event.Lost i) at = all_change c w i shard_lost (lists_lost c) at
all_act c w (event.Reshard n) at = either (All c) (not (is_some w.draining) && (not (is_finished w) && (nat_le 1 n && nat_le n 1000))) _ w (λ _. at) (λ _. at)
all_act c w event.Restart at = by_draining w.draining
  where
    by_draining : (o : Option ℕ) → All c (restart_as c w o)
    by_draining None = at
    by_draining (Some n) = either (All c) _ _ w (λ _. each_new (λ i s. Lists c s) c (suc w.epoch) 0 (λ i. record { queued = refl; held = refl; within = omega arith }) n) (λ _. at)
all_act c w event.Close at = either (All c) (is_some w.closed) w _ (λ _. at) (λ _. at)
all_act c w event.Kill at = at

pub all_start : (c : Setup) → All c (start c)
all_start c = each_new (λ i s. Lists c s) c 0 0 (λ i. record { queued = refl; held = refl; within = omega arith }) c.shards

pub shard_lists : (c : Setup) (events : List Event) → HasShardLists c (run c events (start c))
shard_lists c events i s e = let h = always (All c) c (all_act c) events (start c) (all_start c) i s e in (h.queued, h.held, h.within)
