-- A queue whose end was taken is empty.
use Rattle.std.proofs.Common.{◌≡◌, ℕ, zero, suc, ◌<◌, Bool, true, false, cond, List, [], ◌∷◌, ◌++◌, length, take, Option, Some, None, is_some, slice_get, refl, sym, ap, ◌∙◌, subst, ℤ, ◌||◌, ◌&&◌, not, nat_le, arith, inl, inr, ◌⊎◌}
use Rattle.std.proofs.lemmas.Bool.Decides.{Decides-eqb}
use Rattle.std.proofs.lemmas.Bool.{true≢false, not-true, and_parts}
use Rattle.std.proofs.lemmas.Option.{same_Some}
use Rattle.rw_machine.proofs.shared.Steps.{always, Each, each_change, each_new}
use Rattle.rw_machine.proofs.Invariant.{by_bool}
use Rattle.rw_machine.proofs.shared.Places.{get_below}
use Rattle.rw_machine.specs.declared.event.Event.TheVariants as event
use Rattle.rw_plain_queue.specs.declared.item.Kind.TheVariants as kind
use Rattle.rw_retry.specs.Judgements.{judgement_of}
use Rattle.rw_retry.specs.declared.judgement.Judgement.{Judgement}
use Rattle.rw_retry.specs.declared.judgement.Judgement.TheVariants.{Again, Done, Refused}
use Rattle.rw_machine.specs.Shards.{EndMark, FlushMark, One, Queued, Shard, has_room, shard_end, shard_flush, shard_freeze, shard_lost, shard_put, shard_send, shard_take, take_front, with_core}
use Rattle.rw_machine.specs.Steps.{act, arrive, change, changed, close, feed, flush_shard, happens, shard_mark, next_sample, place, place_entry, place_kept, place_sample, put_if_room, reply_to, restart_as, run, send_batch, shard_of_labels, take_reply, unless_over}
use Rattle.rw_machine.specs.Worlds.{Reply, Request, Setup, World, all_drained, is_closed_at, is_finished, is_over, log, new_shards, start}
use Rattle.rw_machine.specs.Promises.{IsClosedForGood}
use Rattle.rw_plain_queue.specs.declared.item.Kind.{Kind}
use Rattle.rw_wal_tail.specs.Fed.{piece_of}
use Rattle.rw_machine.specs.declared.event.Event.{Event}
use Rattle.rw_machine.specs.declared.event.How.{How}
use Rattle.rw_machine.specs.declared.event.How.TheVariants.{Busy, Plain, OutOfMemory}
use Rattle.rw_shard_core.specs.Shard.{Core, again, awaits, can_freeze, can_send, can_take, settle}
use Rattle.rw_series_cache.specs.Known.{Bad, Filtered, Kept, Standing, Unknown, known}
use Rattle.rw_series_cache.specs.Rising.{rises}
use Rattle.rw_types.specs.Labels.{Labels}
use Rattle.rw_types.specs.declared.entry.Entry.{Entry}
use Rattle.rw_types.specs.declared.entry.Entry.TheVariants.{Def, Sample}
use Rattle.rw_types.proofs.shared.Booleans.{either}

abbrev pub NoEnd : List Queued → Type 0
NoEnd [] = Unit {0}
NoEnd (One x ∷ is) = NoEnd is
NoEnd (FlushMark ∷ is) = NoEnd is
NoEnd (EndMark k ∷ is) = ⊥

abbrev pub EndLast : List Queued → Type 0
EndLast [] = ⊥
EndLast (One x ∷ is) = EndLast is
EndLast (FlushMark ∷ is) = EndLast is
EndLast (EndMark k ∷ is) = is ≡ []

-- by whether the end was put and was taken
abbrev pub Shape : Bool → Bool → List Queued → Type 0
Shape false false q = NoEnd q
Shape false true q = ⊥
Shape true false q = EndLast q
Shape true true q = q ≡ []

abbrev pub ShapeOf : Shard → Type 0
ShapeOf s = Shape s.end_put s.core.ended s.queue

no_end_push : (q : List Queued) (i : Queued) → NoEnd q → NoEnd (i ∷ []) → NoEnd (q ++ i ∷ [])
no_end_push [] i h k = k
no_end_push (One x ∷ q) i h k = no_end_push q i h k
no_end_push (FlushMark ∷ q) i h k = no_end_push q i h k
no_end_push (EndMark d ∷ q) i h k = absurd h

end_push : (q : List Queued) (d : Kind) → NoEnd q → EndLast (q ++ EndMark d ∷ [])
end_push [] d h = refl
end_push (One x ∷ q) d h = end_push q d h
end_push (FlushMark ∷ q) d h = end_push q d h
end_push (EndMark e ∷ q) d h = absurd h

-- nothing after an end: none was put in this epoch
pushed : (b e : Bool) (q : List Queued) (i : Queued) → b ≡ false → NoEnd (i ∷ []) → Shape b e q → Shape b e (q ++ i ∷ [])
pushed false false q i z k h = no_end_push q i h k
pushed false true q i z k h = h
pushed true e q i z k h = absurd (true≢false z)

ends : (b e : Bool) (q : List Queued) (d : Kind) → b ≡ false → Shape b e q → Shape true e (q ++ EndMark d ∷ [])
ends false false q d z h = end_push q d h
ends false true q d z h = absurd h
ends true e q d z h = absurd (true≢false z)

front : (b e : Bool) (q : List Queued) (s : Shard) → Shape b e q → s.end_put ≡ b → s.core.ended ≡ e → s.queue ≡ q → ShapeOf (take_front q s)
front b e [] s h x y z = subst (λ (v : Bool). Shape v s.core.ended s.queue) (sym x) (subst (λ (v : Bool). Shape b v s.queue) (sym y) (subst (Shape b e) (sym z) h))
front false false (One p ∷ q) s h x y z = subst (λ (v : Bool). Shape v s.core.ended q) (sym x) (subst (λ (v : Bool). Shape false v q) (sym y) h)
front false false (FlushMark ∷ q) s h x y z = subst (λ (v : Bool). Shape v s.core.ended q) (sym x) (subst (λ (v : Bool). Shape false v q) (sym y) h)
front false false (EndMark d ∷ q) s h x y z = absurd h
front true false (One p ∷ q) s h x y z = subst (λ (v : Bool). Shape v s.core.ended q) (sym x) (subst (λ (v : Bool). Shape true v q) (sym y) h)
front true false (FlushMark ∷ q) s h x y z = subst (λ (v : Bool). Shape v s.core.ended q) (sym x) (subst (λ (v : Bool). Shape true v q) (sym y) h)
front true false (EndMark d ∷ q) s h x y z = subst (λ (v : Bool). Shape v true q) (sym x) h
front false true (i ∷ q) s h x y z = absurd h
front true true (i ∷ q) s h x y z = let never : i ∷ q ≡ [] → ⊥ = λ h. cc in absurd (never h)

-- an end is put only while draining or finished, and then nothing is placed
abbrev pub MayEnd : World → Shard → Type 0
MayEnd w s = s.end_put ≡ true → (is_some w.draining ≡ true) ⊎ (is_finished w ≡ true)

pub record Ends (w : World) : Type 0 where
  pub at_close : (end : ℕ) → w.closed ≡ Some end → length (log w) ≡ end
  pub shapes : Each (λ i s. ShapeOf s × MayEnd w s) w.shards

pub finished_end : (w : World) → Ends w → is_finished w ≡ true → length (log w) ≡ w.placed
finished_end w at h = by_closed w.closed refl h
  where
    by_closed : (o : Option ℕ) → w.closed ≡ o → is_closed_at w.placed o ≡ true → length (log w) ≡ w.placed
    by_closed None e h = absurd (true≢false (sym h))
    by_closed (Some end) e h = at.at_close end e ∙ sym ((Decides-eqb w.placed end).0 h)

-- a step of a shard that leaves its queue and marks
leaves : (w : World) (j : ℕ) (f : Shard → Shard) → ((s : Shard) → (ShapeOf s → ShapeOf (f s)) × ((f s).end_put ≡ s.end_put)) → Ends w → Ends (changed w j f)
leaves w j f step at = record { at_close = at.at_close; shapes = each_change (λ i s. ShapeOf s × MayEnd w s) f j w.shards at.shapes (λ s _ h. ((step s).0 h.0, λ e. h.1 (sym (step s).1 ∙ e))) }

ends_place : (c : Setup) (w : World) → Ends w → Ends (place c w)
ends_place c w at = by_bool (Ends (place c w)) (is_some w.draining) (λ d. subst Ends (ap (λ (b : Bool). cond b w (place_entry c w (slice_get (log w) w.placed))) (sym d)) at) (λ d. subst Ends (ap (λ (b : Bool). cond b w (place_entry c w (slice_get (log w) w.placed))) (sym d)) (by_entry d (slice_get (log w) w.placed) refl))
  where
    unfinished : (x : Entry) → slice_get (log w) w.placed ≡ Some x → is_finished w ≡ true → ⊥
    unfinished x e f = let lt : w.placed < length (log w) = get_below (log w) w.placed x e in let same : length (log w) ≡ w.placed = finished_end w at f in omega arith

    unput : is_some w.draining ≡ false → (x : Entry) → slice_get (log w) w.placed ≡ Some x → (s : Shard) → MayEnd w s → s.end_put ≡ false
    unput d x e s may = by_bool (s.end_put ≡ false) s.end_put (λ p. by_case (may p)) (λ p. p)
      where
        by_case : (is_some w.draining ≡ true) ⊎ (is_finished w ≡ true) → s.end_put ≡ false
        by_case (inl z) = absurd (true≢false (sym z ∙ d))
        by_case (inr z) = absurd (unfinished x e z)

    moved : is_some w.draining ≡ false → (x : Entry) → slice_get (log w) w.placed ≡ Some x → (v : World) → (s : Shard) → MayEnd w s → MayEnd v s
    moved d x e v s may p = absurd (true≢false (sym p ∙ unput d x e s may))

    by_shard : is_some w.draining ≡ false → (x : Entry) → slice_get (log w) w.placed ≡ Some x → (l : Labels) (t : ℤ) (word i : ℕ) (o : Option Shard) → Ends (put_if_room c w i l t word o)
    by_shard d x e l t word i None = at
    by_shard d x e l t word i (Some s) = either Ends (has_room c.capacity s) (record w { shards = change i (shard_put (next_sample w i l t word s)) w.shards; placed = suc w.placed }) w
        (λ _. record { at_close = at.at_close; shapes = each_change (λ i u. ShapeOf u × MayEnd (record w { shards = change i (shard_put (next_sample w i l t word s)) w.shards; placed = suc w.placed }) u) (shard_put (next_sample w i l t word s)) i w.shards (λ n u at_u. let h = at.shapes n u at_u in (h.0, moved d x e (record w { shards = change i (shard_put (next_sample w i l t word s)) w.shards; placed = suc w.placed }) u h.1)) (λ u at_u h. (pushed u.end_put u.core.ended u.queue (One (next_sample w i l t word s)) (unput d x e u ((at.shapes i u at_u).1)) tt h.0, λ p. absurd (true≢false (sym p ∙ unput d x e u ((at.shapes i u at_u).1))))) })
        (λ _. at)

    by_rising : is_some w.draining ≡ false → (x : Entry) → slice_get (log w) w.placed ≡ Some x → (l : Labels) (t : ℤ) (word : ℕ) (b : Bool) → Ends (place_kept c w l t word b)
    by_rising d x e l t word true = by_shard d x e l t word (shard_of_labels w l) (slice_get w.shards (shard_of_labels w l))
    by_rising d x e l t word false = record { at_close = at.at_close; shapes = λ i s at_i. let h = at.shapes i s at_i in (h.0, λ p. absurd (true≢false (sym p ∙ unput d x e s h.1))) }

    by_known : is_some w.draining ≡ false → (x : Entry) → slice_get (log w) w.placed ≡ Some x → (t : ℤ) (word : ℕ) (k : Standing) → Ends (place_sample c w t word k)
    by_known d x e t word Unknown = record { at_close = at.at_close; shapes = λ i s at_i. let h = at.shapes i s at_i in (h.0, λ p. absurd (true≢false (sym p ∙ unput d x e s h.1))) }
    by_known d x e t word (Bad f) = record { at_close = at.at_close; shapes = λ i s at_i. let h = at.shapes i s at_i in (h.0, λ p. absurd (true≢false (sym p ∙ unput d x e s h.1))) }
    by_known d x e t word Filtered = record { at_close = at.at_close; shapes = λ i s at_i. let h = at.shapes i s at_i in (h.0, λ p. absurd (true≢false (sym p ∙ unput d x e s h.1))) }
    by_known d x e t word (Kept l) = by_rising d x e l t word (rises c.choice (take w.placed (log w)) l t)

    by_entry : is_some w.draining ≡ false → (o : Option Entry) → slice_get (log w) w.placed ≡ o → Ends (place_entry c w o)
    by_entry d None e = at
    by_entry d (Some (Def r m)) e = record { at_close = at.at_close; shapes = λ i s at_i. let h = at.shapes i s at_i in (h.0, λ p. absurd (true≢false (sym p ∙ unput d (Def r m) e s h.1))) }
    by_entry d (Some (Sample r t word)) e = by_known d (Sample r t word) e t word (known c.choice (take w.placed (log w)) r)

ends_flush : (c : Setup) (w : World) (i : ℕ) → Ends w → Ends (changed w i (flush_shard c w))
ends_flush c w i at = record { at_close = at.at_close; shapes = each_change (λ i s. ShapeOf s × MayEnd w s) (flush_shard c w) i w.shards at.shapes (λ s _ h. either (λ u. ShapeOf u × MayEnd w u) (not s.end_put && has_room c.capacity s) (shard_mark w s) s (λ g. marked s h (not-true s.end_put (and_parts (not s.end_put) (has_room c.capacity s) g).0)) (λ _. h)) }
  where
    marked : (s : Shard) → ShapeOf s × MayEnd w s → s.end_put ≡ false → ShapeOf (shard_mark w s) × MayEnd w (shard_mark w s)
    marked s h z = either (λ u. ShapeOf u × MayEnd w u) (is_finished w) (shard_end kind.Orderly s) (cond (is_some w.draining) (shard_end kind.Reshard s) (shard_flush s))
        (λ f. (ends s.end_put s.core.ended s.queue kind.Orderly z h.0, λ _. inr f))
        (λ _. either (λ u. ShapeOf u × MayEnd w u) (is_some w.draining) (shard_end kind.Reshard s) (shard_flush s)
        (λ d. (ends s.end_put s.core.ended s.queue kind.Reshard z h.0, λ _. inl d))
        (λ _. (pushed s.end_put s.core.ended s.queue FlushMark z tt h.0, h.1)))

take_leaves : (s : Shard) → (ShapeOf s → ShapeOf (shard_take s)) × ((shard_take s).end_put ≡ s.end_put)
take_leaves s = (
  λ h. either ShapeOf (can_take s.core) (take_front s.queue s) s (λ _. front s.end_put s.core.ended s.queue s h refl refl refl) (λ _. h),
  either (λ u. u.end_put ≡ s.end_put) (can_take s.core) (take_front s.queue s) s (λ _. by_queue s.queue) (λ _. refl),
)
  where
    by_queue : (q : List Queued) → (take_front q s).end_put ≡ s.end_put
    by_queue [] = refl
    by_queue (One x ∷ q) = refl
    by_queue (FlushMark ∷ q) = refl
    by_queue (EndMark k ∷ q) = refl

freeze_leaves : (s : Shard) → (ShapeOf s → ShapeOf (shard_freeze s)) × ((shard_freeze s).end_put ≡ s.end_put)
freeze_leaves s = (λ h. either (λ (k : Core). Shape s.end_put k.ended s.queue) (can_freeze s.core) (record s.core { builder = []; marked = false; batch = s.core.builder; waiting = false }) s.core (λ _. h) (λ _. h), refl)

send_leaves : (s : Shard) → (ShapeOf s → ShapeOf (shard_send s)) × ((shard_send s).end_put ≡ s.end_put)
send_leaves s = (λ h. either (λ (k : Core). Shape s.end_put k.ended s.queue) (can_send s.core) (record s.core { waiting = true }) s.core (λ _. h) (λ _. h), refl)

lost_leaves : (s : Shard) → (ShapeOf s → ShapeOf (shard_lost s)) × ((shard_lost s).end_put ≡ s.end_put)
lost_leaves s = (λ h. either (λ (k : Core). Shape s.end_put k.ended s.queue) (awaits s.core) (again s.core) s.core (λ _. h) (λ _. h), refl)

settle_leaves : (j : Judgement) (s : Shard) → (ShapeOf s → ShapeOf (with_core (settle j) s)) × ((with_core (settle j) s).end_put ≡ s.end_put)
settle_leaves Done s = (λ h. h, refl)
settle_leaves Refused s = (λ h. h, refl)
settle_leaves Again s = (λ h. h, refl)

pub ends_act : (c : Setup) (w : World) (e : Event) → Ends w → Ends (act c w e)
ends_act c w (event.Feed piece) at = by_bool (Ends (feed w piece)) (is_some w.closed) (λ b. subst Ends (ap (λ (b : Bool). cond b w fed) (sym b)) at) (λ b. subst Ends (ap (λ (b : Bool). cond b w fed) (sym b)) (record { at_close = λ end h. absurd (true≢false (sym (ap (λ (o : Option ℕ). is_some o) h) ∙ b)); shapes = at.shapes }))
  where
    fed : World
    fed = record w { pieces = w.pieces ++ piece_of piece ∷ [] }
ends_act c w event.Place at = ends_place c w at
ends_act c w (event.Flush i) at = ends_flush c w i at
ends_act c w (event.Take i) at = leaves w i shard_take take_leaves at
ends_act c w (event.Freeze i) at = leaves w i shard_freeze freeze_leaves at
ends_act c w (event.Send i) at = by_shard (slice_get w.shards i)
  where
    by_shard : (o : Option Shard) → Ends (send_batch w i o)
    by_shard None = at
    by_shard (Some s) = either Ends (can_send s.core) _ w (λ _. record { at_close = at.at_close; shapes = each_change (λ i s. ShapeOf s × MayEnd w s) shard_send i w.shards at.shapes (λ u _ h. ((send_leaves u).0 h.0, h.1)) }) (λ _. at)
ends_act c w (event.Arrive k how) at = by_request how (slice_get w.requests k)
  where
    by_request : (how : How) (o : Option Request) → Ends (arrive c w how o)
    by_request how None = at
    by_request Plain (Some r) = record { at_close = at.at_close; shapes = at.shapes }
    by_request Busy (Some r) = record { at_close = at.at_close; shapes = at.shapes }
    by_request OutOfMemory (Some r) = record { at_close = at.at_close; shapes = at.shapes }
ends_act c w (event.Reply k) at = by_answer (slice_get w.replies k)
  where
    by_shard : (a : Reply) (o : Option Shard) → Ends (reply_to w a o)
    by_shard a None = at
    by_shard a (Some s) = either Ends _ _ w (λ _. record { at_close = at.at_close; shapes = each_change (λ i s. ShapeOf s × MayEnd w s) (with_core (settle (judgement_of a.status))) a.id.shard w.shards at.shapes (λ u _ h. ((settle_leaves (judgement_of a.status) u).0 h.0, h.1)) }) (λ _. at)

    by_answer : (o : Option Reply) → Ends (take_reply w o)
    by_answer None = at
    by_answer (Some a) = by_shard a (slice_get w.shards a.id.shard)
ends_act c w (event.Lost i) at = leaves w i shard_lost lost_leaves at
ends_act c w (event.Reshard n) at = either Ends (not (is_some w.draining) && (not (is_finished w) && (nat_le 1 n && nat_le n 1000))) (record w { draining = Some n }) w (λ _. record { at_close = at.at_close; shapes = λ i s e. ((at.shapes i s e).0, λ _. inl refl) }) (λ _. at)
ends_act c w event.Restart at = by_draining w.draining
  where
    by_draining : (o : Option ℕ) → Ends (restart_as c w o)
    by_draining None = at
    by_draining (Some n) = either Ends _ (restarted n) w (λ _. record { at_close = at.at_close; shapes = each_new (λ i s. ShapeOf s × MayEnd (restarted n) s) c (suc w.epoch) 0 (λ i. (tt, λ p. absurd (true≢false (sym p)))) n }) (λ _. at)
      where
        restarted : ℕ → World
        restarted n = record w { epoch = suc w.epoch; shards = new_shards c (suc w.epoch) 0 n; draining = None }
ends_act c w event.Close at = by_bool (Ends (close w)) (is_some w.closed) (λ b. subst Ends (ap (λ (b : Bool). cond b w (record w { closed = Some (length (log w)) })) (sym b)) at) (λ b. subst Ends (ap (λ (b : Bool). cond b w (record w { closed = Some (length (log w)) })) (sym b)) (record { at_close = λ end h. same_Some _ _ h; shapes = λ i s e. ((at.shapes i s e).0, λ p. by_case b s ((at.shapes i s e).1 p)) }))
  where
    by_case : is_some w.closed ≡ false → (s : Shard) → (is_some w.draining ≡ true) ⊎ (is_finished w ≡ true) → (is_some w.draining ≡ true) ⊎ (is_closed_at w.placed (Some (length (log w))) ≡ true)
    by_case b s (inl d) = inl d
    by_case b s (inr f) = not_yet w.closed b f
      where
        not_yet : (o : Option ℕ) → is_some o ≡ false → is_closed_at w.placed o ≡ true → (is_some w.draining ≡ true) ⊎ (is_closed_at w.placed (Some (length (log w))) ≡ true)
        not_yet None b f = absurd (true≢false (sym f))
        not_yet (Some end) b f = absurd (true≢false b)
ends_act c w event.Kill at = record { at_close = at.at_close; shapes = at.shapes }

pub ends_at : (c : Setup) (events : List Event) → Ends (run c events (start c))
ends_at c events = always Ends c (ends_act c) events (start c) (record { at_close = λ end h. let never : None ≡ Some end → ⊥ = λ h. cc in absurd (never h); shapes = each_new (λ i s. ShapeOf s × MayEnd (start c) s) c 0 0 (λ i. (tt, λ p. absurd (true≢false (sym p)))) c.shards })

same_change : (f : Shard → Shard) (i : ℕ) (ss : List Shard) → ((s : Shard) → slice_get ss i ≡ Some s → f s ≡ s) → change i f ss ≡ ss
same_change f i [] h = refl
same_change f zero (x ∷ ss) h = ap (λ y. y ∷ ss) (h x refl)
same_change f (suc i) (x ∷ ss) h = ap (λ ys. x ∷ ys) (same_change f i ss h)

pub closed : (c : Setup) (events : List Event) → IsClosedForGood c (run c events (start c))
closed c events i s at_i h = by_case h
  where
    w : World
    w = run c events (start c)

    empty_take : (q : List Queued) → s.queue ≡ q → q ≡ [] → take_front q s ≡ s
    empty_take [] e z = refl
    empty_take (x ∷ q) e z = let never : x ∷ q ≡ [] → ⊥ = λ h. cc in absurd (never z)

    shape_empty : (b : Bool) (q : List Queued) → Shape b true q → q ≡ []
    shape_empty false q h = absurd h
    shape_empty true q h = h

    taken : s.core.ended ≡ true → shard_take s ≡ s
    taken e = either (λ u. u ≡ s) (can_take s.core) (take_front s.queue s) s (λ _. empty_take s.queue refl (shape_empty s.end_put s.queue (subst (λ (b : Bool). Shape s.end_put b s.queue) e (((ends_at c events).shapes i s at_i).0)))) (λ _. refl)

    no_change : (b : Bool) → s.core.ended ≡ true → unless_over c (run c events (start c)) (event.Take i) b ≡ run c events (start c)
    no_change true e = refl
    no_change false e = ap (λ ss. record (run c events (start c)) { shards = ss }) (same_change shard_take i (run c events (start c)).shards (λ u at_u. let same : s ≡ u = same_Some _ _ (sym at_i ∙ at_u) in subst (λ (v : Shard). shard_take v ≡ v) same (taken e)))

    by_case : (s.core.ended ≡ true) ⊎ ((run c events (start c)).killed ≡ true) → happens c (run c events (start c)) (event.Take i) ≡ run c events (start c)
    by_case (inl e) = no_change (is_over (run c events (start c))) e
    by_case (inr k) = ap (λ (b : Bool). unless_over c (run c events (start c)) (event.Take i) (b || (is_finished (run c events (start c)) && all_drained (run c events (start c))))) k
