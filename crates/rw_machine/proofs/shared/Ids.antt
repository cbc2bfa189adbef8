-- Each id has one batch, whatever the timestamps.
use Rattle.std.proofs.Common.{◌≡◌, ℕ, zero, suc, ◌+◌, ◌<◌, ◌≤◌, true, false, List, [], ◌∷◌, ◌++◌, length, take, Option, Some, None, is_some, slice_get, refl, sym, ap, ◌∙◌, subst, ℤ, ◌&&◌, not, nat_le, length-append, arith, inl, inr, ◌⊎◌, Bool}
use Rattle.std.proofs.lemmas.Bool.{cases_eq, true≢false, not-true, and_parts}
use Rattle.std.proofs.lemmas.Option.{same_Some}
use Rattle.rw_retry.specs.Judgements.{judgement_of}
use Rattle.rw_retry.specs.declared.judgement.Judgement.{Judgement}
use Rattle.rw_retry.specs.declared.judgement.Judgement.TheVariants.{Again, Done, Refused}
use Rattle.rw_batch.specs.declared.batch.BatchId.{BatchId}
use Rattle.std.specs.List.{AllByRecursion}
use Rattle.rw_types.proofs.shared.AllLemmas.{AllByRecursion-append, AllByRecursion-get, AllByRecursion-weaker}
use Rattle.rw_machine.proofs.shared.Steps.{always, Each, each_change, each_new}
use Rattle.rw_machine.proofs.shared.Places.{Numbered, numbered_push, numbered_right, at_change, get_changed, get_others}
use Rattle.rw_machine.proofs.shared.Others.{pending_parts, pending_put, pending_resolve}
use Rattle.rw_machine.proofs.Invariant.{IsQuiet, IsOpen, Past, past_change, id_at, quiet_flush, quiet_take, quiet_freeze, quiet_send, quiet_lost, quiet_again}
use Rattle.rw_machine.proofs.shared.Views.{shard_again, shard_resolve}
use Rattle.rw_machine.specs.Promises.{HasOneBatchEachId}
use Rattle.rw_machine.specs.Shards.{Shard, has_room, pending_in_shard, samples_waiting, shard_put, shard_send, shard_freeze, shard_take, shard_lost, with_core}
use Rattle.rw_machine.specs.Steps.{act, arrive, change, changed, flush_shard, next_sample, place, place_entry, place_kept, place_sample, put_if_room, reply_to, request_by, restart_as, run, send_batch, shard_of_labels, take_reply}
use Rattle.rw_machine.specs.Worlds.{Reply, Request, Setup, World, is_finished, log, new_shards, start}
use Rattle.rw_machine.specs.declared.event.Event.{Event}
use Rattle.rw_machine.specs.declared.event.Event.TheVariants as event
use Rattle.rw_machine.specs.declared.event.How.{How}
use Rattle.rw_machine.specs.declared.event.How.TheVariants.{Busy, Plain, OutOfMemory}
use Rattle.rw_shard_core.specs.Shard.{awaits, batch_id, can_send, is_answer, is_empty, same_id, settle}
use Rattle.rw_series_cache.specs.Known.{Bad, Filtered, Kept, Standing, Unknown, known}
use Rattle.rw_series_cache.specs.Rising.{rises}
use Rattle.rw_plain_queue.specs.Items.{Placed}
use Rattle.rw_types.specs.Labels.{Labels}
use Rattle.rw_types.specs.declared.entry.Entry.{Entry}
use Rattle.rw_types.specs.declared.entry.Entry.TheVariants.{Def, Sample}
use Rattle.rw_types.proofs.shared.Booleans.{either}
use Rattle.rw_shard_core.proofs.shared.EmptyLemmas.{length_not_empty}

-- what was pushed, or what was there
pub get_pushed : {X : Type 0} (xs : List X) (y : X) (i : ℕ) (x : X) → slice_get (xs ++ y ∷ []) i ≡ Some x → (slice_get xs i ≡ Some x) ⊎ (y ≡ x)
get_pushed [] y zero x e = inr (same_Some _ _ e)
get_pushed [] y (suc i) x e = let never : None ≡ Some x → ⊥ = λ h. cc in absurd (never e)
get_pushed (z ∷ xs) y zero x e = inl e
get_pushed (z ∷ xs) y (suc i) x e = get_pushed xs y i x e

pub get_kept : {X : Type 0} (xs : List X) (y : X) (i : ℕ) (x : X) → slice_get xs i ≡ Some x → slice_get (xs ++ y ∷ []) i ≡ Some x
get_kept [] y i x e = let never : None ≡ Some x → ⊥ = λ h. cc in absurd (never e)
get_kept (z ∷ xs) y zero x e = e
get_kept (z ∷ xs) y (suc i) x e = get_kept xs y i x e

-- a sample with its epoch, shard and number
abbrev pub IsAt : ℕ → ℕ → ℕ → Placed → Type 0
IsAt epoch i n x = (x.place.epoch ≡ epoch) × (x.place.shard ≡ i) × (x.place.seq ≡ n)

pub record InRow (epoch i : ℕ) (s : Shard) : Type 0 where
  pub counted : length s.put ≡ length s.core.resolved + length (pending_in_shard s)
  pub numbered : Numbered (IsAt epoch i) (length s.core.resolved) (pending_in_shard s)

-- a request is of a resolved batch, or of the open one
pub record Fate (epoch : ℕ) (shards : List Shard) (r : Request) : Type 0 where
  pub id_is : r.id ≡ batch_id r.batch
  pub fate : Past epoch shards r.id ⊎ ((r.id.epoch ≡ epoch) × IsOpen (slice_get shards r.id.shard) r.batch)

abbrev pub OneBatch : List Request → Type 0
OneBatch requests = (i j : ℕ) (r q : Request) → slice_get requests i ≡ Some r → slice_get requests j ≡ Some q → r.id ≡ q.id → r.batch ≡ q.batch

pub record Sound (epoch : ℕ) (shards : List Shard) (requests : List Request) : Type 0 where
  pub rows : Each (InRow epoch) shards
  pub fates : AllByRecursion (Fate epoch shards) requests
  pub one : OneBatch requests

abbrev pub Ids : World → Type 0
Ids w = Sound w.epoch w.shards w.requests

-- ---- a shard's step that resolves nothing
fate_change : (epoch j : ℕ) (f : Shard → Shard) (ss : List Shard) → ((s : Shard) → (f s).core.resolved ≡ s.core.resolved) → ((s : Shard) → is_empty s.core.batch ≡ false → (f s).core.batch ≡ s.core.batch) → (r : Request) → Fate epoch ss r → Fate epoch (change j f ss) r
fate_change epoch j f ss resolved batch r h = record { id_is = h.id_is; fate = by_fate h.fate }
  where
    by_fate : (Past epoch ss r.id ⊎ ((r.id.epoch ≡ epoch) × IsOpen (slice_get ss r.id.shard) r.batch)) → (Past epoch (change j f ss) r.id ⊎ ((r.id.epoch ≡ epoch) × IsOpen (slice_get (change j f ss) r.id.shard) r.batch))
    by_fate (inl z) = inl (past_change epoch j f ss (λ s. let e : length (f s).core.resolved ≡ length s.core.resolved = ap length (resolved s) in omega arith) r.id z)
    by_fate (inr z) = inr (z.0, at_change (λ o. IsOpen o r.batch) j r.id.shard f ss (λ s _ _ k. (batch s (ap is_empty k.0 ∙ k.1) ∙ k.0, k.1)) z.1)

quiet_row : (epoch i : ℕ) (f : Shard → Shard) (s : Shard) → IsQuiet f s → InRow epoch i s → InRow epoch i (f s)
quiet_row epoch i f s q h = record {
  counted = ap length q.same_put ∙ h.counted ∙ (λ k. length (sym q.same_resolved k) + length (sym q.same_pending k));
  numbered = subst (λ (n : ℕ). Numbered (IsAt epoch i) n (pending_in_shard (f s))) (sym (ap length q.same_resolved)) (subst (λ ps. Numbered (IsAt epoch i) (length s.core.resolved) ps) (sym q.same_pending) h.numbered);
}

quiet_ids : (w : World) (j : ℕ) (f : Shard → Shard) → ((s : Shard) → IsQuiet f s) → Ids w → Ids (changed w j f)
quiet_ids w j f q at = record {
  rows = each_change (InRow w.epoch) f j w.shards at.rows (λ s _ h. quiet_row w.epoch j f s (q s) h);
  fates = AllByRecursion-weaker (Fate w.epoch w.shards) (Fate w.epoch (change j f w.shards)) (fate_change w.epoch j f w.shards (λ s. (q s).same_resolved) (λ s. (q s).same_batch)) w.requests at.fates;
  one = at.one;
}

-- ---- a sample is put
put_row : (epoch i : ℕ) (x : Placed) (s : Shard) → IsAt epoch i (length s.put) x → InRow epoch i s → InRow epoch i (shard_put x s)
put_row epoch i x s own h = record {
  counted = (let a : length (s.put ++ x ∷ []) ≡ length s.put + 1 = length-append s.put (x ∷ []) in let b : length (pending_in_shard (shard_put x s)) ≡ length (pending_in_shard s) + 1 = ap length (pending_put x s) ∙ length-append (pending_in_shard s) (x ∷ []) in let d : length s.put ≡ length s.core.resolved + length (pending_in_shard s) = h.counted in omega arith);
  numbered = subst (Numbered (IsAt epoch i) (length s.core.resolved)) (sym (pending_put x s)) (numbered_push (IsAt epoch i) (length s.core.resolved) (length s.put) (pending_in_shard s) x h.counted h.numbered own);
}

place_ids : (c : Setup) (w : World) → Ids w → Ids (place c w)
place_ids c w at = either Ids (is_some w.draining) w (place_entry c w (slice_get (log w) w.placed)) (λ _. at) (λ _. by_entry (slice_get (log w) w.placed))
  where
    by_shard : (i : ℕ) (l : Labels) (t : ℤ) (word : ℕ) (o : Option Shard) → slice_get w.shards i ≡ o → Ids (put_if_room c w i l t word o)
    by_shard i l t word None e = at
    by_shard i l t word (Some s) e = either Ids (has_room c.capacity s) _ w
        (λ _. record {
          rows = each_change (InRow w.epoch) (shard_put (next_sample w i l t word s)) i w.shards at.rows (λ u at_u h. let same : s ≡ u = same_Some _ _ (sym e ∙ at_u) in put_row w.epoch i (next_sample w i l t word s) u (refl, refl, ap (λ (v : Shard). length v.put) same) h);
          fates = AllByRecursion-weaker (Fate w.epoch w.shards) (Fate w.epoch (change i (shard_put (next_sample w i l t word s)) w.shards)) (fate_change w.epoch i (shard_put (next_sample w i l t word s)) w.shards (λ _. refl) (λ _ _. refl)) w.requests at.fates;
          one = at.one;
        })
        (λ _. at)

    by_rising : (l : Labels) (t : ℤ) (word : ℕ) (b : Bool) → Ids (place_kept c w l t word b)
    by_rising l t word true = by_shard (shard_of_labels w l) l t word (slice_get w.shards (shard_of_labels w l)) refl
    by_rising l t word false = at

    by_known : (t : ℤ) (word : ℕ) (k : Standing) → Ids (place_sample c w t word k)
    by_known t word Unknown = at
    by_known t word (Bad f) = at
    by_known t word Filtered = at
    by_known t word (Kept l) = by_rising l t word (rises c.choice (take w.placed (log w)) l t)

    by_entry : (o : Option Entry) → Ids (place_entry c w o)
    by_entry None = at
    by_entry (Some (Def r l)) = at
    by_entry (Some (Sample r t word)) = by_known t word (known c.choice (take w.placed (log w)) r)

-- ---- the open batch
front_id : (epoch i n : ℕ) (b rest : List Placed) → is_empty b ≡ false → Numbered (IsAt epoch i) n (b ++ rest) → batch_id b ≡ id_at epoch i n
front_id epoch i n [] rest full all = absurd (true≢false full)
front_id epoch i n (x ∷ b) rest full all = λ j. id_at (all.0.0 j) (all.0.1 j) (all.0.2 j)

row_id : (epoch i : ℕ) (s : Shard) → InRow epoch i s → is_empty s.core.batch ≡ false → batch_id s.core.batch ≡ id_at epoch i (length s.core.resolved)
row_id epoch i s h full = front_id epoch i (length s.core.resolved) s.core.batch (s.core.builder ++ samples_waiting s.queue) full (subst (Numbered (IsAt epoch i) (length s.core.resolved)) (pending_parts s) h.numbered)

-- its id is that of no resolved one
not_past : (epoch i : ℕ) (ss : List Shard) (s : Shard) → slice_get ss i ≡ Some s → Past epoch ss (id_at epoch i (length s.core.resolved)) → ⊥
not_past epoch i ss s e (inl z) = let lt : epoch < epoch = z in omega arith
not_past epoch i ss s e (inr z) = let lt : length s.core.resolved < length s.core.resolved = z.1 s e in omega arith

open_batch : (epoch i : ℕ) (ss : List Shard) (s : Shard) → slice_get ss i ≡ Some s → InRow epoch i s → is_empty s.core.batch ≡ false → (r : Request) → Fate epoch ss r → r.id ≡ batch_id s.core.batch → s.core.batch ≡ r.batch
open_batch epoch i ss s e row full r h ids = by_fate h.fate
  where
    here : r.id ≡ id_at epoch i (length s.core.resolved)
    here = ids ∙ row_id epoch i s row full

    by_fate : (Past epoch ss r.id ⊎ ((r.id.epoch ≡ epoch) × IsOpen (slice_get ss r.id.shard) r.batch)) → s.core.batch ≡ r.batch
    by_fate (inl z) = absurd (not_past epoch i ss s e (subst (Past epoch ss) here z))
    by_fate (inr z) = (subst (λ (o : Option Shard). IsOpen o r.batch) (ap (λ (d : BatchId). slice_get ss d.shard) here ∙ e) z.1).0

send_ids : (w : World) (i : ℕ) (o : Option Shard) → slice_get w.shards i ≡ o → Ids w → Ids (send_batch w i o)
send_ids w i None e at = at
send_ids w i (Some s) e at = either Ids (can_send s.core) _ w (λ h. sent (not-true (is_empty s.core.batch) (and_parts (not (is_empty s.core.batch)) (not s.core.waiting) (and_parts (not s.core.killed) (not (is_empty s.core.batch) && not s.core.waiting) h).1).0)) (λ _. at)
  where
    new : Request
    new = request_by s

    same_batch : is_empty s.core.batch ≡ false → (r : Request) (j : ℕ) → slice_get w.requests j ≡ Some r → r.id ≡ batch_id s.core.batch → s.core.batch ≡ r.batch
    same_batch full r j at_j ids = open_batch w.epoch i w.shards s e (at.rows i s e) full r (AllByRecursion-get (Fate w.epoch w.shards) w.requests j r at.fates at_j) ids

    by_place : is_empty s.core.batch ≡ false → (r p : Request) (j k : ℕ) → r.id ≡ p.id → (slice_get w.requests j ≡ Some r) ⊎ (new ≡ r) → (slice_get w.requests k ≡ Some p) ⊎ (new ≡ p) → r.batch ≡ p.batch
    by_place full r p j k ids (inl x) (inl y) = at.one j k r p x y ids
    by_place full r p j k ids (inl x) (inr y) = sym (same_batch full r j x (ids ∙ ap (λ (z : Request). z.id) (sym y))) ∙ ap (λ (z : Request). z.batch) y
    by_place full r p j k ids (inr x) (inl y) = ap (λ (z : Request). z.batch) (sym x) ∙ same_batch full p k y (sym ids ∙ ap (λ (z : Request). z.id) (sym x))
    by_place full r p j k ids (inr x) (inr y) = ap (λ (z : Request). z.batch) (sym x ∙ y)

    sent : is_empty s.core.batch ≡ false → Sound w.epoch (change i shard_send w.shards) (w.requests ++ new ∷ [])
    sent full =
        let quiet = quiet_ids w i shard_send quiet_send at in
        let here : batch_id s.core.batch ≡ id_at w.epoch i (length s.core.resolved) = row_id w.epoch i s (at.rows i s e) full in
        record {
          rows = quiet.rows;
          fates = AllByRecursion-append (Fate w.epoch (change i shard_send w.shards)) w.requests (new ∷ []) quiet.fates (
            record {
              id_is = refl;
              fate = inr (ap (λ (d : BatchId). d.epoch) here, subst (λ (o : Option Shard). IsOpen o s.core.batch) (sym (ap (λ (d : BatchId). slice_get (change i shard_send w.shards) d.shard) here ∙ get_changed i shard_send w.shards s e)) ((quiet_send s).same_batch full, full));
            },
            tt,
          );
          one = λ j k r p e_r e_p ids. by_place full r p j k ids (get_pushed w.requests new j r e_r) (get_pushed w.requests new k p e_p);
        }

-- ---- it is resolved
resolve_row : (epoch i : ℕ) (s : Shard) → InRow epoch i s → InRow epoch i (shard_resolve s)
resolve_row epoch i s h =
    let more : length (s.core.resolved ++ s.core.batch) ≡ length s.core.resolved + length s.core.batch = length-append s.core.resolved s.core.batch in
    record {
      counted = (let a : length (pending_in_shard s) ≡ length s.core.batch + length (pending_in_shard (shard_resolve s)) = ap length (sym (pending_resolve s)) ∙ length-append s.core.batch (pending_in_shard (shard_resolve s)) in let d : length s.put ≡ length s.core.resolved + length (pending_in_shard s) = h.counted in omega arith);
      numbered = numbered_right (IsAt epoch i) (length s.core.resolved) (length (s.core.resolved ++ s.core.batch)) s.core.batch (pending_in_shard (shard_resolve s)) more (subst (Numbered (IsAt epoch i) (length s.core.resolved)) (sym (pending_resolve s)) h.numbered);
    }

resolve_fate : (epoch j : ℕ) (ss : List Shard) (s : Shard) → slice_get ss j ≡ Some s → InRow epoch j s → is_empty s.core.batch ≡ false → (r : Request) → Fate epoch ss r → Fate epoch (change j shard_resolve ss) r
resolve_fate epoch j ss s e row full r h = record { id_is = h.id_is; fate = by_fate h.fate (cases_eq j r.id.shard) }
  where
    grown : (u : Shard) → length u.core.resolved ≤ length (shard_resolve u).core.resolved
    grown u = let more : length (u.core.resolved ++ u.core.batch) ≡ length u.core.resolved + length u.core.batch = length-append u.core.resolved u.core.batch in omega arith

    passed : (j ≡ r.id.shard) → IsOpen (slice_get ss r.id.shard) r.batch → r.id ≡ id_at epoch j (length s.core.resolved)
    passed at_j k = h.id_is ∙ ap batch_id (sym (subst (λ (o : Option Shard). IsOpen o r.batch) (ap (slice_get ss) (sym at_j) ∙ e) k).0) ∙ row_id epoch j s row full

    below : r.id ≡ id_at epoch j (length s.core.resolved) → (u : Shard) → slice_get (change j shard_resolve ss) r.id.shard ≡ Some u → r.id.seq < length u.core.resolved
    below here u at_u =
        let same : shard_resolve s ≡ u = same_Some _ _ (sym (get_changed j shard_resolve ss s e) ∙ sym (ap (λ (d : BatchId). slice_get (change j shard_resolve ss) d.shard) here) ∙ at_u) in
        let seq : r.id.seq ≡ length s.core.resolved = ap (λ (d : BatchId). d.seq) here in
        let long : length u.core.resolved ≡ length s.core.resolved + length s.core.batch = ap (λ (v : Shard). length v.core.resolved) (sym same) ∙ length-append s.core.resolved s.core.batch in
        let some : 0 < length s.core.batch = length_not_empty s.core.batch full in
        omega arith

    by_fate : (Past epoch ss r.id ⊎ ((r.id.epoch ≡ epoch) × IsOpen (slice_get ss r.id.shard) r.batch)) → (j ≡ r.id.shard) ⊎ (j ≡ r.id.shard → ⊥) → (Past epoch (change j shard_resolve ss) r.id ⊎ ((r.id.epoch ≡ epoch) × IsOpen (slice_get (change j shard_resolve ss) r.id.shard) r.batch))
    by_fate (inl z) _ = inl (past_change epoch j shard_resolve ss grown r.id z)
    by_fate (inr z) (inl at_j) = inl (inr (z.0, below (passed at_j z.1)))
    by_fate (inr z) (inr apart) = inr (z.0, subst (λ (o : Option Shard). IsOpen o r.batch) (sym (get_others j r.id.shard shard_resolve ss apart)) z.1)

resolved_ids : (w : World) (j : ℕ) (s : Shard) → slice_get w.shards j ≡ Some s → is_empty s.core.batch ≡ false → Ids w → Ids (changed w j shard_resolve)
resolved_ids w j s e full at = record {
  rows = each_change (InRow w.epoch) shard_resolve j w.shards at.rows (λ u _ h. resolve_row w.epoch j u h);
  fates = AllByRecursion-weaker (Fate w.epoch w.shards) (Fate w.epoch (change j shard_resolve w.shards)) (resolve_fate w.epoch j w.shards s e (at.rows j s e) full) w.requests at.fates;
  one = at.one;
}

settle_ids : (w : World) (j : ℕ) (s : Shard) → slice_get w.shards j ≡ Some s → is_empty s.core.batch ≡ false → (d : Judgement) → Ids w → Ids (changed w j (with_core (settle d)))
settle_ids w j s e full Again at = quiet_ids w j shard_again quiet_again at
settle_ids w j s e full Done at = resolved_ids w j s e full at
settle_ids w j s e full Refused at = resolved_ids w j s e full at

reply_ids : (w : World) (o : Option Reply) → Ids w → Ids (take_reply w o)
reply_ids w None at = at
reply_ids w (Some a) at = by_shard (slice_get w.shards a.id.shard) refl
  where
    full : (s : Shard) → is_answer a.id s.core ≡ true → is_empty s.core.batch ≡ false
    full s h = not-true (is_empty s.core.batch) (and_parts (not (is_empty s.core.batch)) s.core.waiting (and_parts (not s.core.killed) (not (is_empty s.core.batch) && s.core.waiting) (and_parts (awaits s.core) (same_id a.id (batch_id s.core.batch)) h).0).1).0

    by_shard : (o : Option Shard) → slice_get w.shards a.id.shard ≡ o → Ids (reply_to w a o)
    by_shard None e = at
    by_shard (Some s) e = either Ids (is_answer a.id s.core) _ w (λ h. settle_ids w a.id.shard s e (full s h) (judgement_of a.status) at) (λ _. at)

-- ---- and the next epoch
restart_ids : (c : Setup) (w : World) (o : Option ℕ) → Ids w → Ids (restart_as c w o)
restart_ids c w None at = at
restart_ids c w (Some n) at = either Ids _ _ w
    (λ _. record {
      rows = each_new (InRow (suc w.epoch)) c (suc w.epoch) 0 (λ i. record { counted = refl; numbered = tt }) n;
      fates = AllByRecursion-weaker (Fate w.epoch w.shards) (Fate (suc w.epoch) (new_shards c (suc w.epoch) 0 n)) (λ r h. record { id_is = h.id_is; fate = inl (inl (older r h.fate)) }) w.requests at.fates;
      one = at.one;
    })
    (λ _. at)
  where
    older : (r : Request) → (Past w.epoch w.shards r.id ⊎ ((r.id.epoch ≡ w.epoch) × IsOpen (slice_get w.shards r.id.shard) r.batch)) → r.id.epoch < suc w.epoch
    older r (inl (inl z)) = let lt : r.id.epoch < w.epoch = z in omega arith
    older r (inl (inr z)) = let same : r.id.epoch ≡ w.epoch = z.0 in omega arith
    older r (inr z) = let same : r.id.epoch ≡ w.epoch = z.0 in omega arith

arrive_ids : (c : Setup) (w : World) (how : How) (o : Option Request) → Ids w → Ids (arrive c w how o)
arrive_ids c w how None at = at
arrive_ids c w Plain (Some r) at = at
arrive_ids c w Busy (Some r) at = at
arrive_ids c w OutOfMemory (Some r) at = at

pub act_ids : (c : Setup) (w : World) (e : Event) → Ids w → Ids (act c w e)
act_ids c w (event.Feed piece) at = either Ids (is_some w.closed) w _ (λ _. at) (λ _. at)
act_ids c w event.Place at = place_ids c w at
act_ids c w (event.Flush i) at = quiet_ids w i (flush_shard c w) (quiet_flush c w) at
act_ids c w (event.Take i) at = quiet_ids w i shard_take quiet_take at
act_ids c w (event.Freeze i) at = quiet_ids w i shard_freeze quiet_freeze at
act_ids c w (event.Send i) at = send_ids w i (slice_get w.shards i) refl at
act_ids c w (event.Arrive k how) at = arrive_ids c w how (slice_get w.requests k) at
act_ids c w (event.Reply k) at = reply_ids w (slice_get w.replies k) at
act_ids c w (event.Lost i) at = quiet_ids w i shard_lost quiet_lost at
act_ids c w (event.Reshard n) at = either Ids (not (is_some w.draining) && (not (is_finished w) && (nat_le 1 n && nat_le n 1000))) _ w (λ _. at) (λ _. at)
act_ids c w event.Restart at = restart_ids c w w.draining at
act_ids c w event.Close at = either Ids (is_some w.closed) w _ (λ _. at) (λ _. at)
act_ids c w event.Kill at = at

pub ids_start : (c : Setup) → Ids (start c)
ids_start c = record {
  rows = each_new (InRow 0) c 0 0 (λ i. record { counted = refl; numbered = tt }) c.shards;
  fates = tt;
  one = λ i j r q e _ _. let never : None ≡ Some r → ⊥ = λ h. cc in absurd (never e);
}

pub one_batch : (c : Setup) (events : List Event) → HasOneBatchEachId (run c events (start c))
one_batch c events = (always Ids c (act_ids c) events (start c) (ids_start c)).one
