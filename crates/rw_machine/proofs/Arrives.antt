-- An arrival keeps the invariant.
use Rattle.std.proofs.Common.{◌≡◌, ℕ, ◌+◌, ◌-◌, ◌<◌, ◌==◌, Bool, true, false, cond, List, [], ◌∷◌, ◌++◌, length, map, filter, take, Option, Some, None, is_none, slice_get, refl, sym, ap, ◌∙◌, subst, ℤ, int_lt, not, append-nil, append_assoc, arith, inl, inr, ◌⊎◌}
use Rattle.std.proofs.lemmas.Bool.{cases_eq, true≢false, not-false, cond-false, cond-true, ne_eqb}
use Rattle.std.proofs.lemmas.Bool.Decides.{Decides-eqb}
use Rattle.std.proofs.lemmas.List.{map-append}
use Rattle.rw_machine.proofs.shared.Steps.{same_is, is_same}
use Rattle.std.specs.List.{AllByRecursion}
use Rattle.rw_types.specs.Rising.{Rises}
use Rattle.rw_types.proofs.shared.AllLemmas.{AllByRecursion-append, AllByRecursion-map, AllByRecursion-weaker}
use Rattle.rw_types.proofs.shared.RisingLemmas.{Rises-left}
use Rattle.rw_head.specs.Lists.{IsEarlier}
use Rattle.rw_machine.proofs.Risen.{IsEarlierPoint, Rises-risen}
use Rattle.rw_head.proofs.shared.OrderRule.{accept_repeats, accept_later, holds_append, holds_right}
use Rattle.rw_machine.proofs.TakenMessages.{distinct_apart, Took, take_message}
use Rattle.rw_machine.proofs.shared.Places.{Numbered, numbered_left, numbered_all, of_append}
use Rattle.rw_machine.proofs.Invariant.{Inv, as_points, waits, home, id_at, Past, SampleOk, ShardOk, GotOk, IsOpen, InStore, RequestOk, AnswersOpen, AnswerOk, by_bool}
use Rattle.rw_machine.proofs.Keeps.{pairs_of_points, of_none}
use Rattle.rw_machine.proofs.shared.Resolves.{holds_each, open_id}
use Rattle.rw_machine.proofs.shared.Others.{pending_parts, all_distinct}
use Rattle.rw_machine.proofs.Heads.{accept_all, by_answer, Takes}
use Rattle.rw_batch.specs.Grouping.{distinct}
use Rattle.rw_head.specs.Head.{Answer}
use Rattle.rw_head.specs.Store as head
use Rattle.std.specs.FinMap.{get}
use Rattle.std.proofs.lemmas.Option.{same_Some}
use Rattle.rw_head.specs.Order.{accept, holds}
use Rattle.rw_head.specs.Store.{list_of}
use Rattle.rw_retry.specs.Judgements.{judgement_of}
use Rattle.rw_retry.specs.declared.judgement.Judgement.TheVariants.{Again, Done, Refused}
use Rattle.rw_machine.proofs.shared.Views.{IsKept, Ledger, Pairs, Store, is_let_in, logged_points, message, of, owed_by, pairs, points}
use Rattle.rw_machine.specs.Promises.{LoggedPoint, pair_of}
use Rattle.rw_machine.specs.Shards.{Shard, samples_waiting}
use Rattle.rw_machine.specs.Steps.{with_answer, arrive, endpoint_answer}
use Rattle.rw_machine.specs.Worlds.{Reply, Request, Setup, World, log}
use Rattle.rw_machine.specs.declared.event.How.{How}
use Rattle.rw_machine.specs.declared.event.How.TheVariants.{Busy, Plain, OutOfMemory}
use Rattle.rw_shard_core.specs.Shard.{batch_id, is_empty}
use Rattle.rw_plain_queue.specs.Items.{Placed}
use Rattle.rw_types.specs.LabelOrder.{labels_eq}
use Rattle.rw_types.specs.Labels.{Labels}
use Rattle.rw_types.proofs.shared.Booleans.{either}

later_pairs : (t : ℤ) (ps : List LoggedPoint) → AllByRecursion (λ (p : LoggedPoint). int_lt t p.1 ≡ true) ps → AllByRecursion (λ (y : ℤ × ℕ). int_lt t y.0 ≡ true) (map pair_of ps)
later_pairs t [] h = tt
later_pairs t (p ∷ ps) h = (h.0, later_pairs t ps h.1)

pub ascends_points : (ps : List LoggedPoint) → Rises IsEarlierPoint ps → Rises IsEarlier (map pair_of ps)
ascends_points [] h = tt
ascends_points (p ∷ ps) h = (later_pairs p.1 ps h.0, ascends_points ps h.1)

all_owed : (P : ℤ × ℕ → Type 0) (ledger : Ledger) (ps : List LoggedPoint) (ys : Pairs) → AllByRecursion P (map pair_of ps ++ ys) → AllByRecursion P (map pair_of (owed_by ledger ps) ++ ys)
all_owed P ledger [] ys h = h
all_owed P ledger (p ∷ ps) ys h = either (λ qs. AllByRecursion P (map pair_of qs ++ ys)) (is_none (ledger p.0)) (p ∷ owed_by ledger ps) (owed_by ledger ps) (λ _. (h.0, all_owed P ledger ps ys h.1)) (λ _. all_owed P ledger ps ys h.1)

ascends_owed : (ledger : Ledger) (ps : List LoggedPoint) (ys : Pairs) → Rises IsEarlier (map pair_of ps ++ ys) → Rises IsEarlier (map pair_of (owed_by ledger ps) ++ ys)
ascends_owed ledger [] ys h = h
ascends_owed ledger (p ∷ ps) ys h = either (λ qs. Rises IsEarlier (map pair_of qs ++ ys)) (is_none (ledger p.0)) (p ∷ owed_by ledger ps) (owed_by ledger ps) (λ _. (all_owed (λ (y : ℤ × ℕ). int_lt p.1 y.0 ≡ true) ledger ps ys h.0, ascends_owed ledger ps ys h.1)) (λ _. ascends_owed ledger ps ys h.1)

unfilter : (P : Labels → Type 0) (p : Labels → Bool) → ((m : Labels) → p m ≡ false → P m) → (ls : List Labels) → AllByRecursion P (filter p ls) → AllByRecursion P ls
unfilter P p dropped [] h = tt
unfilter P p dropped (l ∷ ls) h = by_bool (AllByRecursion P (l ∷ ls)) (p l)
    (λ e. let both : AllByRecursion P (l ∷ filter p ls) = subst (AllByRecursion P) (cond-true (p l) (l ∷ filter p ls) (filter p ls) e) h in (both.0, unfilter P p dropped ls both.1))
    (λ e. (dropped l e, unfilter P p dropped ls (subst (AllByRecursion P) (cond-false (p l) (l ∷ filter p ls) (filter p ls) e) h)))

undistinct : (P : Labels → Type 0) (ls : List Labels) → AllByRecursion P (distinct ls) → AllByRecursion P ls
unfolding distinct
undistinct P [] h = tt
undistinct P (l ∷ ls) h = (h.0, undistinct P ls (unfilter P (λ m. not (labels_eq l m)) (λ m e. subst P (same_is l m (not-false (labels_eq l m) e)) h.0) (distinct ls) h.1))

unmap : (P : Labels → Type 0) (xs : List Placed) → AllByRecursion P (map (λ (x : Placed). x.labels) xs) → AllByRecursion (λ (x : Placed). P x.labels) xs
unmap P [] h = tt
unmap P (x ∷ xs) h = (h.0, unmap P xs h.1)

-- each list of a store that took a message
everywhere : (store after : Store) (add : Labels → Pairs) (l : Labels) (ls : List Labels) → AllByRecursion (λ m. after m ≡ store m ++ add m) ls → (AllByRecursion (λ m. labels_eq m l ≡ false) ls) ⊎ (after l ≡ store l ++ add l)
everywhere store after add l [] h = inl tt
everywhere store after add l (m ∷ ls) h = by_bool _ (labels_eq m l)
    (λ e. inr (subst (λ n. after n ≡ store n ++ add n) (same_is m l e) h.0))
    (λ e. with_rest e (everywhere store after add l ls h.1))
  where
    with_rest : labels_eq m l ≡ false → (AllByRecursion (λ n. labels_eq n l ≡ false) ls) ⊎ (after l ≡ store l ++ add l) → (AllByRecursion (λ n. labels_eq n l ≡ false) (m ∷ ls)) ⊎ (after l ≡ store l ++ add l)
    with_rest e (inl r) = inl (e, r)
    with_rest e (inr r) = inr r

stored_pairs : (store : Store) (l : Labels) (xs : List Placed) → AllByRecursion (InStore store) xs → AllByRecursion (λ s. holds s (store l) ≡ true) (pairs (of l xs))
stored_pairs store l [] h = tt
stored_pairs store l (x ∷ xs) h = either (λ ys. AllByRecursion (λ s. holds s (store l) ≡ true) (pairs ys)) (labels_eq l x.labels) (x ∷ of l xs) (of l xs) (λ e. (subst (λ m. holds (x.t, x.word) (store m) ≡ true) (sym (same_is l x.labels e)) h.0, stored_pairs store l xs h.1)) (λ _. stored_pairs store l xs h.1)

all_of_each : (P : Labels → Type 0) → ((l : Labels) → P l) → (ls : List Labels) → AllByRecursion P ls
all_of_each P each [] = tt
all_of_each P each (l ∷ ls) = (each l, all_of_each P each ls)

module _ (c : Setup) (w : World) (at : Inv c w) (r : Request) (r_ok : RequestOk c w.epoch w.shards (list_of w.head.store) r) where
  abbrev kept_part : Labels → Pairs
  kept_part l = map pair_of (owed_by (get w.names) (at.done l))

  -- what the head has of a series, and what waits for it, rise
  ascends : (l : Labels) → IsKept c l → Rises IsEarlier (kept_part l ++ pairs (of l (waits (slice_get w.shards (home at.width w.series l)))))
  ascends l k = ascends_owed (get w.names) (at.done l) (pairs (of l (waits (slice_get w.shards (home at.width w.series l))))) (subst (Rises IsEarlier) (ap (map pair_of) (at.mine l k) ∙ map-append pair_of (at.done l) (as_points (of l (waits (slice_get w.shards (home at.width w.series l))))) ∙ ap (λ ps. map pair_of (at.done l) ++ ps) (pairs_of_points (of l (waits (slice_get w.shards (home at.width w.series l)))))) (ascends_points (points c l (take w.placed (log w))) (Rises-risen (logged_points c l (take w.placed (log w))))))

  ascends_batch : (l : Labels) → IsKept c l → (s : Shard) → slice_get w.shards (home at.width w.series l) ≡ Some s → Rises IsEarlier (kept_part l ++ pairs (of l s.core.batch))
  ascends_batch l k s e = Rises-left IsEarlier (kept_part l ++ pairs (of l s.core.batch)) (pairs (of l (s.core.builder ++ samples_waiting s.queue))) (subst (Rises IsEarlier) (ap (λ o. kept_part l ++ pairs (of l (waits o))) e ∙ ap (λ xs. kept_part l ++ pairs (of l xs)) (pending_parts s) ∙ ap (λ ps. kept_part l ++ ps) (ap pairs (of_append l s.core.batch (s.core.builder ++ samples_waiting s.queue)) ∙ map-append _ (of l s.core.batch) (of l (s.core.builder ++ samples_waiting s.queue))) ∙ sym (append_assoc (kept_part l) (pairs (of l s.core.batch)) (pairs (of l (s.core.builder ++ samples_waiting s.queue))))) (ascends l k))

  ascends_kept : (l : Labels) → IsKept c l → Rises IsEarlier (kept_part l)
  ascends_kept l k = Rises-left IsEarlier (kept_part l) (pairs (of l (waits (slice_get w.shards (home at.width w.series l))))) (ascends l k)

  ascends_store : (l : Labels) → IsKept c l → Rises IsEarlier (list_of w.head.store l)
  ascends_store l k = subst (Rises IsEarlier) (sym (at.stored l k)) (by_shard (slice_get w.shards (home at.width w.series l)) refl (at.got_ok (home at.width w.series l)))
    where
      none : at.got (home at.width w.series l) ≡ [] → Rises IsEarlier (kept_part l ++ pairs (of l (at.got (home at.width w.series l))))
      none g = subst (Rises IsEarlier) (sym (append-nil (kept_part l)) ∙ ap (λ b. kept_part l ++ pairs (of l b)) (sym g)) (ascends_kept l k)

      by_shard : (o : Option Shard) → slice_get w.shards (home at.width w.series l) ≡ o → GotOk c o (at.got (home at.width w.series l)) → Rises IsEarlier (kept_part l ++ pairs (of l (at.got (home at.width w.series l))))
      by_shard None e g = none g
      by_shard (Some s) e (inl g) = none g
      by_shard (Some s) e (inr g) = subst (Rises IsEarlier) (ap (λ b. kept_part l ++ pairs (of l b)) (sym g.0)) (ascends_batch l k s e)

  -- an answer that fits what the head has then
  record Fits (v : Answer) (got : ℕ → List Placed) : Type 0 where
    limits : v.head.limits ≡ w.head.limits
    stored : (l : Labels) → IsKept c l → list_of v.head.store l ≡ kept_part l ++ pairs (of l (got (home at.width w.series l)))
    got_ok : (i : ℕ) → GotOk c (slice_get w.shards i) (got i)
    grows : (s : ℤ × ℕ) (l : Labels) → holds s (list_of w.head.store l) ≡ true → holds s (list_of v.head.store l) ≡ true
    stays : (i : ℕ) (s : Shard) → slice_get w.shards i ≡ Some s → at.got i ≡ s.core.batch → got i ≡ s.core.batch
    new : AnswerOk c w.epoch w.shards got (record { id = r.id; status = v.status })

  answered_keeps : (v : Answer) (got : ℕ → List Placed) → Fits v got → Inv c (with_answer w r.id v)
  answered_keeps v got f = record {
    width = at.width;
    ident = at.ident;
    done = at.done;
    got = got;
    limited = f.limits ∙ at.limited;
    wide = at.wide;
    placed_in = at.placed_in;
    series_in = at.series_in;
    shards_ok = at.shards_ok;
    got_ok = f.got_ok;
    mine = at.mine;
    stored = f.stored;
    done_ok = at.done_ok;
    fresh = at.fresh;
    requests_ok = AllByRecursion-weaker (RequestOk c w.epoch w.shards (list_of w.head.store)) (RequestOk c w.epoch w.shards (list_of v.head.store)) (λ q q_ok. record { id_is = q_ok.id_is; kept = q_ok.kept; fate = fate q q_ok.fate }) w.requests at.requests_ok;
    answers_ok = AllByRecursion-append (AnswerOk c w.epoch w.shards got) w.replies (record { id = r.id; status = v.status } ∷ []) (AllByRecursion-weaker (AnswerOk c w.epoch w.shards at.got) (AnswerOk c w.epoch w.shards got) older w.replies at.answers_ok) (f.new, tt);
  }
    where
      fate : (q : Request) → ((Past w.epoch w.shards q.id × (is_let_in c q.batch ≡ true → AllByRecursion (InStore (list_of w.head.store)) q.batch)) ⊎ ((q.id.epoch ≡ w.epoch) × IsOpen (slice_get w.shards q.id.shard) q.batch)) → ((Past w.epoch w.shards q.id × (is_let_in c q.batch ≡ true → AllByRecursion (InStore (list_of v.head.store)) q.batch)) ⊎ ((q.id.epoch ≡ w.epoch) × IsOpen (slice_get w.shards q.id.shard) q.batch))
      fate q (inl h) = inl (h.0, λ fits. AllByRecursion-weaker (InStore (list_of w.head.store)) (InStore (list_of v.head.store)) (λ x. f.grows (x.t, x.word) x.labels) q.batch (h.1 fits))
      fate q (inr h) = inr h

      at_shard : (a : Reply) (o : Option Shard) → slice_get w.shards a.id.shard ≡ o → AnswersOpen c (at.got a.id.shard) a o → AnswersOpen c (got a.id.shard) a o
      at_shard a None e h = h
      at_shard a (Some s) e h = (h.0, h.1, λ d. f.stays a.id.shard s e (h.2 d), h.3)

      older : (a : Reply) → AnswerOk c w.epoch w.shards at.got a → AnswerOk c w.epoch w.shards got a
      older a (inl h) = inl h
      older a (inr h) = inr (h.0, at_shard a (slice_get w.shards a.id.shard) refl h.1)

  -- the store stays
  same_keeps : (v : Answer) → v.head.limits ≡ w.head.limits → ((l : Labels) → list_of v.head.store l ≡ list_of w.head.store l) → ((s : Shard) → slice_get w.shards r.id.shard ≡ Some s → s.core.batch ≡ r.batch → is_empty r.batch ≡ false → (judgement_of v.status ≡ Done → at.got r.id.shard ≡ s.core.batch) × (judgement_of v.status ≡ Refused → is_let_in c s.core.batch ≡ false)) → Inv c (with_answer w r.id v)
  same_keeps v limits same says = answered_keeps v at.got (record {
    limits = limits;
    stored = λ l k. same l ∙ at.stored l k;
    got_ok = at.got_ok;
    grows = λ s l h. subst (λ ps. holds s ps ≡ true) (sym (same l)) h;
    stays = λ i s _ e. e;
    new = by_fate r_ok.fate;
  })
    where
      by_shard : (o : Option Shard) → slice_get w.shards r.id.shard ≡ o → IsOpen o r.batch → AnswersOpen c (at.got r.id.shard) (record { id = r.id; status = v.status }) o
      by_shard None e h = h
      by_shard (Some s) e h = (r_ok.id_is ∙ ap batch_id (sym h.0), ap is_empty h.0 ∙ h.1, (says s e h.0 h.1).0, (says s e h.0 h.1).1)

      by_fate : ((Past w.epoch w.shards r.id × (is_let_in c r.batch ≡ true → AllByRecursion (InStore (list_of w.head.store)) r.batch)) ⊎ ((r.id.epoch ≡ w.epoch) × IsOpen (slice_get w.shards r.id.shard) r.batch)) → AnswerOk c w.epoch w.shards at.got (record { id = r.id; status = v.status })
      by_fate (inl h) = inl h.0
      by_fate (inr h) = inr (h.0, by_shard (slice_get w.shards r.id.shard) refl h.1)

  refused_keeps : (status : ℕ) → judgement_of status ≡ Refused → is_let_in c r.batch ≡ false → Inv c (with_answer w r.id (record { status = status; head = w.head }))
  refused_keeps status is unfit = same_keeps (record { status = status; head = w.head }) refl (λ l. refl) (λ s e b _. (λ d. let z : Refused ≡ Done = sym is ∙ d in let never : Refused ≡ Done → ⊥ = λ h. cc in absurd (never z), λ _. ap (is_let_in c) b ∙ unfit))

  again_keeps : (v : Answer) → v.head.limits ≡ w.head.limits → ((l : Labels) → list_of v.head.store l ≡ list_of w.head.store l) → judgement_of v.status ≡ Again → Inv c (with_answer w r.id v)
  again_keeps v limits same is = same_keeps v limits same (λ s e b _. (λ d. let z : Again ≡ Done = sym is ∙ d in let never : Again ≡ Done → ⊥ = λ h. cc in absurd (never z), λ d. let z : Again ≡ Refused = sym is ∙ d in let never : Again ≡ Refused → ⊥ = λ h. cc in absurd (never z)))

  abbrev ls : List Labels
  ls = distinct (map (λ (x : Placed). x.labels) r.batch)

  kept_ls : AllByRecursion (IsKept c) ls
  kept_ls = all_distinct (IsKept c) (map (λ (x : Placed). x.labels) r.batch) (AllByRecursion-map (IsKept c) (λ (x : Placed). x.labels) r.batch r_ok.kept)

  -- the head takes a batch again that it has already
  repeat_took : AllByRecursion (InStore (list_of w.head.store)) r.batch → Took (list_of w.head.store) (λ _. []) ls (accept_all (Some (list_of w.head.store)) (message r.batch))
  repeat_took in_store = take_message r.batch (λ _. []) ls (list_of w.head.store) (distinct_apart (map (λ (x : Placed). x.labels) r.batch)) (AllByRecursion-weaker (IsKept c) (λ l. accept (Some (list_of w.head.store l)) (pairs (of l r.batch)) ≡ Some (list_of w.head.store l ++ [])) (λ l k. accept_repeats (list_of w.head.store l) (pairs (of l r.batch)) (ascends_store l k) (stored_pairs (list_of w.head.store) l r.batch in_store) ∙ ap Some (sym (append-nil (list_of w.head.store l)))) ls kept_ls)

  -- the answer of a head that takes it
  abbrev taken_as : head.Store → Answer
  taken_as next = record { status = 204; head = record w.head { store = next } }

  next_is : (next : head.Store) → Takes w.head r.batch next → (f : Store) → accept_all (Some (list_of w.head.store)) (message r.batch) ≡ Some f → list_of next ≡ f
  next_is next t f e = t.same ∙ same_Some _ _ (sym t.taken ∙ e)

  -- a batch that the head has already
  repeated : AllByRecursion (InStore (list_of w.head.store)) r.batch → ((s : Shard) → slice_get w.shards r.id.shard ≡ Some s → s.core.batch ≡ r.batch → is_empty r.batch ≡ false → at.got r.id.shard ≡ s.core.batch) → (next : head.Store) → Takes w.head r.batch next → Inv c (with_answer w r.id (taken_as next))
  repeated in_store has next t =
      let took = repeat_took in_store in
      let now : list_of next ≡ took.after = next_is next t took.after took.taken in
      let same : (l : Labels) → list_of next l ≡ list_of w.head.store l = λ l. (λ i. now i l) ∙ by_place l took (everywhere (list_of w.head.store) took.after (λ _. []) l ls took.inside) in
      same_keeps (taken_as next) refl same (λ s e b n. (λ _. has s e b n, λ d. let never : Done ≡ Refused → ⊥ = λ h. cc in absurd (never d)))
    where
      by_place : (l : Labels) (took : Took (list_of w.head.store) (λ _. []) ls (accept_all (Some (list_of w.head.store)) (message r.batch))) → (AllByRecursion (λ m. labels_eq m l ≡ false) ls) ⊎ (took.after l ≡ list_of w.head.store l ++ []) → took.after l ≡ list_of w.head.store l
      by_place l took (inl h) = took.outside l h
      by_place l took (inr h) = h ∙ append-nil (list_of w.head.store l)

  -- the open batch comes for the first time
  module _ (s : Shard) (at_j : slice_get w.shards r.id.shard ≡ Some s) (is_epoch : r.id.epoch ≡ w.epoch) (batch_is : s.core.batch ≡ r.batch) (full : is_empty r.batch ≡ false) (fits : is_let_in c r.batch ≡ true) where
    abbrev j : ℕ
    j = r.id.shard

    ok : ShardOk c w.epoch w.placed at.width w.series (get w.names) at.ident j s
    ok = at.shards_ok j s at_j

    each_of_batch : (Q : Placed → Type 0) → ((k : ℕ) (x : Placed) → SampleOk c w.epoch w.placed at.width w.series (get w.names) at.ident j k x → Q x) → AllByRecursion Q r.batch
    each_of_batch Q more = subst (AllByRecursion Q) batch_is (numbered_all (SampleOk c w.epoch w.placed at.width w.series (get w.names) at.ident j) Q (length s.core.resolved) (length s.core.resolved + length s.core.batch) s.core.batch refl (λ k x _ _ x_ok. more k x x_ok) (numbered_left (SampleOk c w.epoch w.placed at.width w.series (get w.names) at.ident j) (length s.core.resolved) s.core.batch (s.core.builder ++ samples_waiting s.queue) (subst (Numbered (SampleOk c w.epoch w.placed at.width w.series (get w.names) at.ident j) (length s.core.resolved)) (pending_parts s) ok.numbered)))

    homes : AllByRecursion (λ (x : Placed). IsKept c x.labels × (home at.width w.series x.labels ≡ j)) r.batch
    homes = each_of_batch (λ (x : Placed). IsKept c x.labels × (home at.width w.series x.labels ≡ j)) (λ k x x_ok. (x_ok.kept, x_ok.home_is))

    has_all : at.got j ≡ s.core.batch → AllByRecursion (InStore (list_of w.head.store)) r.batch
    has_all e = both r.batch (holds_each r.batch) homes
      where
        both : (xs : List Placed) → AllByRecursion (λ (y : Placed). holds (y.t, y.word) (pairs (of y.labels r.batch)) ≡ true) xs → AllByRecursion (λ (x : Placed). IsKept c x.labels × (home at.width w.series x.labels ≡ j)) xs → AllByRecursion (InStore (list_of w.head.store)) xs
        both [] hs ks = tt
        both (x ∷ xs) hs ks = (subst (λ ps. holds (x.t, x.word) ps ≡ true) (sym (at.stored x.labels ks.0.0 ∙ ap (λ (n : ℕ). kept_part x.labels ++ pairs (of x.labels (at.got n))) ks.0.1 ∙ ap (λ b. kept_part x.labels ++ pairs (of x.labels b)) (e ∙ batch_is))) (holds_right (x.t, x.word) (kept_part x.labels) (pairs (of x.labels r.batch)) hs.0), both xs hs.1 ks.1)

    abbrev got : ℕ → List Placed
    got i = cond (i == j) s.core.batch (at.got i)

    -- the head takes it
    first_took : at.got j ≡ [] → Took (list_of w.head.store) (λ l. pairs (of l r.batch)) ls (accept_all (Some (list_of w.head.store)) (message r.batch))
    first_took none =
        let store_is : (l : Labels) → IsKept c l → home at.width w.series l ≡ j → list_of w.head.store l ≡ kept_part l = λ l k h. at.stored l k ∙ ap (λ (n : ℕ). kept_part l ++ pairs (of l (at.got n))) h ∙ ap (λ b. kept_part l ++ pairs (of l b)) none ∙ append-nil (kept_part l) in
        take_message r.batch (λ l. pairs (of l r.batch)) ls (list_of w.head.store) (distinct_apart (map (λ (x : Placed). x.labels) r.batch)) (AllByRecursion-weaker (λ l. IsKept c l × (home at.width w.series l ≡ j)) (λ l. accept (Some (list_of w.head.store l)) (pairs (of l r.batch)) ≡ Some (list_of w.head.store l ++ pairs (of l r.batch))) (λ l k. accept_later (list_of w.head.store l) (pairs (of l r.batch)) (subst (Rises IsEarlier) (λ i. sym (store_is l k.0 k.1) i ++ pairs (of l (batch_is i))) (ascends_batch l k.0 s (ap (slice_get w.shards) k.1 ∙ at_j)))) ls (all_distinct (λ l. IsKept c l × (home at.width w.series l ≡ j)) (map (λ (x : Placed). x.labels) r.batch) (AllByRecursion-map (λ l. IsKept c l × (home at.width w.series l ≡ j)) (λ (x : Placed). x.labels) r.batch homes)))

    first : at.got j ≡ [] → (next : head.Store) → Takes w.head r.batch next → Inv c (with_answer w r.id (taken_as next))
    first none next t =
        let took = first_took none in
        let now : list_of next ≡ took.after = next_is next t took.after took.taken in
        let after_is : (l : Labels) → list_of next l ≡ list_of w.head.store l ++ pairs (of l r.batch) = λ l. (λ i. now i l) ∙ by_place l took (everywhere (list_of w.head.store) took.after (λ l. pairs (of l r.batch)) l ls took.inside) in
        answered_keeps (taken_as next) got (record {
          limits = refl;
          stored = λ l k. after_is l ∙ by_home l k (cases_eq (home at.width w.series l) j);
          got_ok = λ i. by_index i (cases_eq i j);
          grows = λ x l h. subst (λ ps. holds x ps ≡ true) (sym (after_is l)) (holds_append x (list_of w.head.store l) (pairs (of l r.batch)) h);
          stays = λ i u at_i e. by_stay i u at_i e (cases_eq i j);
          new = inr (is_epoch, subst (AnswersOpen c (got j) (record { id = r.id; status = 204 })) (sym at_j) (r_ok.id_is ∙ ap batch_id (sym batch_is), ap is_empty batch_is ∙ full, λ _. cond-true (j == j) s.core.batch (at.got j) ((Decides-eqb j j).1 refl), λ d. let never : Done ≡ Refused → ⊥ = λ h. cc in absurd (never d)));
        })
      where
        outside : (l : Labels) → AllByRecursion (λ m. labels_eq m l ≡ false) ls → of l r.batch ≡ []
        outside l h = of_none l r.batch (AllByRecursion-weaker (λ (x : Placed). labels_eq x.labels l ≡ false) (λ (x : Placed). labels_eq l x.labels ≡ false) (λ x z. by_bool (labels_eq l x.labels ≡ false) (labels_eq l x.labels) (λ e. absurd (true≢false (sym (is_same x.labels l (sym (same_is l x.labels e))) ∙ z))) (λ e. e)) r.batch (unmap (λ m. labels_eq m l ≡ false) r.batch (undistinct (λ m. labels_eq m l ≡ false) (map (λ (x : Placed). x.labels) r.batch) h)))

        by_place : (l : Labels) (took : Took (list_of w.head.store) (λ l. pairs (of l r.batch)) ls (accept_all (Some (list_of w.head.store)) (message r.batch))) → (AllByRecursion (λ m. labels_eq m l ≡ false) ls) ⊎ (took.after l ≡ list_of w.head.store l ++ pairs (of l r.batch)) → took.after l ≡ list_of w.head.store l ++ pairs (of l r.batch)
        by_place l took (inl h) = took.outside l h ∙ sym (append-nil (list_of w.head.store l)) ∙ ap (λ b. list_of w.head.store l ++ pairs b) (sym (outside l h))
        by_place l took (inr h) = h

        by_home : (l : Labels) → IsKept c l → (home at.width w.series l ≡ j) ⊎ (home at.width w.series l ≡ j → ⊥) → list_of w.head.store l ++ pairs (of l r.batch) ≡ kept_part l ++ pairs (of l (got (home at.width w.series l)))
        by_home l k (inl h) = (λ i. (at.stored l k ∙ ap (λ (n : ℕ). kept_part l ++ pairs (of l (at.got n))) h ∙ ap (λ b. kept_part l ++ pairs (of l b)) none ∙ append-nil (kept_part l)) i ++ pairs (of l (sym batch_is i))) ∙ ap (λ b. kept_part l ++ pairs (of l b)) (sym (cond-true (home at.width w.series l == j) s.core.batch (at.got (home at.width w.series l)) ((Decides-eqb (home at.width w.series l) j).1 h)))
        by_home l k (inr h) =
            let apart : of l r.batch ≡ [] = of_none l r.batch (AllByRecursion-weaker (λ (x : Placed). IsKept c x.labels × (home at.width w.series x.labels ≡ j)) (λ (x : Placed). labels_eq l x.labels ≡ false) (λ x z. by_bool (labels_eq l x.labels ≡ false) (labels_eq l x.labels) (λ e. absurd (h (ap (home at.width w.series) (same_is l x.labels e) ∙ z.1))) (λ e. e)) r.batch homes) in
            ap (λ b. list_of w.head.store l ++ pairs b) apart ∙ append-nil (list_of w.head.store l) ∙ at.stored l k ∙ ap (λ b. kept_part l ++ pairs (of l b)) (sym (cond-false (home at.width w.series l == j) s.core.batch (at.got (home at.width w.series l)) (ne_eqb (home at.width w.series l) j h)))

        by_index : (i : ℕ) → (i ≡ j) ⊎ (i ≡ j → ⊥) → GotOk c (slice_get w.shards i) (got i)
        by_index i (inl h) = subst (λ (o : Option Shard). GotOk c o (got i)) (sym (ap (slice_get w.shards) h ∙ at_j)) (inr (cond-true (i == j) s.core.batch (at.got i) ((Decides-eqb i j).1 h), ap (is_let_in c) batch_is ∙ fits))
        by_index i (inr h) = subst (GotOk c (slice_get w.shards i)) (sym (cond-false (i == j) s.core.batch (at.got i) (ne_eqb i j h))) (at.got_ok i)

        by_stay : (i : ℕ) (u : Shard) → slice_get w.shards i ≡ Some u → at.got i ≡ u.core.batch → (i ≡ j) ⊎ (i ≡ j → ⊥) → got i ≡ u.core.batch
        by_stay i u at_i e (inl h) = cond-true (i == j) s.core.batch (at.got i) ((Decides-eqb i j).1 h) ∙ ap (λ (v : Shard). v.core.batch) (same_Some _ _ (sym at_j ∙ ap (slice_get w.shards) (sym h) ∙ at_i))
        by_stay i u at_i e (inr h) = cond-false (i == j) s.core.batch (at.got i) (ne_eqb i j h) ∙ e

    open_keeps : (next : head.Store) → Takes w.head r.batch next → Inv c (with_answer w r.id (taken_as next))
    open_keeps = by_got (subst (λ (o : Option Shard). GotOk c o (at.got j)) at_j (at.got_ok j))
      where
        by_got : (at.got j ≡ []) ⊎ ((at.got j ≡ s.core.batch) × (is_let_in c s.core.batch ≡ true)) → (next : head.Store) → Takes w.head r.batch next → Inv c (with_answer w r.id (taken_as next))
        by_got (inl g) = first g
        by_got (inr g) = repeated (has_all g.0) (λ u at_u _ _. g.0 ∙ ap (λ (v : Shard). v.core.batch) (same_Some _ _ (sym at_j ∙ at_u)))

    open_takes : (after : Store) × (accept_all (Some (list_of w.head.store)) (message r.batch) ≡ Some after)
    open_takes = by_got (subst (λ (o : Option Shard). GotOk c o (at.got j)) at_j (at.got_ok j))
      where
        by_got : (at.got j ≡ []) ⊎ ((at.got j ≡ s.core.batch) × (is_let_in c s.core.batch ≡ true)) → (after : Store) × (accept_all (Some (list_of w.head.store)) (message r.batch) ≡ Some after)
        by_got (inl g) = let took = first_took g in (took.after, took.taken)
        by_got (inr g) = let took = repeat_took (has_all g.0) in (took.after, took.taken)

  -- the order refuses no batch that the limits let in
  let_in_takes : is_let_in c r.batch ≡ true → (after : Store) × (accept_all (Some (list_of w.head.store)) (message r.batch) ≡ Some after)
  let_in_takes fits = by_fate r_ok.fate
    where
      by_shard : r.id.epoch ≡ w.epoch → (o : Option Shard) → slice_get w.shards r.id.shard ≡ o → IsOpen o r.batch → (after : Store) × (accept_all (Some (list_of w.head.store)) (message r.batch) ≡ Some after)
      by_shard e None at_j h = absurd h
      by_shard e (Some s) at_j h = open_takes s at_j e h.0 h.1 fits

      by_fate : ((Past w.epoch w.shards r.id × (is_let_in c r.batch ≡ true → AllByRecursion (InStore (list_of w.head.store)) r.batch)) ⊎ ((r.id.epoch ≡ w.epoch) × IsOpen (slice_get w.shards r.id.shard) r.batch)) → (after : Store) × (accept_all (Some (list_of w.head.store)) (message r.batch) ≡ Some after)
      by_fate (inl h) = let took = repeat_took (h.1 fits) in (took.after, took.taken)
      by_fate (inr h) = by_shard h.0 (slice_get w.shards r.id.shard) refl h.1

  -- an answer that takes or refuses says whether the limits let the batch in
  abbrev Tells : ℕ → Type 0
  Tells status = (judgement_of status ≡ Done → is_let_in c r.batch ≡ true) × (judgement_of status ≡ Refused → is_let_in c r.batch ≡ false)

  no_order : is_let_in c r.batch ≡ true → accept_all (Some (list_of w.head.store)) (message r.batch) ≡ None → ⊥
  no_order fits none = let took = let_in_takes fits in let never : None ≡ Some took.0 → ⊥ = λ h. cc in never (sym none ∙ took.1)

  pub plain_tells : Tells (endpoint_answer c w.head r.batch).status
  plain_tells = by_answer (λ a. Tells a.status) c w.head r.batch at.limited
      (refused_tells 413 refl)
      (λ d. let z : Again ≡ Done = d in let never : Again ≡ Done → ⊥ = λ h. cc in absurd (never z), λ d. let z : Again ≡ Refused = d in let never : Again ≡ Refused → ⊥ = λ h. cc in absurd (never z))
      (refused_tells 400 refl)
      (λ fits none. absurd (no_order fits none))
      (λ fits next t. (λ _. fits, λ d. let never : Done ≡ Refused → ⊥ = λ h. cc in absurd (never d)))
    where
      refused_tells : (status : ℕ) → judgement_of status ≡ Refused → is_let_in c r.batch ≡ false → Tells status
      refused_tells status is unfit = (λ d. let z : Refused ≡ Done = sym is ∙ d in let never : Refused ≡ Done → ⊥ = λ h. cc in absurd (never z), λ _. unfit)

  let_in_keeps : is_let_in c r.batch ≡ true → (next : head.Store) → Takes w.head r.batch next → Inv c (with_answer w r.id (taken_as next))
  let_in_keeps fits = by_fate r_ok.fate
    where
      -- the id of a resolved batch is no open one's
      never : (s : Shard) → slice_get w.shards r.id.shard ≡ Some s → Past w.epoch w.shards (id_at w.epoch r.id.shard (length s.core.resolved)) → ⊥
      never s at_j (inl z) = let lt : w.epoch < w.epoch = z in omega arith
      never s at_j (inr z) = let lt : length s.core.resolved < length s.core.resolved = z.1 s at_j in omega arith

      by_shard : r.id.epoch ≡ w.epoch → (o : Option Shard) → slice_get w.shards r.id.shard ≡ o → IsOpen o r.batch → (next : head.Store) → Takes w.head r.batch next → Inv c (with_answer w r.id (taken_as next))
      by_shard e None at_j h = absurd h
      by_shard e (Some s) at_j h = open_keeps s at_j e h.0 h.1 fits

      by_fate : ((Past w.epoch w.shards r.id × (is_let_in c r.batch ≡ true → AllByRecursion (InStore (list_of w.head.store)) r.batch)) ⊎ ((r.id.epoch ≡ w.epoch) × IsOpen (slice_get w.shards r.id.shard) r.batch)) → (next : head.Store) → Takes w.head r.batch next → Inv c (with_answer w r.id (taken_as next))
      by_fate (inl h) = repeated (h.1 fits) (λ s at_j batch_is full. absurd (never s at_j (subst (Past w.epoch w.shards) (r_ok.id_is ∙ ap batch_id (sym batch_is) ∙ open_id c w.epoch w.placed at.width w.series (get w.names) at.ident r.id.shard s (at.shards_ok r.id.shard s at_j) (ap is_empty batch_is ∙ full)) h.0)))
      by_fate (inr h) = by_shard h.0 (slice_get w.shards r.id.shard) refl h.1

  pub plain_keeps : Inv c (with_answer w r.id (endpoint_answer c w.head r.batch))
  plain_keeps = by_answer (λ a. Inv c (with_answer w r.id a)) c w.head r.batch at.limited
      (refused_keeps 413 refl)
      (again_keeps (record { status = 429; head = record w.head { busy = w.head.busy - 1 } }) refl (λ l. refl) refl)
      (refused_keeps 400 refl)
      (λ fits none. absurd (no_order fits none))
      let_in_keeps

pub arrive_keeps : (c : Setup) (w : World) (how : How) (o : Option Request) → ((at : Inv c w) (r : Request) → o ≡ Some r → RequestOk c w.epoch w.shards (list_of w.head.store) r) → Inv c w → Inv c (arrive c w how o)
arrive_keeps c w how None requests at = at
arrive_keeps c w Plain (Some r) requests at = plain_keeps c w at r (requests at r refl)
arrive_keeps c w Busy (Some r) requests at = again_keeps c w at r (requests at r refl) (record { status = 429; head = w.head }) refl (λ l. refl) refl
arrive_keeps c w OutOfMemory (Some r) requests at = again_keeps c w at r (requests at r refl) (record { status = 503; head = w.head }) refl (λ l. refl) refl
