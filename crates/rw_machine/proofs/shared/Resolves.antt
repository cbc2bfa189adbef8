-- Sending, resolving and restarting keep the invariant.
use Rattle.std.proofs.Common.{◌≡◌, ℕ, zero, suc, ◌+◌, ◌<◌, ◌≤◌, ◌==◌, Bool, true, false, cond, List, [], ◌∷◌, ◌++◌, length, map, take, Option, Some, None, is_none, slice_get, refl, sym, ap, ◌∙◌, subst, ℤ, ◌&&◌, not, append-nil, append_assoc, length-append, arith, inl, inr, ◌⊎◌}
use Rattle.std.specs.List.{AllByRecursion, list_all}
use Rattle.std.proofs.lemmas.Bool.{cases_eq, true≢false, not-true, cond-false, cond-true, and_parts, ne_eqb}
use Rattle.std.proofs.lemmas.Bool.Decides.{Decides-eqb}
use Rattle.std.proofs.lemmas.List.{map-append}
use Rattle.rw_types.proofs.shared.AllLemmas.{AllByRecursion-append, AllByRecursion-filter, AllByRecursion-map, AllByRecursion-weaker}
use Rattle.rw_machine.proofs.shared.Steps.{each_new, is_same}
use Rattle.rw_head.proofs.shared.OrderRule.{holds_right, holds_own}
use Rattle.rw_machine.proofs.shared.Places.{Numbered, numbered_more, numbered_left, numbered_right, numbered_all, length_change, get_changed, get_others, of_append}
use Rattle.rw_machine.proofs.Invariant.{Inv, as_points, waits, home, id_at, Past, SampleOk, ShardOk, GotOk, DoneOk, IsOpen, InStore, RequestOk, AnswersOpen, AnswerOk, quiet, quiet_send, quiet_again, past_change}
use Rattle.rw_machine.proofs.Keeps.{name_all_other, names_own, owed_same, owed_all, owed_none, owed_append, pairs_of_points}
use Rattle.std.specs.FinMap.{FinMap, get}
use Rattle.std.specs.Ordering.{nat_cmp}
use Rattle.std.proofs.lemmas.Option.{same_Some}
use Rattle.rw_ledger.specs.declared.ledger.Reason.{Reason}
use Rattle.rw_machine.proofs.shared.Others.{pending_parts}
use Rattle.rw_machine.proofs.shared.Names.{ledger_name_all, name_batch}
use Rattle.rw_batch.specs.declared.batch.BatchId.{BatchId}
use Rattle.rw_head.specs.Order.{holds}
use Rattle.rw_head.specs.Store.{list_of}
use Rattle.rw_retry.specs.Judgements.{judgement_of}
use Rattle.rw_retry.specs.declared.judgement.Judgement.{Judgement}
use Rattle.rw_retry.specs.declared.judgement.Judgement.TheVariants.{Again, Done, Refused}
use Rattle.rw_machine.proofs.shared.Views.{IsKept, Ledger, is_let_in, of, owed_by, pairs, points, shard_again, shard_resolve}
use Rattle.rw_machine.specs.Promises.{LoggedPoint, pair_of}
use Rattle.rw_machine.specs.Shards.{Shard, is_drained, pending_in_shard, samples_waiting, shard_send, with_core}
use Rattle.rw_machine.specs.Steps.{change, reply_to, request_by, restart_as, send_batch, take_reply}
use Rattle.rw_machine.specs.Worlds.{Reply, Request, Setup, World, all_drained, is_finished, log, new_shards}
use Rattle.rw_shard_core.specs.Shard.{awaits, batch_id, can_send, is_answer, is_empty, name_all, positions, same_id, settle, settle_names}
use Rattle.rw_plain_queue.specs.Items.{Placed}
use Rattle.rw_types.specs.LabelOrder.{labels_eq}
use Rattle.rw_types.specs.Labels.{Labels}
use Rattle.rw_types.proofs.shared.Booleans.{either}
use Rattle.rw_shard_core.proofs.shared.EmptyLemmas.{length_not_empty}

-- an open batch's id
pub open_id : (c : Setup) (epoch placed width : ℕ) (series : List Labels) (ledger : Ledger) (ident : ℕ → BatchId) (i : ℕ) (s : Shard) → ShardOk c epoch placed width series ledger ident i s → is_empty s.core.batch ≡ false → batch_id s.core.batch ≡ id_at epoch i (length s.core.resolved)
open_id c epoch placed width series ledger ident i s ok full = by_batch s.core.batch refl full
  where
    by_batch : (b : List Placed) → s.core.batch ≡ b → is_empty b ≡ false → batch_id s.core.batch ≡ id_at epoch i (length s.core.resolved)
    by_batch [] e h = absurd (true≢false h)
    by_batch (x ∷ b) e h =
        let first : SampleOk c epoch placed width series ledger ident i (length s.core.resolved) x = (subst (λ ys. Numbered (SampleOk c epoch placed width series ledger ident i) (length s.core.resolved) (ys ++ (s.core.builder ++ samples_waiting s.queue))) e (subst (Numbered (SampleOk c epoch placed width series ledger ident i) (length s.core.resolved)) (pending_parts s) ok.numbered)).0 in
        ap batch_id e ∙ (λ j. id_at (first.epoch_is j) (first.shard_is j) (first.seq_is j))

-- the samples of an open batch
pub batch_numbered : (P : ℕ → Placed → Type 0) (s : Shard) → Numbered P (length s.core.resolved) (pending_in_shard s) → Numbered P (length s.core.resolved) s.core.batch
batch_numbered P s all = numbered_left P (length s.core.resolved) s.core.batch (s.core.builder ++ samples_waiting s.queue) (subst (Numbered P (length s.core.resolved)) (pending_parts s) all)

pub send_keeps : (c : Setup) (w : World) (i : ℕ) (o : Option Shard) → slice_get w.shards i ≡ o → Inv c w → Inv c (send_batch w i o)
send_keeps c w i None e at = at
send_keeps c w i (Some s) e at = either (Inv c) (can_send s.core) _ w (λ h. quiet c (record w { requests = w.requests ++ r ∷ [] }) i shard_send quiet_send (added (full_of h))) (λ _. at)
  where
    full_of : can_send s.core ≡ true → is_empty s.core.batch ≡ false
    full_of h = not-true (is_empty s.core.batch) (and_parts (not (is_empty s.core.batch)) (not s.core.waiting) (and_parts (not s.core.killed) (not (is_empty s.core.batch) && not s.core.waiting) h).1).0

    r : Request
    r = request_by s

    ok : ShardOk c w.epoch w.placed at.width w.series (get w.names) at.ident i s
    ok = at.shards_ok i s e

    new : is_empty s.core.batch ≡ false → RequestOk c w.epoch w.shards (list_of w.head.store) r
    new full =
        let id_is = open_id c w.epoch w.placed at.width w.series (get w.names) at.ident i s ok full in
        record {
          id_is = refl;
          kept = numbered_all (SampleOk c w.epoch w.placed at.width w.series (get w.names) at.ident i) (λ (x : Placed). IsKept c x.labels) (length s.core.resolved) (length s.core.resolved + length s.core.batch) s.core.batch refl (λ k x _ _ x_ok. x_ok.kept) (batch_numbered (SampleOk c w.epoch w.placed at.width w.series (get w.names) at.ident i) s ok.numbered);
          fate = inr (ap (λ (d : BatchId). d.epoch) id_is, subst (λ o. IsOpen o s.core.batch) (sym (ap (λ (d : BatchId). slice_get w.shards d.shard) id_is ∙ e)) (refl, full));
        }

    added : is_empty s.core.batch ≡ false → Inv c (record w { requests = w.requests ++ r ∷ [] })
    added full = record {
      width = at.width;
      ident = at.ident;
      done = at.done;
      got = at.got;
      limited = at.limited;
      wide = at.wide;
      placed_in = at.placed_in;
      series_in = at.series_in;
      shards_ok = at.shards_ok;
      got_ok = at.got_ok;
      mine = at.mine;
      stored = at.stored;
      done_ok = at.done_ok;
      fresh = at.fresh;
      requests_ok = AllByRecursion-append (RequestOk c w.epoch w.shards (list_of w.head.store)) w.requests (r ∷ []) at.requests_ok (new full, tt);
      answers_ok = at.answers_ok;
    }

holds_more : (s : ℤ × ℕ) (l : Labels) (x : Placed) (xs : List Placed) → holds s (pairs (of l xs)) ≡ true → holds s (pairs (of l (x ∷ xs))) ≡ true
holds_more s l x xs h = either (λ ys. holds s (pairs ys) ≡ true) (labels_eq l x.labels) (x ∷ of l xs) (of l xs) (λ _. holds_right s ((x.t, x.word) ∷ []) (pairs (of l xs)) h) (λ _. h)

-- each sample of a batch is in its series' part
pub holds_each : (xs : List Placed) → AllByRecursion (λ (y : Placed). holds (y.t, y.word) (pairs (of y.labels xs)) ≡ true) xs
holds_each [] = tt
holds_each (x ∷ xs) = (
  subst (λ ys. holds (x.t, x.word) (pairs ys) ≡ true) (sym (cond-true (labels_eq x.labels x.labels) (x ∷ of x.labels xs) (of x.labels xs) (is_same x.labels x.labels refl))) (holds_own (x.t, x.word) (pairs (of x.labels xs))),
  AllByRecursion-weaker (λ (y : Placed). holds (y.t, y.word) (pairs (of y.labels xs)) ≡ true) (λ (y : Placed). holds (y.t, y.word) (pairs (of y.labels (x ∷ xs))) ≡ true) (λ y h. holds_more (y.t, y.word) y.labels x xs h) xs (holds_each xs),
)

-- the open batch of shard j is resolved, and the ledger names it or not
module _ (c : Setup) (w : World) (at : Inv c w) (j : ℕ) (s : Shard) (at_j : slice_get w.shards j ≡ Some s) (full : is_empty s.core.batch ≡ false) (names : FinMap nat_cmp Reason) (same : (p : ℕ) → AllByRecursion (λ (x : Placed). x.place.pos ≡ p → ⊥) s.core.batch → get names p ≡ get w.names p) (owes : (l : Labels) → map pair_of (owed_by (get names) (as_points (of l s.core.batch))) ≡ pairs (of l (at.got j))) (has : is_let_in c s.core.batch ≡ true → at.got j ≡ s.core.batch) where
  abbrev Old : ℕ → ℕ → Placed → Type 0
  Old = SampleOk c w.epoch w.placed at.width w.series (get w.names) at.ident

  abbrev New : ℕ → ℕ → Placed → Type 0
  New = SampleOk c w.epoch w.placed at.width w.series (get names) at.ident

  abbrev shards : List Shard
  shards = change j shard_resolve w.shards

  abbrev rest : List Placed
  rest = s.core.builder ++ samples_waiting s.queue

  ok : ShardOk c w.epoch w.placed at.width w.series (get w.names) at.ident j s
  ok = at.shards_ok j s at_j

  batch_ok : Numbered (Old j) (length s.core.resolved) s.core.batch
  batch_ok = batch_numbered (Old j) s ok.numbered

  each_of_batch : (Q : Placed → Type 0) → ((k : ℕ) (x : Placed) → length s.core.resolved ≤ k → k < length s.core.resolved + length s.core.batch → Old j k x → Q x) → AllByRecursion Q s.core.batch
  each_of_batch Q more = numbered_all (Old j) Q (length s.core.resolved) (length s.core.resolved + length s.core.batch) s.core.batch refl more batch_ok

  -- another pending sample is at another position
  apart : (i k : ℕ) (y : Placed) → Old i k y → (i ≡ j → length s.core.resolved + length s.core.batch ≤ k) → AllByRecursion (λ (x : Placed). x.place.pos ≡ y.place.pos → ⊥) s.core.batch
  apart i k y y_ok le = each_of_batch (λ (x : Placed). x.place.pos ≡ y.place.pos → ⊥) (λ n x _ lt x_ok e.
      let ids : id_at w.epoch j n ≡ id_at w.epoch i k = sym x_ok.ident_is ∙ ap at.ident e ∙ y_ok.ident_is in
      let i_is : i ≡ j = sym (ap (λ (d : BatchId). d.shard) ids) in
      let n_is : n ≡ k = ap (λ (d : BatchId). d.seq) ids in
      let over : length s.core.resolved + length s.core.batch ≤ k = le i_is in
      omega arith)

  renamed : (i k : ℕ) (y : Placed) → Old i k y → (i ≡ j → length s.core.resolved + length s.core.batch ≤ k) → New i k y
  renamed i k y y_ok le = record { epoch_is = y_ok.epoch_is; shard_is = y_ok.shard_is; seq_is = y_ok.seq_is; ident_is = y_ok.ident_is; below = y_ok.below; unnamed = same y.place.pos (apart i k y y_ok le) ∙ y_ok.unnamed; kept = y_ok.kept; member = y_ok.member; home_is = y_ok.home_is }

  resolved_length : length (shard_resolve s).core.resolved ≡ length s.core.resolved + length s.core.batch
  resolved_length = length-append s.core.resolved s.core.batch

  now_at_j : slice_get shards j ≡ Some (shard_resolve s)
  now_at_j = get_changed j shard_resolve w.shards s at_j

  past : (id : BatchId) → Past w.epoch w.shards id → Past w.epoch shards id
  past id h = past_change w.epoch j shard_resolve w.shards (λ u. let e : length (u.core.resolved ++ u.core.batch) ≡ length u.core.resolved + length u.core.batch = length-append u.core.resolved u.core.batch in omega arith) id h

  -- an id of the batch is past now
  past_batch : (id : BatchId) (k : ℕ) → id ≡ id_at w.epoch j k → k < length s.core.resolved + length s.core.batch → Past w.epoch shards id
  past_batch id k e lt = subst (Past w.epoch shards) (sym e) (inr (refl, λ u at_u. let is : shard_resolve s ≡ u = same_Some _ _ (sym now_at_j ∙ at_u) in let long : length u.core.resolved ≡ length s.core.resolved + length s.core.batch = ap (λ (v : Shard). length v.core.resolved) (sym is) ∙ resolved_length in omega arith))

  never_past : (k : ℕ) → length s.core.resolved ≤ k → Past w.epoch w.shards (id_at w.epoch j k) → ⊥
  never_past k le (inl h) = let lt : w.epoch < w.epoch = h in omega arith
  never_past k le (inr h) = let lt : k < length s.core.resolved = h.1 s at_j in omega arith

  abbrev done : Labels → List LoggedPoint
  done l = cond (home at.width w.series l == j) (at.done l ++ as_points (of l s.core.batch)) (at.done l)

  abbrev got : ℕ → List Placed
  got i = cond (i == j) [] (at.got i)

  home_yes : (l : Labels) → home at.width w.series l ≡ j → done l ≡ at.done l ++ as_points (of l s.core.batch)
  home_yes l h = cond-true (home at.width w.series l == j) (at.done l ++ as_points (of l s.core.batch)) (at.done l) ((Decides-eqb (home at.width w.series l) j).1 h)

  home_other : (l : Labels) → (home at.width w.series l ≡ j → ⊥) → done l ≡ at.done l
  home_other l h = cond-false (home at.width w.series l == j) (at.done l ++ as_points (of l s.core.batch)) (at.done l) (ne_eqb (home at.width w.series l) j h)

  got_yes : (i : ℕ) → i ≡ j → got i ≡ []
  got_yes i h = cond-true (i == j) [] (at.got i) ((Decides-eqb i j).1 h)

  got_other : (i : ℕ) → (i ≡ j → ⊥) → got i ≡ at.got i
  got_other i h = cond-false (i == j) [] (at.got i) (ne_eqb i j h)

  resolved_shards : (i : ℕ) (u : Shard) → slice_get shards i ≡ Some u → (i ≡ j) ⊎ (i ≡ j → ⊥) → ShardOk c w.epoch w.placed at.width w.series (get names) at.ident i u
  resolved_shards i u at_i (inl h) =
      let is : shard_resolve s ≡ u = same_Some _ _ (sym now_at_j ∙ ap (slice_get shards) (sym h) ∙ at_i) in
      let here : ShardOk c w.epoch w.placed at.width w.series (get names) at.ident j (shard_resolve s) = record {
        counted = (let a : length s.put ≡ length s.core.resolved + length (pending_in_shard s) = ok.counted in let b : length (pending_in_shard s) ≡ length s.core.batch + length rest = ap length (pending_parts s) ∙ length-append s.core.batch rest in let d : length (s.core.resolved ++ s.core.batch) ≡ length s.core.resolved + length s.core.batch = resolved_length in omega arith);
        numbered = subst (λ (n : ℕ). Numbered (New j) n rest) (sym resolved_length) (numbered_more (Old j) (New j) (length s.core.resolved + length s.core.batch) rest (λ k y le y_ok. renamed j k y y_ok (λ _. le)) (numbered_right (Old j) (length s.core.resolved) (length s.core.resolved + length s.core.batch) s.core.batch rest refl (subst (Numbered (Old j) (length s.core.resolved)) (pending_parts s) ok.numbered)));
      } in
      subst (λ (v : Shard). ShardOk c w.epoch w.placed at.width w.series (get names) at.ident i v) is (subst (λ (n : ℕ). ShardOk c w.epoch w.placed at.width w.series (get names) at.ident n (shard_resolve s)) (sym h) here)
  resolved_shards i u at_i (inr h) =
      let u_ok = at.shards_ok i u (sym (get_others j i shard_resolve w.shards (λ e. h (sym e))) ∙ at_i) in
      record { counted = u_ok.counted; numbered = numbered_more (Old i) (New i) (length u.core.resolved) (pending_in_shard u) (λ k y _ y_ok. renamed i k y y_ok (λ e. absurd (h e))) u_ok.numbered }

  resolved_got : (i : ℕ) → (i ≡ j) ⊎ (i ≡ j → ⊥) → GotOk c (slice_get shards i) (got i)
  resolved_got i (inl h) = subst (λ (o : Option Shard). GotOk c o (got i)) (sym (ap (slice_get shards) h ∙ now_at_j)) (inl (got_yes i h))
  resolved_got i (inr h) = subst (λ (o : Option Shard). GotOk c o (got i)) (sym (get_others j i shard_resolve w.shards (λ e. h (sym e)))) (subst (GotOk c (slice_get w.shards i)) (sym (got_other i h)) (at.got_ok i))

  resolved_mine : (l : Labels) → IsKept c l → (home at.width w.series l ≡ j) ⊎ (home at.width w.series l ≡ j → ⊥) → points c l (take w.placed (log w)) ≡ done l ++ as_points (of l (waits (slice_get shards (home at.width w.series l))))
  resolved_mine l k (inl h) =
      let was : slice_get w.shards (home at.width w.series l) ≡ Some s = ap (slice_get w.shards) h ∙ at_j in
      let is : slice_get shards (home at.width w.series l) ≡ Some (shard_resolve s) = ap (slice_get shards) h ∙ now_at_j in
      let split : as_points (of l (pending_in_shard s)) ≡ as_points (of l s.core.batch) ++ as_points (of l rest) = ap (λ ps. as_points (of l ps)) (pending_parts s) ∙ ap as_points (of_append l s.core.batch rest) ∙ map-append _ (of l s.core.batch) (of l rest) in
      at.mine l k ∙ ap (λ o. at.done l ++ as_points (of l (waits o))) was ∙ ap (λ ps. at.done l ++ ps) split ∙ sym (append_assoc (at.done l) (as_points (of l s.core.batch)) (as_points (of l rest))) ∙ (λ i. sym (home_yes l h) i ++ as_points (of l (waits (sym is i))))
  resolved_mine l k (inr h) = at.mine l k ∙ (λ i. sym (home_other l h) i ++ as_points (of l (waits (sym (get_others j (home at.width w.series l) shard_resolve w.shards (λ e. h (sym e))) i))))

  -- the ledger says of older points what it said
  same_owed : (l : Labels) → IsKept c l → owed_by (get names) (at.done l) ≡ owed_by (get w.names) (at.done l)
  same_owed l k = owed_same (get names) (get w.names) (at.done l) (AllByRecursion-weaker (DoneOk w.epoch w.shards w.placed at.ident) (λ (q : LoggedPoint). get names q.0 ≡ get w.names q.0) (λ q q_ok. same q.0 (each_of_batch (λ (x : Placed). x.place.pos ≡ q.0 → ⊥) (λ n x le _ x_ok e. never_past n le (subst (Past w.epoch w.shards) (ap at.ident (sym e) ∙ x_ok.ident_is) q_ok.0)))) (at.done l) (at.done_ok l k))

  resolved_stored : (l : Labels) → IsKept c l → (home at.width w.series l ≡ j) ⊎ (home at.width w.series l ≡ j → ⊥) → list_of w.head.store l ≡ map pair_of (owed_by (get names) (done l)) ++ pairs (of l (got (home at.width w.series l)))
  resolved_stored l k (inl h) =
      let new : map pair_of (owed_by (get names) (at.done l ++ as_points (of l s.core.batch))) ≡ map pair_of (owed_by (get w.names) (at.done l)) ++ pairs (of l (at.got j)) = ap (map pair_of) (owed_append (get names) (at.done l) (as_points (of l s.core.batch))) ∙ map-append pair_of (owed_by (get names) (at.done l)) (owed_by (get names) (as_points (of l s.core.batch))) ∙ (λ i. map pair_of (same_owed l k i) ++ owes l i) in
      at.stored l k ∙ ap (λ (n : ℕ). map pair_of (owed_by (get w.names) (at.done l)) ++ pairs (of l (at.got n))) h ∙ sym new ∙ ap (λ ps. map pair_of (owed_by (get names) ps)) (sym (home_yes l h)) ∙ sym (append-nil (map pair_of (owed_by (get names) (done l)))) ∙ ap (λ ps. map pair_of (owed_by (get names) (done l)) ++ pairs (of l ps)) (sym (got_yes (home at.width w.series l) h))
  resolved_stored l k (inr h) = at.stored l k ∙ (λ i. map pair_of (sym (same_owed l k) i) ++ pairs (of l (sym (got_other (home at.width w.series l) h) i))) ∙ ap (λ ps. map pair_of (owed_by (get names) ps) ++ pairs (of l (got (home at.width w.series l)))) (sym (home_other l h))

  resolved_done : (l : Labels) → IsKept c l → AllByRecursion (DoneOk w.epoch shards w.placed at.ident) (done l)
  resolved_done l k =
      let old : AllByRecursion (DoneOk w.epoch shards w.placed at.ident) (at.done l) = AllByRecursion-weaker (DoneOk w.epoch w.shards w.placed at.ident) (DoneOk w.epoch shards w.placed at.ident) (λ q q_ok. (past (at.ident q.0) q_ok.0, q_ok.1)) (at.done l) (at.done_ok l k) in
      let mark : Placed → LoggedPoint = λ x. (x.place.pos, x.t, x.word) in
      let new : AllByRecursion (DoneOk w.epoch shards w.placed at.ident) (as_points (of l s.core.batch)) = AllByRecursion-map (DoneOk w.epoch shards w.placed at.ident) mark (of l s.core.batch) (AllByRecursion-filter (λ (x : Placed). DoneOk w.epoch shards w.placed at.ident (mark x)) (λ (x : Placed). labels_eq l x.labels) s.core.batch (each_of_batch (λ (x : Placed). DoneOk w.epoch shards w.placed at.ident (mark x)) (λ n x _ lt x_ok. (past_batch (at.ident x.place.pos) n x_ok.ident_is lt, x_ok.below)))) in
      either (AllByRecursion (DoneOk w.epoch shards w.placed at.ident)) (home at.width w.series l == j) _ (at.done l) (λ _. AllByRecursion-append (DoneOk w.epoch shards w.placed at.ident) (at.done l) (as_points (of l s.core.batch)) old new) (λ _. old)

  all_stored : at.got j ≡ s.core.batch → AllByRecursion (InStore (list_of w.head.store)) s.core.batch
  all_stored e = both s.core.batch (holds_each s.core.batch) (each_of_batch (λ (x : Placed). IsKept c x.labels × (home at.width w.series x.labels ≡ j)) (λ n x _ _ x_ok. (x_ok.kept, x_ok.home_is)))
    where
      both : (xs : List Placed) → AllByRecursion (λ (y : Placed). holds (y.t, y.word) (pairs (of y.labels s.core.batch)) ≡ true) xs → AllByRecursion (λ (x : Placed). IsKept c x.labels × (home at.width w.series x.labels ≡ j)) xs → AllByRecursion (InStore (list_of w.head.store)) xs
      both [] hs ks = tt
      both (x ∷ xs) hs ks =
          let store_is : list_of w.head.store x.labels ≡ map pair_of (owed_by (get w.names) (at.done x.labels)) ++ pairs (of x.labels s.core.batch) = at.stored x.labels ks.0.0 ∙ ap (λ (n : ℕ). map pair_of (owed_by (get w.names) (at.done x.labels)) ++ pairs (of x.labels (at.got n))) ks.0.1 ∙ ap (λ b. map pair_of (owed_by (get w.names) (at.done x.labels)) ++ pairs (of x.labels b)) e in
          (subst (λ ps. holds (x.t, x.word) ps ≡ true) (sym store_is) (holds_right (x.t, x.word) (map pair_of (owed_by (get w.names) (at.done x.labels))) (pairs (of x.labels s.core.batch)) hs.0), both xs hs.1 ks.1)

  id_here : batch_id s.core.batch ≡ id_at w.epoch j (length s.core.resolved)
  id_here = open_id c w.epoch w.placed at.width w.series (get w.names) at.ident j s ok full

  longer : length s.core.resolved < length s.core.resolved + length s.core.batch
  longer = let lt : 0 < length s.core.batch = length_not_empty s.core.batch full in omega arith

  abbrev Fate : List Shard → Request → Type 0
  Fate ss r = (Past w.epoch ss r.id × (is_let_in c r.batch ≡ true → AllByRecursion (InStore (list_of w.head.store)) r.batch)) ⊎ ((r.id.epoch ≡ w.epoch) × IsOpen (slice_get ss r.id.shard) r.batch)

  resolved_fate : (r : Request) → r.id ≡ batch_id r.batch → Fate w.shards r → (r.id.shard ≡ j) ⊎ (r.id.shard ≡ j → ⊥) → Fate shards r
  resolved_fate r id_is (inl h) _ = inl (past r.id h.0, h.1)
  resolved_fate r id_is (inr h) (inl e) =
      let open_here : IsOpen (Some s) r.batch = subst (λ (o : Option Shard). IsOpen o r.batch) (ap (slice_get w.shards) e ∙ at_j) h.1 in
      inl (past_batch r.id (length s.core.resolved) (id_is ∙ ap batch_id (sym open_here.0) ∙ id_here) longer, λ fits. subst (AllByRecursion (InStore (list_of w.head.store))) open_here.0 (all_stored (has (ap (is_let_in c) open_here.0 ∙ fits))))
  resolved_fate r id_is (inr h) (inr e) = inr (h.0, subst (λ (o : Option Shard). IsOpen o r.batch) (sym (get_others j r.id.shard shard_resolve w.shards (λ z. e (sym z)))) h.1)

  resolved_answer : (a : Reply) → AnswerOk c w.epoch w.shards at.got a → (a.id.shard ≡ j) ⊎ (a.id.shard ≡ j → ⊥) → AnswerOk c w.epoch shards got a
  resolved_answer a (inl h) _ = inl (past a.id h)
  resolved_answer a (inr h) (inl e) =
      let here : AnswersOpen c (at.got a.id.shard) a (Some s) = subst (AnswersOpen c (at.got a.id.shard) a) (ap (slice_get w.shards) e ∙ at_j) h.1 in
      inl (past_batch a.id (length s.core.resolved) (here.0 ∙ id_here) longer)
  resolved_answer a (inr h) (inr e) = inr (h.0, subst (λ (b : List Placed). AnswersOpen c b a (slice_get shards a.id.shard)) (sym (got_other a.id.shard e)) (subst (AnswersOpen c (at.got a.id.shard) a) (sym (get_others j a.id.shard shard_resolve w.shards (λ z. e (sym z)))) h.1))

  pub resolve_keeps : Inv c (record w { names = names; shards = change j shard_resolve w.shards })
  resolve_keeps = record {
    width = at.width;
    ident = at.ident;
    done = done;
    got = got;
    limited = at.limited;
    wide = length_change j shard_resolve w.shards ∙ at.wide;
    placed_in = at.placed_in;
    series_in = at.series_in;
    shards_ok = λ i u at_i. resolved_shards i u at_i (cases_eq i j);
    got_ok = λ i. resolved_got i (cases_eq i j);
    mine = λ l k. resolved_mine l k (cases_eq (home at.width w.series l) j);
    stored = λ l k. resolved_stored l k (cases_eq (home at.width w.series l) j);
    done_ok = resolved_done;
    fresh = λ p le. same p (each_of_batch (λ (x : Placed). x.place.pos ≡ p → ⊥) (λ n x _ _ x_ok e. let lt : x.place.pos < w.placed = x_ok.below in omega arith)) ∙ at.fresh p le;
    requests_ok = AllByRecursion-weaker (RequestOk c w.epoch w.shards (list_of w.head.store)) (RequestOk c w.epoch shards (list_of w.head.store)) (λ r r_ok. record { id_is = r_ok.id_is; kept = r_ok.kept; fate = resolved_fate r r_ok.id_is r_ok.fate (cases_eq r.id.shard j) }) w.requests at.requests_ok;
    answers_ok = AllByRecursion-weaker (AnswerOk c w.epoch w.shards at.got) (AnswerOk c w.epoch shards got) (λ a a_ok. resolved_answer a a_ok (cases_eq a.id.shard j)) w.replies at.answers_ok;
  }

pub same_id_is : (a b : BatchId) → same_id a b ≡ true → a ≡ b
same_id_is a b h i = id_at
    ((Decides-eqb a.epoch b.epoch).0 (and_parts (a.epoch == b.epoch) (a.shard == b.shard) (and_parts (a.epoch == b.epoch && a.shard == b.shard) (a.seq == b.seq) h).0).0 i)
    ((Decides-eqb a.shard b.shard).0 (and_parts (a.epoch == b.epoch) (a.shard == b.shard) (and_parts (a.epoch == b.epoch && a.shard == b.shard) (a.seq == b.seq) h).0).1 i)
    ((Decides-eqb a.seq b.seq).0 (and_parts (a.epoch == b.epoch && a.shard == b.shard) (a.seq == b.seq) h).1 i)

-- a reply with this judgement
abbrev pub settled_by : World → ℕ → Shard → ℕ → Judgement → World
settled_by w i s status d = record w {
  names = (settle_names d status s.core.batch (record { names = w.names; room = 0 })).names;
  shards = change i (with_core (settle d)) w.shards;
}

pub reply_keeps : (c : Setup) (w : World) (o : Option Reply) → ((a : Reply) → o ≡ Some a → (at : Inv c w) → AnswerOk c w.epoch w.shards at.got a) → Inv c w → Inv c (take_reply w o)
reply_keeps c w None answers at = at
reply_keeps c w (Some a) answers at = by_shard (slice_get w.shards a.id.shard) refl
  where
    by_shard : (o : Option Shard) → slice_get w.shards a.id.shard ≡ o → Inv c (reply_to w a o)
    by_shard None e = at
    by_shard (Some s) e = either (Inv c) (is_answer a.id s.core) _ w (λ h. by_guard (and_parts (awaits s.core) (same_id a.id (batch_id s.core.batch)) h).0 (same_id_is a.id (batch_id s.core.batch) (and_parts (awaits s.core) (same_id a.id (batch_id s.core.batch)) h).1)) (λ _. at)
      where
        ok : ShardOk c w.epoch w.placed at.width w.series (get w.names) at.ident a.id.shard s
        ok = at.shards_ok a.id.shard s e

        by_guard : awaits s.core ≡ true → a.id ≡ batch_id s.core.batch → Inv c (settled_by w a.id.shard s a.status (judgement_of a.status))
        by_guard waits_ same = by_answer (answers a refl at)
          where
            full : is_empty s.core.batch ≡ false
            full = not-true (is_empty s.core.batch) (and_parts (not (is_empty s.core.batch)) s.core.waiting (and_parts (not s.core.killed) (not (is_empty s.core.batch) && s.core.waiting) waits_).1).0

            id_is : a.id ≡ id_at w.epoch a.id.shard (length s.core.resolved)
            id_is = same ∙ open_id c w.epoch w.placed at.width w.series (get w.names) at.ident a.id.shard s ok full

            each_of_batch : (Q : Placed → Type 0) → ((k : ℕ) (x : Placed) → SampleOk c w.epoch w.placed at.width w.series (get w.names) at.ident a.id.shard k x → Q x) → AllByRecursion Q s.core.batch
            each_of_batch Q more = numbered_all (SampleOk c w.epoch w.placed at.width w.series (get w.names) at.ident a.id.shard) Q (length s.core.resolved) (length s.core.resolved + length s.core.batch) s.core.batch refl (λ k x _ _ x_ok. more k x x_ok) (batch_numbered (SampleOk c w.epoch w.placed at.width w.series (get w.names) at.ident a.id.shard) s ok.numbered)

            of_batch : (Q : LoggedPoint → Type 0) (l : Labels) → AllByRecursion (λ (x : Placed). Q (x.place.pos, x.t, x.word)) s.core.batch → AllByRecursion Q (as_points (of l s.core.batch))
            of_batch Q l all = AllByRecursion-map Q (λ (x : Placed). (x.place.pos, x.t, x.word)) (of l s.core.batch) (AllByRecursion-filter (λ (x : Placed). Q (x.place.pos, x.t, x.word)) (λ (x : Placed). labels_eq l x.labels) s.core.batch all)

            names : FinMap nat_cmp Reason
            names = name_all a.status (positions s.core.batch) w.names

            named : get names ≡ name_batch a.status s.core.batch (get w.names)
            named = ledger_name_all a.status s.core.batch w.names

            nothing_got : is_let_in c s.core.batch ≡ false → (at.got a.id.shard ≡ []) ⊎ ((at.got a.id.shard ≡ s.core.batch) × (is_let_in c s.core.batch ≡ true)) → at.got a.id.shard ≡ []
            nothing_got unfit (inl h) = h
            nothing_got unfit (inr h) = absurd (true≢false (sym h.1 ∙ unfit))

            by_judgement : (d : Judgement) → judgement_of a.status ≡ d → AnswersOpen c (at.got a.id.shard) a (Some s) → Inv c (settled_by w a.id.shard s a.status d)
            by_judgement Done d open_here =
                let got_is : at.got a.id.shard ≡ s.core.batch = open_here.2 d in
                resolve_keeps c w at a.id.shard s e full w.names (λ p _. refl)
                (λ l. ap (map pair_of) (owed_all (get w.names) (as_points (of l s.core.batch)) (of_batch (λ (q : LoggedPoint). get w.names q.0 ≡ None) l (each_of_batch (λ (x : Placed). get w.names x.place.pos ≡ None) (λ k x x_ok. x_ok.unnamed)))) ∙ pairs_of_points (of l s.core.batch) ∙ ap (λ b. pairs (of l b)) (sym got_is))
                (λ _. got_is)
            by_judgement Refused d open_here =
                let unfit : is_let_in c s.core.batch ≡ false = open_here.3 d in
                resolve_keeps c w at a.id.shard s e full names (λ p apart. ap (λ ledger. ledger p) named ∙ name_all_other a.status s.core.batch (get w.names) p apart)
                (λ l. ap (map pair_of) (owed_none (get names) (as_points (of l s.core.batch)) (of_batch (λ (q : LoggedPoint). is_none (get names q.0) ≡ false) l (subst (λ (ledger : Ledger). AllByRecursion (λ (x : Placed). is_none (ledger x.place.pos) ≡ false) s.core.batch) (sym named) (names_own a.status s.core.batch (get w.names))))) ∙ sym (ap (λ b. pairs (of l b)) (nothing_got unfit (subst (λ (o : Option Shard). GotOk c o (at.got a.id.shard)) e (at.got_ok a.id.shard)))))
                (λ fits. absurd (true≢false (sym fits ∙ unfit)))
            by_judgement Again d open_here = quiet c w a.id.shard shard_again quiet_again at

            by_answer : AnswerOk c w.epoch w.shards at.got a → Inv c (settled_by w a.id.shard s a.status (judgement_of a.status))
            by_answer (inl h) = absurd (never (subst (Past w.epoch w.shards) id_is h))
              where
                never : Past w.epoch w.shards (id_at w.epoch a.id.shard (length s.core.resolved)) → ⊥
                never (inl h) = let lt : w.epoch < w.epoch = h in omega arith
                never (inr h) = let lt : length s.core.resolved < length s.core.resolved = h.1 s e in omega arith
            by_answer (inr h) = by_judgement (judgement_of a.status) refl (subst (AnswersOpen c (at.got a.id.shard) a) e h.1)

list_all_at : (p : Shard → Bool) (ss : List Shard) (i : ℕ) (s : Shard) → list_all p ss ≡ true → slice_get ss i ≡ Some s → p s ≡ true
list_all_at p [] i s h e = let never : None ≡ Some s → ⊥ = λ h. cc in absurd (never e)
list_all_at p (x ∷ ss) zero s h e = let same : x ≡ s = cc in ap p (sym same) ∙ (and_parts (p x) (list_all p ss) h).0
list_all_at p (x ∷ ss) (suc i) s h e = list_all_at p ss i s (and_parts (p x) (list_all p ss) h).1 e

nil_length : (xs : List Placed) → length xs ≡ 0 → xs ≡ []
nil_length [] h = refl
nil_length (x ∷ xs) h = absurd (omega arith)

nil_left : (xs ys : List Placed) → xs ++ ys ≡ [] → xs ≡ []
nil_left [] ys h = refl
nil_left (x ∷ xs) ys h = let never : x ∷ (xs ++ ys) ≡ [] → ⊥ = λ h. cc in absurd (never h)

-- once all is drained nothing is pending
pub drained : (c : Setup) (w : World) (at : Inv c w) → all_drained w ≡ true → (i : ℕ) (o : Option Shard) → slice_get w.shards i ≡ o → waits o ≡ []
drained c w at all i None e = refl
drained c w at all i (Some s) e =
    let even : (length s.core.resolved == length s.put) ≡ true = (and_parts s.core.ended (length s.core.resolved == length s.put) (list_all_at is_drained w.shards i s all e)).1 in
    let same : length s.core.resolved ≡ length s.put = (Decides-eqb (length s.core.resolved) (length s.put)).0 even in
    let count : length s.put ≡ length s.core.resolved + length (pending_in_shard s) = (at.shards_ok i s e).counted in
    nil_length (pending_in_shard s) (omega arith)

pub drained_got : (c : Setup) (w : World) (at : Inv c w) → all_drained w ≡ true → (i : ℕ) → at.got i ≡ []
drained_got c w at all i = by_shard (slice_get w.shards i) refl (at.got_ok i)
  where
    by_shard : (o : Option Shard) → slice_get w.shards i ≡ o → GotOk c o (at.got i) → at.got i ≡ []
    by_shard None e g = g
    by_shard (Some s) e (inl g) = g
    by_shard (Some s) e (inr g) = g.0 ∙ nil_left s.core.batch (s.core.builder ++ samples_waiting s.queue) (sym (pending_parts s) ∙ drained c w at all i (Some s) e)

pub length_new : (c : Setup) (epoch k n : ℕ) → length (new_shards c epoch k n) ≡ n
length_new c epoch k zero = refl
length_new c epoch k (suc n) = ap suc (length_new c epoch (suc k) n)

pub restart_keeps : (c : Setup) (w : World) (o : Option ℕ) → Inv c w → Inv c (restart_as c w o)
restart_keeps c w None at = at
restart_keeps c w (Some n) at = either (Inv c) (not (is_finished w) && all_drained w) _ w (λ h. begun (and_parts (not (is_finished w)) (all_drained w) h).1) (λ _. at)
  where
    fresh_wait : (i : ℕ) (o : Option Shard) → slice_get (new_shards c (suc w.epoch) 0 n) i ≡ o → waits o ≡ []
    fresh_wait i None e = refl
    fresh_wait i (Some s) e = each_new (λ _ (s : Shard). pending_in_shard s ≡ []) c (suc w.epoch) 0 (λ _. refl) n i s e

    fresh_got : (i : ℕ) (o : Option Shard) → slice_get (new_shards c (suc w.epoch) 0 n) i ≡ o → GotOk c o []
    fresh_got i None e = refl
    fresh_got i (Some s) e = inl refl

    begun : all_drained w ≡ true → Inv c (record w { epoch = suc w.epoch; shards = new_shards c (suc w.epoch) 0 n; draining = None })
    begun all = record {
      width = n;
      ident = at.ident;
      done = at.done;
      got = λ _. [];
      limited = at.limited;
      wide = length_new c (suc w.epoch) 0 n;
      placed_in = at.placed_in;
      series_in = at.series_in;
      shards_ok = each_new (ShardOk c (suc w.epoch) w.placed n w.series (get w.names) at.ident) c (suc w.epoch) 0 (λ i. record { counted = refl; numbered = tt }) n;
      got_ok = λ i. fresh_got i (slice_get (new_shards c (suc w.epoch) 0 n) i) refl;
      mine = λ l k. at.mine l k ∙ ap (λ ps. at.done l ++ as_points (of l ps)) (drained c w at all (home at.width w.series l) (slice_get w.shards (home at.width w.series l)) refl ∙ sym (fresh_wait (home n w.series l) (slice_get (new_shards c (suc w.epoch) 0 n) (home n w.series l)) refl));
      stored = λ l k. at.stored l k ∙ ap (λ b. map pair_of (owed_by (get w.names) (at.done l)) ++ pairs (of l b)) (drained_got c w at all (home at.width w.series l));
      done_ok = λ l k. AllByRecursion-weaker (DoneOk w.epoch w.shards w.placed at.ident) (DoneOk (suc w.epoch) (new_shards c (suc w.epoch) 0 n) w.placed at.ident) (λ q q_ok. (older (at.ident q.0) q_ok.0, q_ok.1)) (at.done l) (at.done_ok l k);
      fresh = at.fresh;
      requests_ok = AllByRecursion-weaker (RequestOk c w.epoch w.shards (list_of w.head.store)) (RequestOk c (suc w.epoch) (new_shards c (suc w.epoch) 0 n) (list_of w.head.store)) (λ r r_ok. record { id_is = r_ok.id_is; kept = r_ok.kept; fate = fate r r_ok.fate }) w.requests at.requests_ok;
      answers_ok = AllByRecursion-weaker (AnswerOk c w.epoch w.shards at.got) (AnswerOk c (suc w.epoch) (new_shards c (suc w.epoch) 0 n) (λ _. [])) answer w.replies at.answers_ok;
    }
      where
        older : (id : BatchId) → Past w.epoch w.shards id → Past (suc w.epoch) (new_shards c (suc w.epoch) 0 n) id
        older id (inl h) = let lt : id.epoch < w.epoch = h in inl (omega arith)
        older id (inr h) = let e : id.epoch ≡ w.epoch = h.0 in inl (omega arith)

        now_older : (id : BatchId) → id.epoch ≡ w.epoch → Past (suc w.epoch) (new_shards c (suc w.epoch) 0 n) id
        now_older id e = inl (omega arith)

        fate : (r : Request) → ((Past w.epoch w.shards r.id × (is_let_in c r.batch ≡ true → AllByRecursion (InStore (list_of w.head.store)) r.batch)) ⊎ ((r.id.epoch ≡ w.epoch) × IsOpen (slice_get w.shards r.id.shard) r.batch)) → ((Past (suc w.epoch) (new_shards c (suc w.epoch) 0 n) r.id × (is_let_in c r.batch ≡ true → AllByRecursion (InStore (list_of w.head.store)) r.batch)) ⊎ ((r.id.epoch ≡ suc w.epoch) × IsOpen (slice_get (new_shards c (suc w.epoch) 0 n) r.id.shard) r.batch))
        fate r (inl h) = inl (older r.id h.0, h.1)
        fate r (inr h) = by_shard (slice_get w.shards r.id.shard) refl h.1
          where
            by_shard : (o : Option Shard) → slice_get w.shards r.id.shard ≡ o → IsOpen o r.batch → ((Past (suc w.epoch) (new_shards c (suc w.epoch) 0 n) r.id × (is_let_in c r.batch ≡ true → AllByRecursion (InStore (list_of w.head.store)) r.batch)) ⊎ ((r.id.epoch ≡ suc w.epoch) × IsOpen (slice_get (new_shards c (suc w.epoch) 0 n) r.id.shard) r.batch))
            by_shard None e g = absurd g
            by_shard (Some s) e g = absurd (true≢false (sym (ap is_empty (sym g.0 ∙ nil_left s.core.batch (s.core.builder ++ samples_waiting s.queue) (sym (pending_parts s) ∙ drained c w at all r.id.shard (Some s) e))) ∙ g.1))

        answer : (a : Reply) → AnswerOk c w.epoch w.shards at.got a → AnswerOk c (suc w.epoch) (new_shards c (suc w.epoch) 0 n) (λ _. []) a
        answer a (inl h) = inl (older a.id h)
        answer a (inr h) = inl (now_older a.id h.0)
