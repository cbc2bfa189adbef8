-- Over a whole schedule: the head holds a beginning, and all once complete.
use Rattle.std.proofs.Common.{◌≡◌, ℕ, ◌+◌, Bool, true, false, cond, List, [], ◌∷◌, ◌++◌, length, map, filter, take, drop, Option, Some, None, is_some, slice_get, refl, sym, ap, ◌∙◌, subst, ℤ, ◌&&◌, not, nat_le, append-nil, append_assoc, arith, inl, inr, ◌⊎◌, is_none, take-append-drop}
use Rattle.std.proofs.lemmas.List.{map-append}
use Rattle.std.specs.List.{AllByRecursion}
use Rattle.rw_machine.proofs.shared.Steps.{always, unless, each_new}
use Rattle.rw_machine.proofs.Risen.{IsEarlierPoint, Rises-risen, risen}
use Rattle.rw_machine.proofs.shared.Classes.{classes}
use Rattle.rw_machine.proofs.Owed.{no_logged, owed_points}
use Rattle.rw_machine.proofs.shared.Others.{others, pending_parts}
use Rattle.rw_machine.proofs.shared.Places.{logged_append, numbered_all, of_append}
use Rattle.rw_machine.proofs.Invariant.{Inv, id_at, as_points, waits, home, SampleOk, ShardOk, GotOk, RequestOk, AnswerOk, quiet, quiet_take, quiet_freeze, quiet_flush, quiet_lost}
use Rattle.rw_machine.proofs.Keeps.{feed_keeps, place_keeps, owed_all, owed_append, pairs_of_points}
use Rattle.rw_machine.proofs.shared.Resolves.{send_keeps, reply_keeps, restart_keeps, drained, drained_got, batch_numbered, length_new}
use Rattle.rw_machine.proofs.Arrives.{arrive_keeps, ascends_points}
use Rattle.rw_machine.specs.declared.event.Event.TheVariants as event
use Rattle.std.specs.FinMap.{get, empty, get-empty}
use Rattle.std.specs.Ordering.{nat_cmp}
use Rattle.std.proofs.lemmas.Option.{same_Some}
use Rattle.std.proofs.lemmas.Bool.{cond-false, and_parts}
use Rattle.rw_wal_format.specs.Pieces.{fault}
use Rattle.rw_wal_format.specs.Series.{samples_after}
use Rattle.rw_wal_format.specs.declared.tail_fault.TailFault.{TailFault}
use Rattle.rw_relabel.specs.Rules.{keeps}
use Rattle.rw_head.proofs.shared.StoreLemmas.{list_of-empty}
use Rattle.rw_series_cache.specs.Points.{is_kept, kept_points}
use Rattle.rw_series_cache.proofs.shared.KnownLemmas.{known-none}
use Rattle.rw_series_cache.proofs.shared.PointLemmas.{below_a_position}
use Rattle.rw_types.specs.declared.label_fault.LabelFault.{LabelFault}
use Rattle.rw_head.specs.Growth.{EachRises}
use Rattle.rw_head.specs.Lists.{IsEarlier}
use Rattle.rw_head.specs.Store.{list_of}
use Rattle.rw_machine.proofs.shared.Views.{IsKept, logged_from, logged_points, of, owed_by, pairs, points}
use Rattle.rw_machine.specs.Promises.{HasOneClassEach, HoldsAll, HoldsBeginningBelow, HoldsNothingElse, IsInOrder, IsOfPlaced, IsWhole, IsWholeBeforeDamage, OwedRises, LoggedPoint, owed, owed_below, pair_of}
use Rattle.rw_machine.specs.Shards.{Shard, pending_in_shard, samples_waiting, shard_freeze, shard_lost, shard_take}
use Rattle.rw_machine.specs.Steps.{act, flush_shard, happens, run}
use Rattle.rw_machine.specs.Worlds.{Setup, World, all_drained, ended_as, is_finished, is_over, is_pending, log, new_shards, report, start, up_to}
use Rattle.rw_shard_core.specs.Endings.{Abandoned, Complete, Damaged}
use Rattle.rw_machine.specs.declared.event.Event.{Event}
use Rattle.rw_series_cache.specs.Known.{Kept, Unknown}
use Rattle.rw_plain_queue.specs.Items.{Placed}
use Rattle.rw_types.specs.LabelOrder.{labels_eq}
use Rattle.rw_types.specs.Beginnings.{Begins}
use Rattle.rw_types.specs.Labels.{Labels, label_fault}
use Rattle.rw_types.specs.Rising.{Rises}
use Rattle.rw_types.specs.declared.entry.Entry.{Entry}
use Rattle.rw_types.proofs.shared.AllLemmas.{AllByRecursion-filter, AllByRecursion-get, AllByRecursion-map}
use Rattle.rw_types.proofs.shared.BeginningLemmas.{begins_twice}
use Rattle.rw_types.proofs.shared.RisingLemmas.{Rises-filter, Rises-left}
use Rattle.rw_types.proofs.shared.Booleans.{either}

-- Inv speaks of nothing that Reshard, Close and Kill change
still : (c : Setup) (w : World) (draining closed : Option ℕ) (killed : Bool) → Inv c w → Inv c (record w { draining = draining; closed = closed; killed = killed })
still c w draining closed killed at = record { width = at.width; ident = at.ident; done = at.done; got = at.got; limited = at.limited; wide = at.wide; placed_in = at.placed_in; series_in = at.series_in; shards_ok = at.shards_ok; got_ok = at.got_ok; mine = at.mine; stored = at.stored; done_ok = at.done_ok; fresh = at.fresh; requests_ok = at.requests_ok; answers_ok = at.answers_ok }

act_keeps : (c : Setup) (w : World) (e : Event) → Inv c w → Inv c (act c w e)
act_keeps c w (event.Feed piece) at = feed_keeps c w piece at
act_keeps c w event.Place at = place_keeps c w at
act_keeps c w (event.Flush i) at = quiet c w i (flush_shard c w) (quiet_flush c w) at
act_keeps c w (event.Take i) at = quiet c w i shard_take quiet_take at
act_keeps c w (event.Freeze i) at = quiet c w i shard_freeze quiet_freeze at
act_keeps c w (event.Send i) at = send_keeps c w i (slice_get w.shards i) refl at
act_keeps c w (event.Arrive k how) at = arrive_keeps c w how (slice_get w.requests k) (λ at' r e. AllByRecursion-get (RequestOk c w.epoch w.shards (list_of w.head.store)) w.requests k r at'.requests_ok e) at
act_keeps c w (event.Reply k) at = reply_keeps c w (slice_get w.replies k) (λ a e at'. AllByRecursion-get (AnswerOk c w.epoch w.shards at'.got) w.replies k a at'.answers_ok e) at
act_keeps c w (event.Lost i) at = quiet c w i shard_lost quiet_lost at
act_keeps c w (event.Reshard n) at = either (Inv c) (not (is_some w.draining) && (not (is_finished w) && (nat_le 1 n && nat_le n 1000))) (record w { draining = Some n }) w (λ _. still c w (Some n) w.closed w.killed at) (λ _. at)
act_keeps c w event.Restart at = restart_keeps c w w.draining at
act_keeps c w event.Close at = either (Inv c) (is_some w.closed) w (record w { closed = Some (length (log w)) }) (λ _. at) (λ _. still c w w.draining (Some (length (log w))) w.killed at)
act_keeps c w event.Kill at = still c w w.draining w.closed true at

pub run_keeps : (c : Setup) (events : List Event) (w : World) → Inv c w → Inv c (run c events w)
run_keeps c events w at = always (Inv c) c (act_keeps c) events w at

-- a fact that goes through each step if the invariant holds
pub along : (c : Setup) (Q : World → Type 0) → ((w : World) (e : Event) → Inv c w → Q w → Q (act c w e)) → (events : List Event) (w : World) → Inv c w → Q w → Q (run c events w)
along c Q keep [] w at q = q
along c Q keep (e ∷ es) w at q = along c Q keep es (happens c w e) (unless (Inv c) c w e (is_over w) at (act_keeps c w e at)) (unless Q c w e (is_over w) q (keep w e at q))

pub begins : (c : Setup) → Inv c (start c)
begins c = record {
  width = c.shards;
  ident = λ _. id_at 0 0 0;
  done = λ _. [];
  got = λ _. [];
  limited = refl;
  wide = length_new c 0 0 c.shards;
  placed_in = omega arith;
  series_in = λ r l h. let never : Unknown ≡ Kept l → ⊥ = λ h. cc in absurd (never (sym (known-none c.choice r) ∙ h));
  shards_ok = each_new (ShardOk c 0 0 c.shards [] (get empty) (λ _. id_at 0 0 0)) c 0 0 (λ i. record { counted = refl; numbered = tt }) c.shards;
  got_ok = λ i. nothing i (slice_get (new_shards c 0 0 c.shards) i) refl;
  mine = λ l k. ap risen (no_logged c l) ∙ ap (λ ps. as_points (of l ps)) (sym (waits_none (home c.shards [] l) (slice_get (new_shards c 0 0 c.shards) (home c.shards [] l)) refl));
  stored = λ l k. list_of-empty l;
  done_ok = λ l k. tt;
  fresh = λ p _. get-empty nat_cmp p;
  requests_ok = tt;
  answers_ok = tt;
}
  where
    nothing : (i : ℕ) (o : Option Shard) → slice_get (new_shards c 0 0 c.shards) i ≡ o → GotOk c o []
    nothing i None e = refl
    nothing i (Some s) e = inl refl

    waits_none : (i : ℕ) (o : Option Shard) → slice_get (new_shards c 0 0 c.shards) i ≡ o → waits o ≡ []
    waits_none i None e = refl
    waits_none i (Some s) e = each_new (λ _ (s : Shard). pending_in_shard s ≡ []) c 0 0 (λ _. refl) c.shards i s e

pub holds_at_end : (c : Setup) (events : List Event) → Inv c (run c events (start c))
holds_at_end c events = run_keeps c events (start c) (begins c)

-- what is owed of all that is placed
owed_placed : (c : Setup) (w : World) → Inv c w → HasOneClassEach c w → (l : Labels) → owed_by (get w.names) (logged_points c l (take w.placed (log w))) ≡ owed_by (get w.names) (points c l (take w.placed (log w)))
owed_placed c w at one l = owed_points c w l one at.placed_in w.placed (omega arith)

-- what the head holds is a prefix of what was placed
beginning : (c : Setup) (w : World) → Inv c w → HasOneClassEach c w → (l : Labels) → IsKept c l → HoldsBeginningBelow c w w.placed l
beginning c w at one l k = (tail.0, sym whole)
  where
    part : List (ℤ × ℕ)
    part = map pair_of (owed_by (get w.names) (at.done l))

    Tail : Option Shard → Type 0
    Tail o = (t : List (ℤ × ℕ)) × (pairs (of l (at.got (home at.width w.series l))) ++ t ≡ map pair_of (owed_by (get w.names) (as_points (of l (waits o)))))

    of_got : (g : List Placed) (o : Option Shard) → at.got (home at.width w.series l) ≡ [] → Tail o
    of_got g o e = (map pair_of (owed_by (get w.names) (as_points (of l (waits o)))), ap (λ b. pairs (of l b) ++ map pair_of (owed_by (get w.names) (as_points (of l (waits o))))) e)

    by_shard : (o : Option Shard) → slice_get w.shards (home at.width w.series l) ≡ o → GotOk c o (at.got (home at.width w.series l)) → Tail o
    by_shard None e g = of_got [] None g
    by_shard (Some s) e (inl g) = of_got [] (Some s) g
    by_shard (Some s) e (inr g) =
        let more : List Placed = s.core.builder ++ samples_waiting s.queue in
        let ok = at.shards_ok (home at.width w.series l) s e in
        let unnamed : AllByRecursion (λ (q : LoggedPoint). (get w.names) q.0 ≡ None) (as_points (of l s.core.batch)) = AllByRecursion-map (λ (q : LoggedPoint). (get w.names) q.0 ≡ None) (λ (x : Placed). (x.place.pos, x.t, x.word)) (of l s.core.batch) (AllByRecursion-filter (λ (x : Placed). (get w.names) x.place.pos ≡ None) (λ (x : Placed). labels_eq l x.labels) s.core.batch (numbered_all (SampleOk c w.epoch w.placed at.width w.series (get w.names) at.ident (home at.width w.series l)) (λ (x : Placed). (get w.names) x.place.pos ≡ None) (length s.core.resolved) (length s.core.resolved + length s.core.batch) s.core.batch refl (λ n x _ _ x_ok. x_ok.unnamed) (batch_numbered (SampleOk c w.epoch w.placed at.width w.series (get w.names) at.ident (home at.width w.series l)) s ok.numbered))) in
        let split : map pair_of (owed_by (get w.names) (as_points (of l (pending_in_shard s)))) ≡ pairs (of l s.core.batch) ++ map pair_of (owed_by (get w.names) (as_points (of l more))) =
        ap (λ ps. map pair_of (owed_by (get w.names) (as_points (of l ps)))) (pending_parts s) ∙ ap (λ ps. map pair_of (owed_by (get w.names) (as_points ps))) (of_append l s.core.batch more) ∙ ap (λ ps. map pair_of (owed_by (get w.names) ps)) (map-append _ (of l s.core.batch) (of l more)) ∙ ap (map pair_of) (owed_append (get w.names) (as_points (of l s.core.batch)) (as_points (of l more))) ∙ map-append pair_of (owed_by (get w.names) (as_points (of l s.core.batch))) (owed_by (get w.names) (as_points (of l more))) ∙ ap (λ ps. map pair_of ps ++ map pair_of (owed_by (get w.names) (as_points (of l more)))) (owed_all (get w.names) (as_points (of l s.core.batch)) unnamed) ∙ ap (λ ps. ps ++ map pair_of (owed_by (get w.names) (as_points (of l more)))) (pairs_of_points (of l s.core.batch)) in
        (map pair_of (owed_by (get w.names) (as_points (of l more))), ap (λ b. pairs (of l b) ++ map pair_of (owed_by (get w.names) (as_points (of l more)))) g.0 ∙ sym split)

    wait : List Placed
    wait = waits (slice_get w.shards (home at.width w.series l))

    tail : Tail (slice_get w.shards (home at.width w.series l))
    tail = by_shard (slice_get w.shards (home at.width w.series l)) refl (at.got_ok (home at.width w.series l))

    g : List (ℤ × ℕ)
    g = pairs (of l (at.got (home at.width w.series l)))

    v : List (ℤ × ℕ)
    v = map pair_of (owed_by (get w.names) (as_points (of l (waits (slice_get w.shards (home at.width w.series l))))))

    total : map pair_of (owed_below c w w.placed l) ≡ part ++ v
    total =
        ap (λ ps. map pair_of (owed_by (get w.names) ps)) (below_a_position c.choice (log w) l w.placed)
        ∙ ap (map pair_of) (owed_placed c w at one l)
        ∙ ap (λ ps. map pair_of (owed_by (get w.names) ps)) (at.mine l k)
        ∙ ap (map pair_of) (owed_append (get w.names) (at.done l) (as_points (of l (waits (slice_get w.shards (home at.width w.series l))))))
        ∙ map-append pair_of (owed_by (get w.names) (at.done l)) (owed_by (get w.names) (as_points (of l (waits (slice_get w.shards (home at.width w.series l))))))

    whole : list_of w.head.store l ++ tail.0 ≡ map pair_of (owed_below c w w.placed l)
    whole =
        ap (λ ps. ps ++ tail.0) (at.stored l k)
        ∙ append_assoc part g tail.0
        ∙ ap (λ ps. part ++ ps) tail.1
        ∙ sym total

-- what is owed of the placed samples begins what is owed of the log
placed_begin : (c : Setup) (w : World) (l : Labels) → Begins (map pair_of (owed_below c w w.placed l)) (map pair_of (owed w.names (kept_points c.choice (log w) l)))
placed_begin c w l = (map pair_of (owed_by (get w.names) rest), total)
  where
    rest : List LoggedPoint
    rest = logged_from c l (take w.placed (log w)) (drop w.placed (log w))

    total : map pair_of (owed_by (get w.names) (logged_points c l (log w))) ≡ map pair_of (owed_below c w w.placed l) ++ map pair_of (owed_by (get w.names) rest)
    total =
        ap (λ es. map pair_of (owed_by (get w.names) (logged_points c l es))) (sym (take-append-drop w.placed (log w)))
        ∙ ap (λ ps. map pair_of (owed_by (get w.names) ps)) (logged_append c l (take w.placed (log w)) (drop w.placed (log w)))
        ∙ ap (map pair_of) (owed_append (get w.names) (logged_points c l (take w.placed (log w))) rest)
        ∙ map-append pair_of (owed_by (get w.names) (logged_points c l (take w.placed (log w)))) (owed_by (get w.names) rest)
        ∙ ap (λ ps. map pair_of (owed_by (get w.names) ps) ++ map pair_of (owed_by (get w.names) rest)) (sym (below_a_position c.choice (log w) l w.placed))

-- it rises, since what does not rise is named
placed_rises : (c : Setup) (w : World) → Inv c w → HasOneClassEach c w → OwedRises c w
placed_rises c w at one l =
    subst (λ (ps : List LoggedPoint). Rises IsEarlier (map pair_of ps))
    (sym (ap (owed_by (get w.names)) (below_a_position c.choice (log w) l w.placed) ∙ owed_placed c w at one l))
    (ascends_points (owed_by (get w.names) risen_points) (Rises-filter IsEarlierPoint (λ (p : LoggedPoint). is_none (get w.names p.0)) risen_points (Rises-risen (logged_points c l (take w.placed (log w))))))
  where
    risen_points : List LoggedPoint
    risen_points = points c l (take w.placed (log w))

-- labels that are kept, or that have no samples
kept_or_none : (c : Setup) (l : Labels) → IsKept c l ⊎ ((es : List Entry) → logged_points c l es ≡ [])
kept_or_none c l = by_fault (label_fault c.choice.names l) refl
  where
    by_keeps : (b : Bool) → label_fault c.choice.names l ≡ None → keeps c.choice.rules l ≡ b → IsKept c l ⊎ ((es : List Entry) → logged_points c l es ≡ [])
    by_keeps true n e = inl (n, e)
    by_keeps false n e = inr (λ es. cond-false (is_kept c.choice l) (samples_after l [] es) [] (ap (λ (o : Option LabelFault). is_none o && keeps c.choice.rules l) n ∙ e))

    by_fault : (o : Option LabelFault) → label_fault c.choice.names l ≡ o → IsKept c l ⊎ ((es : List Entry) → logged_points c l es ≡ [])
    by_fault None n = by_keeps (keeps c.choice.rules l) n refl
    by_fault (Some f) n = inr (λ es. cond-false (is_kept c.choice l) (samples_after l [] es) [] (ap (λ (o : Option LabelFault). is_none o && keeps c.choice.rules l) n))

-- if a label set has no samples the head holds none
nothing_held : (c : Setup) (w : World) → HoldsNothingElse c w → (l : Labels) → ((es : List Entry) → logged_points c l es ≡ []) → HoldsBeginningBelow c w w.placed l
nothing_held c w nothing l none = (map pair_of (owed_below c w w.placed l), sym (ap (λ ps. ps ++ map pair_of (owed_below c w w.placed l)) (nothing l (none (log w)))))

all_of_kept : (c : Setup) (w : World) → Inv c w → HasOneClassEach c w → all_drained w ≡ true → (l : Labels) → IsKept c l → HoldsAll c w w.placed l
all_of_kept c w at one all l k =
    let mine : points c l (take w.placed (log w)) ≡ at.done l = at.mine l k ∙ ap (λ ps. at.done l ++ as_points (of l ps)) (drained c w at all (home at.width w.series l) (slice_get w.shards (home at.width w.series l)) refl) ∙ append-nil (at.done l) in
    at.stored l k ∙ ap (λ b. map pair_of (owed_by (get w.names) (at.done l)) ++ pairs (of l b)) (drained_got c w at all (home at.width w.series l)) ∙ append-nil (map pair_of (owed_by (get w.names) (at.done l))) ∙ ap (λ ps. map pair_of (owed_by (get w.names) ps)) (sym mine) ∙ ap (map pair_of) (sym (owed_placed c w at one l)) ∙ ap (λ ps. map pair_of (owed_by (get w.names) ps)) (sym (below_a_position c.choice (log w) l w.placed))

-- once all that was placed is resolved the head holds all of it
pub all_of_it : (c : Setup) (w : World) → Inv c w → HasOneClassEach c w → HoldsNothingElse c w → all_drained w ≡ true → (l : Labels) → HoldsAll c w w.placed l
all_of_it c w at one nothing all l = by_kept (kept_or_none c l)
  where
    by_kept : IsKept c l ⊎ ((es : List Entry) → logged_points c l es ≡ []) → HoldsAll c w w.placed l
    by_kept (inl k) = all_of_kept c w at one all l k
    by_kept (inr none) = nothing l (none (log w)) ∙ ap (λ ps. map pair_of (owed w.names ps)) (sym (below_a_position c.choice (log w) l w.placed ∙ none (take w.placed (log w))))

-- a report that is complete is of all that was placed
pub complete_is : (w : World) (end : ℕ) → report w ≡ Some (Complete end) → (all_drained w ≡ true) × (w.placed ≡ end)
complete_is w end e = by_killed w.killed e
  where
    by_fault : (o : Option TailFault) → Some (ended_as o w.placed) ≡ Some (Complete end) → w.placed ≡ end
    by_fault None e = let same : Complete w.placed ≡ Complete end = same_Some _ _ e in cc
    by_fault (Some f) e = let never : Damaged f ≡ Complete end → ⊥ = λ h. cc in absurd (never (same_Some _ _ e))

    by_drained : (b : Bool) → (is_finished w && all_drained w) ≡ b → cond b (Some (ended_as (fault w.pieces) w.placed)) None ≡ Some (Complete end) → (all_drained w ≡ true) × (w.placed ≡ end)
    by_drained true d e = ((and_parts (is_finished w) (all_drained w) d).1, by_fault (fault w.pieces) e)
    by_drained false d e = let never : None ≡ Some (Complete end) → ⊥ = λ h. cc in absurd (never e)

    by_killed : (b : Bool) → cond b (Some (Abandoned w.placed (filter (is_pending w) (up_to w.placed)))) (cond (is_finished w && all_drained w) (Some (ended_as (fault w.pieces) w.placed)) None) ≡ Some (Complete end) → (all_drained w ≡ true) × (w.placed ≡ end)
    by_killed true e = let never : Abandoned w.placed (filter (is_pending w) (up_to w.placed)) ≡ Complete end → ⊥ = λ h. cc in absurd (never (same_Some _ _ e))
    by_killed false e = by_drained (is_finished w && all_drained w) refl e

pub damaged_is : (w : World) (f : TailFault) → report w ≡ Some (Damaged f) → all_drained w ≡ true
damaged_is w f e = by_killed w.killed e
  where
    by_drained : (b : Bool) → (is_finished w && all_drained w) ≡ b → cond b (Some (ended_as (fault w.pieces) w.placed)) None ≡ Some (Damaged f) → all_drained w ≡ true
    by_drained true d e = (and_parts (is_finished w) (all_drained w) d).1
    by_drained false d e = let never : None ≡ Some (Damaged f) → ⊥ = λ h. cc in absurd (never e)

    by_killed : (b : Bool) → cond b (Some (Abandoned w.placed (filter (is_pending w) (up_to w.placed)))) (cond (is_finished w && all_drained w) (Some (ended_as (fault w.pieces) w.placed)) None) ≡ Some (Damaged f) → all_drained w ≡ true
    by_killed true e = let never : Abandoned w.placed (filter (is_pending w) (up_to w.placed)) ≡ Damaged f → ⊥ = λ h. cc in absurd (never (same_Some _ _ e))
    by_killed false e = by_drained (is_finished w && all_drained w) refl e

pub of_placed : (c : Setup) (events : List Event) → IsOfPlaced c (run c events (start c))
of_placed c events l = by_kept (kept_or_none c l)
  where
    by_kept : IsKept c l ⊎ ((es : List Entry) → logged_points c l es ≡ []) → HoldsBeginningBelow c (run c events (start c)) (run c events (start c)).placed l
    by_kept (inl k) = beginning c (run c events (start c)) (holds_at_end c events) (classes c events) l k
    by_kept (inr none) = nothing_held c (run c events (start c)) (others c events) l none

pub in_order : (c : Setup) (events : List Event) → IsInOrder c (run c events (start c))
in_order c events l =
    let w : World = run c events (start c) in
    begins_twice (list_of w.head.store l) (map pair_of (owed_below c w w.placed l)) (map pair_of (owed w.names (kept_points c.choice (log w) l))) (of_placed c events l) (placed_begin c w l)

pub owed_rises : (c : Setup) (events : List Event) → OwedRises c (run c events (start c))
owed_rises c events = placed_rises c (run c events (start c)) (holds_at_end c events) (classes c events)

-- and with it the part that the head holds
pub held_rises : (c : Setup) (events : List Event) → EachRises (run c events (start c)).head.store
held_rises c events l =
    let w : World = run c events (start c) in
    let held : Begins (list_of w.head.store l) (map pair_of (owed_below c w w.placed l)) = of_placed c events l in
    Rises-left IsEarlier (list_of w.head.store l) held.0 (subst (Rises IsEarlier) held.1 (owed_rises c events l))

pub all_when_complete : (c : Setup) (events : List Event) → IsWhole c (run c events (start c))
all_when_complete c events end e l =
    let w : World = run c events (start c) in
    let is = complete_is w end e in
    subst (λ (n : ℕ). HoldsAll c w n l) is.1 (all_of_it c w (holds_at_end c events) (classes c events) (others c events) is.0 l)

pub all_when_damaged : (c : Setup) (events : List Event) → IsWholeBeforeDamage c (run c events (start c))
all_when_damaged c events f e l = all_of_it c (run c events (start c)) (holds_at_end c events) (classes c events) (others c events) (damaged_is (run c events (start c)) f e) l
