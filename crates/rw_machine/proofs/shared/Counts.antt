-- The count of filtered samples.
use Rattle.std.proofs.Common.{◌≡◌, ℕ, zero, suc, ◌+◌, ◌<◌, ◌≤◌, Bool, true, false, cond, List, [], ◌∷◌, ◌++◌, length, filter, take, Option, Some, None, is_some, slice_get, refl, sym, ap, ◌∙◌, subst, ℤ, ◌&&◌, not, nat_le, length-append, arith}
use Rattle.std.proofs.lemmas.List.{take-append-le}
use Rattle.std.proofs.lemmas.List.Elements.{filter-append}
use Rattle.rw_machine.proofs.shared.Steps.{always}
use Rattle.rw_machine.proofs.shared.Frames.{reply_frame, restart_frame}
use Rattle.rw_machine.proofs.shared.Places.{get_below}
use Rattle.rw_machine.proofs.shared.Classes.{get_left}
use Rattle.rw_machine.proofs.shared.Others.{entries_grow}
use Rattle.rw_wal_format.specs.Pieces as pieces
use Rattle.rw_wal_tail.specs.Fed.{piece_of}
use Rattle.rw_machine.specs.declared.event.Event.TheVariants as event
use Rattle.rw_machine.specs.Promises.{CountsFiltered, is_filtered, is_filtered_at, is_filtered_entry}
use Rattle.rw_machine.specs.Shards.{Shard, has_room}
use Rattle.rw_machine.specs.Steps.{act, arrive, place, place_entry, place_kept, place_sample, put_if_room, run, send_batch, shard_of_labels}
use Rattle.rw_machine.specs.Worlds.{Request, Setup, World, is_finished, log, start, up_to}
use Rattle.rw_machine.specs.declared.event.Event.{Event}
use Rattle.rw_machine.specs.declared.event.How.{How}
use Rattle.rw_machine.specs.declared.event.How.TheVariants.{Busy, Plain, OutOfMemory}
use Rattle.rw_shard_core.specs.Shard.{can_send}
use Rattle.rw_series_cache.specs.Known.{Bad, Filtered, Kept, Standing, Unknown, known}
use Rattle.rw_series_cache.specs.Rising.{rises}
use Rattle.rw_types.specs.Labels.{Labels}
use Rattle.rw_types.specs.declared.entry.Entry.{Entry}
use Rattle.rw_types.specs.declared.entry.Entry.TheVariants.{Def, Sample}
use Rattle.rw_types.proofs.shared.Booleans.{either}

pub record Count (c : Setup) (w : World) : Type 0 where
  pub placed_in : w.placed ≤ length (log w)
  pub is : w.filtered ≡ length (filter (is_filtered_at c (log w)) (up_to w.placed))

same_filter : (f g : ℕ → Bool) (n : ℕ) → ((p : ℕ) → p < n → f p ≡ g p) → filter f (up_to n) ≡ filter g (up_to n)
same_filter f g zero h = refl
same_filter f g (suc n) h =
    filter-append f (up_to n) (n ∷ [])
    ∙ (λ i. same_filter f g n (λ p lt. h p (omega arith)) i ++ cond (h n (omega arith) i) (n ∷ []) [])
    ∙ sym (filter-append g (up_to n) (n ∷ []))

longer : (c : Setup) (xs ys : List Entry) (p : ℕ) (o : Option Entry) → p ≤ length xs → is_filtered_entry c (xs ++ ys) p o ≡ is_filtered_entry c xs p o
longer c xs ys p None le = refl
longer c xs ys p (Some (Def r l)) le = refl
longer c xs ys p (Some (Sample r t word)) le = ap (λ es. is_filtered (known c.choice es r)) (take-append-le p xs ys le)

count_grow : (c : Setup) (w : World) (more : List pieces.Piece) → Count c w → Count c (record w { pieces = w.pieces ++ more })
count_grow c w more at = let grown = entries_grow w.pieces more in record {
  placed_in = subst (λ es. w.placed ≤ length es) (sym grown.1) (long grown.0);
  is = subst (λ es. w.filtered ≡ length (filter (is_filtered_at c es) (up_to w.placed))) (sym grown.1) (same grown.0);
}
  where
    long : (es : List Entry) → w.placed ≤ length (log w ++ es)
    long es = let le : w.placed ≤ length (log w) = at.placed_in in let e : length (log w ++ es) ≡ length (log w) + length es = length-append (log w) es in omega arith

    same : (es : List Entry) → w.filtered ≡ length (filter (is_filtered_at c (log w ++ es)) (up_to w.placed))
    same es = at.is ∙ ap length (same_filter (is_filtered_at c (log w)) (is_filtered_at c (log w ++ es)) w.placed (λ p lt. let le : w.placed ≤ length (log w) = at.placed_in in sym (ap (is_filtered_entry c (log w ++ es) p) (get_left (log w) es p (omega arith)) ∙ longer c (log w) es p (slice_get (log w) p) (omega arith))))

-- one more position
next : (c : Setup) (w : World) (e : Entry) (b : Bool) (n : ℕ) → slice_get (log w) w.placed ≡ Some e → is_filtered_entry c (log w) w.placed (Some e) ≡ b → n ≡ w.filtered + cond b 1 0 → Count c w → (suc w.placed ≤ length (log w)) × (n ≡ length (filter (is_filtered_at c (log w)) (up_to (suc w.placed))))
next c w e b n at_p is_b is_n at = (
  (let lt : w.placed < length (log w) = get_below (log w) w.placed e at_p in omega arith),
  sum n w.filtered (length (filter (is_filtered_at c (log w)) (up_to w.placed))) (cond b 1 0) is_n at.is
      ∙ ap (λ (m : ℕ). length (filter (is_filtered_at c (log w)) (up_to w.placed)) + m) (one b ∙ ap (λ (v : Bool). length (cond v (w.placed ∷ []) [])) (sym (ap (is_filtered_entry c (log w) w.placed) at_p ∙ is_b)))
      ∙ sym (ap length (filter-append (is_filtered_at c (log w)) (up_to w.placed) (w.placed ∷ [])) ∙ length-append (filter (is_filtered_at c (log w)) (up_to w.placed)) (filter (is_filtered_at c (log w)) (w.placed ∷ []))),
)
  where
    sum : (n f g d : ℕ) → n ≡ f + d → f ≡ g → n ≡ g + d
    sum n f g d h k = omega arith

    one : (b : Bool) → cond b 1 0 ≡ length (cond b (w.placed ∷ []) [])
    one true = refl
    one false = refl

count_place : (c : Setup) (w : World) → Count c w → Count c (place c w)
count_place c w at = either (Count c) (is_some w.draining) w (place_entry c w (slice_get (log w) w.placed)) (λ _. at) (λ _. by_entry (slice_get (log w) w.placed) refl)
  where
    plus_none : w.filtered ≡ w.filtered + 0
    plus_none = omega arith

    plus_one : suc w.filtered ≡ w.filtered + 1
    plus_one = omega arith

    by_shard : (x : Entry) → slice_get (log w) w.placed ≡ Some x → is_filtered_entry c (log w) w.placed (Some x) ≡ false → (l : Labels) (t : ℤ) (word i : ℕ) (o : Option Shard) → Count c (put_if_room c w i l t word o)
    by_shard x e f l t word i None = at
    by_shard x e f l t word i (Some s) = either (Count c) (has_room c.capacity s) _ w (λ _. let h = next c w x false w.filtered e f plus_none at in record { placed_in = h.0; is = h.1 }) (λ _. at)

    by_rising : (x : Entry) → slice_get (log w) w.placed ≡ Some x → is_filtered_entry c (log w) w.placed (Some x) ≡ false → (l : Labels) (t : ℤ) (word : ℕ) (b : Bool) → Count c (place_kept c w l t word b)
    by_rising x e f l t word true = by_shard x e f l t word (shard_of_labels w l) (slice_get w.shards (shard_of_labels w l))
    by_rising x e f l t word false = let h = next c w x false w.filtered e f plus_none at in record { placed_in = h.0; is = h.1 }

    by_known : (r : ℕ) (t : ℤ) (word : ℕ) (k : Standing) → slice_get (log w) w.placed ≡ Some (Sample r t word) → known c.choice (take w.placed (log w)) r ≡ k → Count c (place_sample c w t word k)
    by_known r t word Unknown e known = let h = next c w (Sample r t word) false w.filtered e (ap is_filtered known) plus_none at in record { placed_in = h.0; is = h.1 }
    by_known r t word (Bad f) e known = let h = next c w (Sample r t word) false w.filtered e (ap is_filtered known) plus_none at in record { placed_in = h.0; is = h.1 }
    by_known r t word Filtered e known = let h = next c w (Sample r t word) true (suc w.filtered) e (ap is_filtered known) plus_one at in record { placed_in = h.0; is = h.1 }
    by_known r t word (Kept l) e known = by_rising (Sample r t word) e (ap is_filtered known) l t word (rises c.choice (take w.placed (log w)) l t)

    by_entry : (o : Option Entry) → slice_get (log w) w.placed ≡ o → Count c (place_entry c w o)
    by_entry None e = at
    by_entry (Some (Def r m)) e = let h = next c w (Def r m) false w.filtered e refl plus_none at in record { placed_in = h.0; is = h.1 }
    by_entry (Some (Sample r t word)) e = by_known r t word (known c.choice (take w.placed (log w)) r) e refl

pub count_act : (c : Setup) (w : World) (e : Event) → Count c w → Count c (act c w e)
count_act c w (event.Feed piece) at = either (Count c) (is_some w.closed) w _ (λ _. at) (λ _. count_grow c w (piece_of piece ∷ []) at)
count_act c w event.Place at = count_place c w at
count_act c w (event.Flush i) at = record { placed_in = at.placed_in; is = at.is }
count_act c w (event.Take i) at = record { placed_in = at.placed_in; is = at.is }
count_act c w (event.Freeze i) at = record { placed_in = at.placed_in; is = at.is }
count_act c w (event.Send i) at = by_shard (slice_get w.shards i)
  where
    by_shard : (o : Option Shard) → Count c (send_batch w i o)
    by_shard None = at
    by_shard (Some s) = either (Count c) (can_send s.core) _ w (λ _. record { placed_in = at.placed_in; is = at.is }) (λ _. at)
count_act c w (event.Arrive k how) at = by_request how (slice_get w.requests k)
  where
    by_request : (how : How) (o : Option Request) → Count c (arrive c w how o)
    by_request how None = at
    by_request Plain (Some r) = record { placed_in = at.placed_in; is = at.is }
    by_request Busy (Some r) = record { placed_in = at.placed_in; is = at.is }
    by_request OutOfMemory (Some r) = record { placed_in = at.placed_in; is = at.is }
count_act c w (event.Reply k) at = reply_frame (Count c) w (slice_get w.replies k) (λ _ _. record { placed_in = at.placed_in; is = at.is })
count_act c w (event.Lost i) at = record { placed_in = at.placed_in; is = at.is }
count_act c w (event.Reshard n) at = either (Count c) (not (is_some w.draining) && (not (is_finished w) && (nat_le 1 n && nat_le n 1000))) _ w (λ _. record { placed_in = at.placed_in; is = at.is }) (λ _. at)
count_act c w event.Restart at = restart_frame (Count c) c w w.draining (λ _ _ _. record { placed_in = at.placed_in; is = at.is })
count_act c w event.Close at = either (Count c) (is_some w.closed) w _ (λ _. at) (λ _. record { placed_in = at.placed_in; is = at.is })
count_act c w event.Kill at = record { placed_in = at.placed_in; is = at.is }

pub count_start : (c : Setup) → Count c (start c)
count_start c = record { placed_in = omega arith; is = refl }

pub counts_filtered : (c : Setup) (events : List Event) → CountsFiltered c (run c events (start c))
counts_filtered c events = (always (Count c) c (count_act c) events (start c) (count_start c)).is
