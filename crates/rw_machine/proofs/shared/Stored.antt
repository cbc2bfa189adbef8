-- What no shard holds any more is in the store, or named.
use Rattle.std.proofs.Common.{◌≡◌, ℕ, zero, suc, ◌<◌, ◌≤◌, ◌==◌, Bool, true, false, cond, List, [], ◌∷◌, ◌++◌, length, map, take, Option, Some, None, is_none, slice_get, refl, sym, ap, ◌∙◌, subst, ℤ, ◌&&◌, length-take-le, arith, inl, inr, ◌⊎◌}
use Rattle.std.specs.List.{Contains, list_any}
use Rattle.std.proofs.lemmas.List.Elements.{Contains-append_cases, Contains-append_right}
use Rattle.std.proofs.lemmas.Bool.Decides.{Decides-eqb}
use Rattle.rw_machine.proofs.shared.Steps.{is_same}
use Rattle.rw_machine.proofs.shared.Others.{known_kept}
use Rattle.rw_head.proofs.shared.OrderRule.{holds_append, holds_right, holds_own}
use Rattle.rw_machine.proofs.shared.Places.{points_append}
use Rattle.rw_machine.proofs.Invariant.{Inv, as_points, waits, home, by_bool}
use Rattle.rw_machine.proofs.shared.Classes.{classes}
use Rattle.rw_machine.proofs.Owed.{named_fallen}
use Rattle.rw_machine.proofs.shared.Runs.{holds_at_end}
use Rattle.std.specs.FinMap.{get}
use Rattle.std.proofs.lemmas.Bool.{or_right, or_left, cond-true, and_from}
use Rattle.rw_head.specs.Order.{holds}
use Rattle.rw_head.specs.Store.{list_of}
use Rattle.rw_machine.proofs.shared.Views.{IsKept, Ledger, is_of, of, owed_by, pairs, point_of, points, points_from}
use Rattle.rw_machine.specs.Promises.{AccountedEntry, LoggedPoint, StoresResolved, pair_of}
use Rattle.rw_machine.specs.Shards.{Shard, pending_in_shard}
use Rattle.rw_machine.specs.Steps.{run}
use Rattle.rw_machine.specs.declared.event.Event.{Event}
use Rattle.rw_machine.specs.Worlds.{Setup, World, is_pending, log, start}
use Rattle.rw_ledger.specs.declared.ledger.Reason.TheVariants.{NotRising}
use Rattle.rw_series_cache.specs.Known.{Kept, known}
use Rattle.rw_series_cache.specs.Rising.{rises}
use Rattle.rw_plain_queue.specs.Items.{Placed}
use Rattle.rw_types.specs.LabelOrder.{labels_eq}
use Rattle.rw_types.specs.Labels.{Labels}
use Rattle.rw_types.specs.declared.entry.Entry.{Entry}
use Rattle.rw_types.specs.declared.entry.Entry.TheVariants.{Sample}
use Rattle.rw_types.proofs.shared.Booleans.{either}

-- the part of a log before an entry and after it
split_at : (log : List Entry) (p n : ℕ) (e : Entry) → slice_get log p ≡ Some e → p < n → (rest : List Entry) × (take n log ≡ take p log ++ e ∷ rest)
split_at [] p n e h lt = let never : None ≡ Some e → ⊥ = λ h. cc in absurd (never h)
split_at (x ∷ log) p zero e h lt = absurd (omega arith)
split_at (x ∷ log) zero (suc n) e h lt = let same : x ≡ e = cc in (take n log, ap (λ y. y ∷ take n log) same)
split_at (x ∷ log) (suc p) (suc n) e h lt = let r = split_at log p n e h (omega arith) in (r.0, ap (λ es. x ∷ es) r.1)

-- a sample of the series that rises is one of its points
is_point : (c : Setup) (log : List Entry) (p n r : ℕ) (t : ℤ) (word : ℕ) (l : Labels) → p < n → length (take p log) ≡ p → slice_get log p ≡ Some (Sample r t word) → known c.choice (take p log) r ≡ Kept l → rises c.choice (take p log) l t ≡ true → Contains (points c l (take n log)) (p, t, word)
is_point c log p n r t word l lt long e is_known up =
    let split = split_at log p n (Sample r t word) e lt in
    let here : point_of c l (take p log) (Sample r t word) ≡ (p, t, word) ∷ [] =
    ap (λ k. cond (is_of l k && rises c.choice (take p log) l t) ((length (take p log), t, word) ∷ []) []) is_known
    ∙ cond-true (labels_eq l l && rises c.choice (take p log) l t) ((length (take p log), t, word) ∷ []) [] (and_from (labels_eq l l) (rises c.choice (take p log) l t) (is_same l l refl) up)
    ∙ ap (λ (m : ℕ). (m, t, word) ∷ []) long in
    subst (λ es. Contains (points c l es) (p, t, word)) (sym split.1)
    (subst (λ ps. Contains ps (p, t, word)) (sym (points_append c l (take p log) (Sample r t word ∷ split.0)))
    (Contains-append_right (points c l (take p log)) (points_from c l (take p log) (Sample r t word ∷ split.0)) (p, t, word)
    (subst (λ ps. Contains (ps ++ points_from c l (take p log ++ Sample r t word ∷ []) split.0) (p, t, word)) (sym here) (0, omega arith, refl))))

-- a point that is not named is among those owed_by
in_owed : (ledger : Ledger) (q : LoggedPoint) (ps : List LoggedPoint) → ledger q.0 ≡ None → Contains ps q → holds (pair_of q) (map pair_of (owed_by ledger ps)) ≡ true
in_owed ledger q [] free (k, lt, h) = absurd (omega arith)
in_owed ledger q (x ∷ ps) free (zero, lt, h) =
    subst (λ (y : LoggedPoint). holds (pair_of q) (map pair_of (cond (is_none (ledger y.0)) (y ∷ owed_by ledger ps) (owed_by ledger ps))) ≡ true) (sym h)
    (subst (λ qs. holds (pair_of q) (map pair_of qs) ≡ true) (sym (cond-true (is_none (ledger q.0)) (q ∷ owed_by ledger ps) (owed_by ledger ps) (ap is_none free))) (holds_own (pair_of q) (map pair_of (owed_by ledger ps))))
in_owed ledger q (x ∷ ps) free (suc k, lt, h) =
    let rest : holds (pair_of q) (map pair_of (owed_by ledger ps)) ≡ true = in_owed ledger q ps free (k, omega arith, h) in
    either (λ qs. holds (pair_of q) (map pair_of qs) ≡ true) (is_none (ledger x.0)) (x ∷ owed_by ledger ps) (owed_by ledger ps) (λ _. holds_right (pair_of q) (pair_of x ∷ []) (map pair_of (owed_by ledger ps)) rest) (λ _. rest)

-- a point of the waiting samples is a waiting position
waits_at : (l : Labels) (q : LoggedPoint) (xs : List Placed) → Contains (as_points (of l xs)) q → list_any (λ (x : Placed). x.place.pos == q.0) xs ≡ true
waits_at l q [] h = let lt : h.0 < 0 = h.1 in absurd (omega arith)
waits_at l q (x ∷ xs) h = either (λ ys. Contains (as_points ys) q → list_any (λ (x : Placed). x.place.pos == q.0) (x ∷ xs) ≡ true) (labels_eq l x.labels) (x ∷ of l xs) (of l xs) (λ _ k. by_place (waits_at l q xs) k) (λ _ k. or_right (x.place.pos == q.0) (list_any (λ (x : Placed). x.place.pos == q.0) xs) (waits_at l q xs k)) h
  where
    by_place : (Contains (as_points (of l xs)) q → list_any (λ (x : Placed). x.place.pos == q.0) xs ≡ true) → Contains (as_points (x ∷ of l xs)) q → list_any (λ (x : Placed). x.place.pos == q.0) (x ∷ xs) ≡ true
    by_place rest (zero, lt, e) = or_left (x.place.pos == q.0) (list_any (λ (x : Placed). x.place.pos == q.0) xs) ((Decides-eqb x.place.pos q.0).1 (ap (λ (z : LoggedPoint). z.0) e))
    by_place rest (suc k, lt, e) = let below : suc k < suc (length (as_points (of l xs))) = lt in or_right (x.place.pos == q.0) (list_any (λ (x : Placed). x.place.pos == q.0) xs) (rest (k, omega arith, e))

any_at : (f : Shard → Bool) (ss : List Shard) (i : ℕ) (s : Shard) → slice_get ss i ≡ Some s → f s ≡ true → list_any f ss ≡ true
any_at f [] i s e h = let never : None ≡ Some s → ⊥ = λ h. cc in absurd (never e)
any_at f (x ∷ ss) zero s e h = let same : x ≡ s = cc in or_left (f x) (list_any f ss) (ap f same ∙ h)
any_at f (x ∷ ss) (suc i) s e h = or_right (f x) (list_any f ss) (any_at f ss i s e h)

pub resolved_is_stored : (c : Setup) (events : List Event) → StoresResolved c (run c events (start c))
resolved_is_stored c events p r t word l lt e is_known gone free = by_place (Contains-append_cases (at.done l) (as_points (of l (waits (slice_get w.shards (home at.width w.series l))))) q (subst (λ ps. Contains ps q) (at.mine l kept) (is_point c (log w) p w.placed r t word l lt long e is_known up)))
  where
    w : World
    w = run c events (start c)

    at : Inv c w
    at = holds_at_end c events

    q : LoggedPoint
    q = (p, t, word)

    kept : IsKept c l
    kept = known_kept c (take p (log w)) r l is_known

    long : length (take p (log w)) ≡ p
    long = length-take-le p (log w) (let le : w.placed ≤ length (log w) = at.placed_in in omega arith)

    -- one that does not rise is named
    up : rises c.choice (take p (log w)) l t ≡ true
    up = by_bool (rises c.choice (take p (log w)) l t ≡ true) (rises c.choice (take p (log w)) l t) (λ h. h)
        (λ falls. let named : get w.names p ≡ Some NotRising = named_fallen c w p r t word l (subst (AccountedEntry c w p) e ((classes c events p).0 lt)) is_known falls in let never : None ≡ Some NotRising → ⊥ = λ h. cc in absurd (never (sym free ∙ named)))

    by_shard : (o : Option Shard) → slice_get w.shards (home at.width w.series l) ≡ o → Contains (as_points (of l (waits o))) q → is_pending w p ≡ true
    by_shard None at_i h = let lt : h.0 < 0 = h.1 in absurd (omega arith)
    by_shard (Some s) at_i h = any_at (λ (s : Shard). list_any (λ (x : Placed). x.place.pos == p) (pending_in_shard s)) w.shards (home at.width w.series l) s at_i (waits_at l q (pending_in_shard s) h)

    by_place : Contains (at.done l) q ⊎ Contains (as_points (of l (waits (slice_get w.shards (home at.width w.series l))))) q → holds (t, word) (list_of w.head.store l) ≡ true
    by_place (inl h) = subst (λ ps. holds (t, word) ps ≡ true) (sym (at.stored l kept)) (holds_append (t, word) (map pair_of (owed_by (get w.names) (at.done l))) (pairs (of l (at.got (home at.width w.series l)))) (in_owed (get w.names) q (at.done l) free h))
    by_place (inr h) = let z : true ≡ false = sym (by_shard (slice_get w.shards (home at.width w.series l)) refl h) ∙ gone in let never : true ≡ false → ⊥ = λ h. cc in absurd (never z)
