-- The positions of samples that were put.
use Rattle.std.proofs.Common.{◌≡◌, ℕ, ℤ, zero, suc, ◌+◌, ◌<◌, ◌≤◌, Bool, true, false, List, [], ◌∷◌, ◌++◌, length, map, Some, None, cond, sym, subst, length-append, zero-add, arith}
use Rattle.std.specs.Prelude.{◌==◌, filter, slice_get, ⊤}
use Rattle.std.proofs.lemmas.Option.{same_Some}
use Rattle.rw_types.specs.declared.entry.Entry.{Entry}
use Rattle.rw_types.specs.declared.entry.Entry.TheVariants as entry
use Rattle.rw_types.specs.declared.place.Place.{Place}
use Rattle.rw_types.specs.Gathering.{gather_from}
use Rattle.rw_relabel.specs.declared.choice.Choice.{Choice}
use Rattle.rw_plain_queue.specs.Items.{samples_in, places_in}
use Rattle.rw_plain_queue.specs.declared.item.Item.{Item}
use Rattle.rw_plain_queue.specs.declared.item.Item.TheVariants as item
use Rattle.rw_fleet.specs.ShardHistories.{ShardHistory}
use Rattle.rw_series_cache.specs.Fates.{Fate, Drops, Filters, Sends, fate}
use Rattle.rw_sender.specs.Logs.{Sent, sent_by_fate, sent_of, sent}
use Rattle.rw_sender.specs.Placement.{as_sent, shard_of, IsPlacing}

-- below a position
abbrev pub AllBelow : ℕ → List Sent → Type 0
AllBelow n [] = ⊤
AllBelow n (x ∷ xs) = (x.pos < n) × AllBelow n xs

below_more : (n m : ℕ) (xs : List Sent) → n ≤ m → AllBelow n xs → AllBelow m xs
below_more n m [] le h = tt
below_more n m (x ∷ xs) le h = (let b = h.0 in omega arith, below_more n m xs le h.1)

below_append : (n : ℕ) (xs ys : List Sent) → AllBelow n xs → AllBelow n ys → AllBelow n (xs ++ ys)
below_append n [] ys a b = b
below_append n (x ∷ xs) ys a b = (a.0, below_append n xs ys a.1 b)

below_later : (n : ℕ) (xs ys : List Sent) → AllBelow n (xs ++ ys) → AllBelow n ys
below_later n [] ys h = h
below_later n (x ∷ xs) ys h = below_later n xs ys h.1

below_cond : (n : ℕ) (x : Sent) (xs : List Sent) (b : Bool) → x.pos < n → AllBelow n xs → AllBelow n (cond b (x ∷ xs) xs)
below_cond n x xs true a h = (a, h)
below_cond n x xs false a h = h

below_filter : (n : ℕ) (p : Sent → Bool) (xs : List Sent) → AllBelow n xs → AllBelow n (filter p xs)
below_filter n p [] h = tt
below_filter n p (x ∷ xs) h = below_cond n x (filter p xs) (p x) h.0 (below_filter n p xs h.1)

below_fate : (choice : Choice) (before : List Entry) (t : ℤ) (word : ℕ) (f : Fate) → AllBelow (length before + 1) (sent_by_fate choice before t word f)
below_fate choice before t word (Sends l) = (omega arith, tt)
below_fate choice before t word (Drops reason) = tt
below_fate choice before t word Filters = tt

below_of : (choice : Choice) (before : List Entry) (e : Entry) → AllBelow (length before + 1) (sent_of choice before e)
below_of choice before (entry.Def reference labels) = tt
below_of choice before (entry.Sample reference t word) = below_fate choice before t word (fate choice before reference t)

below_from : (choice : Choice) (before es : List Entry) → AllBelow (length before + length es) (gather_from (sent_of choice) before es)
below_from choice before [] = tt
below_from choice before (e ∷ es) =
    let len = length-append before (e ∷ []) in
    below_append (length before + length (e ∷ es)) (sent_of choice before e) (gather_from (sent_of choice) (before ++ e ∷ []) es)
    (below_more (length before + 1) (length before + length (e ∷ es)) (sent_of choice before e) (omega arith) (below_of choice before e))
    (below_more (length (before ++ e ∷ []) + length es) (length before + length (e ∷ es)) (gather_from (sent_of choice) (before ++ e ∷ []) es) (omega arith) (below_from choice (before ++ e ∷ []) es))

sent_below : (choice : Choice) (es : List Entry) → AllBelow (length es) (sent choice es)
sent_below choice es = subst (λ n. AllBelow n (sent choice es)) (zero-add (length es)) (below_from choice [] es)

below_place : (n : ℕ) (xs : List Item) (k : ℕ) (o : Place) → AllBelow n (map as_sent (samples_in xs)) → slice_get (places_in xs) k ≡ Some o → o.pos < n
below_place n [] k o h at = absurd (let at' : None ≡ Some o = at in cc)
below_place n (item.Sample p t w l ∷ xs) zero o h at = subst (λ (q : Place). q.pos < n) (same_Some p o at) h.0
below_place n (item.Sample p t w l ∷ xs) (suc k) o h at = below_place n xs k o h.1 at
below_place n (item.Flush ∷ xs) k o h at = below_place n xs k o h at
below_place n (item.End kind ∷ xs) k o h at = below_place n xs k o h at

-- what was put so far is below the next position
pub placing_below : (e n j : ℕ) (ended current : List ShardHistory) (choice : Choice) (es : List Entry) (l : ShardHistory) → IsPlacing e ended current (sent choice es) → n ≡ length es → slice_get current j ≡ Some l
    → (k : ℕ) (o : Place) → slice_get (places_in l.put) k ≡ Some o → o.pos < n
placing_below e n j ended current choice es l h count at k o there =
    let fresh = below_later (length es) h.before h.fresh (subst (AllBelow (length es)) h.all (sent_below choice es)) in
    let mine = below_filter (length es) (λ s. shard_of (length current) s.series == j) h.fresh fresh in
    subst (λ m. o.pos < m) (sym count) (below_place (length es) l.put k o (subst (AllBelow (length es)) (sym (h.dealt.each j l at).2) mine) there)
