-- The stores that lists at places are.
use Rattle.std.proofs.Common.{◌≡◌, ◌≢◌, ℕ, ◌+◌, ◌<◌, ◌≤◌, ◌^◌, suc, zero, List, [], ◌∷◌, ◌++◌, length, map, set, get_or, Option, Some, None, Bool, true, false, cond, ◌||◌, ◌&&◌, unwrap_or, ⊎_elim, refl, sym, ◌∙◌, ap, subst, arith}
use Rattle.std.specs.BTreeMap.{BTreeMap, get, Updates}
use Rattle.std.specs.List.{list_any, AllByRecursion}
use Rattle.std.specs.Map.{lookup, keys_of}
use Rattle.std.specs.BTreeMap.{is_at}
use Rattle.std.specs.FinMap.{empty, entries, get-entries, entries-insert, len-entries, len-empty}
use Rattle.std.specs.FinMap.Entries.{put, below_all, by_order}
use Rattle.std.specs.List.Sorted.{IsStrictlySortedBy}
use Rattle.std.specs.Ordering.{is_lt}
use Rattle.std.specs.declared.cmp.Ordering.TheVariants.{Less}
use Rattle.std.proofs.lemmas.Bool.{cases_lt, and_parts, true≢false}
use Rattle.std.proofs.lemmas.Map.Entries.{btree_map_get_place}
use Rattle.std.proofs.lemmas.List.{get_or-set_same, get_or-set_other, get_or_append_left, get_or_push, length-set, length_push, length-map}
use Rattle.std.proofs.lemmas.Option.{slice_get-get_or}
use Rattle.std.proofs.lemmas.List.Folds.{list_any-append}
use Rattle.std.proofs.lemmas.Cmp.{eq_by_cmp_equiv}
use Rattle.rw_types.specs.Labels.{Labels}
use Rattle.rw_types.specs.LabelOrder.{labels_cmp, labels_eq}
use Rattle.rw_types.specs.inner.LabelOrder.{labels_cmp-total}
use Rattle.rw_types.proofs.shared.OrderLemmas.{same_if_equal, equal_if_same}
use Rattle.rw_head.specs.Order.{Point}
use Rattle.rw_head.specs.Store.{Store, list_of, with_list, total, label_sets, held_series, AreListsOf, HasNoEmptyList}
use Rattle.rw_head.specs.Verdicts.{LabelLimits}
use Rattle.rw_head.specs.inner.Growth.{HoldsNoneRefused}
use Rattle.rw_head.specs.Lists.{Lists, no_lists, has_samples, with_samples}
use Rattle.rw_head.specs.inner.Lists.{IsSound, IsFresh, IsAdded, AllFilled, AreWithin, listed, store_of_lists, kept_store, staged_store, HasPlaces}
use Rattle.rw_head.specs.inner.Names.{below, HasNoneRefused}
use Rattle.rw_head.proofs.shared.StoreLemmas.{list_of-empty, list_of-with_list, HasNoEmptyList-empty, HasNoEmptyList-with_list, same_store, with_list-same, total-with_list, list_of-few, is_less, find_below}
use Rattle.rw_head.proofs.NameLemmas.{get_or_any}
use Rattle.rw_head.proofs.NotedLemmas.{Settled-added, AreNoted-added}

-- the list at a place, if there is one
abbrev pub at : (Lists → List Point) → List Lists → Option ℕ → List Point
at f lists None = []
at f lists (Some n) = f (get_or lists n no_lists)

abbrev pub Index : Type 0
Index = BTreeMap Labels ℕ

abbrev pub store_by : (Lists → List Point) → List (Labels × ℕ) → List Lists → Store
store_by f places lists = store_of_lists (listed f lists places)

at_cond : (f : Lists → List Point) (lists : List Lists) (b : Bool) (n : ℕ) (o : Option ℕ) → cond b (f (get_or lists n no_lists)) (at f lists o) ≡ at f lists (cond b (Some n) o)
at_cond f lists true n o = refl
at_cond f lists false n o = refl

-- a label set has the list at its place
list_of-store : (f : Lists → List Point) (places : List (Labels × ℕ)) (lists : List Lists) (q : Labels) → list_of (store_by f places lists) q ≡ at f lists (lookup (is_at (labels_cmp q)) places)
list_of-store f [] lists q = list_of-empty q
list_of-store f (e ∷ es) lists q =
    list_of-with_list e.0 (f (get_or lists e.1 no_lists)) (store_by f es lists) q
    ∙ ap (cond (labels_eq q e.0) (f (get_or lists e.1 no_lists))) (list_of-store f es lists q)
    ∙ at_cond f lists (labels_eq q e.0) e.1 (lookup (is_at (labels_cmp q)) es)

pub no_empty_list : (f : Lists → List Point) (places : List (Labels × ℕ)) (lists : List Lists) → HasNoEmptyList (store_by f places lists)
no_empty_list f [] lists = HasNoEmptyList-empty
no_empty_list f (e ∷ es) lists = HasNoEmptyList-with_list e.0 (f (get_or lists e.1 no_lists)) (store_by f es lists) (no_empty_list f es lists)

-- two stores of lists are the same if each label set has the same list
pub same_lists : (f g : Lists → List Point) (xs ys : List (Labels × ℕ)) (ls ms : List Lists)
    → ((q : Labels) → at f ls (lookup (is_at (labels_cmp q)) xs) ≡ at g ms (lookup (is_at (labels_cmp q)) ys)) → store_by f xs ls ≡ store_by g ys ms
same_lists f g xs ys ls ms same =
    same_store (store_by f xs ls) (store_by g ys ms) (no_empty_list f xs ls) (no_empty_list g ys ms)
    (λ q. list_of-store f xs ls q ∙ same q ∙ sym (list_of-store g ys ms q))

-- ---- a list that changes
other_place : (f : Lists → List Point) (index : Index) (lists : List Lists) (l q : Labels) (n : ℕ) (x : Lists) (o : Option ℕ) → HasPlaces index lists → get labels_cmp index l ≡ Some n
    → get labels_cmp index q ≡ o → (q ≡ l → ⊥) → at f (set lists n x) o ≡ at f lists o
other_place f index lists l q n x None h e k differ = refl
other_place f index lists l q n x (Some m) h e k differ =
    let apart : m ≢ n = λ same. differ (h.apart q l n (k ∙ ap Some same) e) in
    ap f (get_or-set_other lists n m x no_lists apart)

changed : (f : Lists → List Point) (index : Index) (lists : List Lists) (l q : Labels) (n : ℕ) (x : Lists) (b : Bool) → HasPlaces index lists → get labels_cmp index l ≡ Some n
    → labels_eq q l ≡ b → at f (set lists n x) (get labels_cmp index q) ≡ cond b (f x) (at f lists (get labels_cmp index q))
changed f index lists l q n x true h e k =
    ap (λ p. at f (set lists n x) (get labels_cmp index p)) (same_if_equal q l k) ∙ ap (at f (set lists n x)) e ∙ ap f (get_or-set_same lists n x no_lists (h.within l n e))
changed f index lists l q n x false h e k =
    other_place f index lists l q n x (get labels_cmp index q) h e refl (λ same. let yes : labels_eq q l ≡ true = equal_if_same q l same in true≢false (sym yes ∙ k))

pub store-set : (f : Lists → List Point) (index : Index) (lists : List Lists) (l : Labels) (n : ℕ) (x : Lists) → HasPlaces index lists → get labels_cmp index l ≡ Some n
    → store_by f index.entries (set lists n x) ≡ with_list l (f x) (store_by f index.entries lists)
store-set f index lists l n x h e =
    same_store (store_by f index.entries (set lists n x)) (with_list l (f x) (store_by f index.entries lists)) (no_empty_list f index.entries (set lists n x))
    (HasNoEmptyList-with_list l (f x) (store_by f index.entries lists) (no_empty_list f index.entries lists))
    (λ q. list_of-store f index.entries (set lists n x) q ∙ changed f index lists l q n x (labels_eq q l) h e refl
    ∙ ap (cond (labels_eq q l) (f x)) (sym (list_of-store f index.entries lists q)) ∙ sym (list_of-with_list l (f x) (store_by f index.entries lists) q))

pub list_at_place : (f : Lists → List Point) (index : Index) (lists : List Lists) (l : Labels) (n : ℕ) → get labels_cmp index l ≡ Some n → list_of (store_by f index.entries lists) l ≡ f (get_or lists n no_lists)
list_at_place f index lists l n e = list_of-store f index.entries lists l ∙ ap (at f lists) e

pub staged-set : (index : Index) (lists : List Lists) (l : Labels) (n : ℕ) (x : Lists) → HasPlaces index lists → get labels_cmp index l ≡ Some n
    → staged_store index.entries (set lists n x) ≡ with_list l x.staged (staged_store index.entries lists)
unfolding staged_store
staged-set index lists l n x h e = store-set (λ l. l.staged) index lists l n x h e

pub staged_at : (index : Index) (lists : List Lists) (l : Labels) (n : ℕ) → get labels_cmp index l ≡ Some n → list_of (staged_store index.entries lists) l ≡ (get_or lists n no_lists).staged
unfolding staged_store
staged_at index lists l n e = list_at_place (λ l. l.staged) index lists l n e

pub kept-set : (index : Index) (lists : List Lists) (l : Labels) (n : ℕ) (x : Lists) → HasPlaces index lists → get labels_cmp index l ≡ Some n → x.kept ≡ (get_or lists n no_lists).kept
    → kept_store index.entries (set lists n x) ≡ kept_store index.entries lists
unfolding kept_store
kept-set index lists l n x h e same =
    let f : Lists → List Point = λ l. l.kept in
    let s : Store = store_by f index.entries lists in
    store-set f index lists l n x h e ∙ ap (λ xs. with_list l xs s) (same ∙ sym (list_at_place f index lists l n e)) ∙ with_list-same l s (no_empty_list f index.entries lists)

pub HasPlaces-set : (index : Index) (lists : List Lists) (n : ℕ) (x : Lists) → HasPlaces index lists → HasPlaces index (set lists n x)
HasPlaces-set index lists n x h = record { within = λ l m e. omega (arith, h.within l m e, length-set lists n x); apart = h.apart }

-- ---- a new place
grown_at : (f : Lists → List Point) (x : Lists) → f x ≡ [] → (lists : List Lists) (index : Index) (l q : Labels) (o : Option ℕ) (b : Bool) → HasPlaces index lists
    → get labels_cmp index l ≡ None → labels_eq l q ≡ b → get labels_cmp index q ≡ o → at f (lists ++ x ∷ []) (cond b (Some (length lists)) o) ≡ at f lists o
grown_at f x none lists index l q o true h e k at_q =
    ap f (get_or_push lists x no_lists (length lists) refl) ∙ none ∙ ap (at f lists) (sym e ∙ ap (get labels_cmp index) (same_if_equal l q k) ∙ at_q)
grown_at f x none lists index l q None false h e k at_q = refl
grown_at f x none lists index l q (Some m) false h e k at_q = ap f (get_or_append_left lists (x ∷ []) no_lists m (h.within q m at_q))

-- a list of which nothing is kept leaves what is kept
pub kept-added : (lists : List Lists) (index new : Index) (l : Labels) (x : Lists) → HasPlaces index lists → get labels_cmp index l ≡ None → x.kept ≡ []
    → Updates labels_cmp index new l (Some (length lists)) → kept_store new.entries (lists ++ x ∷ []) ≡ kept_store index.entries lists
unfolding kept_store
kept-added lists index new l x h e none u =
    let f : Lists → List Point = λ y. y.kept in
    same_lists f f new.entries index.entries (lists ++ x ∷ []) lists
    (λ q. ap (at f (lists ++ x ∷ [])) (u.0 q) ∙ grown_at f x none lists index l q (get labels_cmp index q) (labels_eq l q) h e refl refl)

added_at : (f : Lists → List Point) (x : Lists) (lists : List Lists) (index : Index) (q : Labels) (o : Option ℕ) (b c : Bool) → HasPlaces index lists → b ≡ c → get labels_cmp index q ≡ o
    → at f (lists ++ x ∷ []) (cond b (Some (length lists)) o) ≡ cond c (f x) (at f lists o)
added_at f x lists index q o true true h same at_q = ap f (get_or_push lists x no_lists (length lists) refl)
added_at f x lists index q o true false h same at_q = absurd cc
added_at f x lists index q o false true h same at_q = absurd cc
added_at f x lists index q None false false h same at_q = refl
added_at f x lists index q (Some m) false false h same at_q = ap f (get_or_append_left lists (x ∷ []) no_lists m (h.within q m at_q))

pub staged-added : (lists : List Lists) (index new : Index) (l : Labels) (x : Lists) → HasPlaces index lists
    → Updates labels_cmp index new l (Some (length lists)) → staged_store new.entries (lists ++ x ∷ []) ≡ with_list l x.staged (staged_store index.entries lists)
unfolding staged_store
staged-added lists index new l x h u =
    let f : Lists → List Point = λ y. y.staged in
    let s : Store = store_by f index.entries lists in
    same_store (store_by f new.entries (lists ++ x ∷ [])) (with_list l x.staged s) (no_empty_list f new.entries (lists ++ x ∷ []))
    (HasNoEmptyList-with_list l x.staged s (no_empty_list f index.entries lists))
    (λ q. list_of-store f new.entries (lists ++ x ∷ []) q ∙ ap (at f (lists ++ x ∷ [])) (u.0 q)
    ∙ added_at f x lists index q (get labels_cmp index q) (labels_eq l q) (labels_eq q l) h ((eq_by_cmp_equiv labels_cmp-total).symm l q) refl
    ∙ ap (cond (labels_eq q l) x.staged) (sym (list_of-store f index.entries lists q)) ∙ sym (list_of-with_list l x.staged s q))

-- if no label set that has samples is refused, none is that has a place
pub none_refused : (limits : LabelLimits) (index : Index) (lists : List Lists) → HasPlaces index lists → AllFilled lists
    → HoldsNoneRefused limits (staged_store index.entries lists) → HasNoneRefused limits index
none_refused limits index lists places filled h l n e = h l (ap has_samples (staged_at index lists l n e) ∙ filled n (places.within l n e))

-- a label set without a place has no samples
pub staged_nowhere : (index : Index) (lists : List Lists) (l : Labels) → get labels_cmp index l ≡ None → list_of (staged_store index.entries lists) l ≡ []
unfolding staged_store
staged_nowhere index lists l e = list_of-store (λ y. y.staged) index.entries lists l ∙ ap (at (λ y. y.staged) lists) e

within_grown : (lists : List Lists) (x : Lists) (index : Index) (l q : Labels) (n : ℕ) (b : Bool) → HasPlaces index lists → cond b (Some (length lists)) (get labels_cmp index q) ≡ Some n → n < length (lists ++ x ∷ [])
within_grown lists x index l q n true h e = let same : length lists ≡ n = cc in omega (arith, length_push lists x, same)
within_grown lists x index l q n false h e = omega (arith, length_push lists x, h.within q n e)

apart_grown : (lists : List Lists) (index : Index) (l p q : Labels) (n : ℕ) (a b : Bool) → HasPlaces index lists → labels_eq l p ≡ a → labels_eq l q ≡ b
    → cond a (Some (length lists)) (get labels_cmp index p) ≡ Some n → cond b (Some (length lists)) (get labels_cmp index q) ≡ Some n → p ≡ q
apart_grown lists index l p q n true true h i j e k = sym (same_if_equal l p i) ∙ same_if_equal l q j
apart_grown lists index l p q n true false h i j e k = let same : length lists ≡ n = cc in absurd (omega (arith, h.within q n k, same))
apart_grown lists index l p q n false true h i j e k = let same : length lists ≡ n = cc in absurd (omega (arith, h.within p n e, same))
apart_grown lists index l p q n false false h i j e k = h.apart p q n e k

HasPlaces-added : (lists : List Lists) (index new : Index) (l : Labels) (x : Lists) → HasPlaces index lists → Updates labels_cmp index new l (Some (length lists)) → HasPlaces new (lists ++ x ∷ [])
HasPlaces-added lists index new l x h u = record {
  within = λ q n e. within_grown lists x index l q n (labels_eq l q) h (sym (u.0 q) ∙ e);
  apart = λ p q n e k. apart_grown lists index l p q n (labels_eq l p) (labels_eq l q) h refl refl (sym (u.0 p) ∙ e) (sym (u.0 q) ∙ k);
}

-- ---- fresh label sets
any-push : (l q : Labels) (fresh : List Labels) → list_any (labels_eq q) (fresh ++ l ∷ []) ≡ (list_any (labels_eq q) fresh || (labels_eq q l || false))
any-push l q fresh = list_any-append (labels_eq q) fresh (l ∷ [])

named_now : (a b : Bool) → b ≡ true → (a || (b || false)) ≡ true
named_now true b e = refl
named_now false true e = refl
named_now false false e = absurd cc

named_still : (a b : Bool) → a ≡ true → (a || (b || false)) ≡ true
named_still true b e = refl
named_still false b e = absurd cc

named_before : (a b : Bool) → b ≡ false → (a || (b || false)) ≡ true → a ≡ true
named_before true b e k = refl
named_before false true e k = absurd cc
named_before false false e k = absurd cc

named_added : (lists : List Lists) (index : Index) (fresh : List Labels) (l q : Labels) (n : ℕ) (b : Bool) → IsFresh index lists fresh → labels_eq l q ≡ b
    → cond b (Some (length lists)) (get labels_cmp index q) ≡ Some n → length lists + 1 ≤ n + (length fresh + 1) → list_any (labels_eq q) (fresh ++ l ∷ []) ≡ true
named_added lists index fresh l q n true h k e le =
    any-push l q fresh ∙ named_now (list_any (labels_eq q) fresh) (labels_eq q l) (equal_if_same q l (sym (same_if_equal l q k)))
named_added lists index fresh l q n false h k e le =
    any-push l q fresh ∙ named_still (list_any (labels_eq q) fresh) (labels_eq q l) (h.named q n e (omega arith))

last_added : (lists : List Lists) (index : Index) (fresh : List Labels) (l q : Labels) (n : ℕ) (b : Bool) → IsFresh index lists fresh → labels_eq l q ≡ b
    → list_any (labels_eq q) (fresh ++ l ∷ []) ≡ true → cond b (Some (length lists)) (get labels_cmp index q) ≡ Some n → length lists + 1 ≤ n + (length fresh + 1)
last_added lists index fresh l q n true h k any e = let same : length lists ≡ n = cc in omega (arith, same)
last_added lists index fresh l q n false h k any e =
    let other : labels_eq q l ≡ false = (eq_by_cmp_equiv labels_cmp-total).symm q l ∙ k in
    omega (arith, h.last q n (named_before (list_any (labels_eq q) fresh) (labels_eq q l) other (sym (any-push l q fresh) ∙ any)) e)

empty_added : (lists : List Lists) (index : Index) (fresh : List Labels) (x : Lists) (n : ℕ) → IsFresh index lists fresh → x.kept ≡ [] → n < length lists + 1 → length lists + 1 ≤ n + (length fresh + 1)
    → (get_or (lists ++ x ∷ []) n no_lists).kept ≡ []
empty_added lists index fresh x n h none lt le =
    ⊎_elim
    (λ low. ap (λ y. y.kept) (get_or_append_left lists (x ∷ []) no_lists n low) ∙ h.empty n low (omega arith))
    (λ high. ap (λ y. y.kept) (get_or_push lists x no_lists n (omega arith)) ∙ none)
    (cases_lt n (length lists))

IsFresh-added : (lists : List Lists) (index new : Index) (fresh : List Labels) (l : Labels) (x : Lists) → IsFresh index lists fresh → x.kept ≡ [] → Updates labels_cmp index new l (Some (length lists))
    → IsFresh new (lists ++ x ∷ []) (fresh ++ l ∷ [])
IsFresh-added lists index new fresh l x h none u =
    let one = length_push lists x in
    let two = length_push fresh l in
    record {
      few = omega (arith, h.few, one, two);
      named = λ q n e le. named_added lists index fresh l q n (labels_eq l q) h refl (sym (u.0 q) ∙ e) (omega (arith, le, one, two));
      last = λ q n any e. omega (arith, last_added lists index fresh l q n (labels_eq l q) h refl any (sym (u.0 q) ∙ e), one, two);
      empty = λ n lt le. empty_added lists index fresh x n h none (omega (arith, lt, one)) (omega (arith, le, one, two));
      others = λ n lt. let low : n + length fresh < length lists = omega (arith, lt, one, two) in
          ap (λ y. has_samples y.kept) (get_or_append_left lists (x ∷ []) no_lists n (omega arith)) ∙ h.others n low;
    }

AllFilled-added : (lists : List Lists) (x : Lists) → AllFilled lists → has_samples x.staged ≡ true → AllFilled (lists ++ x ∷ [])
AllFilled-added lists x h some n lt =
    ⊎_elim
    (λ low. ap (λ y. has_samples y.staged) (get_or_append_left lists (x ∷ []) no_lists n low) ∙ h n low)
    (λ high. ap (λ y. has_samples y.staged) (get_or_push lists x no_lists n (omega (arith, lt, length_push lists x))) ∙ some)
    (cases_lt n (length lists))

total-added : (l : Labels) (xs : List Point) (s : Store) → list_of s l ≡ [] → has_samples xs ≡ true → total (with_list l xs s) ≡ total s + length xs
total-added l [] s none some = absurd cc
total-added l (x ∷ xs) s none some = omega (arith, total-with_list l x xs s, ap length none)

-- lists to which one was added stay sound
pub IsSound-added : (index new : Index) (lists news : List Lists) (touched noted : List ℕ) (fresh named : List Labels) (count staged staged_new : ℕ) (l : Labels) (x : Lists)
    → IsSound index lists touched fresh count staged → get labels_cmp index l ≡ None → IsAdded index new lists news touched noted fresh named l x → x.kept ≡ [] → has_samples x.staged ≡ true
    → staged_new ≡ staged + length x.staged → count + staged_new ≤ 2 ^ 60 → IsSound new news noted named count staged_new
IsSound-added index new lists news touched noted fresh named count staged staged_new l x h absent add none some more few =
    let made : IsSound new (lists ++ x ∷ []) (touched ++ length lists ∷ []) (fresh ++ l ∷ []) count staged_new = record {
      places = HasPlaces-added lists index new l x h.places add.place;
      settled = Settled-added touched lists x h.settled;
      noted = AreNoted-added touched lists x h.settled h.noted none some;
      brought = IsFresh-added lists index new fresh l x h.brought none add.place;
      filled = AllFilled-added lists x h.filled some;
      counted = h.counted ∙ ap total (sym (kept-added lists index new l x h.places absent none add.place));
      counted_staged = omega (
        arith,
        h.counted_staged,
        more,
        ap total (staged-added lists index new l x h.places add.place),
        total-added l x.staged (staged_store index.entries lists) (staged_nowhere index lists l absent) some,
      );
      few = few;
    } in
    let P : List Lists → List ℕ → List Labels → Type 0 = λ ls ts ms. IsSound new ls ts ms count staged_new in
    subst (λ ls. P ls noted named) (sym add.list) (subst (λ ts. P (lists ++ x ∷ []) ts named) (sym add.note) (subst (P (lists ++ x ∷ []) (touched ++ length lists ∷ [])) (sym add.name) made))

-- the same if nothing changed
HasPlaces-same : (index new : Index) (lists : List Lists) → new.entries ≡ index.entries → HasPlaces index lists → HasPlaces new lists
HasPlaces-same index new lists e h =
    let same : (q : Labels) → get labels_cmp new q ≡ get labels_cmp index q = λ q. ap (lookup (is_at (labels_cmp q))) e in
    record { within = λ q n k. h.within q n (sym (same q) ∙ k); apart = λ p q n k i. h.apart p q n (sym (same p) ∙ k) (sym (same q) ∙ i) }

IsFresh-same : (index new : Index) (lists : List Lists) (fresh : List Labels) → new.entries ≡ index.entries → IsFresh index lists fresh → IsFresh new lists fresh
IsFresh-same index new lists fresh e h =
    let same : (q : Labels) → get labels_cmp new q ≡ get labels_cmp index q = λ q. ap (lookup (is_at (labels_cmp q))) e in
    record { few = h.few; named = λ q n k le. h.named q n (sym (same q) ∙ k) le; last = λ q n any k. h.last q n any (sym (same q) ∙ k); empty = h.empty; others = h.others }

pub IsSound-same : (index new : Index) (lists news : List Lists) (touched noted : List ℕ) (fresh named : List Labels) (count staged : ℕ) → IsSound index lists touched fresh count staged
    → new.entries ≡ index.entries → news ≡ lists → noted ≡ touched → named ≡ fresh → IsSound new news noted named count staged
IsSound-same index new lists news touched noted fresh named count staged h e f g i =
    let made : IsSound new lists touched fresh count staged = record {
      places = HasPlaces-same index new lists e h.places;
      settled = h.settled;
      noted = h.noted;
      brought = IsFresh-same index new lists fresh e h.brought;
      filled = h.filled;
      counted = h.counted ∙ ap (λ es. total (kept_store es lists)) (sym e);
      counted_staged = h.counted_staged ∙ ap (λ es. total (staged_store es lists)) (sym e);
      few = h.few;
    } in
    let P : List Lists → List ℕ → List Labels → Type 0 = λ ls ts ms. IsSound new ls ts ms count staged in
    subst (λ ls. P ls noted named) (sym f) (subst (λ ts. P lists ts named) (sym g) (subst (P lists touched) (sym i) made))

-- ---- lists that change in one part only
same_part : (f g : Lists → List Point) (index : Index) (ls ms : List Lists) (q : Labels) (o : Option ℕ) → HasPlaces index ls → get labels_cmp index q ≡ o
    → ((n : ℕ) → n < length ls → f (get_or ls n no_lists) ≡ g (get_or ms n no_lists)) → at f ls o ≡ at g ms o
same_part f g index ls ms q None h e same = refl
same_part f g index ls ms q (Some n) h e same = same n (h.within q n e)

store-part : (f g : Lists → List Point) (index : Index) (ls ms : List Lists) → HasPlaces index ls → ((n : ℕ) → n < length ls → f (get_or ls n no_lists) ≡ g (get_or ms n no_lists))
    → store_by f index.entries ls ≡ store_by g index.entries ms
store-part f g index ls ms h same = same_lists f g index.entries index.entries ls ms (λ q. same_part f g index ls ms q (get labels_cmp index q) h refl same)

pub staged-part : (index : Index) (ls ms : List Lists) → HasPlaces index ls → ((n : ℕ) → n < length ls → (get_or ls n no_lists).staged ≡ (get_or ms n no_lists).staged)
    → staged_store index.entries ls ≡ staged_store index.entries ms
unfolding staged_store
staged-part index ls ms h same = store-part (λ l. l.staged) (λ l. l.staged) index ls ms h same

pub kept-part : (index : Index) (ls ms : List Lists) → HasPlaces index ls → ((n : ℕ) → n < length ls → (get_or ls n no_lists).kept ≡ (get_or ms n no_lists).kept)
    → kept_store index.entries ls ≡ kept_store index.entries ms
unfolding kept_store
kept-part index ls ms h same = store-part (λ l. l.kept) (λ l. l.kept) index ls ms h same

pub kept-staged : (index : Index) (ls ms : List Lists) → HasPlaces index ls → ((n : ℕ) → n < length ls → (get_or ls n no_lists).kept ≡ (get_or ms n no_lists).staged)
    → kept_store index.entries ls ≡ staged_store index.entries ms
unfolding kept_store staged_store
kept-staged index ls ms h same = store-part (λ l. l.kept) (λ l. l.staged) index ls ms h same

pub HasPlaces-len : (index : Index) (ls ms : List Lists) → HasPlaces index ls → length ms ≡ length ls → HasPlaces index ms
HasPlaces-len index ls ms h e = record { within = λ l n k. omega (arith, h.within l n k, e); apart = h.apart }

-- ---- the list of a label set
pub kept_at : (index : Index) (lists : List Lists) (l : Labels) (n : ℕ) (x : Lists) → HasPlaces index lists → Some n ≡ get labels_cmp index l → x ≡ get_or lists n x → x.kept ≡ list_of (kept_store index.entries lists) l
unfolding kept_store
kept_at index lists l n x h e here =
    ap (λ y. y.kept) (here ∙ get_or_any lists n x no_lists (h.within l n (sym e))) ∙ sym (list_at_place (λ l. l.kept) index lists l n (sym e))

staged_here : (index : Index) (lists : List Lists) (l : Labels) (n : ℕ) (x : Lists) → HasPlaces index lists → Some n ≡ get labels_cmp index l → x ≡ get_or lists n x → x.staged ≡ list_of (staged_store index.entries lists) l
unfolding staged_store
staged_here index lists l n x h e here =
    ap (λ y. y.staged) (here ∙ get_or_any lists n x no_lists (h.within l n (sym e))) ∙ sym (list_at_place (λ l. l.staged) index lists l n (sym e))

-- if nothing is staged, no list has staged samples
pub settled_here : (index : Index) (lists : List Lists) (l : Labels) (n : ℕ) (x : Lists) → HasPlaces index lists → Some n ≡ get labels_cmp index l → x ≡ get_or lists n x
    → staged_store index.entries lists ≡ kept_store index.entries lists → x.staged ≡ x.kept
settled_here index lists l n x h e here same =
    staged_here index lists l n x h e here ∙ ap (λ s. list_of s l) same ∙ sym (kept_at index lists l n x h e here)

-- no list has more staged samples than all have together
pub staged_few : (index : Index) (lists : List Lists) (l : Labels) (n : ℕ) → get labels_cmp index l ≡ Some n → length (get_or lists n no_lists).staged ≤ total (staged_store index.entries lists)
staged_few index lists l n e = omega (arith, ap length (staged_at index lists l n e), list_of-few (staged_store index.entries lists) l)

pub kept_in : (index : Index) (lists : List Lists) (l : Labels) (n : ℕ) → get labels_cmp index l ≡ Some n
    → list_of (kept_store index.entries lists) l ≡ (get_or lists n no_lists).kept
unfolding kept_store
kept_in index lists l n e = list_at_place (λ l. l.kept) index lists l n e

pub kept_nowhere : (index : Index) (lists : List Lists) (l : Labels) → (let no : Option ℕ = None in no ≡ get labels_cmp index l) → [] ≡ list_of (kept_store index.entries lists) l
unfolding kept_store
kept_nowhere index lists l e = sym (list_of-store (λ l. l.kept) index.entries lists l ∙ ap (at (λ l. l.kept) lists) (sym e))

-- ---- the label sets in order
put_below : (k : Labels) (v : List Point) (es : List (Labels × List Point)) → below_all labels_cmp k es ≡ true → put labels_cmp k v es ≡ (k, v) ∷ es
put_below k v [] h = refl
put_below k v (e ∷ es) h = ap (λ r. by_order r ((k, v) ∷ e ∷ es) ((e.0, v) ∷ es) (e ∷ put labels_cmp k v es)) (is_less (labels_cmp k e.0) ((and_parts _ _ h).0))

abbrev cons_shown : Labels → List Point → List (Labels × List Point) → List (Labels × List Point)
cons_shown k [] es = es
cons_shown k (x ∷ xs) es = (k, x ∷ xs) ∷ es

abbrev shown : List Lists → List (Labels × ℕ) → List (Labels × List Point)
shown lists [] = []
shown lists (e ∷ es) = cons_shown e.0 (get_or lists e.1 no_lists).kept (shown lists es)

below_cons : (k l : Labels) (xs : List Point) (es : List (Labels × List Point)) → labels_cmp k l ≡ Less → below_all labels_cmp k es ≡ true → below_all labels_cmp k (cons_shown l xs es) ≡ true
below_cons k l [] es e h = h
below_cons k l (x ∷ xs) es e h = ap (λ r. is_lt r && below_all labels_cmp k es) e ∙ h

below_shown : (k : Labels) (lists : List Lists) (places : List (Labels × ℕ)) → AllByRecursion (λ l. labels_cmp k l ≡ Less) (keys_of places) → below_all labels_cmp k (shown lists places) ≡ true
below_shown k lists [] h = refl
below_shown k lists (e ∷ es) h = below_cons k e.0 (get_or lists e.1 no_lists).kept (shown lists es) h.0 (below_shown k lists es h.1)

entries-put : (k : Labels) (xs : List Point) (s : Store) → HasNoEmptyList s → below_all labels_cmp k (entries s) ≡ true → entries (with_list k xs s) ≡ cons_shown k xs (entries s)
entries-put k [] s h below =
    let none : list_of s k ≡ [] = ap (λ (o : Option (List Point)). unwrap_or o []) (get-entries s k ∙ find_below k (entries s) below) in
    ap entries (ap (λ ys. with_list k ys s) (sym none) ∙ with_list-same k s h)
entries-put k (x ∷ xs) s h below = entries-insert labels_cmp-total s k (x ∷ xs) ∙ put_below k (x ∷ xs) (entries s) below

entries-store : (lists : List Lists) (places : List (Labels × ℕ)) → IsStrictlySortedBy labels_cmp (keys_of places) → entries (store_by (λ l. l.kept) places lists) ≡ shown lists places
unfolding IsStrictlySortedBy
entries-store lists [] h = no_entry (entries empty) (sym (len-entries empty) ∙ len-empty labels_cmp (List Point))
  where
    no_entry : (es : List (Labels × List Point)) → length es ≡ 0 → es ≡ []
    no_entry [] e = refl
    no_entry (x ∷ xs) e = absurd (omega arith)
entries-store lists (e ∷ es) h =
    let rest = entries-store lists es h.1 in
    let s : Store = store_by (λ l. l.kept) es lists in
    entries-put e.0 (get_or lists e.1 no_lists).kept s (no_empty_list (λ l. l.kept) es lists) (ap (below_all labels_cmp e.0) rest ∙ below_shown e.0 lists es h.0)
    ∙ ap (cons_shown e.0 (get_or lists e.1 no_lists).kept) rest

shown-cons : (k : Labels) (xs : List Point) (es : List (Labels × List Point)) → cons_shown k xs es ≡ cond (has_samples xs) ((k, xs) ∷ es) es
shown-cons k [] es = refl
shown-cons k (x ∷ xs) es = refl

shown-with_samples : (lists : List Lists) (places : List (Labels × ℕ)) → shown lists places ≡ with_samples lists places
shown-with_samples lists [] = refl
shown-with_samples lists (e ∷ es) =
    let xs = (get_or lists e.1 no_lists).kept in
    shown-cons e.0 xs (shown lists es) ∙ ap (λ rest. cond (has_samples xs) ((e.0, xs) ∷ rest) rest) (shown-with_samples lists es)

-- places in order show the series of the store in order
pub series-kept : (places : List (Labels × ℕ)) (lists : List Lists) → IsStrictlySortedBy labels_cmp (keys_of places) → with_samples lists places ≡ held_series (kept_store places lists)
unfolding kept_store
series-kept places lists h = sym (entries-store lists places h ∙ shown-with_samples lists places)

-- each label set that is shown has the samples that it is shown with
lists_at : (index : Index) (lists : List Lists) (es : List (Labels × ℕ)) → ((k : ℕ) (d : Labels × ℕ) → k < length es → get labels_cmp index (get_or es k d).0 ≡ Some (get_or es k d).1)
    → AreListsOf (store_by (λ l. l.kept) index.entries lists) (with_samples lists es)
lists_at index lists [] h = tt
lists_at index lists (e ∷ es) h = if_some (has_samples (get_or lists e.1 no_lists).kept) (lists_at index lists es (λ k d lt. h (suc k) d (omega arith)))
  where
    if_some : (b : Bool) → AreListsOf (store_by (λ l. l.kept) index.entries lists) (with_samples lists es)
        → AreListsOf (store_by (λ l. l.kept) index.entries lists) (cond b ((e.0, (get_or lists e.1 no_lists).kept) ∷ with_samples lists es) (with_samples lists es))
    if_some true rest = (list_at_place (λ l. l.kept) index lists e.0 e.1 (h 0 e (omega arith)), rest)
    if_some false rest = rest

pub are_lists : (index : Index) (lists : List Lists) → ((k : ℕ) (d : Labels × ℕ) → k < length index.entries → get labels_cmp index (get_or index.entries k d).0 ≡ Some (get_or index.entries k d).1)
    → AreListsOf (kept_store index.entries lists) (with_samples lists index.entries)
unfolding kept_store
are_lists index lists found = lists_at index lists index.entries found

within_each : (lists : List Lists) (es : List (Labels × ℕ)) → ((k : ℕ) (d : Labels × ℕ) → k < length es → (get_or es k d).1 < length lists) → AreWithin (length lists) es
within_each lists [] h = tt
within_each lists (e ∷ es) h = (h 0 e (omega arith), within_each lists es (λ k d lt. h (suc k) d (omega arith)))

pub are_within : (index : Index) (lists : List Lists) → HasPlaces index lists → ((k : ℕ) (d : Labels × ℕ) → k < length index.entries → get labels_cmp index (get_or index.entries k d).0 ≡ Some (get_or index.entries k d).1)
    → AreWithin (length lists) index.entries
are_within index lists h found = within_each lists index.entries (λ k d lt. h.within (get_or index.entries k d).0 (get_or index.entries k d).1 (found k d lt))

length-kept : {A : Type 0} (b : Bool) (x : A) (xs : List A) (n : ℕ) → length xs ≤ n → length (cond b (x ∷ xs) xs) ≤ suc n
length-kept true x xs n h = omega (arith, h)
length-kept false x xs n h = omega (arith, h)

pub length-with_samples : (lists : List Lists) (places : List (Labels × ℕ)) → length (with_samples lists places) ≤ length places
length-with_samples lists [] = omega arith
length-with_samples lists (e ∷ es) = length-kept (has_samples (get_or lists e.1 no_lists).kept) (e.0, (get_or lists e.1 no_lists).kept) (with_samples lists es) (length es) (length-with_samples lists es)

pub kept_filled : (places : List (Labels × ℕ)) (lists : List Lists) → HasNoEmptyList (kept_store places lists)
unfolding kept_store
kept_filled places lists = no_empty_list (λ l. l.kept) places lists

-- ---- how many label sets have a place
all_with_samples : (ls : List Lists) (es : List (Labels × ℕ)) → AreWithin (length ls) es → ((n : ℕ) → n < length ls → has_samples (get_or ls n no_lists).kept ≡ true) → length (with_samples ls es) ≡ length es
all_with_samples ls [] h filled = refl
all_with_samples ls (e ∷ es) h filled =
    ap (λ b. length (cond b ((e.0, (get_or ls e.1 no_lists).kept) ∷ with_samples ls es) (with_samples ls es))) (filled e.1 h.0) ∙ ap suc (all_with_samples ls es h.1 filled)

abbrev as_kept : Lists → Lists
as_kept x = record x { kept = x.staged }

as_kept_at : (ls : List Lists) (n : ℕ) → (get_or (map as_kept ls) n no_lists).kept ≡ (get_or ls n no_lists).staged
as_kept_at [] n = refl
as_kept_at (x ∷ ls) zero = refl
as_kept_at (x ∷ ls) (suc n) = as_kept_at ls n

found_each : (index : Index) → IsStrictlySortedBy labels_cmp (keys_of index.entries) → (k : ℕ) (d : Labels × ℕ) → k < length index.entries
    → get labels_cmp index (get_or index.entries k d).0 ≡ Some (get_or index.entries k d).1
found_each index ordered k d lt =
    btree_map_get_place labels_cmp-total index k (get_or index.entries k d).0 (get_or index.entries k d).1 ordered (slice_get-get_or index.entries k d lt)

pub places_of_staged : (index : Index) (ls : List Lists) (n : ℕ) → HasPlaces index ls → AllFilled ls → IsStrictlySortedBy labels_cmp (keys_of index.entries)
    → n ≡ length index.entries → n ≡ length (label_sets (staged_store index.entries ls))
places_of_staged index ls n places filled ordered e =
    let ms = map as_kept ls in
    let len : length ms ≡ length ls = length-map ls as_kept in
    let same : HasPlaces index ms = HasPlaces-len index ls ms places len in
    e ∙ sym (all_with_samples ms index.entries (are_within index ms same (found_each index ordered)) (λ k lt. ap has_samples (as_kept_at ls k) ∙ filled k (omega (arith, lt, len))))
    ∙ ap length (series-kept index.entries ms ordered) ∙ sym (length-map (held_series (kept_store index.entries ms)) (λ e. e.0)) ∙ ap (λ s. length (label_sets s)) (kept-staged index ms ls same (λ k lt. as_kept_at ls k))
