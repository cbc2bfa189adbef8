-- A store is the list of each label set.
use Rattle.std.proofs.Common.{◌≡◌, ◌≢◌, ℕ, ◌+◌, ◌≤◌, List, [], ◌∷◌, length, map, sum_by, Option, Some, None, Bool, true, false, cond, ◌&&◌, unwrap_or, T, rules, refl, sym, ◌∙◌, ap, arith}
use Rattle.std.specs.FinMap.{get, empty, entries, entries_sorted, entries-insert, get-entries, get-insert, get-remove, get-empty, len-entries, len-empty, same_map}
use Rattle.std.specs.FinMap.Entries.{find, put, is_sorted, below_all, by_order}
use Rattle.std.specs.Ordering.{is_lt, is_eq}
use Rattle.std.specs.declared.cmp.Ordering.{Ordering}
use Rattle.std.specs.declared.cmp.Ordering.TheVariants.{Less, Equal, Greater}
use Rattle.std.proofs.lemmas.List.Sums.{sum_by-cons}
use Rattle.std.proofs.lemmas.Bool.{and_parts}
use Rattle.rw_types.specs.Labels.{Labels}
use Rattle.rw_types.specs.LabelOrder.{labels_cmp, labels_eq}
use Rattle.rw_types.specs.inner.LabelOrder.{labels_cmp-total}
use Rattle.rw_types.proofs.shared.OrderLemmas.{exact_labels, same_if_equal}
use Rattle.rw_head.specs.Order.{Point}
use Rattle.rw_head.specs.Store.{Store, list_of, with_list, total, HasNoEmptyList}

list_at : (b : Bool) (x : List Point) (o : Option (List Point)) → unwrap_or (cond b (Some x) o) [] ≡ cond b x (unwrap_or o [])
list_at true x o = refl
list_at false x o = refl

list_off : (b : Bool) (o : Option (List Point)) → unwrap_or (cond b None o) [] ≡ cond b [] (unwrap_or o [])
list_off true o = refl
list_off false o = refl

-- the list of each label set after one was put
pub list_of-with_list : (l : Labels) (xs : List Point) (s : Store) (q : Labels) → list_of (with_list l xs s) q ≡ cond (labels_eq q l) xs (list_of s q)
list_of-with_list l [] s q = ap (λ o. unwrap_or o []) (get-remove labels_cmp-total s l q) ∙ list_off (labels_eq q l) (get s q)
list_of-with_list l (x ∷ xs) s q = ap (λ o. unwrap_or o []) (get-insert labels_cmp-total s l (x ∷ xs) q) ∙ list_at (labels_eq q l) (x ∷ xs) (get s q)

pub list_of-empty : (l : Labels) → list_of empty l ≡ []
list_of-empty l = ap (λ (o : Option (List Point)). unwrap_or o []) (get-empty labels_cmp l)

pub no_points : (xs : List Point) → length xs ≤ 0 → xs ≡ []
no_points [] h = refl
no_points (x ∷ xs) h = absurd (omega arith)

differ : (let no : Option (List Point) = None in no ≡ Some []) → ⊥
differ e = cc (e)

pub HasNoEmptyList-empty : HasNoEmptyList empty
HasNoEmptyList-empty l e = let none : get empty l ≡ None = get-empty labels_cmp l in differ (sym none ∙ e)

not_empty : (b : Bool) (x : Point) (xs : List Point) (o : Option (List Point)) → o ≢ Some [] → cond b (Some (x ∷ xs)) o ≢ Some []
not_empty true x xs o h e = absurd cc
not_empty false x xs o h e = h e

not_empty_off : (b : Bool) (o : Option (List Point)) → o ≢ Some [] → cond b None o ≢ Some []
not_empty_off true o h e = absurd cc
not_empty_off false o h e = h e

-- no empty list is put
pub HasNoEmptyList-with_list : (l : Labels) (xs : List Point) (s : Store) → HasNoEmptyList s → HasNoEmptyList (with_list l xs s)
HasNoEmptyList-with_list l [] s h q e = not_empty_off (labels_eq q l) (get s q) (h q) (sym (get-remove labels_cmp-total s l q) ∙ e)
HasNoEmptyList-with_list l (x ∷ xs) s h q e = not_empty (labels_eq q l) x xs (get s q) (h q) (sym (get-insert labels_cmp-total s l (x ∷ xs) q) ∙ e)

same_get : (o p : Option (List Point)) → o ≢ Some [] → p ≢ Some [] → unwrap_or o [] ≡ unwrap_or p [] → o ≡ p
same_get None None h k e = refl
same_get None (Some []) h k e = absurd (k refl)
same_get None (Some (x ∷ xs)) h k e = absurd cc
same_get (Some []) p h k e = absurd (h refl)
same_get (Some (x ∷ xs)) None h k e = absurd cc
same_get (Some (x ∷ xs)) (Some ys) h k e = ap Some e

-- stores with the same lists are the same
pub same_store : (s t : Store) → HasNoEmptyList s → HasNoEmptyList t → ((l : Labels) → list_of s l ≡ list_of t l) → s ≡ t
same_store s t h k same = same_map labels_cmp-total exact_labels s t (λ l. same_get (get s l) (get t l) (h l) (k l) (same l))

-- of two lists that are put for a label set the later one counts
abbrev held : List Point → Option (List Point)
held [] = None
held (x ∷ xs) = Some (x ∷ xs)

get-with_list : (l : Labels) (xs : List Point) (s : Store) (q : Labels) → get (with_list l xs s) q ≡ cond (labels_eq q l) (held xs) (get s q)
get-with_list l [] s q = get-remove labels_cmp-total s l q
get-with_list l (x ∷ xs) s q = get-insert labels_cmp-total s l (x ∷ xs) q

chosen-twice : (b : Bool) (x y z : Option (List Point)) → cond b x (cond b y z) ≡ cond b x z
chosen-twice true x y z = refl
chosen-twice false x y z = refl

pub with_list-twice : (l : Labels) (xs ys : List Point) (s : Store) → with_list l ys (with_list l xs s) ≡ with_list l ys s
with_list-twice l xs ys s =
    same_map labels_cmp-total exact_labels (with_list l ys (with_list l xs s)) (with_list l ys s)
    (λ q. get-with_list l ys (with_list l xs s) q ∙ ap (λ (o : Option (List Point)). cond (labels_eq q l) (held ys) o) (get-with_list l xs s q)
    ∙ chosen-twice (labels_eq q l) (held ys) (held xs) (get s q) ∙ sym (get-with_list l ys s q))

itself : (f : Labels → List Point) (l q : Labels) (b : Bool) → labels_eq q l ≡ b → cond b (f l) (f q) ≡ f q
itself f l q true e = ap f (sym (same_if_equal q l e))
itself f l q false e = refl

-- to put the list that is there changes nothing
pub with_list-same : (l : Labels) (s : Store) → HasNoEmptyList s → with_list l (list_of s l) s ≡ s
with_list-same l s h =
    same_store (with_list l (list_of s l) s) s (HasNoEmptyList-with_list l (list_of s l) s h) h
    (λ q. list_of-with_list l (list_of s l) s q ∙ itself (list_of s) l q (labels_eq q l) refl)

-- ---- all samples
pub is_less : (o : Ordering) → is_lt o ≡ true → o ≡ Less
is_less Less e = refl
is_less Equal e = absurd cc
is_less Greater e = absurd cc

abbrev Entries : Type 0
Entries = List (Labels × List Point)

pub find_below : (k : Labels) (es : Entries) → below_all labels_cmp k es ≡ true → find labels_cmp k es ≡ None
find_below k [] h = refl
find_below k (e ∷ es) h =
    ap (λ r. cond (is_eq r) (Some e.1) (find labels_cmp k es)) (is_less (labels_cmp k e.0) ((and_parts _ _ h).0)) ∙ find_below k es ((and_parts _ _ h).1)

below_lower : (k l : Labels) (es : Entries) → labels_cmp k l ≡ Less → below_all labels_cmp l es ≡ true → below_all labels_cmp k es ≡ true
below_lower k l [] p h = refl
below_lower k l (e ∷ es) p h =
    ap (λ r. is_lt r && below_all labels_cmp k es) (labels_cmp-total.trans k l e.0 p (is_less (labels_cmp l e.0) ((and_parts _ _ h).0))) ∙ below_lower k l es p ((and_parts _ _ h).1)

abbrev sum_of : Entries → ℕ
sum_of es = sum_by length (map (λ e. e.1) es)

sum_of-cons : (e : Labels × List Point) (es : Entries) → sum_of (e ∷ es) ≡ length e.1 + sum_of es
sum_of-cons e es = sum_by-cons length e.1 (map (λ e. e.1) es)

abbrev found : Labels → Entries → List Point
found k es = unwrap_or (find labels_cmp k es) []

placed : (k : Labels) (v : List Point) (e : Labels × List Point) (es : Entries) (r : Ordering) → sum_of (put labels_cmp k v es) + length (found k es) ≡ sum_of es + length v
    → (r ≡ Less → find labels_cmp k es ≡ None)
    → sum_of (by_order r ((k, v) ∷ e ∷ es) ((e.0, v) ∷ es) (e ∷ put labels_cmp k v es)) + length (unwrap_or (cond (is_eq r) (Some e.1) (find labels_cmp k es)) []) ≡ sum_of (e ∷ es) + length v
placed k v e es Less rest none = omega (arith, sum_of-cons (k, v) (e ∷ es), ap (λ (o : Option (List Point)). length (unwrap_or o [])) (none refl))
placed k v e es Equal rest none = omega (arith, sum_of-cons (e.0, v) es, sum_of-cons e es)
placed k v e es Greater rest none = omega (arith, sum_of-cons e (put labels_cmp k v es), sum_of-cons e es, rest)

sum-put : (k : Labels) (v : List Point) (es : Entries) → is_sorted labels_cmp es ≡ true → sum_of (put labels_cmp k v es) + length (found k es) ≡ sum_of es + length v
sum-put k v [] h = omega (arith, sum_of-cons (k, v) [])
sum-put k v (e ∷ es) h =
    placed k v e es (labels_cmp k e.0) (sum-put k v es ((and_parts _ _ h).1)) (λ p. find_below k es (below_lower k e.0 es p ((and_parts _ _ h).0)))

sum-none : (k : Labels) (es : Entries) → T (is_sorted labels_cmp es) → is_sorted labels_cmp es ≡ true
sum-none k es h = search rules

-- how a longer list changes the number of all samples
pub total-with_list : (l : Labels) (x : Point) (xs : List Point) (s : Store) → total (with_list l (x ∷ xs) s) + length (list_of s l) ≡ total s + length (x ∷ xs)
total-with_list l x xs s =
    let sorted : is_sorted labels_cmp (entries s) ≡ true = sum-none l (entries s) (entries_sorted s) in
    ap (λ es. sum_of es + length (list_of s l)) (entries-insert labels_cmp-total s l (x ∷ xs))
    ∙ ap (λ (o : Option (List Point)). sum_of (put labels_cmp l (x ∷ xs) (entries s)) + length (unwrap_or o [])) (get-entries s l)
    ∙ sum-put l (x ∷ xs) (entries s) sorted

no_entries : (es : Entries) → length es ≡ 0 → sum_of es ≡ 0
no_entries [] h = refl
no_entries (e ∷ es) h = absurd (omega arith)

pub total-empty : total empty ≡ 0
total-empty = no_entries (entries empty) (sym (len-entries empty) ∙ len-empty labels_cmp (List Point))

found_few : (k : Labels) (es : Entries) → length (found k es) ≤ sum_of es
found_few k [] = omega arith
found_few k (e ∷ es) = at_each (is_eq (labels_cmp k e.0)) (found_few k es)
  where
    at_each : (b : Bool) → length (found k es) ≤ sum_of es → length (unwrap_or (cond b (Some e.1) (find labels_cmp k es)) []) ≤ sum_of (e ∷ es)
    at_each true h = omega (arith, sum_of-cons e es)
    at_each false h = omega (arith, sum_of-cons e es, h)

-- no list is longer than all samples
pub list_of-few : (s : Store) (l : Labels) → length (list_of s l) ≤ total s
list_of-few s l = omega (arith, ap (λ (o : Option (List Point)). length (unwrap_or o [])) (get-entries s l), found_few l (entries s))
