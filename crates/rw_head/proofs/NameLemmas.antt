-- The places of label sets.
use Rattle.std.proofs.Common.{◌≡◌, ℕ, ◌<◌, ◌≤◌, suc, List, [], ◌∷◌, ◌++◌, length, get_or, Option, Some, None, Bool, true, false, cond, ◌⊎◌, inl, inr, subst, refl, sym, ◌∙◌, ap, arith}
use Rattle.std.specs.BTreeMap.{BTreeMap, get, Updates}
use Rattle.std.specs.Map.{lookup}
use Rattle.std.specs.BTreeMap.{is_at}
use Rattle.std.proofs.lemmas.List.{get_or_append_left, get_or_push, length_push}
use Rattle.std.proofs.lemmas.Bool.{lt-ltb, le-ltb, cases_lt}
use Rattle.std.proofs.lemmas.Option.{get_or_from_slice_get, slice_get-get_or}
use Rattle.rw_types.specs.Labels.{Labels}
use Rattle.rw_types.specs.LabelOrder.{labels_cmp, labels_eq}
use Rattle.rw_types.proofs.shared.OrderLemmas.{same_if_equal, equal_if_same}
use Rattle.rw_head.specs.inner.Names.{AreNamed, below}

abbrev Index : Type 0
Index = BTreeMap Labels ℕ

pub get_or_any : {A : Type 0} (xs : List A) (i : ℕ) (a b : A) → i < length xs → get_or xs i a ≡ get_or xs i b
get_or_any xs i a b h = sym (get_or_from_slice_get xs i (get_or xs i a) b (slice_get-get_or xs i a h))

cases_below : (n m : ℕ) → n < suc m → (n < m) ⊎ (n ≡ m)
cases_below n m h = elim (cases_lt n m) [ inl lt ↦ inl lt | inr le ↦ inr (omega arith) ]

-- a label set that is the one at a place has this place
pub stands_here : (index : Index) (names : List Labels) (n : ℕ) (x l : Labels) → AreNamed index names → n < length names → x ≡ get_or names n x → true ≡ labels_eq x l → get labels_cmp index l ≡ Some n
stands_here index names n x l h lt here e = ap (get labels_cmp index) (sym (same_if_equal x l (sym e)) ∙ here ∙ get_or_any names n x [] lt) ∙ h.stands n lt

pub stands : (index : Index) (names : List Labels) (n : ℕ) (x : Labels) → AreNamed index names → n < length names → x ≡ get_or names n x → get labels_cmp index x ≡ Some n
stands index names n x h lt here = ap (get labels_cmp index) (here ∙ get_or_any names n x [] lt) ∙ h.stands n lt

-- one that is at no place has none
pub stands_nowhere : (index : Index) (names : List Labels) (l : Labels) → AreNamed index names → ((k : ℕ) → k < length names → get_or names k [] ≡ l → ⊥) → None ≡ get labels_cmp index l
stands_nowhere index names l h none = by_case (get labels_cmp index l) refl
  where
    by_case : (o : Option ℕ) → get labels_cmp index l ≡ o → None ≡ o
    by_case None e = refl
    by_case (Some n) e = let at = h.named l n e in absurd (none n at.0 at.1)

-- one that differs from the next
pub differs : (names : List Labels) (k : ℕ) (x l : Labels) → k < length names → x ≡ get_or names k x → false ≡ labels_eq x l → get_or names k [] ≡ l → ⊥
differs names k x l lt here e same =
    let yes : labels_eq x l ≡ true = equal_if_same x l (here ∙ get_or_any names k x [] lt ∙ same) in cc

-- it is the entries that count
pub AreNamed-same : (index new : Index) (names : List Labels) → new.entries ≡ index.entries → AreNamed index names → AreNamed new names
AreNamed-same index new names e h = record {
  stands = λ n lt. ap (lookup (is_at (labels_cmp (get_or names n [])))) e ∙ h.stands n lt;
  named = λ l n k. h.named l n (ap (lookup (is_at (labels_cmp l))) (sym e) ∙ k);
}

pub AreNamed-none : (index : Index) (names : List Labels) → index.entries ≡ [] → names ≡ [] → AreNamed index names
AreNamed-none index names e f = record {
  stands = λ n lt. absurd (omega (arith, lt, ap length f));
  named = λ l n k. absurd (differ n (sym (ap (lookup (is_at (labels_cmp l))) e) ∙ k));
}
  where
    differ : (n : ℕ) → (let no : Option ℕ = None in no ≡ Some n) → ⊥
    differ n e = cc e

-- ---- a new name
not_the_new : (index : Index) (l q : Labels) (n : ℕ) → get labels_cmp index l ≡ None → get labels_cmp index q ≡ Some n → (b : Bool) → labels_eq l q ≡ b → b ≡ false
not_the_new index l q n none at true e = let same : get labels_cmp index l ≡ get labels_cmp index q = ap (get labels_cmp index) (same_if_equal l q e) in cc
not_the_new index l q n none at false e = refl

named_push : (index : Index) (names : List Labels) (l q : Labels) (n : ℕ) (b : Bool) → AreNamed index names → labels_eq l q ≡ b → cond b (Some (length names)) (get labels_cmp index q) ≡ Some n
    → (n < length (names ++ l ∷ [])) × (get_or (names ++ l ∷ []) n [] ≡ q)
named_push index names l q n true h e k =
    let same : length names ≡ n = cc in
    (omega (arith, length_push names l, same), get_or_push names l [] n same ∙ same_if_equal l q e)
named_push index names l q n false h e k =
    let at = h.named q n k in
    (omega (arith, length_push names l, at.0), get_or_append_left names (l ∷ []) [] n at.0 ∙ at.1)

stands_push : (index new : Index) (names : List Labels) (l : Labels) (n : ℕ) → AreNamed index names → get labels_cmp index l ≡ None → Updates labels_cmp index new l (Some (length names)) → (n < length names) ⊎ (n ≡ length names)
    → get labels_cmp new (get_or (names ++ l ∷ []) n []) ≡ Some n
stands_push index new names l n h none u (inl lt) =
    let q = get_or names n [] in
    let at = h.stands n lt in
    ap (get labels_cmp new) (get_or_append_left names (l ∷ []) [] n lt) ∙ u.0 q
    ∙ ap (λ b. cond b (Some (length names)) (get labels_cmp index q)) (not_the_new index l q n none at (labels_eq l q) refl) ∙ at
stands_push index new names l n h none u (inr e) =
    ap (get labels_cmp new) (get_or_push names l [] n (sym e)) ∙ u.1 ∙ ap Some (sym e)

pub AreNamed-push : (index new : Index) (names : List Labels) (l : Labels) → AreNamed index names → get labels_cmp index l ≡ None → Updates labels_cmp index new l (Some (length names)) → AreNamed new (names ++ l ∷ [])
AreNamed-push index new names l h none u = record {
  stands = λ n lt. stands_push index new names l n h none u (cases_below n (length names) (omega (arith, lt, length_push names l)));
  named = λ q n k. named_push index names l q n (labels_eq l q) h refl (sym (u.0 q) ∙ k);
}

-- ---- the last name is taken out
last_stands : (index : Index) (front : List Labels) (x : Labels) → AreNamed index (front ++ x ∷ []) → get labels_cmp index x ≡ Some (length front)
last_stands index front x h = ap (get labels_cmp index) (sym (get_or_push front x [] (length front) refl)) ∙ h.stands (length front) (omega (arith, length_push front x))

not_the_last : (index : Index) (front : List Labels) (x q : Labels) (n : ℕ) → AreNamed index (front ++ x ∷ []) → get labels_cmp index q ≡ Some n → n < length front → (b : Bool) → labels_eq x q ≡ b → b ≡ false
not_the_last index front x q n h at lt true e =
    let same : get labels_cmp index x ≡ get labels_cmp index q = ap (get labels_cmp index) (same_if_equal x q e) in
    let last = last_stands index front x h in
    let k : length front ≡ n = cc in absurd (omega (arith, lt, k))
not_the_last index front x q n h at lt false e = refl

named_pop : (index : Index) (front : List Labels) (x q : Labels) (n : ℕ) (b : Bool) → AreNamed index (front ++ x ∷ []) → labels_eq x q ≡ b → cond b None (get labels_cmp index q) ≡ Some n
    → (n < length front) × (get_or front n [] ≡ q)
named_pop index front x q n true h e k = absurd cc
named_pop index front x q n false h e k = split (cases_below n (length front) (omega (arith, (h.named q n k).0, length_push front x)))
  where
    split : (n < length front) ⊎ (n ≡ length front) → (n < length front) × (get_or front n [] ≡ q)
    split (inl lt) = (lt, sym (get_or_append_left front (x ∷ []) [] n lt) ∙ (h.named q n k).1)
    split (inr at) =
        let same : x ≡ q = sym (get_or_push front x [] n (sym at)) ∙ (h.named q n k).1 in
        let yes : labels_eq x q ≡ true = equal_if_same x q same in absurd cc

pub AreNamed-pop : (index new : Index) (names front : List Labels) (x : Labels) → names ≡ front ++ x ∷ [] → AreNamed index names → Updates labels_cmp index new x None → AreNamed new front
AreNamed-pop index new names front x e g u =
    let h : AreNamed index (front ++ x ∷ []) = subst (AreNamed index) e g in
    record {
      stands = λ n lt.
          let q = get_or front n [] in
          let at : get labels_cmp index q ≡ Some n = ap (get labels_cmp index) (sym (get_or_append_left front (x ∷ []) [] n lt)) ∙ h.stands n (omega (arith, lt, length_push front x)) in
          u.0 q ∙ ap (λ b. cond b None (get labels_cmp index q)) (not_the_last index front x q n h at lt (labels_eq x q) refl) ∙ at;
      named = λ q n k. named_pop index front x q n (labels_eq x q) h refl (sym (u.0 q) ∙ k);
    }

below_out : (index : Index) (front : List Labels) (x q : Labels) (len : ℕ) (b : Bool) → AreNamed index (front ++ x ∷ []) → len ≤ length front → labels_eq x q ≡ b
    → below len (cond b None (get labels_cmp index q)) ≡ below len (get labels_cmp index q)
below_out index front x q len true h le e =
    sym (ap (below len) (ap (get labels_cmp index) (sym (same_if_equal x q e)) ∙ last_stands index front x h) ∙ ap (λ b. cond b (Some (length front)) None) (le-ltb (length front) len le))
below_out index front x q len false h le e = refl

-- of the places below a number nothing changes
pub below-pop : (index new : Index) (names front : List Labels) (x q : Labels) (len : ℕ) → names ≡ front ++ x ∷ [] → AreNamed index names → Updates labels_cmp index new x None → len < length names
    → below len (get labels_cmp new q) ≡ below len (get labels_cmp index q)
below-pop index new names front x q len e g u lt =
    ap (below len) (u.0 q) ∙ below_out index front x q len (labels_eq x q) (subst (AreNamed index) e g) (omega (arith, lt, ap length e, length_push front x)) refl

-- all places are below their number
pub below_all : (index : Index) (names : List Labels) (q : Labels) (len : ℕ) → AreNamed index names → length names ≤ len → get labels_cmp index q ≡ below len (get labels_cmp index q)
below_all index names q len h le = by_case (get labels_cmp index q) refl
  where
    by_case : (o : Option ℕ) → get labels_cmp index q ≡ o → o ≡ below len o
    by_case None e = refl
    by_case (Some n) e = sym (ap (λ b. cond b (Some n) None) (lt-ltb n len (omega (arith, (h.named q n e).0, le))))
