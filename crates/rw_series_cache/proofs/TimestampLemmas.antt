-- What is noted at each place of a list, and how that changes.
use Rattle.std.proofs.Common.{◌≡◌, ℕ, ℤ, zero, suc, ◌+◌, ◌<◌, ◌==◌, Bool, true, false, cond, List, [], ◌∷◌, ◌++◌, length, slice_get, slice_set, Option, Some, None, refl, sym, ap, ◌∙◌, arith}
use Rattle.std.proofs.lemmas.Bool.Decides.{Decides-eqb}
use Rattle.std.proofs.lemmas.Cmp.{nat_cmp_total}
use Rattle.std.specs.Cmp.{unsigned_tied}
use Rattle.std.specs.Ordering.{nat_cmp}
use Rattle.std.specs.FinMap.{FinMap, get, insert, get-empty, get-insert, same_map, nat_cmp-IsAntisymmetric}
use Rattle.std.proofs.lemmas.Bool.{ne_eqb}
use Rattle.rw_series_cache.specs.inner.Noted.{times_from}

pub get_inserted : (m : FinMap nat_cmp ℤ) (k : ℕ) (t : ℤ) (q : ℕ) → get (insert m k t) q ≡ cond (q == k) (Some t) (get m q)
get_inserted m k t q = get-insert nat_cmp_total m k t q ∙ ap (λ b. cond b (Some t) (get m q)) (unsigned_tied q k)

same_number : (p q : ℕ) → p ≡ q → (p == q) ≡ true
same_number p q e = (Decides-eqb p q).1 e

pub get_here : (m : FinMap nat_cmp ℤ) (k : ℕ) (t : ℤ) (q : ℕ) → q ≡ k → get (insert m k t) q ≡ Some t
get_here m k t q e = get_inserted m k t q ∙ ap (λ b. cond b (Some t) (get m q)) (same_number q k e)

pub get_elsewhere : (m : FinMap nat_cmp ℤ) (k : ℕ) (t : ℤ) (q : ℕ) → (q ≡ k → ⊥) → get (insert m k t) q ≡ get m q
get_elsewhere m k t q apart = get_inserted m k t q ∙ ap (λ b. cond b (Some t) (get m q)) (ne_eqb q k apart)

-- the first of two notes at a place is forgotten
insert_again : (m : FinMap nat_cmp ℤ) (k : ℕ) (s t : ℤ) → insert (insert m k s) k t ≡ insert m k t
insert_again m k s t = same_map nat_cmp_total nat_cmp-IsAntisymmetric _ _ (λ q.
    get_inserted (insert m k s) k t q ∙ ap (λ o. cond (q == k) (Some t) o) (get_inserted m k s q)
    ∙ forgotten (q == k) (get m q) ∙ sym (get_inserted m k t q))
  where
    forgotten : (b : Bool) (o : Option ℤ) → cond b (Some t) (cond b (Some s) o) ≡ cond b (Some t) o
    forgotten true o = refl
    forgotten false o = refl

-- notes at two places come in any order
insert_swap : (m : FinMap nat_cmp ℤ) (j k : ℕ) (s t : ℤ) → (j ≡ k → ⊥) → insert (insert m k t) j s ≡ insert (insert m j s) k t
insert_swap m j k s t apart = same_map nat_cmp_total nat_cmp-IsAntisymmetric _ _ (λ q.
    get_inserted (insert m k t) j s q ∙ ap (λ o. cond (q == j) (Some s) o) (get_inserted m k t q)
    ∙ either q (q == j) (q == k) refl refl (get m q)
    ∙ sym (get_inserted (insert m j s) k t q ∙ ap (λ o. cond (q == k) (Some t) o) (get_inserted m j s q)))
  where
    either : (q : ℕ) (a b : Bool) → (q == j) ≡ a → (q == k) ≡ b → (o : Option ℤ) → cond a (Some s) (cond b (Some t) o) ≡ cond b (Some t) (cond a (Some s) o)
    either q true true e f o = absurd (apart (sym ((Decides-eqb q j).0 e) ∙ (Decides-eqb q k).0 f))
    either q true false e f o = refl
    either q false true e f o = refl
    either q false false e f o = refl

-- what is in a list of places
abbrev pub noted_in : Option (Option ℤ) → Option ℤ
noted_in None = None
noted_in (Some o) = o

none_below : (ts : List (Option ℤ)) (n q : ℕ) → q < n → get (times_from n ts) q ≡ None
none_below [] n q lt = get-empty nat_cmp q
none_below (None ∷ ts) n q lt = none_below ts (suc n) q (omega arith)
none_below (Some t ∷ ts) n q lt = get_elsewhere (times_from (suc n) ts) n t q (λ e. omega arith) ∙ none_below ts (suc n) q (omega arith)

at_place : (ts : List (Option ℤ)) (n k : ℕ) → get (times_from n ts) (n + k) ≡ noted_in (slice_get ts k)
at_place [] n k = get-empty nat_cmp (n + k)
at_place (None ∷ ts) n zero = none_below ts (suc n) (n + zero) (omega arith)
at_place (Some t ∷ ts) n zero = get_here (times_from (suc n) ts) n t (n + zero) (omega arith)
at_place (None ∷ ts) n (suc k) = let next : n + suc k ≡ suc n + k = omega arith in ap (get (times_from (suc n) ts)) next ∙ at_place ts (suc n) k
at_place (Some t ∷ ts) n (suc k) =
    let next : n + suc k ≡ suc n + k = omega arith in
    get_elsewhere (times_from (suc n) ts) n t (n + suc k) (λ e. omega arith) ∙ ap (get (times_from (suc n) ts)) next ∙ at_place ts (suc n) k

-- a place more changes nothing of what is noted
pub place_more : (ts : List (Option ℤ)) (n : ℕ) → times_from n (ts ++ None ∷ []) ≡ times_from n ts
place_more [] n = refl
place_more (None ∷ ts) n = place_more ts (suc n)
place_more (Some t ∷ ts) n = ap (λ m. insert m n t) (place_more ts (suc n))

-- a note at a place
set_at_place : (ts : List (Option ℤ)) (n k : ℕ) (t : ℤ) → k < length ts → times_from n (slice_set ts k (Some t)) ≡ insert (times_from n ts) (n + k) t
set_at_place [] n k t lt = absurd (omega arith)
set_at_place (None ∷ ts) n zero t lt = let here : n ≡ n + zero = omega arith in ap (λ p. insert (times_from (suc n) ts) p t) here
set_at_place (Some s ∷ ts) n zero t lt =
    let here : n ≡ n + zero = omega arith in
    sym (insert_again (times_from (suc n) ts) n s t) ∙ ap (λ p. insert (insert (times_from (suc n) ts) n s) p t) here
set_at_place (None ∷ ts) n (suc k) t lt =
    let next : suc n + k ≡ n + suc k = omega arith in
    set_at_place ts (suc n) k t (omega arith) ∙ ap (λ p. insert (times_from (suc n) ts) p t) next
set_at_place (Some s ∷ ts) n (suc k) t lt =
    let next : suc n + k ≡ n + suc k = omega arith in
    ap (λ m. insert m n s) (set_at_place ts (suc n) k t (omega arith) ∙ ap (λ p. insert (times_from (suc n) ts) p t) next)
    ∙ insert_swap (times_from (suc n) ts) n (n + suc k) s t (λ e. omega arith)

-- a whole list
pub noted_at : (ts : List (Option ℤ)) (k : ℕ) → get (times_from 0 ts) k ≡ noted_in (slice_get ts k)
noted_at ts k = let same : k ≡ 0 + k = omega arith in ap (get (times_from 0 ts)) same ∙ at_place ts 0 k

pub set_in : (ts : List (Option ℤ)) (k : ℕ) (t : ℤ) → k < length ts → times_from 0 (slice_set ts k (Some t)) ≡ insert (times_from 0 ts) k t
set_in ts k t lt = let same : 0 + k ≡ k = omega arith in set_at_place ts 0 k t lt ∙ ap (λ n. insert (times_from 0 ts) n t) same
