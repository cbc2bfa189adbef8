-- Numbers of series.
use Rattle.std.proofs.Common.{◌≡◌, ℕ, ◌+◌, ◌≤◌, zero, suc, List, [], ◌∷◌, ◌++◌, length, length-append, Bool, true, false, not, cond, ◌||◌, refl, sym, ◌∙◌, ap, Some, slice_get, arith}
use Rattle.std.specs.List.{list_any}
use Rattle.std.proofs.lemmas.Bool.{or_right, or_left}
use Rattle.rw_types.specs.Labels.{Labels}
use Rattle.rw_types.specs.LabelOrder.{labels_eq}
use Rattle.rw_types.specs.inner.LabelOrder.{same_if_equal}
use Rattle.rw_types.proofs.shared.OrderLemmas.{equal_if_same}
use Rattle.rw_series_cache.specs.Known.{Standing, Unknown, Bad, Filtered, Kept}
use Rattle.rw_series_cache.specs.Numbers.{number_of, HasNumber, with_series}

-- past a series that is another one, numbers grow by one
number_at_first : (x l : Labels) (xs : List Labels) → labels_eq l x ≡ true → number_of (x ∷ xs) l ≡ 0
number_at_first x l xs e = ap (λ b. cond (not b) (1 + number_of xs l) 0) e

number_past : (x l : Labels) (xs : List Labels) → labels_eq l x ≡ false → number_of (x ∷ xs) l ≡ suc (number_of xs l)
number_past x l xs e = ap (λ b. cond (not b) (1 + number_of xs l) 0) e ∙ one_more (number_of xs l)
  where
    one_more : (n : ℕ) → 1 + n ≡ suc n
    one_more n = omega arith

stands_first : (x l : Labels) (xs : List Labels) (b : Bool) → labels_eq l x ≡ b → (list_any (labels_eq l) xs ≡ true → slice_get xs (number_of xs l) ≡ Some l)
    → (b || list_any (labels_eq l) xs) ≡ true → slice_get (x ∷ xs) (number_of (x ∷ xs) l) ≡ Some l
stands_first x l xs true e later h = ap (slice_get (x ∷ xs)) (number_at_first x l xs e) ∙ ap Some (sym (same_if_equal l x e))
stands_first x l xs false e later h = ap (slice_get (x ∷ xs)) (number_past x l xs e) ∙ later h

stands_there : (xs : List Labels) (l : Labels) → list_any (labels_eq l) xs ≡ true → slice_get xs (number_of xs l) ≡ Some l
stands_there [] l h = absurd cc
stands_there (x ∷ xs) l h = stands_first x l xs (labels_eq l x) refl (stands_there xs l) h

-- what is among the series has its number
pub has_number : (xs : List Labels) (l : Labels) → list_any (labels_eq l) xs ≡ true → HasNumber xs l (number_of xs l)
has_number xs l h = record { numbered = refl; stands = stands_there xs l h }

pub any_at : (xs : List Labels) (n : ℕ) (l : Labels) → slice_get xs n ≡ Some l → list_any (labels_eq l) xs ≡ true
any_at [] n l e = absurd cc
any_at (x ∷ xs) zero l e = let same : l ≡ x = cc in or_left (labels_eq l x) (list_any (labels_eq l) xs) (equal_if_same l x same)
any_at (x ∷ xs) (suc n) l e = or_right (labels_eq l x) (list_any (labels_eq l) xs) (any_at xs n l e)

number_before_by : (x l : Labels) (xs ys : List Labels) (b : Bool) → labels_eq l x ≡ b → (list_any (labels_eq l) xs ≡ true → number_of (xs ++ ys) l ≡ number_of xs l)
    → (b || list_any (labels_eq l) xs) ≡ true → number_of (x ∷ (xs ++ ys)) l ≡ number_of (x ∷ xs) l
number_before_by x l xs ys true e later h = number_at_first x l (xs ++ ys) e ∙ sym (number_at_first x l xs e)
number_before_by x l xs ys false e later h = number_past x l (xs ++ ys) e ∙ ap suc (later h) ∙ sym (number_past x l xs e)

number_before : (xs ys : List Labels) (l : Labels) → list_any (labels_eq l) xs ≡ true → number_of (xs ++ ys) l ≡ number_of xs l
number_before [] ys l h = absurd cc
number_before (x ∷ xs) ys l h = number_before_by x l xs ys (labels_eq l x) refl (number_before xs ys l) h

get_before : (xs ys : List Labels) (n : ℕ) (l : Labels) → slice_get xs n ≡ Some l → slice_get (xs ++ ys) n ≡ Some l
get_before [] ys n l e = absurd cc
get_before (x ∷ xs) ys zero l e = e
get_before (x ∷ xs) ys (suc n) l e = get_before xs ys n l e

-- numbers stay as more series come
pub number_stays : (xs ys : List Labels) (l : Labels) (n : ℕ) → HasNumber xs l n → HasNumber (xs ++ ys) l n
number_stays xs ys l n h = record {
  numbered = h.numbered ∙ sym (number_before xs ys l (any_at xs n l h.stands));
  stands = get_before xs ys n l h.stands;
}

number_at_end_by : (x l : Labels) (xs : List Labels) (b : Bool) → labels_eq l x ≡ b → (list_any (labels_eq l) xs ≡ false → number_of (xs ++ l ∷ []) l ≡ number_of xs l)
    → (b || list_any (labels_eq l) xs) ≡ false → number_of (x ∷ (xs ++ l ∷ [])) l ≡ number_of (x ∷ xs) l
number_at_end_by x l xs true e later h = absurd cc
number_at_end_by x l xs false e later h = number_past x l (xs ++ l ∷ []) e ∙ ap suc (later h) ∙ sym (number_past x l xs e)

number_at_end : (xs : List Labels) (l : Labels) → list_any (labels_eq l) xs ≡ false → number_of (xs ++ l ∷ []) l ≡ number_of xs l
number_at_end [] l h = number_at_first l l [] (equal_if_same l l refl)
number_at_end (x ∷ xs) l h = number_at_end_by x l xs (labels_eq l x) refl (number_at_end xs l) h

pub any_at_end : (xs : List Labels) (l : Labels) → list_any (labels_eq l) (xs ++ l ∷ []) ≡ true
any_at_end [] l = or_left (labels_eq l l) false (equal_if_same l l refl)
any_at_end (x ∷ xs) l = or_right (labels_eq l x) (list_any (labels_eq l) (xs ++ l ∷ [])) (any_at_end xs l)

-- a new series has the next number
pub new_number : (xs : List Labels) (l : Labels) → list_any (labels_eq l) xs ≡ false → HasNumber (xs ++ l ∷ []) l (number_of xs l)
new_number xs l h =
    let numbered = number_at_end xs l h in
    let stands : slice_get (xs ++ l ∷ []) (number_of (xs ++ l ∷ []) l) ≡ Some l = stands_there (xs ++ l ∷ []) l (any_at_end xs l) in
    record { numbered = sym numbered; stands = ap (slice_get (xs ++ l ∷ [])) (sym numbered) ∙ stands }

-- a label set that is kept adds one series at most
pub one_more_at_most : (s : List Labels) (is : Standing) → length (with_series s is) ≤ length s + 1
one_more_at_most s Unknown = omega arith
one_more_at_most s (Bad f) = omega arith
one_more_at_most s Filtered = omega arith
one_more_at_most s (Kept l) = by_test (list_any (labels_eq l) s)
  where
    by_test : (b : Bool) → length (cond b s (s ++ l ∷ [])) ≤ length s + 1
    by_test true = omega arith
    by_test false = omega (arith, length-append s (l ∷ []))
