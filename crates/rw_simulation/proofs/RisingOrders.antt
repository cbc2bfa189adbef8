-- The numbers below a bound that a list has are that list in rising order, if it has none twice.
use Rattle.std.proofs.Common.{◌≡◌, ℕ, zero, suc, ◌<◌, ◌==◌, ◌||◌, Bool, false, cond, List, [], ◌∷◌, ◌++◌, filter, IsPermutation, refl, sym, ap, ◌∙◌, subst, append-nil, arith, ◌⊎◌, inl, inr}
use Rattle.std.specs.List.{AllByRecursion, list_any}
use Rattle.std.proofs.lemmas.Bool.{eq-eqb, ne_eqb, cases_eq}
use Rattle.std.proofs.lemmas.List.Elements.{filter-append}
use Rattle.std.proofs.lemmas.List.Sorted.{IsPermutation-refl, IsPermutation-sym, IsPermutation-cons, IsPermutation-to_front, IsPermutation-append_left, IsPermutation-trans}
use Rattle.rw_types.specs.Rising.{Rises}
use Rattle.rw_types.proofs.shared.AllLemmas.{AllByRecursion-push, AllByRecursion-weaker}
use Rattle.rw_types.proofs.shared.RisingLemmas.{Rises-push, Rises-filter}
use Rattle.rw_machine.specs.Worlds.{up_to}
use Rattle.rw_simulation.proofs.Arrived.{below_it}

-- whether the list has the number
abbrev pub is_in : List ℕ → ℕ → Bool
is_in xs p = list_any (λ q. q == p) xs

abbrev pub Differ : ℕ → ℕ → Type 0
Differ x y = x ≡ y → ⊥

-- the tests agree below the bound
filter-below : (n : ℕ) (f g : ℕ → Bool) → ((p : ℕ) → p < n → f p ≡ g p) → filter f (up_to n) ≡ filter g (up_to n)
filter-below zero f g h = refl
filter-below (suc n) f g h =
    filter-append f (up_to n) (n ∷ [])
    ∙ ap (λ xs. xs ++ filter f (n ∷ [])) (filter-below n f g (λ p lt. h p (omega arith)))
    ∙ ap (λ b. filter g (up_to n) ++ cond b (n ∷ []) []) (h n (omega arith))
    ∙ sym (filter-append g (up_to n) (n ∷ []))

permuted-as : (xs ys us vs : List ℕ) → xs ≡ us → ys ≡ vs → IsPermutation us vs → IsPermutation xs ys
permuted-as xs ys us vs e h p = subst (λ zs. IsPermutation zs ys) (sym e) (subst (λ zs. IsPermutation us zs) (sym h) p)

-- a number passes too
abbrev or_one : ℕ → (ℕ → Bool) → ℕ → Bool
or_one a f p = (a == p) || f p

not_above : (a n p : ℕ) → a ≡ n → p < n → a ≡ p → ⊥
not_above a n p same lt e = omega arith

one-more : (n a : ℕ) (f : ℕ → Bool) → a < n → f a ≡ false → IsPermutation (a ∷ filter f (up_to n)) (filter (or_one a f) (up_to n))
one-more zero a f lt fails = absurd (omega arith)
one-more (suc n) a f lt fails = by_case (cases_eq a n) (λ less. one-more n a f less fails)
  where
    Goal : Type 0
    Goal = IsPermutation (a ∷ filter f (up_to (suc n))) (filter (or_one a f) (up_to (suc n)))

    -- it comes last
    at_last : a ≡ n → Goal
    at_last same = permuted-as (a ∷ filter f (up_to (suc n))) (filter (or_one a f) (up_to (suc n))) (n ∷ filter f (up_to n)) (filter f (up_to n) ++ n ∷ [])
        (ap (λ xs. a ∷ xs) (filter-append f (up_to n) (n ∷ []) ∙ ap (λ b. filter f (up_to n) ++ cond b (n ∷ []) []) (subst (λ k. f k ≡ false) same fails) ∙ append-nil (filter f (up_to n))) ∙ ap (λ k. k ∷ filter f (up_to n)) same)
        (filter-append (or_one a f) (up_to n) (n ∷ [])
        ∙ ap (λ b. filter (or_one a f) (up_to n) ++ cond (b || f n) (n ∷ []) []) (eq-eqb a n same)
        ∙ ap (λ xs. xs ++ n ∷ []) (filter-below n (or_one a f) f (λ p less. ap (λ b. b || f p) (ne_eqb a p (not_above a n p same less)))))
        (IsPermutation-sym (filter f (up_to n) ++ n ∷ []) (n ∷ filter f (up_to n)) (IsPermutation-to_front (filter f (up_to n)) n))

    before_last : (a ≡ n → ⊥) → IsPermutation (a ∷ filter f (up_to n)) (filter (or_one a f) (up_to n)) → Goal
    before_last differ below = permuted-as (a ∷ filter f (up_to (suc n))) (filter (or_one a f) (up_to (suc n))) ((a ∷ filter f (up_to n)) ++ cond (f n) (n ∷ []) []) (filter (or_one a f) (up_to n) ++ cond (f n) (n ∷ []) [])
        (ap (λ xs. a ∷ xs) (filter-append f (up_to n) (n ∷ [])))
        (filter-append (or_one a f) (up_to n) (n ∷ []) ∙ ap (λ b. filter (or_one a f) (up_to n) ++ cond (b || f n) (n ∷ []) []) (ne_eqb a n differ))
        (IsPermutation-append_left (cond (f n) (n ∷ []) []) (a ∷ filter f (up_to n)) (filter (or_one a f) (up_to n)) below)

    by_case : (a ≡ n) ⊎ (a ≡ n → ⊥) → (a < n → IsPermutation (a ∷ filter f (up_to n)) (filter (or_one a f) (up_to n))) → Goal
    by_case (inl same) below = at_last same
    by_case (inr differ) below = before_last differ (below (below_it a n lt differ))

filter-none : (xs : List ℕ) → filter (is_in []) xs ≡ []
filter-none [] = refl
filter-none (x ∷ xs) = filter-none xs

is_in-none : (x : ℕ) (xs : List ℕ) → AllByRecursion (Differ x) xs → is_in xs x ≡ false
is_in-none x [] h = refl
is_in-none x (y ∷ ys) h = ap (λ b. b || is_in ys x) (ne_eqb y x (λ e. h.0 (sym e))) ∙ is_in-none x ys h.1

permutes : (n : ℕ) (xs : List ℕ) → Rises Differ xs → AllByRecursion (λ x. x < n) xs → IsPermutation xs (filter (is_in xs) (up_to n))
permutes n [] r b = subst (λ zs. IsPermutation [] zs) (sym (filter-none (up_to n))) (IsPermutation-refl [])
permutes n (x ∷ xs) r b = IsPermutation-trans (x ∷ xs) (x ∷ filter (is_in xs) (up_to n)) (filter (is_in (x ∷ xs)) (up_to n))
    (IsPermutation-cons x xs (filter (is_in xs) (up_to n)) (permutes n xs r.1 b.1))
    (one-more n x (is_in xs) b.0 (is_in-none x xs r.0))

up_to-below : (n : ℕ) → AllByRecursion (λ p. p < n) (up_to n)
up_to-below zero = tt
up_to-below (suc n) = AllByRecursion-push (λ p. p < suc n) (up_to n) n (AllByRecursion-weaker (λ p. p < n) (λ p. p < suc n) (λ p lt. omega arith) (up_to n) (up_to-below n)) (omega arith)

up_to-rises : (n : ℕ) → Rises (λ x y. x < y) (up_to n)
up_to-rises zero = tt
up_to-rises (suc n) = Rises-push (λ x y. x < y) (up_to n) n (up_to-rises n) (up_to-below n)

-- what passes a test for the elements of a list is that list in another order, and rises
pub passing-permutes : (n : ℕ) (xs : List ℕ) (test : ℕ → Bool) → ((p : ℕ) → test p ≡ is_in xs p) → Rises Differ xs → AllByRecursion (λ x. x < n) xs → IsPermutation xs (filter test (up_to n))
passing-permutes n xs test h r b = subst (IsPermutation xs) (filter-below n (is_in xs) test (λ p lt. sym (h p))) (permutes n xs r b)

pub passing-rises : (n : ℕ) (test : ℕ → Bool) → Rises (λ x y. x < y) (filter test (up_to n))
passing-rises n test = Rises-filter (λ x y. x < y) test (up_to n) (up_to-rises n)
