-- What a report says about the samples that are not resolved.
use Rattle.std.proofs.Common.{◌≡◌, ℕ, suc, ◌+◌, ◌<◌, ◌≤◌, Bool, true, false, cond, ◌||◌, List, [], ◌∷◌, ◌++◌, length, get_or, Result, Ok, Err, refl, sym, ap, ◌∙◌, add-one, arith}
use Rattle.std.proofs.lemmas.Bool.Decides.{Decides-eqb}
use Rattle.std.proofs.lemmas.List.{append-nil}
use Rattle.std.proofs.lemmas.List.Folds.{list_any_at}
use Rattle.std.proofs.lemmas.List.Sorted.{searched}
use Rattle.std.specs.Prelude.{◌==◌, filter, is_ok}
use Rattle.std.specs.List.{list_any}
use Rattle.std.specs.List.Sorted.{IsNonDecreasing, IsBinarySearchResult}
use Rattle.std.specs.Ordering.{nat_cmp}
use Rattle.std.proofs.lemmas.List.Elements.{filter-append}
use Rattle.rw_machine.specs.Worlds.{up_to}

absent : (xs : List ℕ) (pos : ℕ) → ((k : ℕ) → k < length xs → get_or xs k 0 ≡ pos → ⊥) → list_any (λ (p : ℕ). p == pos) xs ≡ false
absent [] pos h = refl
absent (x ∷ xs) pos h = by_test (x == pos) refl (absent xs pos (λ k lt e. h (suc k) (omega arith) e))
  where
    by_test : (b : Bool) → (x == pos) ≡ b → list_any (λ (p : ℕ). p == pos) xs ≡ false → ((x == pos) || list_any (λ (p : ℕ). p == pos) xs) ≡ false
    by_test true e rest = absurd (h 0 (omega arith) ((Decides-eqb x pos).0 e))
    by_test false e rest = ap (λ c. c || list_any (λ (p : ℕ). p == pos) xs) e ∙ rest

not_there : (i k n pos p : ℕ) → (k < i → p < pos) → (i ≤ k → k < n → pos < p) → k < n → p ≡ pos → ⊥
not_there i k n pos p below above lt e = grind arith

-- a search in ascending positions
pub searched_is : (xs : List ℕ) (pos : ℕ) (r : Result ℕ ℕ) → IsNonDecreasing xs → IsBinarySearchResult (λ y. nat_cmp y pos) xs r → is_ok r ≡ list_any (λ (p : ℕ). p == pos) xs
searched_is xs pos (Ok i) up h =
    let m = searched xs pos (Ok i) h (λ a b le lt. up a b 0 le lt) in
    sym (list_any_at (λ (p : ℕ). p == pos) xs i 0 m.0 ((Decides-eqb (get_or xs i 0) pos).1 m.1))
searched_is xs pos (Err i) up h =
    let m = searched xs pos (Err i) h (λ a b le lt. up a b 0 le lt) in
    sym (absent xs pos (λ k lt e. not_there i k (length xs) pos (get_or xs k 0) (m.1 k) (m.2 k) lt e))

filter_one : {X : Type 0} (p : X → Bool) (b : Bool) (x : X) → p x ≡ b → filter p (x ∷ []) ≡ cond b (x ∷ []) []
filter_one p b x e = ap (λ c. cond c (x ∷ []) []) e

-- one more position that waits, or that does not
pub up_to_taken : (p : ℕ → Bool) (n : ℕ) → p n ≡ true → filter p (up_to (n + 1)) ≡ filter p (up_to n) ++ n ∷ []
up_to_taken p n e = ap (λ k. filter p (up_to k)) (add-one n) ∙ filter-append p (up_to n) (n ∷ []) ∙ ap (λ zs. filter p (up_to n) ++ zs) (filter_one p true n e)

pub up_to_left : (p : ℕ → Bool) (n : ℕ) → p n ≡ false → filter p (up_to (n + 1)) ≡ filter p (up_to n)
up_to_left p n e = ap (λ k. filter p (up_to k)) (add-one n) ∙ filter-append p (up_to n) (n ∷ []) ∙ ap (λ zs. filter p (up_to n) ++ zs) (filter_one p false n e) ∙ append-nil (filter p (up_to n))
