-- Seats that come back, one after the other.
use Rattle.std.proofs.Common.{◌≡◌, ◌≢◌, ◌⊎◌, inl, inr, ℕ, zero, suc, ◌<◌, ◌≤◌, List, [], ◌∷◌, ◌++◌, length, slice_get, Some, Bool, eqb, eqb-true, eq-eqb, true, false, true≢false, refl, sym, ap, ◌∙◌, subst, ⊎_elim, arith, length-append}
use Rattle.std.specs.List.{AllByRecursion, IsDistinct, list_any}
use Rattle.std.proofs.lemmas.Map.Keys.{IsDistinct-cons}
use Rattle.std.proofs.lemmas.Map.Steps.{length-le_from_distinct_below}
use Rattle.std.proofs.lemmas.Bool.{or_left, or_right, or_parts}
use Rattle.rw_types.specs.Beginnings.{Begins}
use Rattle.rw_types.proofs.shared.Booleans.{or_true}
use Rattle.rw_head.specs.Store.{Store}
use Rattle.rw_head.specs.Head.{State}
use Rattle.rw_recv_head.specs.declared.question.Question.{Question}
use Rattle.rw_recv_head.specs.declared.questions.PassState.{PassState}
use Rattle.rw_recv_head.specs.Seats.{own, bodies_of, store_after, Seated, HasGathered}
use Rattle.rw_recv_head.specs.inner.Questions.{IsSeat}

-- ---- an element at the end
module _ {A : Type 0} where
  pub at_push : (xs : List A) (a b : A) (j : ℕ) → slice_get (xs ++ a ∷ []) j ≡ Some b → (slice_get xs j ≡ Some b) ⊎ ((j ≡ length xs) × (a ≡ b))
  at_push [] a b zero e = inr (refl, cc)
  at_push [] a b (suc j) e = absurd cc
  at_push (x ∷ xs) a b zero e = inl e
  at_push (x ∷ xs) a b (suc j) e = ⊎_elim (λ t. inl t) (λ (t : (j ≡ length xs) × (a ≡ b)). inr (ap suc t.0, t.1)) (at_push xs a b j e)

  at_more : (xs ys : List A) (b : A) (j : ℕ) → slice_get xs j ≡ Some b → slice_get (xs ++ ys) j ≡ Some b
  at_more [] ys b j e = absurd cc
  at_more (x ∷ xs) ys b zero e = e
  at_more (x ∷ xs) ys b (suc j) e = at_more xs ys b j e

  at_end : (xs : List A) (a : A) → slice_get (xs ++ a ∷ []) (length xs) ≡ Some a
  at_end [] a = refl
  at_end (x ∷ xs) a = at_end xs a

-- ---- new seats have numbers in turn
pub numbered_more : (seats : List Seated) (s : Seated) (n : ℕ) → length seats ≡ n → s ≡ record { number = n; stored = 0; asked = [] }
    → ((k : ℕ) (t : Seated) → slice_get seats k ≡ Some t → t ≡ record { number = k; stored = 0; asked = [] })
    → (k : ℕ) (t : Seated) → slice_get (seats ++ s ∷ []) k ≡ Some t → t ≡ record { number = k; stored = 0; asked = [] }
numbered_more seats s n len is h k t e = ⊎_elim (h k t)
    (λ (x : (k ≡ length seats) × (s ≡ t)). sym x.1 ∙ is ∙ ap (λ (m : ℕ). record { number = m; stored = 0; asked = [] }) (sym len ∙ sym x.0))
    (at_push seats s t k e)

-- ---- numbers that differ
each_differs : (n : ℕ) (ns : List ℕ) → list_any (eqb n) ns ≡ false → AllByRecursion (λ m. eqb n m ≡ false) ns
each_differs n [] e = tt
each_differs n (m ∷ ns) e = let t = or_parts (eqb n m) (list_any (eqb n) ns) e in (t.0, each_differs n ns t.1)

-- as many different numbers below n as n are all of them
pub all_there : (ns : List ℕ) (n : ℕ) → IsDistinct eqb ns → ((m : ℕ) → list_any (eqb m) ns ≡ true → m < n) → length ns ≡ n
    → (m : ℕ) → m < n → (b : Bool) → list_any (eqb m) ns ≡ b → b ≡ true
all_there ns n distinct below count m less true e = refl
all_there ns n distinct below count m less false e =
    let longer : suc (length ns) ≤ n = length-le_from_distinct_below (m ∷ ns) n (IsDistinct-cons eqb m ns (each_differs m ns e) distinct)
    (λ q h. ⊎_elim (λ (t : eqb q m ≡ true). subst (λ k. k < n) (sym (eqb-true q m t)) less) (below q) (or_true (eqb q m) (list_any (eqb q) ns) h)) in
    absurd (omega (arith, longer, count))

-- ---- the seats that are back
pub record AreBack (known : PassState) (seats : List Seated) : Type 0 where
  pub seen : (k : ℕ) (s : Seated) → slice_get seats k ≡ Some s → Begins s.asked known.asked × (own s.number known.asked ≡ own s.number s.asked)
  pub noted : (k : ℕ) (s : Seated) → slice_get seats k ≡ Some s → list_any (eqb s.number) known.back ≡ true
  pub found : (n : ℕ) → list_any (eqb n) known.back ≡ true → (k : ℕ) × (s : Seated) × (slice_get seats k ≡ Some s) × (s.number ≡ n)
  pub apart : (i j : ℕ) (s t : Seated) → slice_get seats i ≡ Some s → slice_get seats j ≡ Some t → s.number ≡ t.number → i ≡ j
  pub distinct : IsDistinct eqb known.back
  pub below : (n : ℕ) → list_any (eqb n) known.back ≡ true → n < known.given
  pub count : length known.back ≡ length seats

no_numbers : IsDistinct eqb []
unfolding IsDistinct
no_numbers = tt

pub none_are_back : (known : PassState) → known.back ≡ [] → AreBack known []
none_are_back known none = record {
  seen = λ k s e. absurd cc;
  noted = λ k s e. absurd cc;
  found = λ n e. absurd (true≢false (sym e ∙ ap (list_any (eqb n)) none));
  apart = λ i j s t e. absurd cc;
  distinct = subst (IsDistinct eqb) (sym none) no_numbers;
  below = λ n e. absurd (true≢false (sym e ∙ ap (list_any (eqb n)) none));
  count = ap length none;
}

pub one_more_back : (known : PassState) (seats : List Seated) (s : Seated) → AreBack known seats → IsSeat known s.number s.asked
    → AreBack (record known { back = s.number ∷ known.back }) (seats ++ s ∷ [])
one_more_back known seats s h i =
    let was : (j : ℕ) (t : Seated) → slice_get seats j ≡ Some t → s.number ≢ t.number =
    λ j t e same. true≢false (sym (h.noted j t e) ∙ ap (λ n. list_any (eqb n) known.back) (sym same) ∙ i.away) in
    record {
      seen = λ k t e. ⊎_elim (h.seen k t)
          (λ (x : (k ≡ length seats) × (s ≡ t)). subst (λ (u : Seated). Begins u.asked known.asked × (own u.number known.asked ≡ own u.number u.asked)) x.1 (i.begins, i.alone))
          (at_push seats s t k e);
      noted = λ k t e. ⊎_elim
          (λ (x : slice_get seats k ≡ Some t). or_right (eqb t.number s.number) (list_any (eqb t.number) known.back) (h.noted k t x))
          (λ (x : (k ≡ length seats) × (s ≡ t)). or_left (eqb t.number s.number) (list_any (eqb t.number) known.back) (eq-eqb t.number s.number (ap (λ (u : Seated). u.number) (sym x.1))))
          (at_push seats s t k e);
      found = λ n e. ⊎_elim
          (λ (x : eqb n s.number ≡ true). (length seats, s, at_end seats s, sym (eqb-true n s.number x)))
          (λ (x : list_any (eqb n) known.back ≡ true). let f = h.found n x in (f.0, f.1, at_more seats (s ∷ []) f.1 f.0 f.2, f.3))
          (or_true (eqb n s.number) (list_any (eqb n) known.back) e);
      apart = λ j k t u ej ek same. ⊎_elim
          (λ (x : slice_get seats j ≡ Some t). ⊎_elim
          (λ (y : slice_get seats k ≡ Some u). h.apart j k t u x y same)
          (λ (y : (k ≡ length seats) × (s ≡ u)). absurd (was j t x (ap (λ (v : Seated). v.number) y.1 ∙ sym same)))
          (at_push seats s u k ek))
          (λ (x : (j ≡ length seats) × (s ≡ t)). ⊎_elim
          (λ (y : slice_get seats k ≡ Some u). absurd (was k u y (ap (λ (v : Seated). v.number) x.1 ∙ same)))
          (λ (y : (k ≡ length seats) × (s ≡ u)). x.0 ∙ sym y.0)
          (at_push seats s u k ek))
          (at_push seats s t j ej);
      distinct = IsDistinct-cons eqb s.number known.back (each_differs s.number known.back i.away) h.distinct;
      below = λ n e. ⊎_elim
          (λ (x : eqb n s.number ≡ true). subst (λ m. m < known.given) (sym (eqb-true n s.number x)) i.given)
          (h.below n)
          (or_true (eqb n s.number) (list_any (eqb n) known.back) e);
      count = omega (arith, h.count, length-append seats (s ∷ []));
    }

-- all are back
abbrev pub gathers : (opening : State) (known : PassState) (seats : List Seated) (store : Store) → AreBack known seats → length seats ≡ known.given
    → store ≡ store_after opening (bodies_of known.asked) → ((n : ℕ) (q : Question) → slice_get known.asked n ≡ Some q → q.seat < known.given)
    → HasGathered opening seats store
gathers opening known seats store h count holds given = record {
  asked = known.asked;
  holds = holds;
  seen = h.seen;
  each = λ n q e. h.found q.seat (all_there known.back known.given h.distinct h.below (h.count ∙ count) q.seat (given n q e) (list_any (eqb q.seat) known.back) refl);
  apart = h.apart;
}
