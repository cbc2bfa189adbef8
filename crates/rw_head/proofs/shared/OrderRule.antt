-- The order rule on repeats and on later samples.
use Rattle.std.proofs.Common.{◌≡◌, ◌==◌, Bool, true, false, cond, List, [], ◌∷◌, ◌++◌, Option, Some, None, refl, sym, ap, ◌∙◌, subst, ℤ, int_lt, int_eq, ◌||◌, ◌&&◌, append-nil, append_assoc}
use Rattle.std.proofs.lemmas.Bool.Decides.{Decides-int_eq, Decides-eqb}
use Rattle.std.proofs.lemmas.Bool.{true≢false, cond-false, cond-true, and_from, and_parts}
use Rattle.std.specs.List.{AllByRecursion}
use Rattle.rw_types.specs.Rising.{Rises}
use Rattle.rw_types.proofs.shared.TimeLemmas.{int_lt-asymm, int_lt-irrefl}
use Rattle.rw_head.specs.Lists.{IsEarlier}
use Rattle.rw_head.specs.Order.{Point, accept, accept_next, accept_one, holds, is_later}

not_later : (t : ℤ) (y : Point) (ys : List Point) → AllByRecursion (λ (y : Point). int_lt t y.0 ≡ true) (y ∷ ys) → is_later t (y ∷ ys) ≡ false
not_later t y [] h = int_lt-asymm t y.0 h.0
not_later t y (z ∷ ys) h = not_later t z ys h.1

repeat_not_later : (s : Point) (xs : List Point) → Rises IsEarlier xs → holds s xs ≡ true → is_later s.0 xs ≡ false
repeat_not_later s [] h at = absurd (true≢false (sym at))
repeat_not_later s (x ∷ []) h at = by_test (int_eq x.0 s.0 && (x.1 == s.1)) refl at
  where
    by_test : (b : Bool) → (int_eq x.0 s.0 && (x.1 == s.1)) ≡ b → (b || false) ≡ true → int_lt x.0 s.0 ≡ false
    by_test true e at = subst (λ t. int_lt x.0 t ≡ false) ((Decides-int_eq x.0 s.0).0 (and_parts (int_eq x.0 s.0) (x.1 == s.1) e).0) (int_lt-irrefl x.0)
    by_test false e at = absurd (true≢false (sym at))
repeat_not_later s (x ∷ y ∷ ys) h at = by_test (int_eq x.0 s.0 && (x.1 == s.1)) refl at (repeat_not_later s (y ∷ ys) h.1)
  where
    by_test : (b : Bool) → (int_eq x.0 s.0 && (x.1 == s.1)) ≡ b → (b || holds s (y ∷ ys)) ≡ true → (holds s (y ∷ ys) ≡ true → is_later s.0 (y ∷ ys) ≡ false) → is_later s.0 (y ∷ ys) ≡ false
    by_test true e at rest = subst (λ t. is_later t (y ∷ ys) ≡ false) ((Decides-int_eq x.0 s.0).0 (and_parts (int_eq x.0 s.0) (x.1 == s.1) e).0) (not_later x.0 y ys h.0)
    by_test false e at rest = rest at

-- repeats change nothing
pub accept_repeats : (xs ss : List Point) → Rises IsEarlier xs → AllByRecursion (λ s. holds s xs ≡ true) ss → accept (Some xs) ss ≡ Some xs
accept_repeats xs [] h all = refl
accept_repeats xs (s ∷ ss) h all =
    let step : accept_one xs s ≡ Some xs = cond-false (is_later s.0 xs) (Some (xs ++ s ∷ [])) (cond (holds s xs) (Some xs) None) (repeat_not_later s xs h all.0) ∙ cond-true (holds s xs) (Some xs) None all.0 in
    ap (λ o. accept o ss) step ∙ accept_repeats xs ss h all.1

later_than : (xs : List Point) (s : Point) (ss : List Point) → Rises IsEarlier (xs ++ s ∷ ss) → is_later s.0 xs ≡ true
later_than [] s ss h = refl
later_than (x ∷ []) s ss h = h.0.0
later_than (x ∷ y ∷ ys) s ss h = later_than (y ∷ ys) s ss h.1

-- later samples are appended
pub accept_later : (xs ss : List Point) → Rises IsEarlier (xs ++ ss) → accept (Some xs) ss ≡ Some (xs ++ ss)
accept_later xs [] h = ap Some (sym (append-nil xs))
accept_later xs (s ∷ ss) h =
    let step : accept_one xs s ≡ Some (xs ++ s ∷ []) = cond-true (is_later s.0 xs) (Some (xs ++ s ∷ [])) (cond (holds s xs) (Some xs) None) (later_than xs s ss h) in
    let shift : (xs ++ s ∷ []) ++ ss ≡ xs ++ s ∷ ss = append_assoc xs (s ∷ []) ss in
    ap (λ o. accept o ss) step ∙ accept_later (xs ++ s ∷ []) ss (subst (Rises IsEarlier) (sym shift) h) ∙ ap Some shift

-- ---- what a list holds
pub holds_append : (s : Point) (xs ys : List Point) → holds s xs ≡ true → holds s (xs ++ ys) ≡ true
holds_append s [] ys h = absurd (true≢false (sym h))
holds_append s (x ∷ xs) ys h = by_test (int_eq x.0 s.0 && (x.1 == s.1)) h (holds_append s xs ys)
  where
    by_test : (b : Bool) → (b || holds s xs) ≡ true → (holds s xs ≡ true → holds s (xs ++ ys) ≡ true) → (b || holds s (xs ++ ys)) ≡ true
    by_test true h rest = refl
    by_test false h rest = rest h

pub holds_right : (s : Point) (xs ys : List Point) → holds s ys ≡ true → holds s (xs ++ ys) ≡ true
holds_right s [] ys h = h
holds_right s (x ∷ xs) ys h = by_test (int_eq x.0 s.0 && (x.1 == s.1)) (holds_right s xs ys h)
  where
    by_test : (b : Bool) → holds s (xs ++ ys) ≡ true → (b || holds s (xs ++ ys)) ≡ true
    by_test true h = refl
    by_test false h = h

pub holds_own : (s : Point) (xs : List Point) → holds s (s ∷ xs) ≡ true
holds_own s xs = by_test (int_eq s.0 s.0 && (s.1 == s.1)) (and_from _ _ ((Decides-int_eq s.0 s.0).1 refl) ((Decides-eqb s.1 s.1).1 refl))
  where
    by_test : (b : Bool) → b ≡ true → (b || holds s xs) ≡ true
    by_test true h = refl
    by_test false h = absurd (true≢false (sym h))

-- each part of a list is held
pub hold_all : (before xs after : List Point) → AllByRecursion (λ s. holds s (before ++ (xs ++ after)) ≡ true) xs
hold_all before [] after = tt
hold_all before (x ∷ xs) after = (
  holds_right x before (x ∷ (xs ++ after)) (holds_own x (xs ++ after)),
  subst (λ ys. AllByRecursion (λ s. holds s ys ≡ true) xs) (append_assoc before (x ∷ []) (xs ++ after)) (hold_all (before ++ x ∷ []) xs after),
)

-- samples one after the other
pub accept-append : (o : Option (List Point)) (xs ys : List Point) → accept o (xs ++ ys) ≡ accept (accept o xs) ys
accept-append o [] ys = refl
accept-append o (x ∷ xs) ys = accept-append (accept_next o x) xs ys
