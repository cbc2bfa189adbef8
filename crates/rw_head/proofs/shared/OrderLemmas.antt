-- The order rule on one list, whose timestamps rise.
use Rattle.std.specs.Cmp.{int_cmp_total}
use Rattle.std.specs.List.Sorted.{IsNonDecreasingBy}
use Rattle.std.specs.Ordering.{int_cmp, is_eq, is_lt, ordering_index}
use Rattle.std.specs.declared.cmp.Ordering.TheVariants.{Less, Equal, Greater}
use Rattle.std.proofs.lemmas.Bool.{cases_lt}
use Rattle.std.proofs.Math.ListN.{drop_of_length-le}
use Rattle.std.proofs.lemmas.List.{length_push}
use Rattle.std.proofs.lemmas.List.Sorted.{searchable_from_sorted}
use Rattle.std.proofs.Common.{slice_get, ⊎_elim, cond, ◌≡◌, ℕ, ◌+◌, ◌-◌, ◌<◌, ◌≤◌, zero, suc, ℤ, int_lt, int_eq, eqb, List, [], ◌∷◌, ◌++◌, drop, length, get_or, Option, Some, None, Bool, true, false, ◌&&◌, ◌||◌, refl, sym, ◌∙◌, ap, subst, arith}
use Rattle.std.specs.List.{AllByRecursion, AllWithin}
use Rattle.std.proofs.Math.Seq.{drop-cons}
use Rattle.std.proofs.lemmas.Bool.Decides.{Decides-int_eq}
use Rattle.rw_write_request.specs.Message.{Sample}
use Rattle.rw_head.specs.Order.{Point, point_of, points, is_later, holds, accept_one, accept}
use Rattle.rw_head.specs.Lists.{IsEarlier}
use Rattle.rw_types.specs.Rising.{Rises}
use Rattle.rw_types.proofs.shared.AllLemmas.{AllByRecursion-at}
use Rattle.rw_types.proofs.shared.RisingLemmas.{Rises-at, Rises-push}
use Rattle.rw_types.proofs.shared.TimeLemmas.{int_lt-asymm, int_lt-irrefl, int_lt-trans}

-- what is later than the last of a list that rises is later than its first
later_than_first : (t : ℤ) (x : Point) (xs : List Point) → Rises IsEarlier (x ∷ xs) → is_later t (x ∷ xs) ≡ true → int_lt x.0 t ≡ true
later_than_first t x [] h e = e
later_than_first t x (y ∷ ys) h e = int_lt-trans x.0 y.0 t h.0.0 (later_than_first t y ys h.1 e)

later_rest : (t : ℤ) (x : Point) (xs : List Point) → is_later t (x ∷ xs) ≡ true → is_later t xs ≡ true
later_rest t x [] e = refl
later_rest t x (y ∷ ys) e = e

pub earlier_each : (t : ℤ) (w : ℕ) (xs : List Point) → Rises IsEarlier xs → is_later t xs ≡ true → AllByRecursion (λ y. IsEarlier y (t, w)) xs
earlier_each t w [] h e = tt
earlier_each t w (x ∷ xs) h e = (later_than_first t x xs h e, earlier_each t w xs h.1 (later_rest t x xs e))

-- a later sample keeps the order
pub Rises-later : (xs : List Point) (t : ℤ) (w : ℕ) → Rises IsEarlier xs → is_later t xs ≡ true → Rises IsEarlier (xs ++ (t, w) ∷ [])
Rises-later xs t w h e = Rises-push IsEarlier xs (t, w) h (earlier_each t w xs h e)

-- a sample at a place after the first is later than the first
pub above_at : (a : ℤ) (xs : List Point) (i : ℕ) (d : Point) → AllByRecursion (λ y. int_lt a y.0 ≡ true) xs → i < length xs → int_lt a (get_or xs i d).0 ≡ true
above_at a xs i d all h = AllByRecursion-at (λ (y : Point). int_lt a y.0 ≡ true) xs i d all h

eq_apart : (a b : ℤ) → int_lt a b ≡ true → (c : Bool) → int_eq a b ≡ c → c ≡ false
eq_apart a b h true e = absurd (let same : a ≡ b = (Decides-int_eq a b).0 e in let off : int_lt a a ≡ true = subst (λ x. int_lt a x ≡ true) (sym same) h in cc (int_lt-irrefl a))
eq_apart a b h false e = refl

pub eq_apart_above : (a b : ℤ) → int_lt b a ≡ true → (c : Bool) → int_eq a b ≡ c → c ≡ false
eq_apart_above a b h true e = absurd (let same : a ≡ b = (Decides-int_eq a b).0 e in let off : int_lt b b ≡ true = subst (λ x. int_lt b x ≡ true) same h in cc (int_lt-irrefl b))
eq_apart_above a b h false e = refl

-- no sample has the timestamp
pub holds_nowhere : (s : Point) (xs : List Point) → ((i : ℕ) (d : Point) → i < length xs → int_eq (get_or xs i d).0 s.0 ≡ false) → holds s xs ≡ false
holds_nowhere s [] none = refl
holds_nowhere s (x ∷ xs) none =
    ap (λ b. (b && eqb x.1 s.1) || holds s xs) (none 0 x (omega arith)) ∙ holds_nowhere s xs (λ i d h. none (suc i) d (omega arith))

-- each is earlier
pub holds_earlier : (s : Point) (xs : List Point) → AllByRecursion (λ y. IsEarlier y s) xs → holds s xs ≡ false
holds_earlier s [] all = refl
holds_earlier s (x ∷ xs) all = ap (λ b. (b && eqb x.1 s.1) || holds s xs) (eq_apart x.0 s.0 all.0 _ refl) ∙ holds_earlier s xs all.1

-- if one has it, its word decides
pub holds_at : (s : Point) (xs : List Point) (i : ℕ) (d : Point) → Rises IsEarlier xs → i < length xs → int_eq (get_or xs i d).0 s.0 ≡ true → holds s xs ≡ eqb (get_or xs i d).1 s.1
holds_at s [] i d h within e = absurd (omega arith)
holds_at s (x ∷ xs) zero d h within e =
    let same : x.0 ≡ s.0 = (Decides-int_eq x.0 s.0).0 e in
    let rest : holds s xs ≡ false = holds_nowhere s xs (λ i d' k. eq_apart_above (get_or xs i d').0 s.0 (subst (λ t. int_lt t (get_or xs i d').0 ≡ true) same (above_at x.0 xs i d' h.0 k)) _ refl) in
    ap (λ b. (b && eqb x.1 s.1) || holds s xs) e ∙ ap (λ b. eqb x.1 s.1 || b) rest ∙ or_none (eqb x.1 s.1)
  where
    or_none : (b : Bool) → (b || false) ≡ b
    or_none true = refl
    or_none false = refl
holds_at s (x ∷ xs) (suc i) d h within e =
    let same : (get_or xs i d).0 ≡ s.0 = (Decides-int_eq (get_or xs i d).0 s.0).0 e in
    let below : int_lt x.0 s.0 ≡ true = subst (λ t. int_lt x.0 t ≡ true) same (above_at x.0 xs i d h.0 (omega arith)) in
    ap (λ b. (b && eqb x.1 s.1) || holds s xs) (eq_apart x.0 s.0 below _ refl) ∙ holds_at s xs i d h.1 (omega arith) e

-- ---- one sample after the other
pub accept-none : (ss : List Point) → accept None ss ≡ None
accept-none [] = refl
accept-none (s ∷ ss) = accept-none ss

-- the next sample of a message is judged by what the earlier ones made of the list
pub accept_on : (ss : List Sample) (i : ℕ) (s : Sample) (xs : List Point) → i < length ss → s ≡ get_or ss i s
    → accept (Some xs) (points (drop i ss)) ≡ accept (accept_one xs (point_of s)) (points (drop (i + 1) ss))
accept_on ss i s xs h here =
    let one : i + 1 ≡ suc i = omega arith in
    ap (λ l. accept (Some xs) (points l)) (drop-cons ss i s h) ∙ ap (λ x. accept (accept_one xs (point_of x)) (points (drop (suc i) ss))) (sym here)
    ∙ ap (λ k. accept (accept_one xs (point_of s)) (points (drop k ss))) (sym one)

-- ---- what a search among timestamps says
pub later_of_last : (t : ℤ) (xs : List Point) (last : Point) → Some last ≡ slice_get xs (length xs - 1) → is_later t xs ≡ int_lt last.0 t
later_of_last t [] last e = absurd cc
later_of_last t (x ∷ []) last e = let same : last ≡ x = cc in ap (λ p. int_lt p.0 t) (sym same)
later_of_last t (x ∷ y ∷ ys) last e = later_of_last t (y ∷ ys) last (e ∙ ap (slice_get (x ∷ y ∷ ys)) (one_back (length ys)))
  where
    one_back : (n : ℕ) → suc (suc n) - 1 ≡ suc (suc n - 1)
    one_back n = omega arith

pub found_there : (t u : ℤ) (w : ℕ) (xs : List Point) (i : ℕ) → u ≡ t → Rises IsEarlier xs → i < length xs → ((d : Point) → int_cmp (get_or xs i d).0 u ≡ Equal) → (x : Point) → x ≡ get_or xs i x
    → eqb (get_or xs i x).1 w ≡ holds (t, w) xs
found_there t u w xs i same h within at x here =
    sym (holds_at (t, w) xs i x h within (ap is_eq (ap (int_cmp (get_or xs i x).0) (sym same) ∙ at x)))

pub found_nowhere : (t u : ℤ) (w : ℕ) (xs : List Point) (i : ℕ) → u ≡ t → AllWithin (λ y. int_cmp y.0 u ≡ Less) xs 0 i × AllWithin (λ y. int_cmp y.0 u ≡ Greater) xs i (length xs)
    → false ≡ holds (t, w) xs
found_nowhere t u w xs i same around =
    sym (holds_nowhere (t, w) xs (λ k d h.
    ap (int_eq (get_or xs k d).0) (sym same)
    ∙ ⊎_elim (λ lt. ap is_eq (around.0 k d (omega arith) lt)) (λ le. ap is_eq (around.1 k d le h)) (cases_lt k i)))

pub not_less : (a b : ℤ) → int_lt a b ≡ false → is_lt (int_cmp a b) ≡ false
not_less a b e = ap (λ l. is_lt (cond l Less (cond (int_lt b a) Greater Equal))) e ∙ by_test (int_lt b a)
  where
    by_test : (b : Bool) → is_lt (cond b Greater Equal) ≡ false
    by_test true = refl
    by_test false = refl

-- timestamps that rise can be searched
pub searchable : (xs : List Point) (t : ℤ) → Rises IsEarlier xs → IsNonDecreasingBy (λ y. ordering_index (int_cmp y.0 t)) xs
searchable xs t h = searchable_from_sorted int_cmp_total (λ p. p.0) xs t
    (λ k d low high. not_less (get_or xs (k + 1) d).0 (get_or xs k d).0 (int_lt-asymm (get_or xs k d).0 (get_or xs (k + 1) d).0 (Rises-at IsEarlier xs k (k + 1) d h (omega arith) high)))

-- the list after a later sample that is pushed
pub pushed : (kept : ℕ) (xs ys : List Point) (t : ℤ) (w : ℕ) → ys ≡ xs ++ (t, w) ∷ [] → is_later t xs ≡ true → (kept ≤ length xs) × Rises IsEarlier xs → (kept ≤ length ys) × Rises IsEarlier ys
pushed kept xs ys t w e later h =
    (omega (arith, ap length e, length_push xs (t, w), h.0), subst (Rises IsEarlier) (sym e) (Rises-later xs t w h.1 later))

-- a sample that is refused refuses all
pub refused_at : (ss : List Sample) (i : ℕ) (s : Sample) (u : ℤ) (xs : List Point) (all : Option (List Point)) → u ≡ s.1 → i < length ss → s ≡ get_or ss i s
    → all ≡ accept (Some xs) (points (drop i ss)) → accept_one xs (u, s.0) ≡ None → all ≡ None
refused_at ss i s u xs all same h here e none =
    e ∙ accept_on ss i s xs h here ∙ ap (λ z. accept (accept_one xs (z, s.0)) (points (drop (i + 1) ss))) (sym same) ∙ ap (λ o. accept o (points (drop (i + 1) ss))) none ∙ accept-none (points (drop (i + 1) ss))

-- and one that is taken leaves the others
pub accepted_at : (ss : List Sample) (i : ℕ) (s : Sample) (u : ℤ) (xs ys : List Point) (all : Option (List Point)) → u ≡ s.1 → i < length ss → s ≡ get_or ss i s
    → all ≡ accept (Some xs) (points (drop i ss)) → accept_one xs (u, s.0) ≡ Some ys → all ≡ accept (Some ys) (points (drop (i + 1) ss))
accepted_at ss i s u xs ys all same h here e some =
    e ∙ accept_on ss i s xs h here ∙ ap (λ z. accept (accept_one xs (z, s.0)) (points (drop (i + 1) ss))) (sym same) ∙ ap (λ o. accept o (points (drop (i + 1) ss))) some

pub accepted_all : (ss : List Sample) (i : ℕ) (xs : List Point) (all : Option (List Point)) → length ss ≤ i → all ≡ accept (Some xs) (points (drop i ss)) → all ≡ Some xs
accepted_all ss i xs all h e = e ∙ ap (λ l. accept (Some xs) (points l)) (drop_of_length-le ss h)
