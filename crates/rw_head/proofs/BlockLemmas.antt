-- Lists in blocks.
use Rattle.std.proofs.Common.{◌≡◌, ◌≢◌, ℕ, ◌+◌, ◌-◌, ◌*◌, ◌/◌, ◌^◌, ◌<◌, ◌≤◌, zero, suc, ℤ, int_lt, int_eq, List, [], ◌∷◌, ◌++◌, take, drop, length, map, get_or, slice_get, Some, Bool, true, false, cond, ◌&&◌, ◌||◌, ◌==◌, nat_eq, eqb-true, eq-eqb, lit≤, refl, sym, ◌∙◌, ap, subst, append_assoc, ⊎_elim, arith}
use Rattle.std.specs.Cmp.{int_cmp_total}
use Rattle.std.specs.List.{AllByRecursion, AllWithin}
use Rattle.std.specs.List.Sorted.{IsNonDecreasingBy}
use Rattle.std.specs.Ordering.{int_cmp, is_eq, ordering_index}
use Rattle.std.specs.declared.cmp.Ordering.TheVariants.{Less, Equal, Greater}
use Rattle.std.proofs.Math.Seq.{take-append_seam, drop-append_seam, take-append-add, take-length}
use Rattle.std.proofs.lemmas.Bool.{cases_lt}
use Rattle.std.proofs.lemmas.Bool.Decides.{Decides-int_eq}
use Rattle.std.proofs.lemmas.List.{append-nil, drop-append-le, length-append, length-drop, length_push, take-append-drop}
use Rattle.std.proofs.lemmas.List.Sorted.{searchable_from_sorted}
use Rattle.std.proofs.lemmas.Nat.{div-mul-add}
use Rattle.std.proofs.Math.Bool.{or-false}
use Rattle.rw_head.specs.Order.{Point, is_later, holds}
use Rattle.rw_head.specs.Lists.{IsEarlier}
use Rattle.rw_head.specs.Blocks.{joined_blocks, first_blocks, sealed_of, AreFull}
use Rattle.rw_head.specs.inner.Blocks.{open_of, AreBlocks, begins_after, first_time, Begun}
use Rattle.rw_head.proofs.shared.OrderLemmas.{above_at, eq_apart_above, holds_nowhere, not_less}
use Rattle.rw_types.specs.Beginnings.{Begins}
use Rattle.rw_types.specs.Rising.{Rises}
use Rattle.rw_types.proofs.shared.AllLemmas.{AllByRecursion-right}
use Rattle.rw_types.proofs.shared.RisingLemmas.{Rises-left, Rises-right}
use Rattle.rw_types.proofs.shared.TimeLemmas.{int_lt-asymm, int_lt-irrefl, int_lt-trans}

-- ---- full blocks
pub AreFull-push : (bs : List (List Point)) (b : List Point) → AreFull bs → length b ≡ 120 → AreFull (bs ++ b ∷ [])
AreFull-push [] b h e = (e, tt)
AreFull-push (c ∷ bs) b h e = (h.0, AreFull-push bs b h.1 e)

pub AreFull-take : (n : ℕ) (bs : List (List Point)) → AreFull bs → AreFull (take n bs)
AreFull-take zero bs h = tt
AreFull-take (suc n) [] h = tt
AreFull-take (suc n) (b ∷ bs) h = (h.0, AreFull-take n bs h.1)

pub full_at : (bs : List (List Point)) (n : ℕ) → AreFull bs → n < length bs → length (get_or bs n []) ≡ 120
full_at [] n h lt = absurd (omega arith)
full_at (b ∷ bs) zero h lt = h.0
full_at (b ∷ bs) (suc n) h lt = full_at bs n h.1 (omega arith)

pub joined-append : (bs cs : List (List Point)) → joined_blocks (bs ++ cs) ≡ joined_blocks bs ++ joined_blocks cs
joined-append [] cs = refl
joined-append (b ∷ bs) cs = ap (λ xs. b ++ xs) (joined-append bs cs) ∙ sym (append_assoc b (joined_blocks bs) (joined_blocks cs))

pub joined-push : (bs : List (List Point)) (b : List Point) → joined_blocks (bs ++ b ∷ []) ≡ joined_blocks bs ++ b
joined-push bs b = joined-append bs (b ∷ []) ∙ ap (λ xs. joined_blocks bs ++ xs) (append-nil b)

pub length-joined : (bs : List (List Point)) → AreFull bs → length (joined_blocks bs) ≡ length bs * 120
length-joined [] h = refl
length-joined (b ∷ bs) h = omega (arith, length-append b (joined_blocks bs), h.0, length-joined bs h.1)

-- ---- a sample more
pub pushed_open : (bs : List (List Point)) (rest : List Point) (x : Point) → joined_blocks bs ++ (rest ++ x ∷ []) ≡ (joined_blocks bs ++ rest) ++ x ∷ []
pushed_open bs rest x = sym (append_assoc (joined_blocks bs) rest (x ∷ []))

pub pushed_full : (bs : List (List Point)) (rest : List Point) (x : Point) → joined_blocks (bs ++ (rest ++ x ∷ []) ∷ []) ++ [] ≡ (joined_blocks bs ++ rest) ++ x ∷ []
pushed_full bs rest x = append-nil (joined_blocks (bs ++ (rest ++ x ∷ []) ∷ [])) ∙ joined-push bs (rest ++ x ∷ []) ∙ pushed_open bs rest x

pub pushed_back : (rest : List Point) (x : Point) → length rest ≡ 119 → take 119 (rest ++ x ∷ []) ≡ rest
pushed_back rest x e = ap (λ n. take n (rest ++ x ∷ [])) (sym e) ∙ take-append_seam rest (x ∷ [])

-- ---- the first samples alone
pub take_inside : (n j : ℕ) (bs : List (List Point)) (rest : List Point) → AreFull bs → n < length bs → j ≤ 120
    → take (n * 120 + j) (joined_blocks bs ++ rest) ≡ joined_blocks (take n bs) ++ take j (get_or bs n [])
take_inside n j [] rest h lt le = absurd (omega arith)
take_inside zero j (b ∷ bs) rest h lt le =
    ap (λ k. take k ((b ++ joined_blocks bs) ++ rest)) (none_before j) ∙ ap (take j) (append_assoc b (joined_blocks bs) rest) ∙ take-within j b (joined_blocks bs ++ rest) (omega (arith, h.0))
  where
    none_before : (j : ℕ) → 0 * 120 + j ≡ j
    none_before j = omega arith

    take-within : (j : ℕ) (xs ys : List Point) → j ≤ length xs → take j (xs ++ ys) ≡ take j xs
    take-within zero xs ys le = refl
    take-within (suc j) [] ys le = absurd (omega arith)
    take-within (suc j) (x ∷ xs) ys le = ap (λ zs. x ∷ zs) (take-within j xs ys (omega arith))
take_inside (suc n) j (b ∷ bs) rest h lt le =
    ap (take (suc n * 120 + j)) (append_assoc b (joined_blocks bs) rest)
    ∙ ap (λ k. take k (b ++ (joined_blocks bs ++ rest))) (length_on n j (length b) h.0)
    ∙ take-append-add b (joined_blocks bs ++ rest) (n * 120 + j)
    ∙ ap (λ xs. b ++ xs) (take_inside n j bs rest h.1 (omega arith) le)
    ∙ sym (append_assoc b (joined_blocks (take n bs)) (take j (get_or bs n [])))
  where
    length_on : (n j k : ℕ) → k ≡ 120 → suc n * 120 + j ≡ k + (n * 120 + j)
    length_on n j k e = omega arith

pub take-joined : (j : ℕ) (bs : List (List Point)) (rest : List Point) → AreFull bs → take (length bs * 120 + j) (joined_blocks bs ++ rest) ≡ joined_blocks bs ++ take j rest
take-joined j bs rest h =
    ap (λ n. take (n + j) (joined_blocks bs ++ rest)) (sym (length-joined bs h)) ∙ take-append-add (joined_blocks bs) rest j

-- ---- the blocks of a list
first_blocks-joined : (bs : List (List Point)) (rest : List Point) → AreFull bs → first_blocks (length bs) (joined_blocks bs ++ rest) ≡ bs
first_blocks-joined [] rest h = refl
first_blocks-joined (b ∷ bs) rest h =
    let whole : (b ++ joined_blocks bs) ++ rest ≡ b ++ (joined_blocks bs ++ rest) = append_assoc b (joined_blocks bs) rest in
    let front : take 120 ((b ++ joined_blocks bs) ++ rest) ≡ b = ap (take 120) whole ∙ ap (λ n. take n (b ++ (joined_blocks bs ++ rest))) (sym h.0) ∙ take-append_seam b (joined_blocks bs ++ rest) in
    let back : drop 120 ((b ++ joined_blocks bs) ++ rest) ≡ joined_blocks bs ++ rest = ap (drop 120) whole ∙ ap (λ n. drop n (b ++ (joined_blocks bs ++ rest))) (sym h.0) ∙ drop-append_seam b (joined_blocks bs ++ rest) in
    ap (λ c. c ∷ first_blocks (length bs) (drop 120 ((b ++ joined_blocks bs) ++ rest))) front
    ∙ ap (λ xs. b ∷ first_blocks (length bs) xs) back ∙ ap (λ cs. b ∷ cs) (first_blocks-joined bs rest h.1)

count_blocks : (bs : List (List Point)) (rest : List Point) → AreFull bs → length rest < 120 → length (joined_blocks bs ++ rest) / 120 ≡ length bs
count_blocks bs rest h few =
    ap (λ n. n / 120) (length-append (joined_blocks bs) rest ∙ ap (λ n. n + length rest) (length-joined bs h)) ∙ div-mul-add (length bs) 120 (length rest) few

pub sealed_of-joined : (bs : List (List Point)) (rest : List Point) → AreFull bs → length rest < 120 → sealed_of (joined_blocks bs ++ rest) ≡ bs
unfolding sealed_of
sealed_of-joined bs rest h few = ap (λ n. first_blocks n (joined_blocks bs ++ rest)) (count_blocks bs rest h few) ∙ first_blocks-joined bs rest h

pub open_of-joined : (bs : List (List Point)) (rest : List Point) → AreFull bs → length rest < 120 → open_of (joined_blocks bs ++ rest) ≡ rest
unfolding open_of
open_of-joined bs rest h few =
    ap (λ n. drop (n * 120) (joined_blocks bs ++ rest)) (count_blocks bs rest h few) ∙ ap (λ n. drop n (joined_blocks bs ++ rest)) (sym (length-joined bs h)) ∙ drop-append_seam (joined_blocks bs) rest

-- ---- the last sample
later-append : (t : ℤ) (xs : List Point) (y : Point) (ys : List Point) → is_later t (xs ++ y ∷ ys) ≡ is_later t (y ∷ ys)
later-append t [] y ys = refl
later-append t (x ∷ []) y ys = refl
later-append t (x ∷ z ∷ xs) y ys = later-append t (z ∷ xs) y ys

pub later_open : (t : ℤ) (xs ys : List Point) → length ys ≢ 0 → is_later t (xs ++ ys) ≡ is_later t ys
later_open t xs [] h = absurd (h refl)
later_open t xs (y ∷ ys) h = later-append t xs y ys

pub later_block : {X : Type 0} (f : X → List Point) (t : ℤ) (xs : List X) (x : X) → AreFull (map f xs) → Some x ≡ slice_get xs (length xs - 1) → is_later t (joined_blocks (map f xs)) ≡ is_later t (f x)
later_block f t [] x h e = absurd cc
later_block f t (y ∷ []) x h e = let same : x ≡ y = cc in ap (is_later t) (append-nil (f y)) ∙ ap (λ z. is_later t (f z)) (sym same)
later_block f t (y ∷ z ∷ zs) x h e =
    later_open t (f y) (joined_blocks (map f (z ∷ zs))) (λ none. omega (arith, none, length-joined (map f (z ∷ zs)) h.1))
    ∙ later_block f t (z ∷ zs) x h.1 (e ∙ ap (slice_get (y ∷ z ∷ zs)) (one_back (length zs)))
  where
    one_back : (n : ℕ) → suc (suc n) - 1 ≡ suc (suc n - 1)
    one_back n = omega arith

-- ---- parts of a list that rises
pub Rises-block : (bs : List (List Point)) (n : ℕ) → Rises IsEarlier (joined_blocks bs) → n < length bs → Rises IsEarlier (get_or bs n [])
Rises-block [] n h lt = absurd (omega arith)
Rises-block (b ∷ bs) zero h lt = Rises-left IsEarlier b (joined_blocks bs) h
Rises-block (b ∷ bs) (suc n) h lt = Rises-block bs n (Rises-right IsEarlier b (joined_blocks bs) h) (omega arith)

-- ---- where a sample is
or_assoc : (a b c : Bool) → (a || (b || c)) ≡ ((a || b) || c)
or_assoc true b c = refl
or_assoc false b c = refl

pub holds-append : (s : Point) (xs ys : List Point) → holds s (xs ++ ys) ≡ (holds s xs || holds s ys)
holds-append s [] ys = refl
holds-append s (x ∷ xs) ys = ap (λ b. (int_eq x.0 s.0 && (x.1 == s.1)) || b) (holds-append s xs ys) ∙ or_assoc (int_eq x.0 s.0 && (x.1 == s.1)) (holds s xs) (holds s ys)

above_each : (t : ℤ) (x : Point) (xs : List Point) (i : ℕ) (d : Point) → Rises IsEarlier (x ∷ xs) → int_lt t x.0 ≡ true → i < length (x ∷ xs) → int_lt t (get_or (x ∷ xs) i d).0 ≡ true
above_each t x xs zero d h e lt = e
above_each t x xs (suc i) d h e lt = int_lt-trans t x.0 (get_or xs i d).0 e (above_at x.0 xs i d h.0 (omega arith))

-- what begins after a timestamp does not hold it
pub holds_after : (s : Point) (xs : List Point) → Rises IsEarlier xs → begins_after s.0 xs ≡ true → holds s xs ≡ false
holds_after s [] h e = refl
holds_after s (x ∷ xs) h e = holds_nowhere s (x ∷ xs) (λ i d lt. eq_apart_above (get_or (x ∷ xs) i d).0 s.0 (above_each s.0 x xs i d h e lt) _ refl)

seam_apart : (a b t : ℤ) (c : Bool) → int_lt a b ≡ true → int_lt t b ≡ false → int_eq a t ≡ c → c ≡ false
seam_apart a b t true lt above e = absurd (let same : a ≡ t = (Decides-int_eq a t).0 e in let yes : int_lt t b ≡ true = subst (λ x. int_lt x b ≡ true) same lt in cc)
seam_apart a b t false lt above e = refl

all_seam : (P : Point → Type 0) (xs : List Point) (y : Point) (ys : List Point) → AllByRecursion P (xs ++ y ∷ ys) → P y
all_seam P xs y ys h = let at = AllByRecursion-right P xs (y ∷ ys) h in at.0

-- what is before samples that begin at a timestamp or before it does not hold it
pub holds_before : (s : Point) (xs ys : List Point) → Rises IsEarlier (xs ++ ys) → begins_after s.0 ys ≡ false → holds s xs ≡ false
holds_before s [] ys h e = refl
holds_before s (x ∷ xs) [] h e = absurd cc
holds_before s (x ∷ xs) (y ∷ ys) h e =
    ap (λ b. (b && (x.1 == s.1)) || holds s xs) (seam_apart x.0 y.0 s.0 (int_eq x.0 s.0) (all_seam (λ z. int_lt x.0 z.0 ≡ true) xs y ys h.0) e refl)
    ∙ holds_before s xs (y ∷ ys) h.1 e

begins_with : (t : ℤ) (xs ys : List Point) → length xs ≢ 0 → begins_after t (xs ++ ys) ≡ begins_after t xs
begins_with t [] ys h = absurd (h refl)
begins_with t (x ∷ xs) ys h = refl

Begun-rest : (t : ℤ) (b : List Point) (bs : List (List Point)) (n : ℕ) → Begun t (b ∷ bs) (suc n) → Begun t bs n
Begun-rest t b bs n h = record {
  within = omega (arith, h.within);
  before = λ k lt. h.before (suc k) (omega arith);
  after = λ k le lt. h.after (suc k) (omega arith) (omega arith);
}

pub in_no_block : (s : Point) (bs : List (List Point)) → AreFull bs → Rises IsEarlier (joined_blocks bs) → Begun s.0 bs 0 → holds s (joined_blocks bs) ≡ false
in_no_block s [] h r g = refl
in_no_block s (b ∷ bs) h r g =
    holds_after s (b ++ joined_blocks bs) r (begins_with s.0 b (joined_blocks bs) (λ none. omega (arith, none, h.0)) ∙ g.after 0 (omega arith) (omega arith))

pub in_block : (s : Point) (bs : List (List Point)) (n : ℕ) → AreFull bs → Rises IsEarlier (joined_blocks bs) → Begun s.0 bs (suc n) → holds s (joined_blocks bs) ≡ holds s (get_or bs n [])
in_block s [] n h r g = absurd (omega (arith, g.within))
in_block s (b ∷ bs) zero h r g =
    holds-append s b (joined_blocks bs)
    ∙ ap (λ c. holds s b || c) (in_no_block s bs h.1 (Rises-right IsEarlier b (joined_blocks bs) r) (Begun-rest s.0 b bs 0 g)) ∙ or-false (holds s b)
in_block s (b ∷ []) (suc n) h r g = absurd (omega (arith, g.within))
in_block s (b ∷ c ∷ cs) (suc n) h r g =
    holds-append s b (c ++ joined_blocks cs)
    ∙ ap (λ a. a || holds s (c ++ joined_blocks cs)) (holds_before s b (c ++ joined_blocks cs) r (begins_with s.0 c (joined_blocks cs) (λ none. omega (arith, none, h.1.0)) ∙ g.before 1 (omega arith)))
    ∙ in_block s (c ∷ cs) n h.1 (Rises-right IsEarlier b (c ++ joined_blocks cs) r) (Begun-rest s.0 b (c ∷ cs) (suc n) g)

-- the open block alone holds what it begins with or before
pub in_open : (s : Point) (xs ys : List Point) → Rises IsEarlier (xs ++ ys) → begins_after s.0 ys ≡ false → holds s (xs ++ ys) ≡ holds s ys
in_open s xs ys h e = holds-append s xs ys ∙ ap (λ b. b || holds s ys) (holds_before s xs ys h e)

pub in_sealed : (s : Point) (xs ys : List Point) → Rises IsEarlier (xs ++ ys) → begins_after s.0 ys ≡ true → holds s (xs ++ ys) ≡ holds s xs
in_sealed s xs ys h e = holds-append s xs ys ∙ ap (λ b. holds s xs || b) (holds_after s ys (Rises-right IsEarlier xs ys h) e) ∙ or-false (holds s xs)

-- ---- the search among first timestamps
first_in : (P : Point → Type 0) (xs ys : List Point) → length xs ≢ 0 → AllByRecursion P (xs ++ ys) → (t : ℤ) → ((x : Point) → P x → int_lt t x.0 ≡ true) → int_lt t (first_time xs) ≡ true
first_in P [] ys h all t k = absurd (h refl)
first_in P (x ∷ xs) ys h all t k = k x all.0

first_above : {X : Type 0} (f : X → List Point) (t : ℤ) (xs : List X) (j : ℕ) (d : X) → AreFull (map f xs) → AllByRecursion (λ y. int_lt t y.0 ≡ true) (joined_blocks (map f xs)) → j < length xs → int_lt t (first_time (f (get_or xs j d))) ≡ true
first_above f t [] j d h all lt = absurd (omega arith)
first_above f t (x ∷ xs) zero d h all lt = first_in (λ y. int_lt t y.0 ≡ true) (f x) (joined_blocks (map f xs)) (λ none. omega (arith, none, h.0)) all t (λ x e. e)
first_above f t (x ∷ xs) (suc j) d h all lt = first_above f t xs j d h.1 (AllByRecursion-right (λ y. int_lt t y.0 ≡ true) (f x) (joined_blocks (map f xs)) all) (omega arith)

above_first : (b ys : List Point) → length b ≢ 0 → Rises IsEarlier (b ++ ys) → AllByRecursion (λ y. int_lt (first_time b) y.0 ≡ true) ys
above_first [] ys h r = absurd (h refl)
above_first (x ∷ b) ys h r = AllByRecursion-right (λ y. int_lt x.0 y.0 ≡ true) b ys r.0

-- later blocks begin later
firsts_rise : {X : Type 0} (f : X → List Point) (xs : List X) (i j : ℕ) (d : X) → AreFull (map f xs) → Rises IsEarlier (joined_blocks (map f xs)) → i < j → j < length xs
    → int_lt (first_time (f (get_or xs i d))) (first_time (f (get_or xs j d))) ≡ true
firsts_rise f [] i j d h r lt within = absurd (omega arith)
firsts_rise f (x ∷ xs) i zero d h r lt within = absurd (omega arith)
firsts_rise f (x ∷ xs) zero (suc j) d h r lt within =
    first_above f (first_time (f x)) xs j d h.1 (above_first (f x) (joined_blocks (map f xs)) (λ none. omega (arith, none, h.0)) r) (omega arith)
firsts_rise f (x ∷ xs) (suc i) (suc j) d h r lt within = firsts_rise f xs i j d h.1 (Rises-right IsEarlier (f x) (joined_blocks (map f xs)) r) (omega arith) (omega arith)

pub searchable_blocks : {X : Type 0} (f : X → List Point) (xs : List X) (t : ℤ) → AreFull (map f xs) → Rises IsEarlier (joined_blocks (map f xs)) → IsNonDecreasingBy (λ y. ordering_index (int_cmp (first_time (f y)) t)) xs
searchable_blocks f xs t h r = searchable_from_sorted int_cmp_total (λ x. first_time (f x)) xs t
    (λ k d low high. not_less (first_time (f (get_or xs (k + 1) d))) (first_time (f (get_or xs k d)))
    (int_lt-asymm (first_time (f (get_or xs k d))) (first_time (f (get_or xs (k + 1) d))) (firsts_rise f xs k (k + 1) d h r (omega arith) high)))

at_map : {X : Type 0} (P : List Point → Type 0) (f : X → List Point) (xs : List X) (k : ℕ) → k < length xs → ((d : X) → P (f (get_or xs k d))) → P (get_or (map f xs) k [])
at_map P f [] k lt h = absurd (omega arith)
at_map P f (x ∷ xs) zero lt h = h x
at_map P f (x ∷ xs) (suc k) lt h = at_map P f xs k (omega arith) h

full_map_at : {X : Type 0} (f : X → List Point) (xs : List X) (k : ℕ) (d : X) → AreFull (map f xs) → k < length xs → length (f (get_or xs k d)) ≡ 120
full_map_at f [] k d h lt = absurd (omega arith)
full_map_at f (x ∷ xs) zero d h lt = h.0
full_map_at f (x ∷ xs) (suc k) d h lt = full_map_at f xs k d h.1 (omega arith)

by_first : (t : ℤ) (b : List Point) (c : Bool) → length b ≡ 120 → int_lt t (first_time b) ≡ c → begins_after t b ≡ c
by_first t [] c e h = absurd (omega arith)
by_first t (x ∷ b) c e h = h

pub length-map-of : {X : Type 0} (f : X → List Point) (xs : List X) → length (map f xs) ≡ length xs
length-map-of f [] = refl
length-map-of f (x ∷ xs) = ap suc (length-map-of f xs)

less_of : (a b : ℤ) → int_cmp a b ≡ Less → int_lt b a ≡ false
less_of a b e = int_lt-asymm a b (by_test (int_lt a b) (int_lt b a) e)
  where
    by_test : (c d : Bool) → cond c Less (cond d Greater Equal) ≡ Less → c ≡ true
    by_test true d e = refl
    by_test false true e = absurd cc
    by_test false false e = absurd cc

greater_of : (a b : ℤ) → int_cmp a b ≡ Greater → int_lt b a ≡ true
greater_of a b e = by_test (int_lt a b) (int_lt b a) e
  where
    by_test : (c d : Bool) → cond c Less (cond d Greater Equal) ≡ Greater → d ≡ true
    by_test true d e = absurd cc
    by_test false true e = refl
    by_test false false e = absurd cc

equal_of : (a b : ℤ) → int_cmp a b ≡ Equal → a ≡ b
equal_of a b e = (Decides-int_eq a b).0 (ap is_eq e)

-- a block that begins at the timestamp
pub begun_there : {X : Type 0} (f : X → List Point) (xs : List X) (t u : ℤ) (i : ℕ) → u ≡ t → AreFull (map f xs) → Rises IsEarlier (joined_blocks (map f xs)) → i < length xs
    → ((d : X) → int_cmp (first_time (f (get_or xs i d))) u ≡ Equal) → Begun t (map f xs) (i + 1)
begun_there f xs t u i same h r lt at = record {
  within = omega (arith, length-map-of f xs);
  before = λ k le. at_map (λ b. begins_after t b ≡ false) f xs k (omega arith)
      (λ d. by_first t (f (get_or xs k d)) false (full_map_at f xs k d h (omega arith))
      (⊎_elim (λ low. int_lt-asymm (first_time (f (get_or xs k d))) t (subst (λ v. int_lt (first_time (f (get_or xs k d))) v ≡ true) (equal_of _ _ (at d) ∙ same) (firsts_rise f xs k i d h r low lt)))
      (λ high. let here : k ≡ i = omega arith in
      ap (λ m. int_lt t (first_time (f (get_or xs m d)))) here ∙ ap (int_lt t) (equal_of _ _ (at d) ∙ same) ∙ int_lt-irrefl t)
      (cases_lt k i)));
  after = λ k le high. let inside : k < length xs = omega (arith, length-map-of f xs) in
      at_map (λ b. begins_after t b ≡ true) f xs k inside
      (λ d. by_first t (f (get_or xs k d)) true (full_map_at f xs k d h inside)
      (subst (λ v. int_lt v (first_time (f (get_or xs k d))) ≡ true) (equal_of _ _ (at d) ∙ same) (firsts_rise f xs i k d h r (omega arith) inside)));
}

-- none does
pub begun_between : {X : Type 0} (f : X → List Point) (xs : List X) (t u : ℤ) (i : ℕ) → u ≡ t → AreFull (map f xs) → i ≤ length xs
    → AllWithin (λ y. int_cmp (first_time (f y)) u ≡ Less) xs 0 i × AllWithin (λ y. int_cmp (first_time (f y)) u ≡ Greater) xs i (length xs) → Begun t (map f xs) i
begun_between f xs t u i same h le around = record {
  within = omega (arith, length-map-of f xs);
  before = λ k lt. at_map (λ b. begins_after t b ≡ false) f xs k (omega arith)
      (λ d. by_first t (f (get_or xs k d)) false (full_map_at f xs k d h (omega arith))
      (ap (λ v. int_lt v (first_time (f (get_or xs k d)))) (sym same) ∙ less_of (first_time (f (get_or xs k d))) u (around.0 k d (omega arith) lt)));
  after = λ k low high. let inside : k < length xs = omega (arith, length-map-of f xs) in
      at_map (λ b. begins_after t b ≡ true) f xs k inside
      (λ d. by_first t (f (get_or xs k d)) true (full_map_at f xs k d h inside)
      (ap (λ v. int_lt v (first_time (f (get_or xs k d)))) (sym same) ∙ greater_of (first_time (f (get_or xs k d))) u (around.1 k d low inside)));
}

-- ---- what the boxes of blocks hold
pub map-push : {X : Type 0} (f : X → List Point) (xs : List X) (x : X) → map f (xs ++ x ∷ []) ≡ map f xs ++ f x ∷ []
map-push f [] x = refl
map-push f (y ∷ xs) x = ap (λ ys. f y ∷ ys) (map-push f xs x)

map-first : {X : Type 0} (f : X → List Point) (n : ℕ) (xs : List X) → map f (take n xs) ≡ take n (map f xs)
map-first f zero xs = refl
map-first f (suc n) [] = refl
map-first f (suc n) (x ∷ xs) = ap (λ ys. f x ∷ ys) (map-first f n xs)

pub map_at : {X : Type 0} (f : X → List Point) (xs : List X) (n : ℕ) (x : X) → n < length xs → x ≡ get_or xs n x → f x ≡ get_or (map f xs) n []
map_at f [] n x lt e = absurd (omega arith)
map_at f (y ∷ xs) zero x lt e = ap f e
map_at f (y ∷ xs) (suc n) x lt e = map_at f xs n x (omega arith) e

length-first : {A : Type 0} (n : ℕ) (xs : List A) → n ≤ length xs → length (take n xs) ≡ n
length-first zero xs h = refl
length-first (suc n) [] h = absurd (omega arith)
length-first (suc n) (x ∷ xs) h = ap suc (length-first n xs (omega arith))

no_samples_left : (xs : List Point) → true ≡ nat_eq (length xs) 0 → xs ≡ []
no_samples_left [] e = refl
no_samples_left (x ∷ xs) e = absurd (omega (arith, eqb-true (length (x ∷ xs)) 0 (sym e)))

pub later_rest : (t : ℤ) (xs rest : List Point) (n : ℕ) → false ≡ nat_eq n 0 → n ≡ length rest → is_later t rest ≡ is_later t (xs ++ rest)
later_rest t xs rest n e same = sym (later_open t xs rest (λ none. let yes : nat_eq n 0 ≡ true = eq-eqb n 0 (same ∙ none) in absurd (cc (yes, e))))

pub later_sealed : {X : Type 0} (f : X → List Point) (t : ℤ) (xs : List X) (x : X) (rest : List Point) (n : ℕ) → AreFull (map f xs) → true ≡ nat_eq n 0 → n ≡ length rest → Some x ≡ slice_get xs (length xs - 1)
    → is_later t (f x) ≡ is_later t (joined_blocks (map f xs) ++ rest)
later_sealed f t xs x rest n h none same e =
    sym (ap (λ ys. is_later t (joined_blocks (map f xs) ++ ys)) (no_samples_left rest (none ∙ ap (λ m. nat_eq m 0) same)) ∙ ap (is_later t) (append-nil (joined_blocks (map f xs))) ∙ later_block f t xs x h e)

pub length-blocks : {X : Type 0} (f : X → List Point) (xs : List X) (rest all : List Point) → AreFull (map f xs) → joined_blocks (map f xs) ++ rest ≡ all → length all ≡ length xs * 120 + length rest
length-blocks f xs rest all h e =
    omega (arith, ap length e, length-append (joined_blocks (map f xs)) rest, length-joined (map f xs) h, length-map-of f xs)

-- ---- blocks that change
pub AreBlocks-open : (bs : List (List Point)) (rest new : List Point) (x : Point) (room more : ℕ) → AreBlocks bs rest room → new ≡ rest ++ x ∷ [] → length new < 120 → room ≤ more
    → length (joined_blocks bs ++ rest) < 2 ^ 60 → AreBlocks bs new more
AreBlocks-open bs rest new x room more h e few le fits = record {
  full = h.full;
  few = few;
  enough = λ some. omega (arith, h.enough some, le);
  fits = omega (arith, ap (λ xs. length (joined_blocks bs ++ xs)) e, ap length (pushed_open bs rest x), length_push (joined_blocks bs ++ rest) x, fits);
}

pub AreBlocks-sealed : (bs cs : List (List Point)) (rest new : List Point) (x : Point) (room more : ℕ) → AreBlocks bs rest room → cs ≡ bs ++ (rest ++ x ∷ []) ∷ [] → length (rest ++ x ∷ []) ≡ 120
    → new ≡ [] → 119 ≤ more → length (joined_blocks bs ++ rest) < 2 ^ 60 → AreBlocks cs new more
AreBlocks-sealed bs cs rest new x room more h e len none enough fits =
    let made : AreBlocks (bs ++ (rest ++ x ∷ []) ∷ []) [] more = record {
      full = AreFull-push bs (rest ++ x ∷ []) h.full len;
      few = lit≤ tt;
      enough = λ some. enough;
      fits = omega (arith, ap length (pushed_full bs rest x), length_push (joined_blocks bs ++ rest) x, fits);
    } in
    subst (λ ys. AreBlocks cs ys more) (sym none) (subst (λ ds. AreBlocks ds [] more) (sym e) made)

pub AreBlocks-same : (bs cs : List (List Point)) (rest new : List Point) (room more : ℕ) → AreBlocks bs rest room → cs ≡ bs → new ≡ rest → room ≤ more → AreBlocks cs new more
AreBlocks-same bs cs rest new room more h e f le =
    let made : AreBlocks bs rest more = record { full = h.full; few = h.few; enough = λ some. omega (arith, h.enough some, le); fits = h.fits } in
    subst (λ ys. AreBlocks cs ys more) (sym f) (subst (λ ds. AreBlocks ds rest more) (sym e) made)

pub AreBlocks-reopened : {X : Type 0} (f : X → List Point) (xs ys : List X) (x : X) (rest new : List Point) (room more n j : ℕ) → AreBlocks (map f xs) rest room → ys ≡ take n xs
    → x ≡ get_or xs n x → n < length xs → new ≡ take j (f x) → j < 120 → room ≤ more → AreBlocks (map f ys) new more
AreBlocks-reopened f xs ys x rest new room more n j h e here lt g small le =
    let bs = map f xs in
    let within : n < length bs = omega (arith, length-map-of f xs) in
    let block : f x ≡ get_or bs n [] = map_at f xs n x lt here in
    let len : length (f x) ≡ 120 = ap length block ∙ full_at bs n h.full within in
    let full : AreFull (take n bs) = AreFull-take n bs h.full in
    let made : AreBlocks (take n bs) (take j (f x)) more = record {
      full = full;
      few = omega (arith, length-first j (f x) (omega (arith, len)));
      enough = λ some. omega (arith, h.enough (omega arith), le);
      fits = omega (
        arith,
        length-append (joined_blocks (take n bs)) (take j (f x)),
        length-joined (take n bs) full,
        length-first n bs (omega arith),
        length-first j (f x) (omega (arith, len)),
        length-append (joined_blocks bs) rest,
        length-joined bs h.full,
        h.fits,
      );
    } in
    subst (λ zs. AreBlocks (map f ys) zs more) (sym g) (subst (λ zs. AreBlocks (map f zs) (take j (f x)) more) (sym e) (subst (λ cs. AreBlocks cs (take j (f x)) more) (sym (map-first f n xs)) made))

pub reopened : {X : Type 0} (f : X → List Point) (xs ys : List X) (x : X) (rest new all : List Point) (len n j : ℕ) → AreFull (map f xs) → ys ≡ take n xs
    → x ≡ get_or xs n x → n < length xs → new ≡ take j (f x) → j < 120 → len ≡ n * 120 + j → joined_blocks (map f xs) ++ rest ≡ all → joined_blocks (map f ys) ++ new ≡ take len all
reopened f xs ys x rest new all len n j h e here lt g small at whole =
    ap (λ zs. joined_blocks (map f zs) ++ new) e ∙ ap (λ bs. joined_blocks bs ++ new) (map-first f n xs) ∙ ap (λ zs. joined_blocks (take n (map f xs)) ++ zs) (g ∙ ap (take j) (map_at f xs n x lt here))
    ∙ sym (take_inside n j (map f xs) rest h (omega (arith, length-map-of f xs)) (omega arith))
    ∙ ap (λ k. take k (joined_blocks (map f xs) ++ rest)) (sym at) ∙ ap (take len) whole

pub cut_open : {X : Type 0} (f : X → List Point) (xs : List X) (rest new all : List Point) (len n j : ℕ) → AreFull (map f xs) → length rest < 120 → length xs ≤ n → len ≡ n * 120 + j
    → len ≤ length all → new ≡ take j rest → joined_blocks (map f xs) ++ rest ≡ all → joined_blocks (map f xs) ++ new ≡ take len all
cut_open f xs rest new all len n j h few above at le g whole =
    let count : length all ≡ length xs * 120 + length rest = length-blocks f xs rest all h whole in
    let same : n ≡ length (map f xs) = omega (arith, length-map-of f xs, count, few, above, at, le) in
    ap (λ ys. joined_blocks (map f xs) ++ ys) g ∙ sym (take-joined j (map f xs) rest h)
    ∙ ap (λ k. take k (joined_blocks (map f xs) ++ rest)) (sym (at ∙ ap (λ m. m * 120 + j) same)) ∙ ap (take len) whole

pub Begun-same : (t u : ℤ) (bs cs : List (List Point)) (n m : ℕ) → u ≡ t → cs ≡ bs → n ≡ m → Begun u cs n → Begun t bs m
Begun-same t u bs cs n m e f g h = subst (λ v. Begun v bs m) e (subst (λ ds. Begun u ds m) f (subst (Begun u cs) g h))

pub pushed_sealed : (bs cs : List (List Point)) (rest new both all : List Point) (x : Point) → cs ≡ bs ++ both ∷ [] → both ≡ rest ++ x ∷ [] → new ≡ [] → joined_blocks bs ++ rest ≡ all
    → joined_blocks cs ++ new ≡ all ++ x ∷ []
pushed_sealed bs cs rest new both all x e f g whole =
    ap (λ ds. joined_blocks ds ++ new) (e ∙ ap (λ b. bs ++ b ∷ []) f) ∙ ap (λ ys. joined_blocks (bs ++ (rest ++ x ∷ []) ∷ []) ++ ys) g ∙ pushed_full bs rest x ∙ ap (λ ys. ys ++ x ∷ []) whole

pub put_back : (bs : List (List Point)) (rest new both all : List Point) (x : Point) → both ≡ rest ++ x ∷ [] → new ≡ take 119 both → length rest ≡ 119 → joined_blocks bs ++ rest ≡ all → joined_blocks bs ++ new ≡ all
put_back bs rest new both all x e f len whole = ap (λ ys. joined_blocks bs ++ ys) (f ∙ ap (take 119) e ∙ pushed_back rest x len) ∙ whole

-- ---- the blocks of a list that grows
first_more : (n m : ℕ) (xs : List Point) → n ≤ m → Begins (first_blocks n xs) (first_blocks m xs)
first_more zero m xs le = (first_blocks m xs, refl)
first_more (suc n) zero xs le = absurd (omega arith)
first_more (suc n) (suc m) xs le = let rest = first_more n m (drop 120 xs) (omega arith) in (rest.0, ap (λ bs. take 120 xs ∷ bs) rest.1)

drop-front : (n : ℕ) (xs ys : List Point) → n ≤ length xs → drop n (xs ++ ys) ≡ drop n xs ++ ys
drop-front zero xs ys le = refl
drop-front (suc n) [] ys le = absurd (omega arith)
drop-front (suc n) (x ∷ xs) ys le = drop-front n xs ys (omega arith)

take-front : (n : ℕ) (xs ys : List Point) → n ≤ length xs → take n (xs ++ ys) ≡ take n xs
take-front zero xs ys le = refl
take-front (suc n) [] ys le = absurd (omega arith)
take-front (suc n) (x ∷ xs) ys le = ap (λ zs. x ∷ zs) (take-front n xs ys (omega arith))

first_front : (n : ℕ) (xs ys : List Point) → n * 120 ≤ length xs → first_blocks n (xs ++ ys) ≡ first_blocks n xs
first_front zero xs ys le = refl
first_front (suc n) xs ys le =
    let room : 120 ≤ length xs = omega arith in
    ap (λ b. b ∷ first_blocks n (drop 120 (xs ++ ys))) (take-front 120 xs ys room) ∙ ap (λ zs. take 120 xs ∷ first_blocks n zs) (drop-front 120 xs ys room)
    ∙ ap (λ bs. take 120 xs ∷ bs) (first_front n (drop 120 xs) ys (omega (arith, length-drop 120 xs)))

more_blocks : (xs ys : List Point) → length xs / 120 ≤ length (xs ++ ys) / 120
more_blocks xs ys = omega (arith, length-append xs ys)

sealed_more : (xs more : List Point) → Begins (sealed_of xs) (sealed_of (xs ++ more))
unfolding sealed_of
sealed_more xs more =
    let n = length xs / 120 in
    subst (λ bs. Begins bs (first_blocks (length (xs ++ more) / 120) (xs ++ more))) (first_front n xs more (omega arith)) (first_more n (length (xs ++ more) / 120) (xs ++ more) (more_blocks xs more))

pub sealed_begins : (xs ys : List Point) → Begins xs ys → Begins (sealed_of xs) (sealed_of ys)
sealed_begins xs ys h = subst (λ zs. Begins (sealed_of xs) (sealed_of zs)) (sym h.1) (sealed_more xs h.0)

drop-none : (k : ℕ) → drop k (let none : List Point = [] in none) ≡ []
drop-none zero = refl
drop-none (suc k) = refl

first_whole : (n : ℕ) (xs : List Point) → n * 120 ≤ length xs → joined_blocks (first_blocks n xs) ++ drop (n * 120) xs ≡ xs
first_whole zero xs le = refl
first_whole (suc n) xs le =
    let behind : drop (suc n * 120) xs ≡ drop (n * 120) (drop 120 xs) = drop_twice (n * 120) 120 xs (suc n * 120) (omega arith) in
    append_assoc (take 120 xs) (joined_blocks (first_blocks n (drop 120 xs))) (drop (suc n * 120) xs)
    ∙ ap (λ ys. take 120 xs ++ (joined_blocks (first_blocks n (drop 120 xs)) ++ ys)) behind
    ∙ ap (λ ys. take 120 xs ++ ys) (first_whole n (drop 120 xs) (omega (arith, length-drop 120 xs))) ∙ take-append-drop 120 xs
  where
    drop_twice : (n m : ℕ) (xs : List Point) (k : ℕ) → k ≡ n + m → drop k xs ≡ drop n (drop m xs)
    drop_twice n zero xs k e = ap (λ j. drop j xs) (omega arith)
    drop_twice n (suc m) [] k e = drop-none k ∙ sym (drop-none n)
    drop_twice n (suc m) (x ∷ xs) zero e = absurd (omega arith)
    drop_twice n (suc m) (x ∷ xs) (suc k) e = drop_twice n m xs k (omega arith)

first_full : (n : ℕ) (xs : List Point) → n * 120 ≤ length xs → AreFull (first_blocks n xs)
first_full zero xs le = tt
first_full (suc n) xs le = (length-first 120 xs (omega arith), first_full n (drop 120 xs) (omega (arith, length-drop 120 xs)))

pub sealed_full : (xs : List Point) → AreFull (sealed_of xs)
unfolding sealed_of
sealed_full xs = first_full (length xs / 120) xs (omega arith)

pub sealed_whole : (xs : List Point) → joined_blocks (sealed_of xs) ++ open_of xs ≡ xs
unfolding sealed_of open_of
sealed_whole xs = first_whole (length xs / 120) xs (omega arith)

pub sealed_none : (xs : List Point) → [] ≡ xs → [] ≡ sealed_of xs
unfolding sealed_of
sealed_none xs e = ap (λ ys. first_blocks (length ys / 120) ys) e

pub open_none : (xs : List Point) → [] ≡ xs → [] ≡ open_of xs
unfolding open_of
open_none xs e = ap (λ ys. drop (length ys / 120 * 120) ys) e

-- ---- the samples from a number on
drop_on : (xs ys : List Point) (n : ℕ) → drop (length xs + n) (xs ++ ys) ≡ drop n ys
drop_on [] ys n = ap (λ k. drop k ys) (none_more n)
  where
    none_more : (n : ℕ) → 0 + n ≡ n
    none_more n = omega arith
drop_on (x ∷ xs) ys n = ap (λ k. drop k (x ∷ (xs ++ ys))) (one_more (length xs) n) ∙ drop_on xs ys n
  where
    one_more : (k n : ℕ) → suc k + n ≡ suc (k + n)
    one_more k n = omega arith

drop_inside : (n j : ℕ) (bs : List (List Point)) (rest : List Point) → AreFull bs → n < length bs → j ≤ 120
    → drop (n * 120 + j) (joined_blocks bs ++ rest) ≡ drop j (get_or bs n []) ++ (joined_blocks (drop (suc n) bs) ++ rest)
drop_inside n j [] rest h lt le = absurd (omega arith)
drop_inside zero j (b ∷ bs) rest h lt le =
    ap (λ k. drop k ((b ++ joined_blocks bs) ++ rest)) (none_before j) ∙ ap (drop j) (append_assoc b (joined_blocks bs) rest) ∙ drop-append-le j b (joined_blocks bs ++ rest) (omega (arith, h.0))
  where
    none_before : (j : ℕ) → 0 * 120 + j ≡ j
    none_before j = omega arith
drop_inside (suc n) j (b ∷ bs) rest h lt le =
    ap (drop (suc n * 120 + j)) (append_assoc b (joined_blocks bs) rest)
    ∙ ap (λ k. drop k (b ++ (joined_blocks bs ++ rest))) (length_on n j (length b) h.0)
    ∙ drop_on b (joined_blocks bs ++ rest) (n * 120 + j)
    ∙ drop_inside n j bs rest h.1 (omega arith) le
  where
    length_on : (n j k : ℕ) → k ≡ 120 → suc n * 120 + j ≡ k + (n * 120 + j)
    length_on n j k e = omega arith

map-last : {X : Type 0} (f : X → List Point) (n : ℕ) (xs : List X) → map f (drop n xs) ≡ drop n (map f xs)
map-last f zero xs = refl
map-last f (suc n) [] = refl
map-last f (suc n) (x ∷ xs) = map-last f n xs

-- what is copied from the middle of a full block on
pub copied_inside : {X : Type 0} (f : X → List Point) (xs ys : List X) (x : X) (rest all old one two : List Point) (start n j : ℕ) → AreFull (map f xs) → n < length xs → start ≡ n * 120 + j → j < 120
    → x ≡ get_or xs n x → ys ≡ drop (n + 1) xs → one ≡ old ++ drop j (f x) → two ≡ one ++ joined_blocks (map f ys) → joined_blocks (map f xs) ++ rest ≡ all → two ++ rest ≡ old ++ drop start all
copied_inside f xs ys x rest all old one two start n j h lt at small here after first second whole =
    let block : List Point = drop j (f x) in
    let more : List Point = joined_blocks (map f ys) in
    let next : n + 1 ≡ suc n = omega arith in
    let left : map f ys ≡ drop (suc n) (map f xs) = ap (map f) (after ∙ ap (λ k. drop k xs) next) ∙ map-last f (suc n) xs in
    let tail : drop start all ≡ block ++ (more ++ rest) =
    ap (drop start) (sym whole) ∙ ap (λ k. drop k (joined_blocks (map f xs) ++ rest)) at
    ∙ drop_inside n j (map f xs) rest h (omega (arith, length-map-of f xs)) (omega arith)
    ∙ ap (λ b. drop j b ++ (joined_blocks (drop (suc n) (map f xs)) ++ rest)) (sym (map_at f xs n x lt here))
    ∙ ap (λ bs. block ++ (joined_blocks bs ++ rest)) (sym left) in
    ap (λ zs. zs ++ rest) (second ∙ ap (λ zs. zs ++ more) first ∙ append_assoc old block more)
    ∙ append_assoc old (block ++ more) rest ∙ ap (λ zs. old ++ zs) (append_assoc block more rest ∙ sym tail)

-- what is copied of the open block
pub copied_open : {X : Type 0} (f : X → List Point) (xs : List X) (rest all : List Point) (start n j : ℕ) → AreFull (map f xs) → length rest < 120 → length xs ≤ n → start ≡ n * 120 + j
    → start ≤ length all → joined_blocks (map f xs) ++ rest ≡ all → drop j rest ≡ drop start all
copied_open f xs rest all start n j h few above at le whole =
    let count : length all ≡ length xs * 120 + length rest = length-blocks f xs rest all h whole in
    let same : n ≡ length (map f xs) = omega (arith, length-map-of f xs, count, few, above, at, le) in
    let seam : length (map f xs) * 120 + j ≡ length (joined_blocks (map f xs)) + j = ap (λ k. k + j) (sym (length-joined (map f xs) h)) in
    sym (ap (drop start) (sym whole) ∙ ap (λ k. drop k (joined_blocks (map f xs) ++ rest)) (at ∙ ap (λ m. m * 120 + j) same ∙ seam) ∙ drop_on (joined_blocks (map f xs)) rest j)

pub long_enough : {X : Type 0} (f : X → List Point) (xs : List X) (rest all : List Point) (start n j : ℕ) → AreFull (map f xs) → length rest < 120 → length xs ≤ n → start ≡ n * 120 + j
    → start ≤ length all → joined_blocks (map f xs) ++ rest ≡ all → j ≤ length rest
long_enough f xs rest all start n j h few above at le whole =
    let count : length all ≡ length xs * 120 + length rest = length-blocks f xs rest all h whole in
    omega (arith, count, few, above, at, le)

-- a part without an end is all that is left
pub all_taken : {X : Type 0} (k : ℕ) (xs : List X) → take (length xs - k) (drop k xs) ≡ drop k xs
all_taken k xs = ap (λ n. take n (drop k xs)) (sym (length-drop k xs)) ∙ take-length (drop k xs)
