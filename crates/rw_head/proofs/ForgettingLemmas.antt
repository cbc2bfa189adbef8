-- Lists whose first samples are gone.
use Rattle.std.proofs.Common.{◌≡◌, ◌≢◌, ℕ, ◌+◌, ◌-◌, ◌<◌, ◌≤◌, zero, suc, ℤ, int_lt, List, [], ◌∷◌, ◌++◌, take, drop, set, length, map, get_or, slice_get, nat_eq, eqb-true, eq-eqb, Some, None, Bool, true, false, cond, ◌||◌, refl, sym, ◌∙◌, ap, subst, append_assoc, arith}
use Rattle.std.proofs.Math.Seq.{drop-append_seam, take-append-add}
use Rattle.std.proofs.lemmas.Bool.{true≢false}
use Rattle.std.proofs.lemmas.List.{append-nil, get_or-set_same, get_or-set_other, length-append, length-set, length_push, length-take-le, take-append-drop, take_all}
use Rattle.rw_types.specs.Rising.{Rises}
use Rattle.rw_types.proofs.shared.AllLemmas.{AllByRecursion-append}
use Rattle.rw_types.proofs.shared.RisingLemmas.{Rises-left, Rises-take}
use Rattle.rw_head.specs.Blocks.{joined_blocks, AreFull}
use Rattle.rw_head.specs.Forgetting.{last_time, with_gone}
use Rattle.rw_head.specs.Lists.{IsEarlier, Lists, no_lists}
use Rattle.rw_head.specs.Order.{Point, is_later, holds, accept_one}
use Rattle.rw_head.specs.inner.Blocks.{AreBlocks}
use Rattle.rw_head.specs.inner.Forgetting.{HasForgotten, HasMoved, AreWhole, AreListed}
use Rattle.rw_head.specs.inner.Lists.{IsStagedAt}
use Rattle.rw_head.proofs.shared.OrderLemmas.{Rises-later, earlier_each, holds_earlier}
use Rattle.rw_head.proofs.BlockLemmas.{later_open, holds-append}
use Rattle.rw_head.proofs.NameLemmas.{get_or_any}

-- ---- the last sample
pub last_time-at : (xs : List Point) (n : ℕ) (x : Point) → length xs ≡ suc n → x ≡ get_or xs n x → last_time xs ≡ Some x.0
last_time-at [] n x len here = absurd (omega arith)
last_time-at (y ∷ []) zero x len here = ap (λ p. Some p.0) (sym here)
last_time-at (y ∷ []) (suc n) x len here = absurd (omega arith)
last_time-at (y ∷ z ∷ zs) zero x len here = absurd (omega arith)
last_time-at (y ∷ z ∷ zs) (suc n) x len here = last_time-at (z ∷ zs) n x (omega arith) here

last_time-on : (xs : List Point) (y : Point) (ys : List Point) → last_time (xs ++ y ∷ ys) ≡ last_time (y ∷ ys)
last_time-on [] y ys = refl
last_time-on (x ∷ []) y ys = refl
last_time-on (x ∷ z ∷ xs) y ys = last_time-on (z ∷ xs) y ys

pub last_time-append : (xs ys : List Point) → 0 < length ys → last_time (xs ++ ys) ≡ last_time ys
last_time-append xs [] some = absurd (omega arith)
last_time-append xs (y ∷ ys) some = last_time-on xs y ys

pub later_some : (t l : ℤ) (xs : List Point) → last_time xs ≡ Some l → is_later t xs ≡ int_lt l t
later_some t l [] e = absurd cc
later_some t l (x ∷ []) e = let same : x.0 ≡ l = cc in ap (λ y. int_lt y t) same
later_some t l (x ∷ y ∷ ys) e = later_some t l (y ∷ ys) e

pub later_none : (t : ℤ) (xs : List Point) → last_time xs ≡ None → is_later t xs ≡ true
later_none t [] e = refl
later_none t (x ∷ []) e = absurd cc
later_none t (x ∷ y ∷ ys) e = later_none t (y ∷ ys) e

-- ---- the order rule on a list and on what is left of it
pub later_with_gone : (t : ℤ) (gone xs : List Point) → is_later t gone ≡ true → is_later t (gone ++ xs) ≡ is_later t xs
later_with_gone t gone [] later = ap (is_later t) (append-nil gone) ∙ later
later_with_gone t gone (x ∷ xs) later = later_open t gone (x ∷ xs) (λ none. omega (arith, none))

pub holds_after_gone : (s : Point) (gone xs : List Point) → Rises IsEarlier (gone ++ xs) → is_later s.0 gone ≡ true → holds s (gone ++ xs) ≡ holds s xs
holds_after_gone s gone xs h later =
    holds-append s gone xs ∙ ap (λ b. b || holds s xs) (holds_earlier s gone (earlier_each s.0 s.1 gone (Rises-left IsEarlier gone xs h) later))

-- how a list without what is gone judges a sample
pub accept_one-with_gone : (gone xs : List Point) (s : Point) → Rises IsEarlier (gone ++ xs) → is_later s.0 gone ≡ true → accept_one (gone ++ xs) s ≡ with_gone gone (accept_one xs s)
accept_one-with_gone gone xs s h later =
    ap (λ b. cond b (Some ((gone ++ xs) ++ s ∷ [])) (cond (holds s (gone ++ xs)) (Some (gone ++ xs)) None)) (later_with_gone s.0 gone xs later)
    ∙ ap (λ c. cond (is_later s.0 xs) (Some ((gone ++ xs) ++ s ∷ [])) (cond c (Some (gone ++ xs)) None)) (holds_after_gone s gone xs h later)
    ∙ by_tests (is_later s.0 xs) (holds s xs)
  where
    by_tests : (b c : Bool) → cond b (Some ((gone ++ xs) ++ s ∷ [])) (cond c (Some (gone ++ xs)) None) ≡ with_gone gone (cond b (Some (xs ++ s ∷ [])) (cond c (Some xs) None))
    by_tests true c = ap Some (append_assoc gone xs (s ∷ []))
    by_tests false true = refl
    by_tests false false = refl

-- a sample after all others is appended
pub known_later : (gone xs ys : List Point) (s : Point) → Rises IsEarlier (gone ++ xs) → is_later s.0 gone ≡ true → is_later s.0 xs ≡ true → ys ≡ xs ++ s ∷ [] → accept_one (gone ++ xs) s ≡ Some (gone ++ ys)
known_later gone xs ys s h after later e =
    accept_one-with_gone gone xs s h after ∙ ap (λ b. with_gone gone (cond b (Some (xs ++ s ∷ [])) (cond (holds s xs) (Some xs) None))) later ∙ ap (λ zs. Some (gone ++ zs)) (sym e)

-- a repeat changes nothing, and any other is refused
pub known_repeat : (gone xs : List Point) (s : Point) → Rises IsEarlier (gone ++ xs) → is_later s.0 gone ≡ true → is_later s.0 xs ≡ false → holds s xs ≡ true → accept_one (gone ++ xs) s ≡ Some (gone ++ xs)
known_repeat gone xs s h after later held =
    accept_one-with_gone gone xs s h after ∙ ap (λ b. with_gone gone (cond b (Some (xs ++ s ∷ [])) (cond (holds s xs) (Some xs) None))) later ∙ ap (λ b. with_gone gone (cond b (Some xs) None)) held

pub known_refused : (gone xs : List Point) (s : Point) → Rises IsEarlier (gone ++ xs) → is_later s.0 gone ≡ true → is_later s.0 xs ≡ false → holds s xs ≡ false → accept_one (gone ++ xs) s ≡ None
known_refused gone xs s h after later held =
    accept_one-with_gone gone xs s h after ∙ ap (λ b. with_gone gone (cond b (Some (xs ++ s ∷ [])) (cond (holds s xs) (Some xs) None))) later ∙ ap (λ b. with_gone gone (cond b (Some xs) None)) held

-- the list after it
pub pushed_after_gone : (kept : ℕ) (gone xs ys : List Point) (t : ℤ) (w : ℕ) → ys ≡ xs ++ (t, w) ∷ [] → is_later t gone ≡ true → is_later t xs ≡ true → (kept ≤ length xs) × Rises IsEarlier (gone ++ xs)
    → (kept ≤ length ys) × Rises IsEarlier (gone ++ ys)
pushed_after_gone kept gone xs ys t w e after later h =
    let whole : (gone ++ xs) ++ (t, w) ∷ [] ≡ gone ++ ys = append_assoc gone xs ((t, w) ∷ []) ∙ ap (λ zs. gone ++ zs) (sym e) in
    (omega (arith, ap length e, length-append xs ((t, w) ∷ []), h.0), subst (Rises IsEarlier) whole (Rises-later (gone ++ xs) t w h.1 (later_with_gone t gone xs after ∙ later)))

-- ---- the first samples of what is left
pub take_after_gone : (gone xs : List Point) (k : ℕ) → take (length gone + k) (gone ++ xs) ≡ gone ++ take k xs
take_after_gone gone xs k = take-append-add gone xs k

pub Rises-first : (gone xs : List Point) (k : ℕ) → Rises IsEarlier (gone ++ xs) → Rises IsEarlier (gone ++ take k xs)
Rises-first gone xs k h = subst (Rises IsEarlier) (take_after_gone gone xs k) (Rises-take IsEarlier (length gone + k) (gone ++ xs) h)

pub front_and_rest : (gone xs : List Point) (k : ℕ) → gone ++ xs ≡ (gone ++ take k xs) ++ drop k xs
front_and_rest gone xs k = ap (λ ys. gone ++ ys) (sym (take-append-drop k xs)) ∙ sym (append_assoc gone (take k xs) (drop k xs))

pub more_after_gone : (gone xs : List Point) (k : ℕ) → drop (length (gone ++ take k xs)) (gone ++ xs) ≡ drop k xs
more_after_gone gone xs k = ap (drop (length (gone ++ take k xs))) (front_and_rest gone xs k) ∙ drop-append_seam (gone ++ take k xs) (drop k xs)

pub count_after_gone : (gone xs : List Point) (k : ℕ) → k ≤ length xs → length xs - k ≡ length (gone ++ xs) - length (gone ++ take k xs)
count_after_gone gone xs k le = omega (arith, length-append gone xs, length-append gone (take k xs), length-take-le k xs le)

pub all_after_gone : (gone xs : List Point) (k : ℕ) → length xs ≤ k → gone ++ take k xs ≡ gone ++ xs
all_after_gone gone xs k le = ap (λ ys. gone ++ ys) (take_all k xs le)

pub none_after_gone : (gone xs : List Point) → gone ≡ [] → gone ++ xs ≡ xs
none_after_gone gone xs none = ap (λ ys. ys ++ xs) none

-- ---- the first block is moved to what is gone
pub first_same : {X : Type 0} (f : X → List Point) (xs : List X) (b x : X) → Some b ≡ slice_get xs 0 → x ≡ get_or xs 0 x → f b ≡ f x
first_same f [] b x e here = absurd cc
first_same f (y ∷ ys) b x e here = let one : b ≡ y = cc in ap f (one ∙ sym here)

pub moved_first : {X : Type 0} (f : X → List Point) (t : ℤ) (xs ys : List X) (x : X) (rest old new gone after : List Point) → x ≡ get_or xs 0 x → length rest < 120 → ys ≡ take 0 xs ++ drop 1 xs
    → AreFull (map f xs) → Rises IsEarlier old → is_later t (f x) ≡ true → joined_blocks (map f xs) ++ rest ≡ old → new ≡ joined_blocks (map f ys) ++ rest → after ≡ gone ++ f x → 120 < length old
    → HasMoved t old new gone after
moved_first f t [] ys x rest old new gone after here few e full h later view left back many = absurd (omega (arith, few, many, ap length view))
moved_first f t (z ∷ zs) ys x rest old new gone after here few e full h later view left back many =
    let same : x ≡ z = here in
    let len : length (f x) ≡ 120 = ap (λ y. length (f y)) same ∙ full.0 in
    let front : old ≡ f x ++ new =
    sym view ∙ append_assoc (f z) (joined_blocks (map f zs)) rest ∙ ap (λ y. f y ++ (joined_blocks (map f zs) ++ rest)) (sym same)
    ∙ ap (λ bs. f x ++ (joined_blocks (map f bs) ++ rest)) (sym e) ∙ ap (λ ns. f x ++ ns) (sym left) in
    record {
      block = f x;
      full = len;
      front = front;
      back = back;
      earlier = earlier_each t 0 (f x) (Rises-left IsEarlier (f x) new (subst (Rises IsEarlier) front h)) later;
      more = omega (arith, many, ap length front, length-append (f x) new, len);
    }

pub AreBlocks-tail : {X : Type 0} (f : X → List Point) (xs ys : List X) (rest : List Point) (room : ℕ) → ys ≡ take 0 xs ++ drop 1 xs → 0 < length xs → AreBlocks (map f xs) rest room → AreBlocks (map f ys) rest room
AreBlocks-tail f [] ys rest room e some h = absurd (omega (arith, some))
AreBlocks-tail f (z ∷ zs) ys rest room e some h =
    subst (λ bs. AreBlocks (map f bs) rest room) (sym e)
    (record {
      full = h.full.1;
      few = h.few;
      enough = λ lt. h.enough (omega arith);
      fits = omega (arith, h.fits, ap length (append_assoc (f z) (joined_blocks (map f zs)) rest), length-append (f z) (joined_blocks (map f zs) ++ rest));
    })

-- to contracts nothing is lost
pub moved_whole : (t : ℤ) (old new gone after : List Point) → HasMoved t old new gone after → after ++ new ≡ gone ++ old
moved_whole t old new gone after h =
    ap (λ xs. xs ++ new) h.back ∙ append_assoc gone h.block new ∙ ap (λ xs. gone ++ xs) (sym h.front)

pub moved_less : (t : ℤ) (old new gone after : List Point) → HasMoved t old new gone after → length gone < length after
moved_less t old new gone after h = omega (arith, ap length h.back, length-append gone h.block, h.full)

pub forgotten_none : (t : ℤ) (old new : List Point) → new ≡ old → HasForgotten t old new
forgotten_none t old new same = ([], same ∙ sym (append-nil old), tt)

pub forgotten_more : (t : ℤ) (a b c : List Point) → HasForgotten t a b → HasForgotten t b c → HasForgotten t a c
forgotten_more t a b c first then = (
  first.0 ++ then.0,
  then.1 ∙ ap (λ xs. xs ++ then.0) first.1 ∙ append_assoc a first.0 then.0,
  AllByRecursion-append (λ x. int_lt x.0 t ≡ true) first.0 then.0 first.2 then.2,
)

-- ---- of no list a sample is gone
pub AreWhole-set : (lists news : List Lists) (n : ℕ) → AreWhole lists → n < length lists → news ≡ set lists n (get_or news n no_lists) → (get_or news n no_lists).gone ≡ (get_or lists n no_lists).gone → AreWhole news
AreWhole-set lists news n h lt e gone = subst AreWhole (sym e) whole
  where
    x : Lists
    x = get_or news n no_lists

    by_test : (m : ℕ) (b : Bool) → nat_eq m n ≡ b → (get_or (set lists n x) m no_lists).gone ≡ []
    by_test m true q =
        let same : m ≡ n = eqb-true m n q in
        ap (λ k. (get_or (set lists n x) k no_lists).gone) same ∙ ap (λ y. y.gone) (get_or-set_same lists n x no_lists lt) ∙ gone ∙ h n
    by_test m false q =
        let apart : m ≢ n = λ same. true≢false (sym (eq-eqb m n same) ∙ q) in
        ap (λ y. y.gone) (get_or-set_other lists n m x no_lists apart) ∙ h m

    whole : AreWhole (set lists n x)
    whole m = by_test m (nat_eq m n) refl

AreWhole-push : (lists : List Lists) (x : Lists) → AreWhole lists → x.gone ≡ [] → AreWhole (lists ++ x ∷ [])
AreWhole-push [] x h e zero = e
AreWhole-push [] x h e (suc n) = refl
AreWhole-push (y ∷ lists) x h e zero = h zero
AreWhole-push (y ∷ lists) x h e (suc n) = AreWhole-push lists x (λ k. h (suc k)) e n

pub AreWhole-take : (k : ℕ) (lists : List Lists) → AreWhole lists → AreWhole (take k lists)
AreWhole-take zero lists h n = refl
AreWhole-take (suc k) [] h n = refl
AreWhole-take (suc k) (x ∷ lists) h zero = h zero
AreWhole-take (suc k) (x ∷ lists) h (suc n) = AreWhole-take k lists (λ m. h (suc m)) n

pub whole_here : (lists : List Lists) (n : ℕ) (x : Lists) → AreWhole lists → n < length lists → x ≡ get_or lists n x → x.gone ≡ []
whole_here lists n x h lt here = ap (λ y. y.gone) (here ∙ get_or_any lists n x no_lists lt) ∙ h n

-- ---- the lists of a table
pub listed_at : {before lists news : List Lists} {touched noted : List ℕ} {count more n names after : ℕ} {forgets : Bool} → AreListed names forgets before → lists ≡ before → after ≡ names → n < length before
    → IsStagedAt lists news touched noted count more n → AreListed after forgets news
listed_at {before} {lists} {news} {touched} {noted} {count} {more} {n} {names} {after} {forgets} h same named lt at = record {
  same = omega (arith, h.same, named, ap length same, ap length at.list, length-set lists n (get_or news n no_lists));
  whole = λ off. AreWhole-set lists news n (subst AreWhole (sym same) (h.whole off)) (omega (arith, lt, ap length same)) at.list at.gone;
}

pub listed_in : {before lists : List Lists} {names after : ℕ} {forgets : Bool} (x : Lists) → AreListed names forgets before → lists ≡ before ++ x ∷ [] → after ≡ names + 1 → x.gone ≡ [] → AreListed after forgets lists
listed_in {before} {lists} {names} {after} {forgets} x h same named none = record {
  same = omega (arith, h.same, named, ap length same, length_push before x);
  whole = λ off. subst AreWhole (sym same) (AreWhole-push before x (h.whole off) none);
}

pub listed_same : {before lists : List Lists} {names : ℕ} {forgets : Bool} → AreListed names forgets before → length lists ≡ length before → ((n : ℕ) → (get_or lists n no_lists).gone ≡ (get_or before n no_lists).gone)
    → AreListed names forgets lists
listed_same h len same = record { same = h.same ∙ sym len; whole = λ off n. same n ∙ h.whole off n }
