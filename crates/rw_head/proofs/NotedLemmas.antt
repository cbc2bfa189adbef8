-- The places that are noted while a message is staged.
use Rattle.std.proofs.Common.{◌≡◌, ◌≢◌, ℕ, ◌+◌, ◌<◌, ◌≤◌, List, [], ◌∷◌, ◌++◌, length, set, get_or, nat_eq, eqb-true, eq-eqb, Bool, true, false, cond, ◌||◌, ⊎_elim, refl, sym, ◌∙◌, ap, subst, arith, append-nil, AllPairs}
use Rattle.std.specs.List.{list_any}
use Rattle.std.proofs.lemmas.Bool.{cases_lt, true≢false}
use Rattle.std.proofs.lemmas.List.{get_or-set_same, get_or-set_other, get_or_append_left, get_or_push, length-set, length_push, length-append}
use Rattle.std.proofs.lemmas.List.Folds.{list_any-append}
use Rattle.rw_types.specs.Beginnings.{Begins}
use Rattle.rw_types.proofs.shared.BeginningLemmas.{begins_itself}
use Rattle.rw_head.specs.Order.{Point}
use Rattle.rw_head.specs.Lists.{Lists, no_lists, has_samples}
use Rattle.rw_head.specs.inner.Lists.{more_count, note_of, AreNoted, IsStagedAt, Settled}
use Rattle.rw_head.proofs.shared.StoreLemmas.{no_points}
use Rattle.rw_head.proofs.NameLemmas.{get_or_any}

-- ---- lists that differ from what is kept
-- what is not in a list to which n was added is not n, and is not in the list
not_touched : (touched : List ℕ) (m n : ℕ) (b : Bool) → nat_eq m n ≡ b → list_any (nat_eq m) (touched ++ n ∷ []) ≡ false → (b ≡ false) × (list_any (nat_eq m) touched ≡ false)
not_touched touched m n b k e = parts (list_any (nat_eq m) touched) b (ap (λ c. list_any (nat_eq m) touched || (c || false)) (sym k) ∙ sym (list_any-append (nat_eq m) touched (n ∷ [])) ∙ e)
  where
    parts : (a b : Bool) → (a || (b || false)) ≡ false → (b ≡ false) × (a ≡ false)
    parts false false e = (refl, refl)
    parts false true e = absurd cc
    parts true b e = absurd cc

settled_at : (touched : List ℕ) (lists : List Lists) (n m : ℕ) (x : Lists) → Settled touched lists → m < length lists → list_any (nat_eq m) (touched ++ n ∷ []) ≡ false
    → (get_or (set lists n x) m no_lists).kept ≡ (get_or (set lists n x) m no_lists).staged
settled_at touched lists n m x h lt e =
    let other = not_touched touched m n (nat_eq m n) refl e in
    let apart : m ≢ n = λ same. true≢false (sym (eq-eqb m n same) ∙ other.0) in
    let kept : get_or (set lists n x) m no_lists ≡ get_or lists m no_lists = get_or-set_other lists n m x no_lists apart in
    ap (λ x. x.kept) kept ∙ h.others m lt other.1 ∙ sym (ap (λ x. x.staged) kept)

within_more : (touched : List ℕ) (n k high : ℕ) → ((k : ℕ) → k < length touched → get_or touched k 0 < high) → n < high → k < length touched + 1 → get_or (touched ++ n ∷ []) k 0 < high
within_more touched n k high h lt small =
    ⊎_elim
    (λ low. omega (arith, h k low, get_or_append_left touched (n ∷ []) 0 k low))
    (λ above. omega (arith, lt, get_or_push touched n 0 k (omega arith)))
    (cases_lt k (length touched))

-- a list may change once its place is noted
pub Settled-set : (touched : List ℕ) (lists : List Lists) (n : ℕ) (x : Lists) → Settled touched lists → n < length lists → Settled (touched ++ n ∷ []) (set lists n x)
Settled-set touched lists n x h lt = record {
  within = λ k small. omega (arith, length-set lists n x, within_more touched n k (length lists) h.within lt (omega (arith, length_push touched n)));
  others = λ m small e. settled_at touched lists n m x h (omega (arith, length-set lists n x)) e;
}

other_than : (touched : List ℕ) (n m : ℕ) → list_any (nat_eq m) (touched ++ n ∷ []) ≡ false → m ≢ n
other_than touched n m e same = let other = not_touched touched m n (nat_eq m n) refl e in true≢false (sym (eq-eqb m n same) ∙ other.0)

pub Settled-added : (touched : List ℕ) (lists : List Lists) (x : Lists) → Settled touched lists → Settled (touched ++ length lists ∷ []) (lists ++ x ∷ [])
Settled-added touched lists x h = record {
  within = λ k small. within_more touched (length lists) k (length (lists ++ x ∷ [])) (λ j lt. omega (arith, h.within j lt, length_push lists x)) (omega (arith, length_push lists x))
      (omega (arith, length_push touched (length lists)));
  others = λ m small e.
      let apart : m ≢ length lists = other_than touched (length lists) m e in
      let low : m < length lists = omega (arith, apart, small, length_push lists x) in
      let same : get_or (lists ++ x ∷ []) m no_lists ≡ get_or lists m no_lists = get_or_append_left lists (x ∷ []) no_lists m low in
      ap (λ y. y.kept) same ∙ h.others m low (not_touched touched m (length lists) (nat_eq m (length lists)) refl e).1 ∙ sym (ap (λ y. y.staged) same);
}

longer_begins : (xs ys : List Point) → Begins xs ys → length xs ≤ length ys
longer_begins xs ys h = omega (arith, ap length h.1, length-append xs h.0)

pub begins_all : (xs ys : List Point) → xs ≡ ys → Begins xs ys
begins_all xs ys e = subst (Begins xs) e (begins_itself xs)

-- a list with nothing staged
pub nothing_more : (x : Lists) → Begins x.kept x.staged → more_count x ≡ 0 → x.kept ≡ x.staged
nothing_more x h none =
    let empty : h.0 ≡ [] = no_points h.0 (omega (arith, ap length h.1, length-append x.kept h.0, none)) in
    sym (h.1 ∙ ap (λ ys. x.kept ++ ys) empty ∙ append-nil x.kept)

-- ---- places that are noted
pub once_more : (ns : List ℕ) (n : ℕ) → AllPairs (λ a b. a ≢ b) ns → ((k : ℕ) → k < length ns → get_or ns k 0 ≢ n) → AllPairs (λ a b. a ≢ b) (ns ++ n ∷ [])
once_more ns n h other i j d lt small =
    ⊎_elim
    (λ low. λ same. h i j d lt low (sym (get_or_append_left ns (n ∷ []) d i (omega (arith, lt, low))) ∙ same ∙ get_or_append_left ns (n ∷ []) d j low))
    (λ high. λ same.
    let at : length ns ≡ j = omega (arith, small, high, length_push ns n) in
    let before : i < length ns = omega (arith, lt, at) in
    other i before (get_or_any ns i 0 d before ∙ sym (get_or_append_left ns (n ∷ []) d i before) ∙ same ∙ get_or_push ns n d j at))
    (cases_lt j (length ns))

-- one place more, with a list that has something staged
pub AreNoted-more : (touched : List ℕ) (lists : List Lists) (n : ℕ) → AreNoted touched lists → 0 < more_count (get_or lists n no_lists)
    → ((k : ℕ) → k < length touched → get_or touched k 0 ≢ n) → AreNoted (touched ++ n ∷ []) lists
AreNoted-more touched lists n h some other = record {
  once = once_more touched n h.once other;
  grown = λ k small.
      ⊎_elim
      (λ low. subst (λ m. 0 < more_count (get_or lists m no_lists)) (sym (get_or_append_left touched (n ∷ []) 0 k low)) (h.grown k low))
      (λ high. subst (λ m. 0 < more_count (get_or lists m no_lists)) (sym (get_or_push touched n 0 k (omega (arith, small, high, length_push touched n)))) some)
      (cases_lt k (length touched));
  begun = h.begun;
}

-- a property of the list at each place, after one of them was put
each_after : (P : Lists → Type 0) (lists : List Lists) (n m : ℕ) (x : Lists) → n < length lists → (m ≡ n → P x) → (m ≢ n → P (get_or lists m no_lists)) → P (get_or (set lists n x) m no_lists)
each_after P lists n m x lt here other = by_test (nat_eq m n) refl
  where
    by_test : (b : Bool) → nat_eq m n ≡ b → P (get_or (set lists n x) m no_lists)
    by_test true e =
        let same : m ≡ n = eqb-true m n e in
        subst P (sym (ap (λ k. get_or (set lists n x) k no_lists) same ∙ get_or-set_same lists n x no_lists lt)) (here same)
    by_test false e =
        let apart : m ≢ n = λ same. true≢false (sym (eq-eqb m n same) ∙ e) in
        subst P (sym (get_or-set_other lists n m x no_lists apart)) (other apart)

-- a list that grows leaves the places noted
AreNoted-set : (touched : List ℕ) (lists : List Lists) (n : ℕ) (x : Lists) → AreNoted touched lists → n < length lists → Begins x.kept x.staged
    → more_count (get_or lists n no_lists) ≤ more_count x → AreNoted touched (set lists n x)
AreNoted-set touched lists n x h lt begun longer = record {
  once = h.once;
  grown = λ k small.
      each_after (λ y. 0 < more_count y) lists n (get_or touched k 0) x lt
      (λ same. let old : 0 < more_count (get_or lists n no_lists) = subst (λ m. 0 < more_count (get_or lists m no_lists)) same (h.grown k small) in omega (arith, old, longer))
      (λ apart. h.grown k small);
  begun = λ m small.
      each_after (λ y. Begins y.kept y.staged) lists n m x lt (λ same. begun) (λ apart. h.begun m (omega (arith, small, length-set lists n x)));
}

Settled-still : (touched : List ℕ) (lists : List Lists) (n : ℕ) (x : Lists) → Settled touched lists → n < length lists → (list_any (nat_eq n) touched ≡ false → x.kept ≡ x.staged)
    → Settled touched (set lists n x)
Settled-still touched lists n x h lt here = record {
  within = λ k small. omega (arith, length-set lists n x, h.within k small);
  others = λ m small e.
      each_after (λ y. y.kept ≡ y.staged) lists n m x lt (λ same. here (ap (λ k. list_any (nat_eq k) touched) (sym same) ∙ e))
      (λ apart. h.others m (omega (arith, small, length-set lists n x)) e);
}

abbrev Both : List ℕ → List Lists → Type 0
Both touched lists = Settled touched lists × AreNoted touched lists

both_after : (touched : List ℕ) (lists : List Lists) (n : ℕ) (x : Lists) (b c : Bool) → Both touched lists → n < length lists → Begins x.kept x.staged
    → more_count (get_or lists n no_lists) ≤ more_count x → nat_eq (more_count (get_or lists n no_lists)) 0 ≡ b → nat_eq (more_count x) 0 ≡ c
    → Both (cond b (cond c touched (touched ++ n ∷ [])) touched) (set lists n x)
both_after touched lists n x true true h lt begun longer none still = (
  Settled-still touched lists n x h.0 lt (λ e. nothing_more x begun (eqb-true (more_count x) 0 still)),
  AreNoted-set touched lists n x h.1 lt begun longer,
)
both_after touched lists n x true false h lt begun longer none some =
    let nothing : more_count (get_or lists n no_lists) ≡ 0 = eqb-true (more_count (get_or lists n no_lists)) 0 none in
    let differs : more_count x ≢ 0 = λ same. true≢false (sym (eq-eqb (more_count x) 0 same) ∙ some) in (
      Settled-set touched lists n x h.0 lt,
      AreNoted-more touched (set lists n x) n (AreNoted-set touched lists n x h.1 lt begun longer)
          (subst (λ y. 0 < more_count y) (sym (get_or-set_same lists n x no_lists lt)) (omega (arith, differs)))
          (λ k small same. let old : 0 < more_count (get_or lists n no_lists) = subst (λ m. 0 < more_count (get_or lists m no_lists)) same (h.1.grown k small) in omega (arith, old, nothing)),
    )
both_after touched lists n x false c h lt begun longer some any =
    let differs : more_count (get_or lists n no_lists) ≢ 0 = λ same. true≢false (sym (eq-eqb (more_count (get_or lists n no_lists)) 0 same) ∙ some) in (
      Settled-still touched lists n x h.0 lt (λ e. let same : (get_or lists n no_lists).kept ≡ (get_or lists n no_lists).staged = h.0.others n lt e in absurd (omega (arith, differs, ap length same))),
      AreNoted-set touched lists n x h.1 lt begun longer,
    )

-- what holds of the places and lists once samples were staged at one
pub both_staged : (lists news : List Lists) (touched noted : List ℕ) (count more n : ℕ) → Settled touched lists → AreNoted touched lists → n < length lists
    → IsStagedAt lists news touched noted count more n → Settled noted news × AreNoted noted news
both_staged lists news touched noted count more n settled are lt h =
    let x = get_or news n no_lists in
    let old = get_or lists n no_lists in
    let made : Both (note_of touched n (more_count old) (more_count x)) (set lists n x) =
    both_after touched lists n x (nat_eq (more_count old) 0) (nat_eq (more_count x) 0) (settled, are) lt h.begun (omega (arith, h.grown, ap length h.kept)) refl refl in
    subst (λ ls. Both noted ls) (sym h.list) (subst (λ ts. Both ts (set lists n x)) (sym h.note) made)

-- a new list
pub AreNoted-added : (touched : List ℕ) (lists : List Lists) (x : Lists) → Settled touched lists → AreNoted touched lists → x.kept ≡ [] → has_samples x.staged ≡ true
    → AreNoted (touched ++ length lists ∷ []) (lists ++ x ∷ [])
AreNoted-added touched lists x settled h none some =
    let at : get_or (lists ++ x ∷ []) (length lists) no_lists ≡ x = get_or_push lists x no_lists (length lists) refl in
    AreNoted-more touched (lists ++ x ∷ []) (length lists)
    (record {
      once = h.once;
      grown = λ k small.
          subst (λ y. 0 < more_count y) (sym (get_or_append_left lists (x ∷ []) no_lists (get_or touched k 0) (settled.within k small))) (h.grown k small);
      begun = λ n small.
          ⊎_elim
          (λ low. subst (λ y. Begins y.kept y.staged) (sym (get_or_append_left lists (x ∷ []) no_lists n low)) (h.begun n low))
          (λ high. subst (λ y. Begins y.kept y.staged) (sym (get_or_push lists x no_lists n (omega (arith, small, high, length_push lists x)))) (x.staged, sym (ap (λ ys. ys ++ x.staged) none)))
          (cases_lt n (length lists));
    })
    (subst (λ y. 0 < more_count y) (sym at) (omega (arith, has_length x.staged some, ap length none)))
    (λ k small same. omega (arith, settled.within k small, same))
  where
    has_length : (xs : List Point) → has_samples xs ≡ true → 0 < length xs
    has_length [] e = absurd cc
    has_length (y ∷ ys) e = omega arith

pub AreNoted-none : (touched : List ℕ) (lists : List Lists) → touched ≡ [] → ((n : ℕ) → n < length lists → (get_or lists n no_lists).kept ≡ (get_or lists n no_lists).staged) → AreNoted touched lists
AreNoted-none touched lists e h = subst (λ ts. AreNoted ts lists) (sym e) (record {
  once = λ i j d lt small. absurd (omega (arith, small));
  grown = λ k small. absurd (omega (arith, small));
  begun = λ n lt. begins_all (get_or lists n no_lists).kept (get_or lists n no_lists).staged (h n lt);
})
