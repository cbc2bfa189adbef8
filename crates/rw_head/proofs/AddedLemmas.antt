-- What is staged at the places that are noted adds up.
use Rattle.std.proofs.Common.{◌≡◌, ℕ, ◌<◌, suc, zero, List, [], ◌∷◌, ◌++◌, length, map, drop, get_or, nat_eq, eqb-true, eq-eqb, Option, Some, None, Bool, true, false, cond, ◌||◌, ◌≢◌, refl, sym, ◌∙◌, ap, subst, arith, append-nil, All, AllPairs}
use Rattle.std.specs.BTreeMap.{get}
use Rattle.std.specs.List.{list_any}
use Rattle.std.proofs.lemmas.Bool.{true≢false}
use Rattle.std.proofs.lemmas.List.{length-map, length-drop}
use Rattle.rw_types.specs.Beginnings.{Begins}
use Rattle.rw_types.proofs.shared.OrderLemmas.{same_if_equal, equal_if_same}
use Rattle.rw_types.specs.Labels.{Labels}
use Rattle.rw_types.specs.LabelOrder.{labels_cmp, labels_eq}
use Rattle.rw_head.specs.Added.{Added, samples_added, AddsUp}
use Rattle.rw_head.specs.Order.{Point}
use Rattle.rw_head.specs.Store.{list_of}
use Rattle.rw_head.specs.inner.Names.{AreNamed}
use Rattle.rw_head.specs.Lists.{Lists, no_lists, more_of, added_at, added_of}
use Rattle.rw_head.specs.inner.Lists.{AreNoted, Settled, kept_store, staged_store}
use Rattle.rw_head.proofs.NameLemmas.{get_or_any}
use Rattle.rw_head.proofs.PlaceLemmas.{Index, staged_at, staged_nowhere, kept_in, kept_nowhere}

-- ---- what is staged adds up
more_is : (x : Lists) → Begins x.kept x.staged → x.staged ≡ x.kept ++ more_of x
more_is x h = h.1 ∙ ap (λ ys. x.kept ++ ys) (sym (drop_after x.kept h.0) ∙ ap (drop (length x.kept)) (sym h.1))
  where
    drop_after : (xs ys : List Point) → drop (length xs) (xs ++ ys) ≡ ys
    drop_after [] ys = refl
    drop_after (x ∷ xs) ys = drop_after xs ys

sum_elsewhere : (names : List Labels) (lists : List Lists) (l : Labels) (ts : List ℕ) → ((k : ℕ) → k < length ts → labels_eq (get_or names (get_or ts k 0) []) l ≡ false)
    → samples_added l (map (added_at names lists) ts) ≡ []
sum_elsewhere names lists l [] h = refl
sum_elsewhere names lists l (t ∷ ts) h =
    ap (λ b. cond b (more_of (get_or lists t no_lists)) [] ++ samples_added l (map (added_at names lists) ts)) (h 0 (omega arith))
    ∙ sum_elsewhere names lists l ts (λ k small. h (suc k) (omega (arith, small)))

-- a label set is at one place alone
apart_at : (index : Index) (names : List Labels) (l : Labels) (n m : ℕ) → AreNamed index names → get labels_cmp index l ≡ Some n → m < length names → m ≢ n → labels_eq (get_or names m []) l ≡ false
apart_at index names l n m h at lt apart = by_test (labels_eq (get_or names m []) l) refl
  where
    by_test : (b : Bool) → labels_eq (get_or names m []) l ≡ b → b ≡ false
    by_test false e = refl
    by_test true e =
        let here : Some m ≡ Some n = sym (h.stands m lt) ∙ ap (get labels_cmp index) (same_if_equal (get_or names m []) l e) ∙ at in
        let same : m ≡ n = cc in
        absurd (apart same)

here_at : (index : Index) (names : List Labels) (l : Labels) (n : ℕ) → AreNamed index names → get labels_cmp index l ≡ Some n → labels_eq (get_or names n []) l ≡ true
here_at index names l n h at = equal_if_same (get_or names n []) l (h.named l n at).1

sum_here : (index : Index) (names : List Labels) (lists : List Lists) (l : Labels) (n : ℕ) (ts : List ℕ) (b : Bool) → AreNamed index names → get labels_cmp index l ≡ Some n
    → ((k : ℕ) → k < length ts → get_or ts k 0 < length names) → AllPairs (λ i j. i ≢ j) ts → list_any (nat_eq n) ts ≡ b
    → samples_added l (map (added_at names lists) ts) ≡ cond b (more_of (get_or lists n no_lists)) []
sum_here index names lists l n [] true h at within once e = absurd cc
sum_here index names lists l n [] false h at within once e = refl
sum_here index names lists l n (t ∷ ts) b h at within once e =
    by_test (λ c. sum_here index names lists l n ts c h at (λ k small. within (suc k) (omega (arith, small))) (λ i j d lt small. once (suc i) (suc j) d (omega (arith, lt)) (omega (arith, small)))) (nat_eq n t) refl
  where
    rest : List Point
    rest = samples_added l (map (added_at names lists) ts)

    by_test : ((c : Bool) → list_any (nat_eq n) ts ≡ c → rest ≡ cond c (more_of (get_or lists n no_lists)) []) → (c : Bool) → nat_eq n t ≡ c
        → cond (labels_eq (get_or names t []) l) (more_of (get_or lists t no_lists)) [] ++ rest ≡ cond b (more_of (get_or lists n no_lists)) []
    by_test further true same =
        let here : n ≡ t = eqb-true n t same in
        let is : b ≡ true = sym e ∙ ap (λ c. c || list_any (nat_eq n) ts) same in
        let eq : labels_eq (get_or names t []) l ≡ true = ap (λ m. labels_eq (get_or names m []) l) (sym here) ∙ here_at index names l n h at in
        let none : rest ≡ [] =
        sum_elsewhere names lists l ts (λ k small. apart_at index names l n (get_or ts k 0) h at (within (suc k) (omega (arith, small))) (λ again. once 0 (suc k) 0 (omega arith) (omega (arith, small)) (sym here ∙ sym again))) in
        ap (λ c. cond c (more_of (get_or lists t no_lists)) [] ++ rest) eq ∙ ap (λ ys. more_of (get_or lists t no_lists) ++ ys) none ∙ append-nil (more_of (get_or lists t no_lists))
        ∙ ap (λ m. more_of (get_or lists m no_lists)) (sym here) ∙ ap (λ c. cond c (more_of (get_or lists n no_lists)) []) (sym is)
    by_test further false other =
        let apart : t ≢ n = λ same. true≢false (sym (eq-eqb n t (sym same)) ∙ other) in
        ap (λ c. cond c (more_of (get_or lists t no_lists)) [] ++ rest) (apart_at index names l n t h at (within 0 (omega arith)) apart)
        ∙ further b (sym (ap (λ c. c || list_any (nat_eq n) ts) other) ∙ e)

lists_add_up : (index : Index) (names : List Labels) (lists : List Lists) (touched : List ℕ) (l : Labels) (o : Option ℕ) → AreNamed index names → length names ≡ length lists
    → Settled touched lists → AreNoted touched lists → get labels_cmp index l ≡ o
    → list_of (staged_store index.entries lists) l ≡ list_of (kept_store index.entries lists) l ++ samples_added l (map (added_at names lists) touched)
lists_add_up index names lists touched l None h len settled are e =
    staged_nowhere index lists l e
    ∙ sym (ap (λ ys. list_of (kept_store index.entries lists) l ++ ys) (sum_elsewhere names lists l touched (λ k small. not_here (get_or touched k 0) (omega (arith, settled.within k small, len))))
    ∙ append-nil (list_of (kept_store index.entries lists) l) ∙ sym (kept_nowhere index lists l (sym e)))
  where
    not_here : (m : ℕ) → m < length names → labels_eq (get_or names m []) l ≡ false
    not_here m lt = by_test (labels_eq (get_or names m []) l) refl
      where
        by_test : (b : Bool) → labels_eq (get_or names m []) l ≡ b → b ≡ false
        by_test false k = refl
        by_test true k =
            let none : None ≡ Some m = sym e ∙ ap (get labels_cmp index) (sym (same_if_equal (get_or names m []) l k)) ∙ h.stands m lt in absurd cc
lists_add_up index names lists touched l (Some n) h len settled are e =
    let lt : n < length lists = omega (arith, (h.named l n e).0, len) in
    let x = get_or lists n no_lists in
    staged_at index lists l n e ∙ here lt (list_any (nat_eq n) touched) refl ∙ ap (λ xs. xs ++ samples_added l (map (added_at names lists) touched)) (sym (kept_in index lists l n e))
  where
    here : n < length lists → (b : Bool) → list_any (nat_eq n) touched ≡ b → (get_or lists n no_lists).staged ≡ (get_or lists n no_lists).kept ++ samples_added l (map (added_at names lists) touched)
    here lt true any =
        more_is (get_or lists n no_lists) (are.begun n lt)
        ∙ ap (λ ys. (get_or lists n no_lists).kept ++ ys) (sym (sum_here index names lists l n touched true h e (λ k small. omega (arith, settled.within k small, len)) are.once any))
    here lt false any =
        sym (settled.others n lt any) ∙ sym (append-nil (get_or lists n no_lists).kept)
        ∙ ap (λ ys. (get_or lists n no_lists).kept ++ ys) (sym (sum_here index names lists l n touched false h e (λ k small. omega (arith, settled.within k small, len)) are.once any))

-- what is staged of each label set is what its list has more than what is kept
pub adds_up : (index : Index) (names : List Labels) (lists : List Lists) (touched : List ℕ) → AreNamed index names → length names ≡ length lists
    → Settled touched lists → AreNoted touched lists → AddsUp (kept_store index.entries lists) (staged_store index.entries lists) (added_of names lists touched)
unfolding added_of
adds_up index names lists touched h len settled are = record {
  lists = λ l. lists_add_up index names lists touched l (get labels_cmp index l) h len settled are refl;
  apart = λ i j d lt small same.
      let last : j < length touched = omega (arith, small, length-map touched (added_at names lists)) in
      let first : i < length touched = omega (arith, lt, last) in
      let m = get_or touched i 0 in
      let n = get_or touched j 0 in
      let one : (get_or (map (added_at names lists) touched) i d).labels ≡ get_or names m [] = ap (λ a. a.labels) (mapped touched i d first) in
      let two : (get_or (map (added_at names lists) touched) j d).labels ≡ get_or names n [] = ap (λ a. a.labels) (mapped touched j d last) in
      let at : Some m ≡ Some n =
      sym (h.stands m (omega (arith, settled.within i first, len))) ∙ ap (get labels_cmp index) (sym one ∙ same ∙ two) ∙ h.stands n (omega (arith, settled.within j last, len)) in
      let again : m ≡ n = cc in
      are.once i j 0 lt last again;
  filled = λ i d small.
      let within : i < length touched = omega (arith, small, length-map touched (added_at names lists)) in
      subst (λ a. 0 < length a.samples) (sym (mapped touched i d within))
      (let x = get_or lists (get_or touched i 0) no_lists in omega (arith, are.grown i within, length-drop (length x.kept) x.staged));
}
  where
    mapped : (ts : List ℕ) (i : ℕ) (d : Added) → i < length ts → get_or (map (added_at names lists) ts) i d ≡ added_at names lists (get_or ts i 0)
    mapped [] i d lt = absurd (omega (arith, lt))
    mapped (t ∷ ts) zero d lt = refl
    mapped (t ∷ ts) (suc i) d lt = mapped ts i d (omega (arith, lt))

pub nothing_added : (names : List Labels) (lists : List Lists) (touched : List ℕ) → touched ≡ [] → added_of names lists touched ≡ []
unfolding added_of
nothing_added names lists touched e = ap (map (added_at names lists)) e

pub all_within : (touched : List ℕ) (lists : List Lists) → Settled touched lists → All (λ n. n < length lists) touched
all_within touched lists h i d lt = subst (λ n. n < length lists) (get_or_any touched i 0 d lt) (h.within i lt)

-- ---- one addition after the other
abbrev addition : ℕ → Labels → Lists → Added
addition n l x = record { place = n; labels = l; samples = more_of x }

pub added_first : (names : List Labels) (lists : List Lists) (touched rest : List ℕ) (n : ℕ) (l m : Labels) (x : Lists) (now : List Added) → added_of names lists touched ≡ now
    → touched ≡ n ∷ rest → l ≡ m → m ≡ get_or names n m → x ≡ get_or lists n x → n < length names → n < length lists
    → now ≡ record { place = n; labels = l; samples = more_of x } ∷ added_of names lists rest
unfolding added_of
added_first names lists touched rest n l m x now shown e f g h lt small =
    sym shown ∙ ap (map (added_at names lists)) e
    ∙ ap (λ (k : Labels). addition n k (get_or lists n no_lists) ∷ map (added_at names lists) rest) (sym (f ∙ g ∙ get_or_any names n m [] lt))
    ∙ ap (λ (y : Lists). addition n l y ∷ map (added_at names lists) rest) (sym (h ∙ get_or_any lists n x no_lists small))

pub first_within : (high : ℕ) (ns rest : List ℕ) (n : ℕ) → ns ≡ n ∷ rest → All (λ k. k < high) ns → n < high
first_within high ns rest n e h = subst (All (λ k. k < high)) e h 0 0 (omega arith)

pub rest_within : (high : ℕ) (ns rest : List ℕ) (n : ℕ) → ns ≡ n ∷ rest → All (λ k. k < high) ns → All (λ k. k < high) rest
rest_within high ns rest n e h = λ k d lt. subst (All (λ k. k < high)) e h (suc k) d (omega (arith, lt))

pub none_added : (names : List Labels) (lists : List Lists) (ns : List ℕ) (now : List Added) → added_of names lists ns ≡ now → length ns ≡ 0 → now ≡ []
none_added names lists ns now shown e = sym shown ∙ nothing_added names lists ns (empty ns e)
  where
    empty : (ks : List ℕ) → length ks ≡ 0 → ks ≡ []
    empty [] k = refl
    empty (m ∷ ks) k = absurd (omega (arith, k))
