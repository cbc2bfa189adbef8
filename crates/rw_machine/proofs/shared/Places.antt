-- The points of a log that grows, a series' number as series are added, and a list of shards with
-- one changed.
use Rattle.std.proofs.Common.{◌≡◌, ℕ, zero, suc, ◌+◌, ◌<◌, ◌≤◌, Bool, true, false, cond, List, [], ◌∷◌, ◌++◌, length, take, Option, Some, None, slice_get, refl, sym, ap, ◌∙◌, subst, ℤ, ◌||◌, ◌&&◌, not, append-nil, append_assoc, arith}
use Rattle.std.specs.List.{AllByRecursion, list_any}
use Rattle.std.proofs.lemmas.List.Elements.{filter-append}
use Rattle.rw_machine.proofs.shared.Steps.{same_is, is_same}
use Rattle.rw_machine.proofs.Risen.{risen, risen-push}
use Rattle.rw_machine.proofs.shared.Views.{of, logged_points, logged_of, logged_from, points, is_of, point_of, points_from}
use Rattle.rw_machine.specs.Shards.{Shard}
use Rattle.rw_machine.specs.Steps.{change}
use Rattle.rw_machine.specs.Worlds.{Setup}
use Rattle.rw_series_cache.specs.Known.{Standing, Unknown, Bad, Filtered, Kept, known}
use Rattle.rw_series_cache.proofs.shared.PointLemmas.{definition_gives_none, sample_is_kept, sample_is_other}
use Rattle.rw_series_cache.specs.Numbers.{number_of}
use Rattle.rw_series_cache.specs.Rising.{rises}
use Rattle.rw_plain_queue.specs.Items.{Placed}
use Rattle.rw_types.specs.LabelOrder.{labels_eq}
use Rattle.rw_types.specs.Labels.{Labels}
use Rattle.rw_types.specs.declared.entry.Entry.{Entry}
use Rattle.rw_types.specs.declared.entry.Entry.TheVariants.{Def, Sample}

-- one more entry
pub logged_more : (c : Setup) (l : Labels) (xs : List Entry) (e : Entry) → logged_points c l (xs ++ e ∷ []) ≡ logged_points c l xs ++ logged_of c l xs e
logged_more c l xs (Def r m) = definition_gives_none c.choice xs l m r ∙ sym (append-nil (logged_points c l xs))
logged_more c l xs (Sample r t word) = by_standing (known c.choice xs r) refl
  where
    other : (known c.choice xs r ≡ Kept l → ⊥) → is_of l (known c.choice xs r) ≡ false → logged_points c l (xs ++ Sample r t word ∷ []) ≡ logged_points c l xs ++ logged_of c l xs (Sample r t word)
    other h e = sample_is_other c.choice xs l r t word h ∙ sym (append-nil (logged_points c l xs)) ∙ ap (λ b. logged_points c l xs ++ cond b ((length xs, t, word) ∷ []) []) (sym e)

    by_standing : (k : Standing) → known c.choice xs r ≡ k → logged_points c l (xs ++ Sample r t word ∷ []) ≡ logged_points c l xs ++ logged_of c l xs (Sample r t word)
    by_standing Unknown e = other (λ h. let no : Unknown ≡ Kept l → ⊥ = λ z. cc in no (sym e ∙ h)) (ap (is_of l) e)
    by_standing (Bad f) e = other (λ h. let no : Bad f ≡ Kept l → ⊥ = λ z. cc in no (sym e ∙ h)) (ap (is_of l) e)
    by_standing Filtered e = other (λ h. let no : Filtered ≡ Kept l → ⊥ = λ z. cc in no (sym e ∙ h)) (ap (is_of l) e)
    by_standing (Kept m) e = by_test (labels_eq l m) refl
      where
        by_test : (b : Bool) → labels_eq l m ≡ b → logged_points c l (xs ++ Sample r t word ∷ []) ≡ logged_points c l xs ++ logged_of c l xs (Sample r t word)
        by_test true same = sample_is_kept c.choice xs l r t word (e ∙ ap Kept (sym (same_is l m same))) ∙ ap (λ b. logged_points c l xs ++ cond b ((length xs, t, word) ∷ []) []) (sym (ap (is_of l) e ∙ same))
        by_test false differs = other (λ h. let kept_same : Kept l ≡ Kept m → l ≡ m = λ z. cc in let no : true ≡ false → ⊥ = λ z. cc in no (sym (is_same l m (kept_same (sym h ∙ e))) ∙ differs)) (ap (is_of l) e ∙ differs)

-- further entries
pub logged_append : (c : Setup) (l : Labels) (xs ys : List Entry) → logged_points c l (xs ++ ys) ≡ logged_points c l xs ++ logged_from c l xs ys
logged_append c l xs [] = ap (logged_points c l) (append-nil xs) ∙ sym (append-nil (logged_points c l xs))
logged_append c l xs (y ∷ ys) =
    ap (logged_points c l) (sym (append_assoc xs (y ∷ []) ys))
    ∙ logged_append c l (xs ++ y ∷ []) ys
    ∙ ap (λ ps. ps ++ logged_from c l (xs ++ y ∷ []) ys) (logged_more c l xs y)
    ∙ append_assoc (logged_points c l xs) (logged_of c l xs y) (logged_from c l (xs ++ y ∷ []) ys)

-- one more entry, and those that rise
rising_more : (c : Setup) (l : Labels) (xs : List Entry) (t : ℤ) (word : ℕ) (b : Bool)
    → risen (logged_points c l xs ++ cond b ((length xs, t, word) ∷ []) []) ≡ points c l xs ++ cond (b && rises c.choice xs l t) ((length xs, t, word) ∷ []) []
unfolding rises
rising_more c l xs t word true = risen-push (logged_points c l xs) (length xs, t, word)
rising_more c l xs t word false = ap risen (append-nil (logged_points c l xs)) ∙ sym (append-nil (points c l xs))

pub points_more : (c : Setup) (l : Labels) (xs : List Entry) (e : Entry) → points c l (xs ++ e ∷ []) ≡ points c l xs ++ point_of c l xs e
points_more c l xs (Def r m) = ap risen (logged_more c l xs (Def r m) ∙ append-nil (logged_points c l xs)) ∙ sym (append-nil (points c l xs))
points_more c l xs (Sample r t word) = ap risen (logged_more c l xs (Sample r t word)) ∙ rising_more c l xs t word (is_of l (known c.choice xs r))

-- further entries, and those that rise
pub points_append : (c : Setup) (l : Labels) (xs ys : List Entry) → points c l (xs ++ ys) ≡ points c l xs ++ points_from c l xs ys
points_append c l xs [] = ap (points c l) (append-nil xs) ∙ sym (append-nil (points c l xs))
points_append c l xs (y ∷ ys) =
    ap (points c l) (sym (append_assoc xs (y ∷ []) ys))
    ∙ points_append c l (xs ++ y ∷ []) ys
    ∙ ap (λ ps. ps ++ points_from c l (xs ++ y ∷ []) ys) (points_more c l xs y)
    ∙ append_assoc (points c l xs) (point_of c l xs y) (points_from c l (xs ++ y ∷ []) ys)

pub take_next : (log : List Entry) (n : ℕ) (e : Entry) → slice_get log n ≡ Some e → take (suc n) log ≡ take n log ++ e ∷ []
take_next [] n e h = let no : None ≡ Some e → ⊥ = λ h. cc in absurd (no h)
take_next (x ∷ xs) zero e h = let same : x ≡ e = cc in ap (λ y. y ∷ []) same
take_next (x ∷ xs) (suc n) e h = ap (λ ys. x ∷ ys) (take_next xs n e h)

pub get_some : {X : Type 0} (xs : List X) (n : ℕ) → n < length xs → (x : X) × (slice_get xs n ≡ Some x)
get_some [] n lt = absurd (omega arith)
get_some (x ∷ xs) zero lt = (x, refl)
get_some (x ∷ xs) (suc n) lt = get_some xs n (omega arith)

pub get_below : {X : Type 0} (xs : List X) (n : ℕ) (x : X) → slice_get xs n ≡ Some x → n < length xs
get_below [] n x h = let no : None ≡ Some x → ⊥ = λ h. cc in absurd (no h)
get_below (y ∷ ys) zero x h = omega arith
get_below (y ∷ ys) (suc n) x h = let r : n < length ys = get_below ys n x h in omega arith

pub number_more : (series : List Labels) (l m : Labels) → list_any (labels_eq l) series ≡ true → number_of (series ++ m ∷ []) l ≡ number_of series l
number_more [] l m h = let no : false ≡ true → ⊥ = λ e. cc in absurd (no h)
number_more (x ∷ xs) l m h = by_test (labels_eq l x) h (number_more xs l m)
  where
    by_test : (b : Bool) → (b || list_any (labels_eq l) xs) ≡ true → (list_any (labels_eq l) xs ≡ true → number_of (xs ++ m ∷ []) l ≡ number_of xs l) → cond (not b) (1 + number_of (xs ++ m ∷ []) l) 0 ≡ cond (not b) (1 + number_of xs l) 0
    by_test true h rest = refl
    by_test false h rest = ap (λ n. 1 + n) (rest h)

pub length_change : (i : ℕ) (f : Shard → Shard) (ss : List Shard) → length (change i f ss) ≡ length ss
length_change i f [] = refl
length_change zero f (s ∷ ss) = refl
length_change (suc i) f (s ∷ ss) = ap suc (length_change i f ss)

pub get_changed : (i : ℕ) (f : Shard → Shard) (ss : List Shard) (s : Shard) → slice_get ss i ≡ Some s → slice_get (change i f ss) i ≡ Some (f s)
get_changed i f [] s h = let no : None ≡ Some s → ⊥ = λ h. cc in absurd (no h)
get_changed zero f (x ∷ ss) s h = let same : x ≡ s = cc in ap (λ y. Some (f y)) same
get_changed (suc i) f (x ∷ ss) s h = get_changed i f ss s h

pub get_others : (i j : ℕ) (f : Shard → Shard) (ss : List Shard) → (i ≡ j → ⊥) → slice_get (change i f ss) j ≡ slice_get ss j
get_others i j f [] apart = refl
get_others zero zero f (s ∷ ss) apart = absurd (apart refl)
get_others zero (suc j) f (s ∷ ss) apart = refl
get_others (suc i) zero f (s ∷ ss) apart = refl
get_others (suc i) (suc j) f (s ∷ ss) apart = get_others i j f ss (λ e. apart (ap suc e))

-- a fact of the shard at an index, after one is changed
pub at_change : (P : Option Shard → Type 0) (j i : ℕ) (f : Shard → Shard) (ss : List Shard) → ((s : Shard) → slice_get ss i ≡ Some s → i ≡ j → P (Some s) → P (Some (f s))) → P (slice_get ss i) → P (slice_get (change j f ss) i)
at_change P j i f [] step at = at
at_change P zero zero f (s ∷ ss) step at = step s refl refl at
at_change P zero (suc i) f (s ∷ ss) step at = at
at_change P (suc j) zero f (s ∷ ss) step at = at
at_change P (suc j) (suc i) f (s ∷ ss) step at = at_change P j i f ss (λ s e k. step s e (ap suc k)) at

-- each element with its number
abbrev pub Numbered : (ℕ → Placed → Type 0) → ℕ → List Placed → Type 0
Numbered P n [] = Unit {0}
Numbered P n (x ∷ xs) = P n x × Numbered P (suc n) xs

pub numbered_push : (P : ℕ → Placed → Type 0) (n m : ℕ) (xs : List Placed) (x : Placed) → m ≡ n + length xs → Numbered P n xs → P m x → Numbered P n (xs ++ x ∷ [])
numbered_push P n m [] x e all at = let same : m ≡ n = omega arith in (subst (λ k. P k x) same at, tt)
numbered_push P n m (y ∷ xs) x e all at = (all.0, numbered_push P (suc n) m xs x (omega arith) all.1 at)

pub numbered_right : (P : ℕ → Placed → Type 0) (n m : ℕ) (xs ys : List Placed) → m ≡ n + length xs → Numbered P n (xs ++ ys) → Numbered P m ys
numbered_right P n m [] ys e all = let same : n ≡ m = omega arith in subst (λ k. Numbered P k ys) same all
numbered_right P n m (x ∷ xs) ys e all = numbered_right P (suc n) m xs ys (omega arith) all.1

pub numbered_left : (P : ℕ → Placed → Type 0) (n : ℕ) (xs ys : List Placed) → Numbered P n (xs ++ ys) → Numbered P n xs
numbered_left P n [] ys all = tt
numbered_left P n (x ∷ xs) ys all = (all.0, numbered_left P (suc n) xs ys all.1)

pub numbered_more : (P Q : ℕ → Placed → Type 0) (n : ℕ) (xs : List Placed) → ((k : ℕ) (x : Placed) → n ≤ k → P k x → Q k x) → Numbered P n xs → Numbered Q n xs
numbered_more P Q n [] more all = tt
numbered_more P Q n (x ∷ xs) more all = (more n x (omega arith) all.0, numbered_more P Q (suc n) xs (λ k y le. more k y (omega arith)) all.1)

pub numbered_all : (P : ℕ → Placed → Type 0) (Q : Placed → Type 0) (n m : ℕ) (xs : List Placed) → m ≡ n + length xs → ((k : ℕ) (x : Placed) → n ≤ k → k < m → P k x → Q x) → Numbered P n xs → AllByRecursion Q xs
numbered_all P Q n m [] e more all = tt
numbered_all P Q n m (x ∷ xs) e more all = (more n x (omega arith) (omega arith) all.0, numbered_all P Q (suc n) m xs (omega arith) (λ k y le lt. more k y (omega arith) lt) all.1)

pub of_append : (l : Labels) (xs ys : List Placed) → of l (xs ++ ys) ≡ of l xs ++ of l ys
of_append l xs ys = filter-append (λ (x : Placed). labels_eq l x.labels) xs ys
