-- The judgement of labels as a program holds them; f shows what label it holds.
use Rattle.std.proofs.Common.{◌≡◌, length-drop, ℕ, suc, ◌+◌, ◌<◌, ◌≤◌, List, [], ◌∷◌, length, map, take, drop, get_or, sum_by, Bool, true, false, not, ◌&&◌, nat_lt, Option, Some, None, refl, sym, ◌∙◌, ap, arith, if◌then◌else◌}
use Rattle.std.proofs.Math.Seq.{drop-cons}
use Rattle.std.proofs.lemmas.Bool.{lt-ltb}
use Rattle.std.proofs.lemmas.List.{get_or-map, length-map}
use Rattle.std.proofs.lemmas.List.Folds.{list_all-map}
use Rattle.std.proofs.lemmas.List.Sums.{sum_by_more_le, sum_by-cons}
use Rattle.std.specs.List.{list_all}
use Rattle.rw_types.specs.Labels.{Label, Labels, is_text, is_well_named, is_filled, rise, are_sorted, label_len, label_fault}
use Rattle.rw_types.specs.declared.names.Names.{Names}
use Rattle.rw_types.specs.declared.label_fault.LabelFault.{LabelFault}
use Rattle.rw_types.specs.declared.label_fault.LabelFault.TheVariants.{NotUtf8, EmptyName, BadName, EmptyValue, NotSorted, TooMany, TooLong}

-- two labels and those after them
sorted_pair : (ls : Labels) (k : ℕ) (d : Label) → suc k < length ls
    → are_sorted (drop k ls) ≡ (rise (get_or ls k d) (get_or ls (suc k) d) && are_sorted (drop (suc k) ls))
sorted_pair ls k d h =
    let first : drop k ls ≡ get_or ls k d ∷ drop (suc k) ls = drop-cons ls k d (omega arith) in
    let second : drop (suc k) ls ≡ get_or ls (suc k) d ∷ drop (suc (suc k)) ls = drop-cons ls (suc k) d h in
    ap are_sorted (first ∙ ap (λ r. get_or ls k d ∷ r) second)
    ∙ ap (λ r. rise (get_or ls k d) (get_or ls (suc k) d) && are_sorted r) (sym second)

-- at most one label is left
sorted_short : (ls : Labels) → length ls ≤ 1 → are_sorted ls ≡ true
sorted_short [] h = refl
sorted_short (l ∷ []) h = refl
sorted_short (l ∷ m ∷ ls) h = absurd (omega arith)

-- the label at k and the next one, of the labels that a program holds
pub sorted_at : {A : Type 0} (f : A → Label) (xs : List A) (k i : ℕ) (x y : A) → i ≡ suc k → i < length xs
    → x ≡ get_or xs k x → y ≡ get_or xs i y
    → are_sorted (drop k (map f xs)) ≡ (rise (f x) (f y) && are_sorted (drop i (map f xs)))
sorted_at f xs k i x y next h here there =
    let d = f x in
    let within : suc k < length (map f xs) = rw length-map (omega arith) in
    let at_k : get_or (map f xs) k d ≡ f (get_or xs k x) = get_or-map f xs k x d (omega arith) in
    let at_i : get_or (map f xs) i d ≡ f (get_or xs i y) = get_or-map f xs i y d h in
    let pair = sorted_pair (map f xs) k d within in
    cc

-- one label that does not rise is enough
pub unsorted : {A : Type 0} (f : A → Label) (xs : List A) (k i : ℕ) (x y : A) (all : Bool) → i ≡ suc k → i < length xs
    → x ≡ get_or xs k x → y ≡ get_or xs i y → all ≡ are_sorted (drop k (map f xs)) → rise (f x) (f y) ≡ false
    → false ≡ all
unsorted f xs k i x y all next h here there e falls =
    let step = sorted_at f xs k i x y next h here there in
    let none : (rise (f x) (f y) && are_sorted (drop i (map f xs))) ≡ false = rw falls refl in
    cc

-- and if it rises, the others decide
pub sorted_on : {A : Type 0} (f : A → Label) (xs : List A) (k i j : ℕ) (x y : A) (all : Bool) → i ≡ suc k → i < length xs
    → x ≡ get_or xs k x → y ≡ get_or xs i y → all ≡ are_sorted (drop k (map f xs)) → rise (f x) (f y) ≡ true
    → j ≡ i → all ≡ are_sorted (drop j (map f xs))
sorted_on f xs k i j x y all next h here there e rises same =
    let step = sorted_at f xs k i x y next h here there in
    let rest : (rise (f x) (f y) && are_sorted (drop i (map f xs))) ≡ are_sorted (drop i (map f xs)) = rw rises refl in
    cc

pub sorted_end : {A : Type 0} (f : A → Label) (xs : List A) (k : ℕ) → length xs ≤ suc k → are_sorted (drop k (map f xs)) ≡ true
sorted_end f xs k h = sorted_short (drop k (map f xs)) (simp (length-drop, length-map) (omega arith))

sum_by-map : {A B : Type 0} (f : B → ℕ) (g : A → B) (xs : List A) → sum_by f (map g xs) ≡ sum_by (λ x. f (g x)) xs
sum_by-map f g [] = refl
sum_by-map f g (x ∷ xs) =
    sum_by-cons f (g x) (map g xs) ∙ ap (λ n. f (g x) + n) (sum_by-map f g xs) ∙ sym (sum_by-cons (λ y. f (g y)) x xs)

-- a label that is longer than what is left makes all too long
pub too_long : {A : Type 0} (f : A → Label) (xs : List A) (i : ℕ) (x : A) (left most : ℕ) → i < length xs → x ≡ get_or xs i x
    → left + sum_by (λ p. label_len (f p)) (take i xs) ≡ most → left < label_len (f x)
    → true ≡ nat_lt most (sum_by (λ p. label_len (f p)) xs)
too_long f xs i x left most h here e long =
    let some = sum_by_more_le (λ p. label_len (f p)) xs i x h in
    let same : label_len (f (get_or xs i x)) ≡ label_len (f x) = ap (λ p. label_len (f p)) (sym here) in
    sym (lt-ltb _ _ (omega (arith, some, same, e, long)))

-- the first fault, in the tests of the labels that a program holds
abbrev pub pairs_fault : {A : Type 0} (names : Names) (f : A → Label) → List A → Option LabelFault
pairs_fault names f xs =
    if not (list_all (λ l. is_text (f l)) xs) then Some NotUtf8
    else if not (list_all (λ l. is_filled (f l).0) xs) then Some EmptyName
    else if not (list_all (λ l. is_well_named names (f l)) xs) then Some BadName
    else if not (list_all (λ l. is_filled (f l).1) xs) then Some EmptyValue
    else if not (are_sorted (map f xs)) then Some NotSorted
    else if nat_lt 64 (length xs) then Some TooMany
    else if nat_lt 16384 (sum_by (λ l. label_len (f l)) xs) then Some TooLong
    else None

pub pairs_fault-is : {A : Type 0} (names : Names) (f : A → Label) (xs : List A) → pairs_fault names f xs ≡ label_fault names (map f xs)
pairs_fault-is names f xs =
    rw (
      list_all-map is_text f xs,
      list_all-map (λ l. is_filled l.0) f xs,
      list_all-map (is_well_named names) f xs,
      list_all-map (λ l. is_filled l.1) f xs,
      length-map xs f,
      sum_by-map label_len f xs,
    ) refl

text_first : (b : Bool) (rest : Option LabelFault) → (if not b then Some NotUtf8 else rest) ≡ None → b ≡ true
text_first true rest e = refl
text_first false rest e = absurd cc

-- labels with no fault are texts
pub all_texts : {A : Type 0} (names : Names) (f : A → Label) (xs : List A) → label_fault names (map f xs) ≡ None → list_all (λ l. is_text (f l)) xs ≡ true
all_texts names f xs e = text_first _ _ (pairs_fault-is names f xs ∙ e)
