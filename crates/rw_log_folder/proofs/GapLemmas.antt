-- What is missing among segments in order.
use Rattle.std.proofs.Common.{◌≡◌, ℕ, suc, ◌+◌, ◌-◌, ◌<◌, ◌≤◌, ltb, ◌==◌, Bool, true, false, true≢false, cond, ◌||◌, List, [], ◌∷◌, length, drop, get_or, Option, None, Some, Ok, Err, ◌↔◌, refl, sym, ap, ◌∙◌, subst, arith}
use Rattle.std.specs.List.{All, filter}
use Rattle.std.specs.List.Sorted.{IsNonDecreasingBy, IsPermutation, IsSortedBy}
use Rattle.std.specs.Ordering.{is_lt, ordering_then}
use Rattle.std.specs.declared.cmp.Ordering.{Ordering}
use Rattle.std.specs.declared.cmp.Ordering.TheVariants.{Less, Equal, Greater}
use Rattle.std.proofs.lemmas.Bool.Decides.{nat_tests}
use Rattle.std.proofs.lemmas.List.Folds.{list_any_none}
use Rattle.std.proofs.lemmas.List.Elements.{All-head, All-weaker, filter_passes}
use Rattle.std.proofs.lemmas.List.{drop_more}
use Rattle.std.proofs.lemmas.List.Sorted.{All-permutation, list_any-IsPermutation, IsNonDecreasingBy-from_sort}
use Rattle.rw_log_folder.specs.declared.listing.NumberedName.{NumberedName}
use Rattle.std.specs.declared.result.Result.{Result}
use Rattle.std.proofs.lemmas.Bool.{or_right}
use Rattle.rw_log_folder.specs.declared.order.OrderFault.{OrderFault}
use Rattle.rw_log_folder.specs.declared.order.OrderFault.TheVariants.{OutOfMemory, Missing}
use Rattle.rw_log_folder.specs.Order.{comes_before, is_after_checkpoint, has_number, has_above, AreByNumber, IsGap, HasNoGap}
use Rattle.rw_log_folder.specs.inner.Order.{gap_after}

abbrev number : NumberedName → ℕ
number s = s.number

-- ---- names in order
pub first_not_lt : (a b : Ordering) → is_lt (ordering_then a b) ≡ false → is_lt a ≡ false
first_not_lt Less b e = e
first_not_lt Equal b e = refl
first_not_lt Greater b e = e

numbers_rise : (ns : List NumberedName) → IsSortedBy comes_before ns → IsNonDecreasingBy number ns
numbers_rise ns up =
    IsNonDecreasingBy-from_sort number ns (λ k d low lt. first_not_lt _ _ (up k d low lt))

pub tail_up : {X : Type 0} (n : X → ℕ) (x : X) (xs : List X) → IsNonDecreasingBy n (x ∷ xs) → IsNonDecreasingBy n xs
tail_up n x xs up i j d le lt = up (suc i) (suc j) d (omega arith) (omega arith)

pub head_low : {X : Type 0} (n : X → ℕ) (x : X) (xs : List X) → IsNonDecreasingBy n (x ∷ xs) → All (λ (t : X). n x ≤ n t) xs
head_low n x xs up j d lt = up 0 (suc j) d (omega arith) (omega arith)

-- ---- tests
pub differ : (a n m : ℕ) → n < a → a ≤ m → (m == n) ≡ false
differ a n m h k = grind (arith, nat_tests)

beyond : (m k a : ℕ) → ltb (m + 1) a ≡ false → (a == k) ≡ false → m < k → a < k
beyond m k a near ne low = grind (arith, nat_tests)

not_above : (k a : ℕ) → a < k → ltb k a ≡ false
not_above k a h = grind (arith, nat_tests)

less : (a b : ℕ) → ltb a b ≡ true → a < b
less a b h = grind (arith, nat_tests)

no_less : (a b : ℕ) → ltb a b ≡ false → ltb b a ≡ false → a ≡ b
no_less a b h k = grind (arith, nat_tests)

or_unless : (a b : Bool) → (a ≡ false → b ≡ true) → (a || b) ≡ true
or_unless true b h = refl
or_unless false b h = h refl

or_second : (a b : Bool) → a ≡ false → (a || b) ≡ true → b ≡ true
or_second a b h k = sym (ap (λ c. c || b) h) ∙ k

none_at : (a n : ℕ) (ns : List NumberedName) → n < a → All (λ (t : NumberedName). a ≤ t.number) ns → has_number ns n ≡ false
none_at a n ns h low = list_any_none (λ (t : NumberedName). t.number == n) ns (λ k d lt. differ a n _ h (low k d lt))

-- ---- the walk finds the least gap
gap_here : (m : ℕ) (s : NumberedName) (ss : List NumberedName) → IsNonDecreasingBy number (s ∷ ss) → ltb (m + 1) s.number ≡ true → IsGap m (s ∷ ss) (m + 1)
gap_here m s ss up far =
    let high : m + 1 < s.number = less (m + 1) s.number far in
    record {
      above = omega arith;
      absent = ap (λ c. c || has_number ss (m + 1)) (differ s.number (m + 1) s.number high (omega arith)) ∙ none_at s.number (m + 1) ss high (head_low number s ss up);
      later = ap (λ c. c || has_above ss (m + 1)) far;
      least = λ k low lt. absurd (omega arith);
    }

gap_past : (m n : ℕ) (s : NumberedName) (ss : List NumberedName) → m ≤ s.number → ltb (m + 1) s.number ≡ false → IsGap s.number ss n → IsGap m (s ∷ ss) n
gap_past m n s ss low near is =
    let past : s.number < n = is.above in
    record {
      above = omega arith;
      absent = ap (λ c. c || has_number ss n) (lower s.number n past) ∙ is.absent;
      later = or_right (ltb n s.number) (has_above ss n) is.later;
      least = λ k lk lt. or_unless (s.number == k) (has_number ss k) (λ ne. is.least k (beyond m k s.number near ne lk) lt);
    }
  where
    lower : (a b : ℕ) → a < b → (a == b) ≡ false
    lower a b h = grind (arith, nat_tests)

abbrev or_zero : Option ℕ → ℕ
or_zero None = 0
or_zero (Some n) = n

pub gap-some : (m n : ℕ) (ns : List NumberedName) → IsNonDecreasingBy number ns → All (λ (t : NumberedName). m ≤ t.number) ns → gap_after m ns ≡ Some n → IsGap m ns n
gap-some m n [] up low e = absurd cc
gap-some m n (s ∷ ss) up low e = by_test (ltb (m + 1) s.number) refl (gap-some s.number n ss (tail_up number s ss up) (head_low number s ss up)) e
  where
    by_test : (b : Bool) → ltb (m + 1) s.number ≡ b → (gap_after s.number ss ≡ Some n → IsGap s.number ss n) → cond b (Some (m + 1)) (gap_after s.number ss) ≡ Some n → IsGap m (s ∷ ss) n
    by_test true far on e = subst (IsGap m (s ∷ ss)) (ap or_zero e) (gap_here m s ss up far)
    by_test false near on e = gap_past m n s ss (All-head (λ (t : NumberedName). m ≤ t.number) s ss low) near (on e)

pub gap-none : (m : ℕ) (ns : List NumberedName) → IsNonDecreasingBy number ns → gap_after m ns ≡ None → HasNoGap m ns
gap-none m [] up e k lk later = absurd (true≢false (sym later))
gap-none m (s ∷ ss) up e k lk later = by_test (ltb (m + 1) s.number) refl (λ rest. gap-none s.number ss (tail_up number s ss up) rest) e
  where
    by_test : (b : Bool) → ltb (m + 1) s.number ≡ b → (gap_after s.number ss ≡ None → HasNoGap s.number ss) → cond b (Some (m + 1)) (gap_after s.number ss) ≡ None → has_number (s ∷ ss) k ≡ true
    by_test true far on e = absurd cc
    by_test false near on e = or_unless (s.number == k) (has_number ss k) (λ ne.
        let past : s.number < k = beyond m k s.number near ne lk in
        on e k past (or_second (ltb k s.number) (has_above ss k) (not_above k s.number past) later))

-- ---- a step of the walk
module _ (m i : ℕ) (ns : List NumberedName) (d : NumberedName) (lt : i < length ns) where
  pub gap_stops : 1 < (get_or ns i d).number - m → gap_after m (drop i ns) ≡ Some (m + 1)
  gap_stops far = ap (gap_after m) (drop_more ns i d lt) ∙ ap (λ b. cond b (Some (m + 1)) (gap_after (get_or ns i d).number (drop (i + 1) ns))) (far_test m (get_or ns i d).number far)
    where
      far_test : (m a : ℕ) → 1 < a - m → ltb (m + 1) a ≡ true
      far_test m a h = grind (arith, nat_tests)

  pub gap_goes_on : (get_or ns i d).number - m ≤ 1 → gap_after m (drop i ns) ≡ gap_after (get_or ns i d).number (drop (i + 1) ns)
  gap_goes_on near = ap (gap_after m) (drop_more ns i d lt) ∙ ap (λ b. cond b (Some (m + 1)) (gap_after (get_or ns i d).number (drop (i + 1) ns))) (near_test m (get_or ns i d).number near)
    where
      near_test : (m a : ℕ) → a - m ≤ 1 → ltb (m + 1) a ≡ false
      near_test m a h = grind (arith, nat_tests)

-- ---- there is one gap at most
not_less : (m a b : ℕ) (ns : List NumberedName) → IsGap m ns a → IsGap m ns b → ltb a b ≡ false
not_less m a b ns one other = by_test (ltb a b) refl
  where
    by_test : (t : Bool) → ltb a b ≡ t → t ≡ false
    by_test true e = absurd (true≢false (sym (other.least a one.above (less a b e)) ∙ one.absent))
    by_test false e = refl

same_gap : (m a b : ℕ) (ns : List NumberedName) → IsGap m ns a → IsGap m ns b → a ≡ b
same_gap m a b ns one other = no_less a b (not_less m a b ns one other) (not_less m b a ns other one)

pub gap-is : (m n : ℕ) (ns : List NumberedName) → IsNonDecreasingBy number ns → All (λ (t : NumberedName). m ≤ t.number) ns → IsGap m ns n → gap_after m ns ≡ Some n
gap-is m n ns up low is = by_walk (gap_after m ns) refl
  where
    by_walk : (o : Option ℕ) → gap_after m ns ≡ o → o ≡ Some n
    by_walk None e = absurd (true≢false (sym (gap-none m ns up e n is.above is.later) ∙ is.absent))
    by_walk (Some a) e = ap Some (same_gap m a n ns (gap-some m a ns up low e) is)

-- ---- and it does not depend on the order of a listing
module _ (xs ys : List NumberedName) (same : IsPermutation xs ys) where
  number_moved : (k : ℕ) → has_number xs k ≡ has_number ys k
  number_moved k = list_any-IsPermutation (λ (s : NumberedName). s.number == k) xs ys same

  above_moved : (k : ℕ) → has_above xs k ≡ has_above ys k
  above_moved k = list_any-IsPermutation (is_after_checkpoint k) xs ys same

  gap_there : (m n : ℕ) → IsGap m xs n → IsGap m ys n
  gap_there m n is = record {
    above = is.above;
    absent = sym (number_moved n) ∙ is.absent;
    later = sym (above_moved n) ∙ is.later;
    least = λ k low high. sym (number_moved k) ∙ is.least k low high;
  }

  gap_back : (m n : ℕ) → IsGap m ys n → IsGap m xs n
  gap_back m n is = record {
    above = is.above;
    absent = number_moved n ∙ is.absent;
    later = above_moved n ∙ is.later;
    least = λ k low high. number_moved k ∙ is.least k low high;
  }

  whole_back : (m : ℕ) → HasNoGap m ys → HasNoGap m xs
  whole_back m is k low later = number_moved k ∙ is k low (sym (above_moved k) ∙ later)

-- ---- of the segments above a number
abbrev fault_of : {X : Type 0} → ℕ → Result X OrderFault
fault_of n = Err (Missing n)

abbrev number_missing : {X : Type 0} → Result X OrderFault → ℕ
number_missing (Ok x) = 0
number_missing (Err OutOfMemory) = 0
number_missing (Err (Missing n)) = n

module _ (m : ℕ) (names sorted : List NumberedName) (up : AreByNumber (filter (is_after_checkpoint m) names) sorted) where
  rise : IsNonDecreasingBy number sorted
  rise = numbers_rise sorted up.1

  all_low : All (λ (t : NumberedName). m ≤ t.number) sorted
  all_low = All-permutation (λ (t : NumberedName). m ≤ t.number) (filter (is_after_checkpoint m) names) sorted up.0
      (All-weaker (λ (t : NumberedName). is_after_checkpoint m t ≡ true) (λ (t : NumberedName). m ≤ t.number) (λ t h. weaker m t.number (less m t.number h)) (filter (is_after_checkpoint m) names) (filter_passes (is_after_checkpoint m) names))
    where
      weaker : (a b : ℕ) → a < b → a ≤ b
      weaker a b h = omega arith

  pub IsGap-found : (n : ℕ) → gap_after m sorted ≡ Some n → IsGap m (filter (is_after_checkpoint m) names) n
  IsGap-found n e = gap_back (filter (is_after_checkpoint m) names) sorted up.0 m n (gap-some m n sorted rise all_low e)

  pub gap-found : (n : ℕ) → IsGap m (filter (is_after_checkpoint m) names) n → gap_after m sorted ≡ Some n
  gap-found n is = gap-is m n sorted rise all_low (gap_there (filter (is_after_checkpoint m) names) sorted up.0 m n is)

  -- what the walk found is what a fault says
  pub missing_here : {X : Type 0} (a : ℕ) → gap_after m sorted ≡ Some a → (n : ℕ) → fault_of {X = X} a ≡ fault_of n ↔ IsGap m (filter (is_after_checkpoint m) names) n
  missing_here a e n = (
    λ same. subst (IsGap m (filter (is_after_checkpoint m) names)) (ap number_missing same) (IsGap-found a e),
    λ is. ap fault_of (ap or_zero (sym e ∙ gap-found n is)),
  )

  -- and what found nothing has another answer
  missing_nowhere : {X : Type 0} (r : Result X OrderFault) → gap_after m sorted ≡ None → ((n : ℕ) → r ≡ fault_of n → ⊥) → (n : ℕ) → r ≡ fault_of n ↔ IsGap m (filter (is_after_checkpoint m) names) n
  missing_nowhere r e never n = (λ same. absurd (never n same), λ is. absurd (nothing n (sym e ∙ gap-found n is)))
    where
      nothing : (n : ℕ) → None ≡ Some n → ⊥
      nothing n same = cc

  pub missing_ok : {X : Type 0} (x : X) → gap_after m sorted ≡ None → (n : ℕ) → Ok x ≡ fault_of n ↔ IsGap m (filter (is_after_checkpoint m) names) n
  missing_ok {X} x e = missing_nowhere {X = X} (Ok x) e never
    where
      never : (n : ℕ) → Ok x ≡ fault_of {X = X} n → ⊥
      never n same = cc

  pub missing_full : {X : Type 0} → gap_after m sorted ≡ None → (n : ℕ) → Err OutOfMemory ≡ fault_of {X = X} n ↔ IsGap m (filter (is_after_checkpoint m) names) n
  missing_full {X} e = missing_nowhere {X = X} (Err OutOfMemory) e never
    where
      never : (n : ℕ) → Err OutOfMemory ≡ fault_of {X = X} n → ⊥
      never n same = cc

  pub IsWhole-found : gap_after m sorted ≡ None → HasNoGap m (filter (is_after_checkpoint m) names)
  IsWhole-found e = whole_back (filter (is_after_checkpoint m) names) sorted up.0 m (gap-none m sorted rise e)
