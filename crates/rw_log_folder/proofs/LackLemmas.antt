-- A segment that is passed over by a listing in order is missing in it.
use Rattle.std.proofs.Common.{◌≡◌, ℕ, suc, ◌<◌, ltb, ◌==◌, ◌||◌, ◌&&◌, not, cond, Bool, true, false, true≢false, List, [], ◌∷◌, Option, None, Some, string_len, refl, sym, ap, ◌∙◌, subst, arith}
use Rattle.std.specs.List.{find, list_any}
use Rattle.std.specs.List.Sorted.{IsNonDecreasingBy, IsSortedBy}
use Rattle.std.proofs.lemmas.Bool.{or_right}
use Rattle.std.proofs.lemmas.Bool.Decides.{nat_tests}
use Rattle.std.proofs.lemmas.List.Folds.{list_any_none}
use Rattle.std.proofs.lemmas.List.Sorted.{IsNonDecreasingBy-from_sort}
use Rattle.rw_log_folder.specs.Folders.{comes_before}
use Rattle.rw_log_folder.specs.Reading.{SegmentKey, is_after, next_in}
use Rattle.rw_log_folder.specs.GrowingFolders.{FolderState, IsBelow, IsByNumber, IsLackedBy, IsMissingIn, IsPassed, due, next, reading}
use Rattle.rw_log_folder.specs.declared.files.SegmentName.{SegmentName}
use Rattle.rw_log_folder.proofs.GapLemmas.{differ, first_not_lt, head_low, tail_up}

abbrev number : SegmentName → ℕ
number s = s.number

rise : (names : List SegmentName) → IsSortedBy comes_before names → IsNonDecreasingBy number names
rise names up = IsNonDecreasingBy-from_sort number names (λ k d low lt. first_not_lt _ _ (up k d low lt))

less : (a b : ℕ) → a < b → ltb a b ≡ true
less a b h = grind (arith, nat_tests)

-- ---- a segment that is due comes after the current one
due_after : (first : ℕ) (current : Option SegmentKey) (n : ℕ) (t : SegmentName) → n ≡ due first current → (t.number == n) ≡ true → is_after first current t ≡ true
due_after first None n t e same = from_first first n t.number e same
  where
    from_first : (f n k : ℕ) → n ≡ f → (k == n) ≡ true → not (ltb k f) ≡ true
    from_first f n k e same = grind (arith, nat_tests)
due_after first (Some key) n t e same = ap (λ b. b || ((key.number == t.number) && ltb key.length (string_len t.name))) (above key.number n t.number e same)
  where
    above : (a n k : ℕ) → n ≡ suc a → (k == n) ≡ true → ltb a k ≡ true
    above a n k e same = grind (arith, nat_tests)

-- ---- the search passes a place at which it is missing
module _ (p : SegmentName → Bool) (n : ℕ) (takes : (t : SegmentName) → (t.number == n) ≡ true → p t ≡ true) where
  not_due : (x : SegmentName) → p x ≡ false → (x.number == n) ≡ false
  not_due x e = by_test (x.number == n) refl
    where
      by_test : (b : Bool) → (x.number == n) ≡ b → b ≡ false
      by_test true same = absurd (true≢false (sym (takes x same) ∙ e))
      by_test false same = refl

  lacked : (names : List SegmentName) (s : SegmentName) → IsNonDecreasingBy number names → find p names ≡ Some s → n < s.number → IsLackedBy (Some names) n
  lacked [] s up e below = absurd cc
  lacked (x ∷ xs) s up e below = by_test (p x) refl (λ found. lacked xs s (tail_up number x xs up) found below) e
    where
      here : n < x.number → IsLackedBy (Some (x ∷ xs)) n
      here low = (
        ap (λ b. b || list_any (λ (t : SegmentName). t.number == n) xs) (differ x.number n x.number low (omega arith))
            ∙ list_any_none (λ (t : SegmentName). t.number == n) xs (λ k d lt. differ x.number n _ low (head_low number x xs up k d lt)),
        ap (λ b. b || list_any (λ (t : SegmentName). ltb n t.number) xs) (less n x.number low),
      )

      by_test : (b : Bool) → p x ≡ b → (find p xs ≡ Some s → IsLackedBy (Some xs) n) → cond b (Some x) (find p xs) ≡ Some s → IsLackedBy (Some (x ∷ xs)) n
      by_test true is later e = here (subst (IsBelow n) (sym e) below)
      by_test false is later e =
          let rest = later e in (
            ap (λ b. b || list_any (λ (t : SegmentName). t.number == n) xs) (not_due x is) ∙ rest.0,
            or_right (ltb n x.number) (list_any (λ (t : SegmentName). ltb n t.number) xs) rest.1,
          )

lacked_in : (first : ℕ) (current : Option SegmentKey) (listed : Option (List SegmentName)) (n : ℕ) → IsByNumber listed → n ≡ due first current → IsBelow n (next_in first current listed) → IsLackedBy listed n
lacked_in first current None n up e below = below
lacked_in first current (Some names) n up e below = by_found (find (is_after first current) names) refl below
  where
    by_found : (o : Option SegmentName) → find (is_after first current) names ≡ o → IsBelow n o → IsLackedBy (Some names) n
    by_found None is low = absurd low
    by_found (Some s) is low = lacked (is_after first current) n (λ t same. due_after first current n t e same) names s (rise names up) is low

pub missing_passed : (s : FolderState) (n : ℕ) → IsByNumber (reading s).listed → IsPassed s (next s) n → IsMissingIn s n
missing_passed s n up is = (is.0, lacked_in s.first s.current (reading s).listed n up is.0 is.1)
