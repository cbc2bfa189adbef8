-- The newest of checkpoints in order is the last one.
use Rattle.std.proofs.Common.{◌≡◌, ℕ, ◌≤◌, List, [], ◌∷◌, ◌++◌, length, get_or, Option, None, Some, refl, sym, ◌∙◌, subst, arith, option_to_list, MatchOption}
use Rattle.std.specs.List.{All, Contains}
use Rattle.std.specs.List.Sorted.{IsNonDecreasingBy, IsPermutation}
use Rattle.std.proofs.lemmas.List.{get_or_push, length_push}
use Rattle.std.proofs.lemmas.List.Elements.{All-contains, Contains-push}
use Rattle.std.proofs.lemmas.List.Sorted.{All-permutation, Contains-permutation, IsPermutation-sym, length_permutation}
use Rattle.rw_log_folder.specs.declared.listing.Checkpoint.{Checkpoint}
use Rattle.rw_log_folder.specs.Order.{IsNewest}

abbrev pub checkpoint_number : Checkpoint → ℕ
checkpoint_number c = c.name.number

is_empty : (cs : List Checkpoint) → length cs ≡ 0 → cs ≡ []
is_empty [] e = refl
is_empty (c ∷ cs) e = absurd (omega arith)

last_is_most : (older : List Checkpoint) (c : Checkpoint) → IsNonDecreasingBy checkpoint_number (older ++ c ∷ []) → All (λ (d : Checkpoint). d.name.number ≤ c.name.number) (older ++ c ∷ [])
last_is_most older c up k d lt =
    let long = length_push older c in
    subst (λ (x : Checkpoint). checkpoint_number (get_or (older ++ c ∷ []) k d) ≤ checkpoint_number x) (get_or_push older c d (length older) refl)
    (up k (length older) d (omega arith) (omega arith))

pub IsNewest-last : (cs sorted older : List Checkpoint) (newest : Option Checkpoint) → IsPermutation cs sorted → IsNonDecreasingBy checkpoint_number sorted
    → sorted ≡ older ++ option_to_list newest → MatchOption newest (length sorted ≡ 0) (λ _. Unit {0}) → IsNewest cs newest
IsNewest-last cs sorted older None same up e none = is_empty cs (sym (length_permutation cs sorted same) ∙ none)
IsNewest-last cs sorted older (Some c) same up e none =
    let back = IsPermutation-sym cs sorted same in (
      Contains-permutation sorted cs c back (subst (λ xs. Contains xs c) (sym e) (Contains-push older c)),
      All-permutation (λ (d : Checkpoint). d.name.number ≤ c.name.number) sorted cs back
          (subst (All (λ (d : Checkpoint). d.name.number ≤ c.name.number)) (sym e) (last_is_most older c (subst (IsNonDecreasingBy checkpoint_number) e up))),
    )

-- two that are newest have one number
pub number_of_newest : (cs : List Checkpoint) (a b : Checkpoint) → IsNewest cs (Some a) → IsNewest cs (Some b) → a.name.number ≡ b.name.number
number_of_newest cs a b one other =
    let up = All-contains (λ (d : Checkpoint). d.name.number ≤ b.name.number) cs a other.1 one.0 in
    let down = All-contains (λ (d : Checkpoint). d.name.number ≤ a.name.number) cs b one.1 other.0 in
    omega arith
