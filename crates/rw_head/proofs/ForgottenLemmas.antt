-- A table in which samples are gone: to contracts nothing changes.
use Rattle.std.proofs.Common.{◌≡◌, ℕ, ◌+◌, List, [], ◌∷◌, length, get_or, refl, sym, ◌∙◌, ap, subst, arith}
use Rattle.rw_types.specs.Labels.{Labels}
use Rattle.rw_head.specs.Lists.{Lists, no_lists, added_of}
use Rattle.rw_head.specs.Store.{total}
use Rattle.rw_head.specs.inner.Lists.{AllSettled, Settled, HasPlaces, IsSound, kept_store, staged_store}
use Rattle.rw_head.proofs.AddedLemmas.{nothing_added}
use Rattle.rw_head.proofs.PlaceLemmas.{Index, HasPlaces-len, kept-part, staged-part, kept-staged}
use Rattle.rw_head.proofs.shared.StagingLemmas.{IsSound-committed}

no_items : {X : Type 0} (xs : List X) → length xs ≡ 0 → xs ≡ []
no_items [] e = refl
no_items (x ∷ xs) e = absurd (omega (arith, e))

pub settled_all : (touched : List ℕ) (ls : List Lists) → length touched ≡ 0 → Settled touched ls → AllSettled ls
settled_all [] ls e h = λ n lt. h.others n lt refl
settled_all (t ∷ ts) ls e h = absurd (omega (arith, e))

pub kept_forgotten : (index : Index) (ls ms : List Lists) → HasPlaces index ls → length ms ≡ length ls → ((n : ℕ) → (get_or ms n no_lists).kept ≡ (get_or ls n no_lists).kept) → kept_store index.entries ms ≡ kept_store index.entries ls
kept_forgotten index ls ms h len same = kept-part index ms ls (HasPlaces-len index ls ms h len) (λ n lt. same n)

pub staged_forgotten : (index : Index) (ls ms : List Lists) → HasPlaces index ls → length ms ≡ length ls → ((n : ℕ) → (get_or ms n no_lists).staged ≡ (get_or ls n no_lists).staged) → staged_store index.entries ms ≡ staged_store index.entries ls
staged_forgotten index ls ms h len same = staged-part index ms ls (HasPlaces-len index ls ms h len) (λ n lt. same n)

pub added_forgotten : (names : List Labels) (ls ms : List Lists) (touched : List ℕ) (fresh : List Labels) → length touched + length fresh ≡ 0 → added_of names ms touched ≡ added_of names ls touched
added_forgotten names ls ms touched fresh none =
    let e : touched ≡ [] = no_items touched (omega (arith, none)) in nothing_added names ms touched e ∙ sym (nothing_added names ls touched e)

pub IsSound-forgotten : (index : Index) (ls ms : List Lists) (touched : List ℕ) (fresh : List Labels) (count staged : ℕ) → IsSound index ls touched fresh count staged → length touched + length fresh ≡ 0 → length ms ≡ length ls
    → ((n : ℕ) → (get_or ms n no_lists).kept ≡ (get_or ls n no_lists).kept) → ((n : ℕ) → (get_or ms n no_lists).staged ≡ (get_or ls n no_lists).staged) → IsSound index ms touched fresh count staged
IsSound-forgotten index ls ms touched fresh count staged h none len kept same =
    let untouched : touched ≡ [] = no_items touched (omega (arith, none)) in
    let unnamed : fresh ≡ [] = no_items fresh (omega (arith, none)) in
    let before : AllSettled ls = settled_all touched ls (omega (arith, none)) h.settled in
    let after : AllSettled ms = λ n lt. kept n ∙ before n (omega (arith, lt, len)) ∙ sym (same n) in
    let alike : kept_store index.entries ls ≡ staged_store index.entries ls = kept-staged index ls ls h.places before in
    let zero : staged ≡ 0 = omega (arith, h.counted, h.counted_staged, ap total alike) in
    let sum : count + staged ≡ count = omega (arith, zero) in
    let made : IsSound index ms touched fresh (count + staged) 0 = IsSound-committed index ls ms touched touched fresh fresh count staged h untouched unnamed len after same in
    subst (IsSound index ms touched fresh count) (sym zero) (subst (λ (k : ℕ). IsSound index ms touched fresh k 0) sum made)
