-- One shard of the machine is changed.
use Rattle.std.proofs.Common.{◌≡◌, ℕ, zero, suc, false, List, [], ◌∷◌, ◌++◌, Some, None, slice_get, refl, sym, ap, ◌∙◌, ◌⊎◌, inl, inr, ◌&&◌, length}
use Rattle.std.specs.List.{list_all}
use Rattle.std.proofs.lemmas.Bool.{and_right}
use Rattle.rw_machine.specs.Shards.{Shard, is_drained}
use Rattle.rw_machine.specs.Worlds.{Setup, World, is_over, is_finished, all_drained}
use Rattle.rw_machine.specs.Steps.{change}
use Rattle.rw_simulation.specs.Freely.{Happening, happens_freely, run_freely}

pub change-is : (f : Shard → Shard) (i : ℕ) (ss : List Shard) (s : Shard) → slice_get ss i ≡ Some s → change i f ss ≡ change i (λ _. f s) ss
change-is f i [] s e = refl
change-is f zero (x ∷ xs) s e = let same : x ≡ s = cc in ap (λ y. f y ∷ xs) same
change-is f (suc i) (x ∷ xs) s e = ap (λ ys. x ∷ ys) (change-is f i xs s e)

pub change-get : (t : Shard) (i : ℕ) (ss : List Shard) (s : Shard) → slice_get ss i ≡ Some s → slice_get (change i (λ _. t) ss) i ≡ Some t
change-get t i [] s e = let no : None ≡ Some s → ⊥ = λ h. cc in absurd (no e)
change-get t zero (x ∷ xs) s e = refl
change-get t (suc i) (x ∷ xs) s e = change-get t i xs s e

pub change-twice : (t u : Shard) (i : ℕ) (ss : List Shard) → change i (λ _. u) (change i (λ _. t) ss) ≡ change i (λ _. u) ss
change-twice t u i [] = refl
change-twice t u zero (x ∷ xs) = refl
change-twice t u (suc i) (x ∷ xs) = ap (λ ys. x ∷ ys) (change-twice t u i xs)

pub change-same : (i : ℕ) (ss : List Shard) (s : Shard) → slice_get ss i ≡ Some s → change i (λ _. s) ss ≡ ss
change-same i [] s e = refl
change-same zero (x ∷ xs) s e = let same : x ≡ s = cc in ap (λ y. y ∷ xs) (sym same)
change-same (suc i) (x ∷ xs) s e = ap (λ ys. x ∷ ys) (change-same i xs s e)

pub get-last : {X : Type 0} (xs : List X) (x : X) → slice_get (xs ++ x ∷ []) (length xs) ≡ Some x
get-last [] x = refl
get-last (y ∷ ys) x = get-last ys x

pub run-append : (c : Setup) (hs gs : List Happening) (w : World) → run_freely c (hs ++ gs) w ≡ run_freely c gs (run_freely c hs w)
run-append c [] gs w = refl
run-append c (h ∷ hs) gs w = run-append c hs gs (happens_freely c w h)

pub not-all : (i : ℕ) (ss : List Shard) (s : Shard) → slice_get ss i ≡ Some s → is_drained s ≡ false → list_all is_drained ss ≡ false
not-all i [] s e d = let no : None ≡ Some s → ⊥ = λ h. cc in absurd (no e)
not-all zero (x ∷ xs) s e d = let same : x ≡ s = cc in ap (λ b. b && list_all is_drained xs) (ap is_drained same ∙ d)
not-all (suc i) (x ∷ xs) s e d = and_right (is_drained x) (list_all is_drained xs) (not-all i xs s e d)

-- the work of shard i goes on: nothing is killed, and nothing is closed or it is not drained
abbrev pub Goes : World → Shard → Type 0
Goes w s = (w.killed ≡ false) × ((w.closed ≡ None) ⊎ (is_drained s ≡ false))

pub not-over : (w : World) (i : ℕ) (s : Shard) → slice_get w.shards i ≡ Some s → Goes w s → is_over w ≡ false
not-over w i s e (k, inl n) = rw (k, n) refl
not-over w i s e (k, inr d) = rw k (and_right (is_finished w) (all_drained w) (not-all i w.shards s e d))
