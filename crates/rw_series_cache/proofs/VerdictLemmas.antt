-- A verdict is put into a table, or into the map beside it.
use Rattle.std.proofs.Common.{◌≡◌, ℕ, zero, suc, ◌<◌, ◌≤◌, List, [], ◌∷◌, length, slice_get, slice_set, Bool, true, false, cond, nat_eq, Option, Some, refl, sym, ap, ◌∙◌, arith}
use Rattle.std.proofs.Math.Dec.{eqb-zero-suc, eqb-suc-zero, eqb-suc-suc}
use Rattle.std.proofs.lemmas.Bool.{eqb-true}
use Rattle.std.proofs.lemmas.Option.{slice_get_past}
use Rattle.rw_series_cache.specs.inner.Verdicts.{first_of}
use Rattle.rw_series_cache.specs.declared.verdict.Verdict.{Verdict}

-- at its place in the table the new one is found, and elsewhere what was there
pub put_in_table : (xs : List (Option Verdict)) (k : ℕ) (v : Verdict) (r : ℕ) (beside : Option Verdict) → k < length xs
    → first_of (slice_get (slice_set xs k (Some v)) r) beside ≡ cond (nat_eq k r) (Some v) (first_of (slice_get xs r) beside)
put_in_table [] k v r beside lt = absurd (omega arith)
put_in_table (x ∷ xs) zero v zero beside lt = refl
put_in_table (x ∷ xs) zero v (suc r) beside lt = ap (λ b. cond b (Some v) (first_of (slice_get xs r) beside)) (sym (eqb-zero-suc r))
put_in_table (x ∷ xs) (suc k) v zero beside lt = ap (λ b. cond b (Some v) (first_of (Some x) beside)) (sym (eqb-suc-zero k))
put_in_table (x ∷ xs) (suc k) v (suc r) beside lt = put_in_table xs k v r beside (omega arith) ∙ ap (λ b. cond b (Some v) (first_of (slice_get xs r) beside)) (sym (eqb-suc-suc k r))

-- what is put into the map beyond the table is found
pub put_beside : (xs : List (Option Verdict)) (k : ℕ) (v : Verdict) (r : ℕ) (beside now : Option Verdict) → length xs ≤ k → now ≡ cond (nat_eq k r) (Some v) beside
    → first_of (slice_get xs r) now ≡ cond (nat_eq k r) (Some v) (first_of (slice_get xs r) beside)
put_beside xs k v r beside now le e = ap (first_of (slice_get xs r)) e ∙ by_test (nat_eq k r) refl
  where
    by_test : (b : Bool) → nat_eq k r ≡ b → first_of (slice_get xs r) (cond b (Some v) beside) ≡ cond b (Some v) (first_of (slice_get xs r) beside)
    by_test true same = let here : k ≡ r = eqb-true k r same in ap (λ o. first_of o (Some v)) (slice_get_past xs r (omega (arith, here, le)))
    by_test false other = refl
