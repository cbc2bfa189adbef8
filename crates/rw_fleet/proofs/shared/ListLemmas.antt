-- Lists that a loop takes from the front, and lists with one element more or another.
use Rattle.std.proofs.Common.{◌≡◌, ℕ, ◌<◌, List, [], ◌∷◌, ◌++◌, length, Some, sym, ap, ◌∙◌, append_assoc, append-nil, length-append, arith}
use Rattle.std.specs.Prelude.{slice_get, get_or}
use Rattle.std.proofs.lemmas.List.{nil_from_length}
use Rattle.std.proofs.lemmas.Option.{slice_get-get_or}

module _ {A : Type 0} where
  pub none_left : (all done rest : List A) → all ≡ done ++ rest → length all ≡ length done → all ≡ done
  none_left all done rest is len = is ∙ ap (λ l. done ++ l) (nil_from_length rest (let e = ap length is in omega (arith, length-append done rest))) ∙ append-nil done

  -- the first of the rest joins what is done
  pub moved : (all done rest later : List A) (x : A) → all ≡ done ++ rest → rest ≡ x ∷ later → all ≡ (done ++ x ∷ []) ++ later
  moved all done rest later x is first = is ∙ ap (λ l. done ++ l) first ∙ sym (append_assoc done (x ∷ []) later)

  pub pushed : (all old more after : List A) (x : A) → after ≡ all ++ x ∷ [] → all ≡ old ++ more → after ≡ old ++ (more ++ x ∷ [])
  pushed all old more after x is was = is ∙ ap (λ l. l ++ x ∷ []) was ∙ append_assoc old more (x ∷ [])

  -- the element that an index gives
  pub get_at : (xs : List A) (x : A) (k : ℕ) → k < length xs → x ≡ get_or xs k x → slice_get xs k ≡ Some x
  get_at xs x k below is = slice_get-get_or xs k x below ∙ ap (λ y. Some y) (sym is)
