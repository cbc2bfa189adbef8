-- A list cut at a number.
use Rattle.std.proofs.Common.{◌≡◌, ℕ, List, [], ◌∷◌, ◌++◌, length, take, refl, sym, ap, ◌∙◌, append-nil}
use Rattle.std.specs.Prelude.{drop}
use Rattle.std.proofs.lemmas.List.{take-append-drop}
use Rattle.std.proofs.Math.Seq.{drop-append_seam, take-append_seam}

module _ {A : Type 0} where
  take_all : (xs : List A) → take (length xs) xs ≡ xs
  take_all [] = refl
  take_all (x ∷ xs) = ap (λ l. x ∷ l) (take_all xs)

  drop_all : (xs : List A) → drop (length xs) xs ≡ []
  drop_all [] = refl
  drop_all (x ∷ xs) = drop_all xs

  -- one more after the cut
  pub held_more : (n : ℕ) (r : List A) (e : A) → drop n r ≡ [] → n ≡ length (take n r) → (take n (r ++ e ∷ []) ≡ take n r) × (drop n (r ++ e ∷ []) ≡ e ∷ [])
  held_more n r e none counted =
      let all : take n r ≡ r = sym (append-nil (take n r)) ∙ ap (λ h. take n r ++ h) (sym none) ∙ take-append-drop n r in
      let len : n ≡ length r = counted ∙ ap length all in
      (ap (λ k. take k (r ++ e ∷ [])) len ∙ take-append_seam r (e ∷ []) ∙ sym all, ap (λ k. drop k (r ++ e ∷ [])) len ∙ drop-append_seam r (e ∷ []))

  -- the cut at the end
  pub held_placed : (n m : ℕ) (r : List A) → m ≡ length (take n r ++ drop n r) → (take m r ≡ take n r ++ drop n r) × (drop m r ≡ [])
  held_placed n m r is =
      let whole = take-append-drop n r in
      let len : m ≡ length r = is ∙ ap length whole in
      (ap (λ k. take k r) len ∙ take_all r ∙ sym whole, ap (λ k. drop k r) len ∙ drop_all r)
