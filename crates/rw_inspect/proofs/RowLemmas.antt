-- Rows, one after the other.
use Rattle.std.proofs.Common.{◌≡◌, ℕ, ◌+◌, ◌<◌, ◌≤◌, List, [], ◌++◌, map, flat_map, length, get_or, drop, refl, sym, ap, ◌∙◌, append_assoc, append-nil}
use Rattle.std.specs.List.{zip}
use Rattle.std.proofs.lemmas.List.{drop_more, drop_all}

module _ {A B C : Type 0} (v : A → C) (f : C × B → List ℕ) (labels : List A) (numbers : List B) where
  -- the rows from this place on
  abbrev pub rows_from : ℕ → List ℕ
  rows_from i = flat_map f (zip (map v (drop i labels)) (drop i numbers))

  next_row : (i : ℕ) (a : A) (b : B) → i < length labels → i < length numbers → a ≡ get_or labels i a → b ≡ get_or numbers i b → rows_from i ≡ f (v a, b) ++ rows_from (i + 1)
  next_row i a b in_labels in_numbers label number =
      rw (drop_more labels i a in_labels, drop_more numbers i b in_numbers) (ap (λ x. f (v x, get_or numbers i b) ++ rows_from (i + 1)) (sym label) ∙ ap (λ x. f (v a, x) ++ rows_from (i + 1)) (sym number))

  -- one more row
  pub row_pushed : (i : ℕ) (a : A) (b : B) (before after whole : List ℕ) → i < length labels → i < length numbers → a ≡ get_or labels i a → b ≡ get_or numbers i b
      → after ≡ before ++ f (v a, b) → before ++ rows_from i ≡ whole → after ++ rows_from (i + 1) ≡ whole
  row_pushed i a b before after whole in_labels in_numbers label number pushed so_far =
      let next = next_row i a b in_labels in_numbers label number in
      rw pushed (append_assoc before (f (v a, b)) (rows_from (i + 1)) ∙ ap (λ rows. before ++ rows) (sym next) ∙ so_far)

  -- and there are no more
  pub all_pushed : (i : ℕ) (out whole : List ℕ) → length labels ≤ i → out ++ rows_from i ≡ whole → out ≡ whole
  all_pushed i out whole ended so_far =
      let none : rows_from i ≡ [] = rw (drop_all i labels ended) refl in
      sym (append-nil out) ∙ ap (λ rows. out ++ rows) (sym none) ∙ so_far
