-- Segments, copied one after the other.
use Rattle.std.proofs.Common.{◌≡◌, ◌∙◌, ◌<◌, ◌+◌, ◌++◌, ◌∷◌, [], ℕ, List, length, take, get_or, sym, ap}
use Rattle.std.proofs.lemmas.List.{take_more}

-- one more segment is copied
pub copied_more : {A : Type 0} (xs old new : List A) (i : ℕ) (x : A) → new ≡ old ++ x ∷ [] → old ≡ take i xs → i < length xs → get_or xs i x ≡ x → new ≡ take (i + 1) xs
copied_more {A} xs old new i x e f lt at = e ∙ ap (λ ys. ys ++ x ∷ []) f ∙ ap (λ y. take i xs ++ y ∷ []) (sym at) ∙ sym (take_more xs i x lt)
