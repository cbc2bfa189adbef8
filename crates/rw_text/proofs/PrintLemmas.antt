-- Labels are printed one after the other.
use Rattle.std.proofs.Common.{◌≡◌, ℕ, List, [], ◌∷◌, ◌++◌, map, flat_map, Result, Ok, Err, OnOk, refl, sym, ◌∙◌, ap, append_assoc}
use Rattle.rw_types.specs.Labels.{Label}
use Rattle.rw_text.specs.LabelText.{label_text, labels_text}
use Rattle.rw_text.proofs.LabelLemmas.{more_text, labels_text-cons}

more_text-map : {A : Type 0} (f : A → Label) (xs : List A) → more_text (map f xs) ≡ flat_map (λ x. 44 ∷ label_text (f x)) xs ++ 125 ∷ []
more_text-map f [] = refl
more_text-map f (x ∷ xs) =
    ap (λ (t : List ℕ). 44 ∷ (label_text (f x) ++ t)) (more_text-map f xs)
    ∙ sym (append_assoc (44 ∷ label_text (f x)) (flat_map (λ x. 44 ∷ label_text (f x)) xs) (125 ∷ []))

pub printed : {A : Type 0} (f : A → Label) (x : A) (xs : List A) (out begun longer whole : List ℕ) → begun ≡ out ++ 123 ∷ [] → longer ≡ begun ++ label_text (f x)
    → whole ≡ longer ++ flat_map (λ x. 44 ∷ label_text (f x)) xs ++ 125 ∷ [] → whole ≡ out ++ labels_text (map f (x ∷ xs))
printed f x xs out begun longer whole e g h =
    let more : List ℕ = flat_map (λ x. 44 ∷ label_text (f x)) xs ++ 125 ∷ [] in
    h ∙ append_assoc longer (flat_map (λ x. 44 ∷ label_text (f x)) xs) (125 ∷ [])
    ∙ ap (λ (t : List ℕ). t ++ more) (g ∙ ap (λ (t : List ℕ). t ++ label_text (f x)) e)
    ∙ append_assoc (out ++ 123 ∷ []) (label_text (f x)) more
    ∙ append_assoc out (123 ∷ []) (label_text (f x) ++ more)
    ∙ ap (λ (t : List ℕ). out ++ 123 ∷ (label_text (f x) ++ t)) (sym (more_text-map f xs))
    ∙ ap (λ (t : List ℕ). out ++ t) (sym (labels_text-cons (f x) (map f xs)))

pub printed_none : (out begun whole : List ℕ) → begun ≡ out ++ 123 ∷ [] → whole ≡ begun ++ 125 ∷ [] → whole ≡ out ++ labels_text []
unfolding labels_text
printed_none out begun whole e h = h ∙ ap (λ (t : List ℕ). t ++ 125 ∷ []) e ∙ append_assoc out (123 ∷ []) (125 ∷ [])

pub also_ok : {T E P Q : Type 0} (r : Result T E) → OnOk r P → (P → Q) → OnOk r Q
also_ok (Ok x) h f = f h
also_ok (Err e) h f = tt
