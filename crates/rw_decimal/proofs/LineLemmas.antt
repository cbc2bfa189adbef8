-- Lines of samples, split before their values.
use Rattle.std.proofs.Math.Seq.{take-append_seam}
use Rattle.std.proofs.lemmas.List.{length-append, take-append-drop}
use Rattle.std.proofs.Common.{◌≡◌, ◌==◌, ◌-◌, ℕ, List, [], ◌∷◌, ◌++◌, length, take, drop, All, false, codes, sym, ap, ◌∙◌, arith, append_assoc}
use Rattle.rw_text.proofs.shared.SplitLemmas.{split_unique}
use Rattle.rw_decimal.specs.ExactText.{IsSampleOf}

abbrev Bare : List ℕ → Type 0
Bare text = All (λ b. (b == 32) ≡ false) text

-- what follows the first word
after_word : (line front value rest : List ℕ) → (s : IsSampleOf line front value) → line ≡ codes "sample " ++ rest → rest ≡ s.number ++ 32 ∷ (s.time ++ 32 ∷ value)
after_word line front value rest s e =
    let whole : codes "sample " ++ rest ≡ codes "sample " ++ s.number ++ 32 ∷ (s.time ++ 32 ∷ value) =
    sym e ∙ s.parts ∙ ap (λ (t : List ℕ). t ++ value) s.before ∙ ap (λ (t : List ℕ). codes "sample " ++ t) (append_assoc s.number (32 ∷ (s.time ++ 32 ∷ [])) value ∙ ap (λ (t : List ℕ). s.number ++ 32 ∷ t) (append_assoc s.time (32 ∷ []) value)) in
    ap (drop 7) whole

pub no_word : (line : List ℕ) → ((rest : List ℕ) → line ≡ codes "sample " ++ rest → ⊥) → (front value : List ℕ) → IsSampleOf line front value → ⊥
no_word line none front value s =
    none (s.number ++ 32 ∷ (s.time ++ 32 ∷ value))
    (s.parts ∙ ap (λ (t : List ℕ). t ++ value) s.before ∙ ap (λ (t : List ℕ). codes "sample " ++ t) (append_assoc s.number (32 ∷ (s.time ++ 32 ∷ [])) value ∙ ap (λ (t : List ℕ). s.number ++ 32 ∷ t) (append_assoc s.time (32 ∷ []) value)))

pub no_number : (line rest : List ℕ) → line ≡ codes "sample " ++ rest → ((number more : List ℕ) → rest ≡ number ++ 32 ∷ more → ⊥) → (front value : List ℕ) → IsSampleOf line front value → ⊥
no_number line rest e none front value s = none s.number (s.time ++ 32 ∷ value) (after_word line front value rest s e)

pub no_time : (line rest number more : List ℕ) → line ≡ codes "sample " ++ rest → rest ≡ number ++ 32 ∷ more → Bare number → ((time value : List ℕ) → more ≡ time ++ 32 ∷ value → ⊥)
    → (front value : List ℕ) → IsSampleOf line front value → ⊥
no_time line rest number more e f bare none front value s =
    none s.time value (split_unique 32 number s.number more (s.time ++ 32 ∷ value) bare s.number_bare (sym f ∙ after_word line front value rest s e)).1

-- a line is what is before its value, and the value
pub is_sample : (line rest number more time value : List ℕ) → line ≡ codes "sample " ++ rest → rest ≡ number ++ 32 ∷ more → Bare number → more ≡ time ++ 32 ∷ value → Bare time
    → (line ≡ (codes "sample " ++ number ++ 32 ∷ (time ++ 32 ∷ [])) ++ value)
is_sample line rest number more time value e f bare g bare_too =
    e ∙ ap (λ (t : List ℕ). codes "sample " ++ t) (f ∙ ap (λ (t : List ℕ). number ++ 32 ∷ t) g
    ∙ sym (append_assoc number (32 ∷ (time ++ 32 ∷ [])) value ∙ ap (λ (t : List ℕ). number ++ 32 ∷ t) (append_assoc time (32 ∷ []) value)))

-- a line that is cut before its value
pub cut_before : (line whole value front back : List ℕ) (at : ℕ) → line ≡ whole ++ value → at ≡ length line - length value → front ≡ take at line → back ≡ drop at line → (front ≡ whole) × (line ≡ front ++ back)
cut_before line whole value front back at e f g h =
    let here : at ≡ length whole = omega (arith, f, ap length e, length-append whole value) in (
      g ∙ ap (λ (n : ℕ). take n line) here ∙ ap (take (length whole)) e ∙ take-append_seam whole value,
      sym (take-append-drop at line) ∙ ap (λ (t : List ℕ). t ++ drop at line) (sym g) ∙ ap (λ (t : List ℕ). front ++ t) (sym h),
    )
