-- What is copied of a segment in memory.
use Rattle.std.proofs.Common.{◌≡◌, ℕ, ◌+◌, ◌-◌, ◌<◌, ◌≤◌, List, ◌++◌, length, take, drop, sym, ap, ◌∙◌, append-nil, inl, inr, length-drop, take-add, arith}
use Rattle.std.proofs.Math.Nat.{eq-or-lt_of_le}
use Rattle.std.proofs.lemmas.List.{length-take-le, take-append-le, take_all}

-- what was copied from an offset on, or from the end if the offset is after it
pub copied_bytes : (text copied rest : List ℕ) (offset from count : ℕ) → from ≤ offset → (from < offset → length text ≤ from) → from ≤ length text → from + count ≤ length text → copied ≡ take count (take (length text - from) (drop from text))
    → take (offset + count) text ≡ take offset text ++ take count (copied ++ rest)
copied_bytes text copied rest offset from count low past within fits same_as =
    let is : copied ≡ take count (drop from text) = same_as ∙ ap (take count) (take_all (length text - from) (drop from text) (let d = length-drop from text in omega (arith, d))) in
    let len : length copied ≡ count = ap length is ∙ length-take-le count (drop from text) (let d = length-drop from text in omega (arith, d)) in
    let all : take count (copied ++ rest) ≡ copied = take-append-le count copied rest (omega (arith, len)) ∙ take_all count copied (omega (arith, len)) in
    elim (eq-or-lt_of_le low) [
      | inl e ↦ take-add offset count text ∙ ap (λ (xs : List ℕ). take offset text ++ xs) (ap (λ (n : ℕ). take count (drop n text)) (sym e) ∙ sym is ∙ sym all)
      | inr lt ↦
          let far = past lt in
          let none : count ≡ 0 = omega (arith, far) in
          let same : offset + count ≡ offset = omega (arith, none) in
          ap (λ (n : ℕ). take n text) same ∙ sym (append-nil (take offset text)) ∙ ap (λ (xs : List ℕ). take offset text ++ xs) (sym (ap (λ (n : ℕ). take n (copied ++ rest)) none))
    ]
