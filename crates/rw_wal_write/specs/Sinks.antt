-- What a device has taken of a text that it was given.
-- The three functions are those of its trait: what it holds if that is known, whether it has
-- failed, and how many more bytes it is certain to take.
use Rattle.std.specs.Prelude.{◌≡◌, ℕ, ◌+◌, ◌<◌, ◌≤◌, List, length, take, Option, Result, Bool, true, false, MatchResult}
use Rattle.std.specs.Io.KnownBytes.{Appends}

-- It took the whole text.
pub record TakesAll {W : Type 0} (contents : W → Option (List ℕ)) (has_failed : W → Bool) (room : W → ℕ) (old new : W) (text : List ℕ) : Type 0 where
  pub appended : Appends (contents old) (contents new) text
  pub sound : has_failed old ≡ false → has_failed new ≡ false
  pub room_left : room old ≤ room new + length text

-- It took a prefix and has failed; it fails only if it had failed before or lacked room.
pub record TakesPart {W : Type 0} (contents : W → Option (List ℕ)) (has_failed : W → Bool) (room : W → ℕ) (old new : W) (text : List ℕ) : Type 0 where
  pub taken : ℕ
  pub within : taken ≤ length text
  pub appended : Appends (contents old) (contents new) (take taken text)
  pub failed : has_failed new ≡ true
  pub lacked : has_failed old ≡ false → room old < length text

-- It took the whole text, or it failed.
abbrev pub Takes : {W T E : Type 0} → (W → Option (List ℕ)) → (W → Bool) → (W → ℕ) → W → W → List ℕ → Result T E → Type 0
Takes contents has_failed room old new text result =
    MatchResult result (λ _. TakesAll contents has_failed room old new text) (λ _. TakesPart contents has_failed room old new text)
