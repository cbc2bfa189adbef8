-- What a test for UTF-8 says.
use Rattle.std.proofs.Common.{◌≡◌, ℕ, List, Bool, true, false, refl, sym, Result, Ok, Err, is_ok, MatchResult}
use Rattle.std.specs.Str.{IsUtf8, is_utf8}
use Rattle.std.proofs.lemmas.Str.{IsUtf8-from_is_utf8, is_utf8-from_IsUtf8}

-- what is UTF-8 passes the test, and nothing else does
pub passes : (bytes : List ℕ) → IsUtf8 bytes → true ≡ is_utf8 bytes
passes bytes h = sym (is_utf8-from_IsUtf8 bytes h)

fails_as : (bytes : List ℕ) (b : Bool) → is_utf8 bytes ≡ b → ¬ (IsUtf8 bytes) → false ≡ b
fails_as bytes true e h = absurd (h (IsUtf8-from_is_utf8 bytes e))
fails_as bytes false e h = refl

pub fails : (bytes : List ℕ) → ¬ (IsUtf8 bytes) → false ≡ is_utf8 bytes
fails bytes h = fails_as bytes (is_utf8 bytes) refl h

-- a test that answers so decides the text
pub decided : {T E : Type 0} (bytes : List ℕ) (P : T → Type 0) (Q : E → Type 0) (r : Result T E)
    → MatchResult r (λ s. P s × IsUtf8 bytes) (λ e. ¬ (IsUtf8 bytes) × Q e) → is_ok r ≡ is_utf8 bytes
decided bytes P Q (Ok s) h = passes bytes h.1
decided bytes P Q (Err e) h = fails bytes h.0
