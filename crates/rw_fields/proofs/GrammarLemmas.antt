-- White space at the end of a text.
use Rattle.std.proofs.Common.{◌≡◌, ℕ, List, [], ◌∷◌, ◌++◌, refl}
use Rattle.httparse.specs.Grammar.{is_ows}
use Rattle.rw_fields.specs.Fields.{ends_with_ows}

pub ends_with_ows-push : (bytes : List ℕ) (b : ℕ) → ends_with_ows (bytes ++ b ∷ []) ≡ is_ows b
ends_with_ows-push [] b = refl
ends_with_ows-push (c ∷ []) b = refl
ends_with_ows-push (c ∷ d ∷ bytes) b = ends_with_ows-push (d ∷ bytes) b
