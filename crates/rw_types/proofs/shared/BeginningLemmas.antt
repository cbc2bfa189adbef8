-- Lists that begin other lists.
use Rattle.std.proofs.Common.{◌≡◌, List, [], ◌++◌, sym, ap, ◌∙◌, append_assoc, append-nil}
use Rattle.rw_types.specs.Beginnings.{Begins}

module _ {A : Type 0} where
  pub begins_itself : (xs : List A) → Begins xs xs
  begins_itself xs = ([], sym (append-nil xs))

  pub begins_then : (xs ys zs more : List A) → ys ≡ xs ++ more → Begins ys zs → Begins xs zs
  begins_then xs ys zs more e b = (more ++ b.0, b.1 ∙ ap (λ ws. ws ++ b.0) e ∙ append_assoc xs more b.0)

  pub begins_twice : (xs ys zs : List A) → Begins xs ys → Begins ys zs → Begins xs zs
  begins_twice xs ys zs a b = begins_then xs ys zs a.0 a.1 b
