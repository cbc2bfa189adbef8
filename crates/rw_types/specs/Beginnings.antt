-- Lists that begin other lists.
use Rattle.std.specs.Prelude.{◌≡◌, List, ◌++◌}

-- the first list is a prefix of the second one
abbrev pub Begins : {A : Type 0} → List A → List A → Type 0
Begins {A} xs ys = (more : List A) × (ys ≡ xs ++ more)
