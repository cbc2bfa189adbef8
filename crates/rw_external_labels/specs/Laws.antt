-- What a list of labels says of a name.
use Rattle.std.specs.Prelude.{ℕ, List, [], ◌∷◌, Option, Some, None, if◌then◌else◌}
use Rattle.std.specs.Str.{bytes_eq}
use Rattle.rw_types.specs.Labels.{Labels}

-- the value of the first label of this name, if there is one
abbrev pub value_at : Labels → List ℕ → Option (List ℕ)
value_at [] name = None
value_at (l ∷ ls) name = if bytes_eq l.0 name then Some l.1 else value_at ls name
