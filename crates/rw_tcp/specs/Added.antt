-- What is written for a request if fields are added to it.
use Rattle.std.specs.Prelude.{◌≡◌, ◌⊎◌, ℕ, List, [], ◌∷◌, ◌++◌}
use Rattle.rw_fields.specs.Fields.{NameValue, bearer}

-- these fields, or these and a bearer token
abbrev pub HasToken : List NameValue → List NameValue → Type 0
HasToken headers fields =
    (fields ≡ headers) ⊎ ((token : List ℕ) × (fields ≡ headers ++ bearer token ∷ []))
