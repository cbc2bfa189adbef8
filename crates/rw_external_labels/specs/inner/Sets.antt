-- Inner definitions: only invariants, private functions and proofs use them.
use Rattle.std.specs.Prelude.{List, [], Option, Some, None, ℕ}

-- the labels of a set, if there is one
abbrev pub labels_of_set : Option (List (List ℕ × List ℕ)) → List (List ℕ × List ℕ)
labels_of_set None = []
labels_of_set (Some labels) = labels
