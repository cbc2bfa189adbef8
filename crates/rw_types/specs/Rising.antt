-- Lists that rise.
use Rattle.std.specs.Prelude.{List, [], ◌∷◌, ⊤}
use Rattle.std.specs.List.{AllByRecursion}

-- each element comes before all later ones, by the relation
abbrev pub Rises : {X : Type 0} → (X → X → Type 0) → List X → Type 0
Rises before [] = ⊤
Rises before (x ∷ xs) = AllByRecursion (before x) xs × Rises before xs
