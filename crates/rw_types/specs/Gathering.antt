-- What the entries of a log give, each by those before it.
use Rattle.std.specs.Prelude.{List, [], ◌∷◌, ◌++◌}
use Rattle.rw_types.specs.declared.entry.Entry.{Entry}

-- what each entry gives, if these come before them
abbrev pub gather_from : {A : Type 0} → (List Entry → Entry → List A) → List Entry → List Entry → List A
gather_from f before [] = []
gather_from f before (e ∷ es) = f before e ++ gather_from f (before ++ e ∷ []) es

abbrev pub gather : {A : Type 0} → (List Entry → Entry → List A) → List Entry → List A
gather f es = gather_from f [] es
