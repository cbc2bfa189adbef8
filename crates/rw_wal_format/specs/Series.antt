-- What the entries of a log say of each series.
use Rattle.std.specs.Prelude.{ℕ, ℤ, List, [], ◌∷◌, ◌++◌, length, take, fold, Option, Some, None, Bool, false, ◌==◌, if◌then◌else◌}
use Rattle.rw_types.specs.LabelOrder.{labels_eq}
use Rattle.rw_types.specs.Labels.{Labels}
use Rattle.rw_types.specs.declared.entry.Entry.{Entry}
use Rattle.rw_types.specs.declared.entry.Entry.TheVariants.{Def, Sample}

-- the labels of a reference after one more entry
abbrev pub defines : ℕ → Option (List (List ℕ × List ℕ)) → Entry → Option (List (List ℕ × List ℕ))
defines reference known (Def r labels) = if r == reference then Some labels else known
defines reference known (Sample r t w) = known

-- the labels that the last definition of a reference below a position gives
abbrev pub labels_of : List Entry → ℕ → ℕ → Option Labels
labels_of entries reference position = fold (defines reference) None (take position entries)

-- whether these labels were found
abbrev pub has_labels : Labels → Option (List (List ℕ × List ℕ)) → Bool
has_labels l None = false
has_labels l (Some found) = labels_eq found l

-- the samples of a label list as (position, timestamp, word), of the entries after those before
abbrev pub samples_after : Labels → List Entry → List Entry → List (ℕ × ℤ × ℕ)
samples_after l before [] = []
samples_after l before (Def r labels ∷ es) = samples_after l (before ++ Def r labels ∷ []) es
samples_after l before (Sample r t w ∷ es) =
    let later = samples_after l (before ++ Sample r t w ∷ []) es in
    if has_labels l (labels_of before r (length before)) then (length before, t, w) ∷ later else later

-- the samples of a kept label set, by rising position
abbrev pub kept : (Labels → Bool) → List Entry → Labels → List (ℕ × ℤ × ℕ)
kept keeps entries l = if keeps l then samples_after l [] entries else []
