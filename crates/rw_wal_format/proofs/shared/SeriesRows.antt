-- The labels of a position and the samples of a label set, by computation.
use Rattle.std.proofs.Common.{◌≡◌, ℕ, pos, List, [], ◌∷◌, ◌++◌, length, Some, None, true, ◌≤◌, refl, ap, fold, sym, ◌∙◌}
use Rattle.std.proofs.lemmas.List.{take-append-le}
use Rattle.std.proofs.Math.Seq.{take-length}
use Rattle.std.specs.List.{fold}
use Rattle.std.proofs.lemmas.List.Sums.{fold-append}
use Rattle.rw_types.specs.Labels.{Labels}
use Rattle.rw_types.specs.declared.entry.Entry.{Entry}
use Rattle.rw_types.specs.declared.entry.Entry.TheVariants.{Def, Sample}
use Rattle.rw_wal_format.specs.Series.{labels_of, kept, defines}

-- two references of one label set, and one that is defined again
abbrev pub name_a : Labels
name_a = ((110 ∷ []), (97 ∷ [])) ∷ []

abbrev pub name_b : Labels
name_b = ((110 ∷ []), (98 ∷ [])) ∷ []

abbrev pub log : List Entry
log = Sample 1 (pos 5) 0 ∷ Def 1 name_a ∷ Def 2 name_a ∷ Sample 1 (pos 10) 1 ∷ Sample 2 (pos 20) 2 ∷ Def 1 name_b ∷ Sample 1 (pos 30) 3 ∷ Sample 2 (pos 40) 4 ∷ []

labels-none_before : labels_of log 1 0 ≡ None
labels-none_before = refl

labels-defined : labels_of log 1 3 ≡ Some name_a
labels-defined = refl

labels-defined_again : labels_of log 1 6 ≡ Some name_b
labels-defined_again = refl

kept-of_two_references : kept (λ l. true) log name_a ≡ (3, pos 10, 1) ∷ (4, pos 20, 2) ∷ (7, pos 40, 4) ∷ []
kept-of_two_references = refl

kept-of_later_labels : kept (λ l. true) log name_b ≡ (6, pos 30, 3) ∷ []
kept-of_later_labels = refl

-- what is later changes no labels below it
pub labels_of-append : (es more : List Entry) (r p : ℕ) → p ≤ length es → labels_of (es ++ more) r p ≡ labels_of es r p
labels_of-append es more r p h = ap (fold (defines r) None) (take-append-le p es more h)

pub labels_of-all : (es : List Entry) (r : ℕ) → labels_of es r (length es) ≡ fold (defines r) None es
labels_of-all es r = ap (fold (defines r) None) (take-length es)

pub labels_of-push : (es : List Entry) (e : Entry) (r : ℕ) → labels_of (es ++ e ∷ []) r (length (es ++ e ∷ [])) ≡ defines r (labels_of es r (length es)) e
labels_of-push es e r =
    labels_of-all (es ++ e ∷ []) r ∙ fold-append (defines r) None es (e ∷ []) ∙ ap (λ k. defines r k e) (sym (labels_of-all es r))
