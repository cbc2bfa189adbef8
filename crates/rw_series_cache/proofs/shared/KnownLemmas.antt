-- What is known of references, entry by entry.
use Rattle.std.proofs.Common.{◌≡◌, ℕ, ℤ, List, [], ◌∷◌, ◌++◌, length, take, Bool, true, false, cond, nat_eq, refl, sym, ◌∙◌, ap, Some, None}
use Rattle.std.proofs.lemmas.List.{append-nil}
use Rattle.std.proofs.lemmas.List.Elements.{filter-append}
use Rattle.std.proofs.lemmas.List.Sums.{fold-append}
use Rattle.std.specs.List.{fold}
use Rattle.rw_types.specs.Labels.{Labels, label_fault}
use Rattle.rw_types.specs.declared.entry.Entry.{Entry}
use Rattle.rw_types.specs.declared.entry.Entry.TheVariants.{Def, Sample}
use Rattle.rw_types.specs.declared.label_fault.LabelFault.{LabelFault}
use Rattle.rw_wal_format.specs.Series.{labels_of, defines}
use Rattle.rw_wal_format.proofs.shared.SeriesRows.{labels_of-all, labels_of-push}
use Rattle.rw_relabel.specs.Rules.{keeps}
use Rattle.rw_relabel.specs.declared.choice.Choice.{Choice}
use Rattle.rw_series_cache.specs.Known.{Unknown, Bad, Filtered, Kept, known, standing_of, standing_by, standing_of_set, is_definition, definitions_of}
use Rattle.rw_series_cache.specs.Numbers.{series_of, with_entry}

-- labels that are no label set
pub bad_labels : (choice : Choice) (l : Labels) (f : LabelFault) → label_fault choice.names l ≡ Some f → standing_of choice (Some l) ≡ Bad f
bad_labels choice l f e = ap (standing_by choice l) e

by_rules : (choice : Choice) (l : Labels) (b : Bool) → label_fault choice.names l ≡ None → keeps choice.rules l ≡ b → standing_of choice (Some l) ≡ standing_of_set b l
by_rules choice l b e k = ap (standing_by choice l) e ∙ ap (λ x. standing_of_set x l) k

-- a label set that the rules keep, and one that they drop
pub kept_labels : (choice : Choice) (l : Labels) → label_fault choice.names l ≡ None → keeps choice.rules l ≡ true → standing_of choice (Some l) ≡ Kept l
kept_labels choice l e k = by_rules choice l true e k

pub filtered_labels : (choice : Choice) (l : Labels) → label_fault choice.names l ≡ None → keeps choice.rules l ≡ false → standing_of choice (Some l) ≡ Filtered
filtered_labels choice l e k = by_rules choice l false e k

-- nothing is known before the first entry
pub known-none : (choice : Choice) (r : ℕ) → known choice [] r ≡ Unknown
unfolding known
known-none choice r = refl

-- a definition is the last one of its reference, and of no other
pub known-definition : (choice : Choice) (es : List Entry) (reference : ℕ) (l : Labels) (r : ℕ)
    → known choice (es ++ Def reference l ∷ []) r ≡ cond (nat_eq reference r) (standing_of choice (Some l)) (known choice es r)
unfolding known
known-definition choice es reference l r = ap (standing_of choice) (labels_of-push es (Def reference l) r) ∙ defined (nat_eq reference r)
  where
    defined : (b : Bool) → standing_of choice (cond b (Some l) (labels_of es r (length es))) ≡ cond b (standing_of choice (Some l)) (standing_of choice (labels_of es r (length es)))
    defined true = refl
    defined false = refl

pub series_of-none : (choice : Choice) → series_of choice [] ≡ []
unfolding series_of
series_of-none choice = refl

pub series_of-push : (choice : Choice) (es : List Entry) (e : Entry) → series_of choice (es ++ e ∷ []) ≡ with_entry choice (series_of choice es) e
unfolding series_of
series_of-push choice es e = fold-append (with_entry choice) [] es (e ∷ [])

-- what passes over samples sees the definitions alone
fold_definitions : {A : Type 0} (f : A → Entry → A) → ((a : A) (r t w : _) → f a (Sample r t w) ≡ a) → (a : A) (es : List Entry) → fold f a (definitions_of es) ≡ fold f a es
fold_definitions f h a [] = refl
fold_definitions f h a (Def r l ∷ es) = fold_definitions f h (f a (Def r l)) es
fold_definitions f h a (Sample r t w ∷ es) = fold_definitions f h a es ∙ ap (λ x. fold f x es) (sym (h a r t w))

-- samples change nothing of what is known, and none of the series
pub known-definitions_of : (choice : Choice) (es : List Entry) (r : ℕ) → known choice (definitions_of es) r ≡ known choice es r
unfolding known
known-definitions_of choice es r =
    ap (standing_of choice) (labels_of-all (definitions_of es) r ∙ fold_definitions (defines r) (λ a q t w. refl) None es ∙ sym (labels_of-all es r))

pub series_of-definitions_of : (choice : Choice) (es : List Entry) → series_of choice (definitions_of es) ≡ series_of choice es
unfolding series_of
series_of-definitions_of choice es = fold_definitions (with_entry choice) (λ a q t w. refl) [] es

-- what is known below a position is judged by the labels there
pub known-take : (choice : Choice) (es : List Entry) (r p : ℕ) → known choice (take p es) r ≡ standing_of choice (labels_of es r p)
unfolding known
known-take choice es r p = ap (standing_of choice) (labels_of-all (take p es) r)

-- a definition is one of the definitions, and a sample is not
pub definitions_of-definition : (es : List Entry) (r : ℕ) (l : Labels) → definitions_of (es ++ Def r l ∷ []) ≡ definitions_of es ++ Def r l ∷ []
definitions_of-definition es r l = filter-append is_definition es (Def r l ∷ [])

pub definitions_of-sample : (es : List Entry) (r : ℕ) (t : ℤ) (w : ℕ) → definitions_of (es ++ Sample r t w ∷ []) ≡ definitions_of es
definitions_of-sample es r t w = filter-append is_definition es (Sample r t w ∷ []) ∙ append-nil (definitions_of es)
