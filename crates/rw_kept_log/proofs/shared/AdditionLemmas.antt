-- Samples that are added, entry by entry.
use Rattle.std.proofs.Common.{◌≡◌, ℕ, ℤ, List, [], ◌∷◌, ◌++◌, length, map, Bool, true, false, cond, Some, refl, sym, ap, ◌∙◌, append_assoc, append-nil, eq-eqb}
use Rattle.std.proofs.lemmas.List.{map-append}
use Rattle.rw_types.specs.Labels.{Labels}
use Rattle.rw_types.specs.LabelOrder.{labels_eq}
use Rattle.rw_types.specs.declared.entry.Entry.{Entry}
use Rattle.rw_types.specs.declared.entry.Entry.TheVariants.{Def, Sample}
use Rattle.rw_wal_format.specs.Series.{labels_of, has_labels, samples_after}
use Rattle.rw_wal_format.proofs.shared.SeriesRows.{labels_of-push}
use Rattle.rw_kept_log.specs.Additions.{Point, without_position, samples_of_labels, Addition, entries_with, added_entries, samples_of_additions, AreNamed}

abbrev Placed : Type 0
Placed = List (ℕ × ℤ × ℕ)

go_either : (b : Bool) (p : ℕ × ℤ × ℕ) (later now more : Placed) → now ≡ later ++ more → cond b (p ∷ now) now ≡ cond b (p ∷ later) later ++ more
go_either true p later now more e = ap (λ (ps : Placed). p ∷ ps) e
go_either false p later now more e = e

pub samples_after-append : (l : Labels) (before es more : List Entry) → samples_after l before (es ++ more) ≡ samples_after l before es ++ samples_after l (before ++ es) more
samples_after-append l before [] more = ap (λ (b : List Entry). samples_after l b more) (sym (append-nil before))
samples_after-append l before (Def r m ∷ es) more =
    samples_after-append l (before ++ Def r m ∷ []) es more
    ∙ ap (λ (b : List Entry). samples_after l (before ++ Def r m ∷ []) es ++ samples_after l b more) (append_assoc before (Def r m ∷ []) es)
samples_after-append l before (Sample r t w ∷ es) more =
    go_either (has_labels l (labels_of before r (length before))) (length before, t, w) (samples_after l (before ++ Sample r t w ∷ []) es)
    (samples_after l (before ++ Sample r t w ∷ []) (es ++ more)) (samples_after l (before ++ Sample r t w ∷ es) more)
    (samples_after-append l (before ++ Sample r t w ∷ []) es more
    ∙ ap (λ (b : List Entry). samples_after l (before ++ Sample r t w ∷ []) es ++ samples_after l b more) (append_assoc before (Sample r t w ∷ []) es))

pub samples_in-append : (l : Labels) (es more : List Entry) → samples_of_labels (es ++ more) l ≡ samples_of_labels es l ++ map without_position (samples_after l es more)
samples_in-append l es more = ap (map without_position) (samples_after-append l [] es more) ∙ map-append without_position (samples_after l [] es) (samples_after l es more)

-- ---- what a reference stands for

-- samples change nothing of it
named_behind : (es : List Entry) (reference : ℕ) (ps : List Point) (r : ℕ) → labels_of (es ++ entries_with reference ps) r (length (es ++ entries_with reference ps)) ≡ labels_of es r (length es)
named_behind es reference [] r = ap (λ (x : List Entry). labels_of x r (length x)) (append-nil es)
named_behind es reference (p ∷ ps) r =
    ap (λ (x : List Entry). labels_of x r (length x)) (sym (append_assoc es (Sample reference p.0 p.1 ∷ []) (entries_with reference ps)))
    ∙ named_behind (es ++ Sample reference p.0 p.1 ∷ []) reference ps r
    ∙ labels_of-push es (Sample reference p.0 p.1) r

all_named : (es : List Entry) (reference : ℕ) (ps : List Point) (rest : List Addition) → AreNamed es rest → AreNamed (es ++ entries_with reference ps) rest
all_named es reference ps [] all = tt
all_named es reference ps (a ∷ rest) all = (named_behind es reference ps a.reference ∙ all.0, all_named es reference ps rest all.1)

-- ---- the samples that are added

taken_or_not : (b : Bool) (n : ℕ) (p : Point) (later : Placed) (ps : List Point) → map without_position later ≡ cond b ps [] → map without_position (cond b ((n, p.0, p.1) ∷ later) later) ≡ cond b (p ∷ ps) []
taken_or_not true n p later ps e = ap (λ (qs : List Point). p ∷ qs) e
taken_or_not false n p later ps e = e

one_added : (l m : Labels) (before : List Entry) (reference : ℕ) (ps : List Point) → labels_of before reference (length before) ≡ Some m
    → map without_position (samples_after l before (entries_with reference ps)) ≡ cond (labels_eq m l) ps []
one_added l m before reference [] named = none (labels_eq m l)
  where
    none : (b : Bool) → ◌≡◌ {A = List Point} [] (cond b [] [])
    none true = refl
    none false = refl
one_added l m before reference (p ∷ ps) named =
    let later = samples_after l (before ++ Sample reference p.0 p.1 ∷ []) (entries_with reference ps) in
    let is : has_labels l (labels_of before reference (length before)) ≡ labels_eq m l = ap (has_labels l) named in
    ap (λ (b : Bool). map without_position (cond b ((length before, p.0, p.1) ∷ samples_after l (before ++ Sample reference p.0 p.1 ∷ []) (entries_with reference ps)) (samples_after l (before ++ Sample reference p.0 p.1 ∷ []) (entries_with reference ps)))) is
    ∙ taken_or_not (labels_eq m l) (length before) p (samples_after l (before ++ Sample reference p.0 p.1 ∷ []) (entries_with reference ps)) ps
    (one_added l m (before ++ Sample reference p.0 p.1 ∷ []) reference ps (labels_of-push before (Sample reference p.0 p.1) reference ∙ named))

all_added : (l : Labels) (before : List Entry) (rest : List Addition) → AreNamed before rest → map without_position (samples_after l before (added_entries rest)) ≡ samples_of_additions l rest
all_added l before [] all = refl
all_added l before (a ∷ rest) all =
    ap (map without_position) (samples_after-append l before (entries_with a.reference a.samples) (added_entries rest))
    ∙ map-append without_position (samples_after l before (entries_with a.reference a.samples)) (samples_after l (before ++ entries_with a.reference a.samples) (added_entries rest))
    ∙ ap (λ (ps : List Point). ps ++ map without_position (samples_after l (before ++ entries_with a.reference a.samples) (added_entries rest))) (one_added l a.labels before a.reference a.samples all.0)
    ∙ ap (λ (ps : List Point). cond (labels_eq a.labels l) a.samples [] ++ ps) (all_added l (before ++ entries_with a.reference a.samples) rest (all_named before a.reference a.samples rest all.1))

pub written_said : (es : List Entry) (added : List Addition) (l : Labels) → AreNamed es added → samples_of_labels (es ++ added_entries added) l ≡ samples_of_labels es l ++ samples_of_additions l added
written_said es added l all = samples_in-append l es (added_entries added) ∙ ap (λ (ps : List Point). samples_of_labels es l ++ ps) (all_added l es added all)

pub no_sample : (es : List Entry) (reference : ℕ) (labels l : Labels) → samples_of_labels (es ++ Def reference labels ∷ []) l ≡ samples_of_labels es l
no_sample es reference labels l = samples_in-append l es (Def reference labels ∷ []) ∙ append-nil (samples_of_labels es l)

pub named_there : (es : List Entry) (reference : ℕ) (labels : Labels) → labels_of (es ++ Def reference labels ∷ []) reference (length (es ++ Def reference labels ∷ [])) ≡ Some labels
named_there es reference labels =
    labels_of-push es (Def reference labels) reference
    ∙ ap (λ (b : Bool). cond b (Some labels) (labels_of es reference (length es))) (eq-eqb reference reference refl)
