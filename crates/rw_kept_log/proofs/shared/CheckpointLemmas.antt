-- A checkpoint of definitions, and what comes after it.
use Rattle.std.proofs.Common.{◌≡◌, ◌<◌, ℕ, ℤ, Bool, true, false, true≢false, cond, ◌==◌, ◌||◌, eq-eqb, List, [], ◌∷◌, ◌++◌, length, take, drop, map, fold, Option, None, Some, refl, sym, ap, ◌∙◌, subst, append_assoc, append-nil, take-append-drop}
use Rattle.std.proofs.lemmas.List.Sums.{fold-append}
use Rattle.std.specs.List.{AllByRecursion}
use Rattle.rw_types.specs.Labels.{Labels}
use Rattle.rw_types.specs.declared.entry.Entry.{Entry}
use Rattle.rw_types.specs.declared.entry.Entry.TheVariants.{Def, Sample}
use Rattle.rw_wal_format.specs.Pieces.{reading, reading_after}
use Rattle.rw_wal_format.specs.Segments.{segment, segment_in}
use Rattle.rw_wal_format.specs.Series.{defines, labels_of, has_labels, samples_after}
use Rattle.rw_wal_format.proofs.shared.SeriesRows.{labels_of-push, labels_of-all}
use Rattle.rw_kept_log.specs.Additions.{Point, without_position, samples_of_labels}
use Rattle.rw_kept_log.specs.Checkpoints.{is_used, SaySame, definitions_of, IsCheckpointOf}
use Rattle.rw_kept_log.specs.Definitions.{definitions_in, AreApart}
use Rattle.rw_kept_log.specs.Journal.{Segments}
use Rattle.rw_kept_log.specs.Logs.{log_of, entries_of, IsWholeText}
use Rattle.rw_kept_log.specs.References.{ReferenceTable, StandFor, IsNoted, KnowsAll}
use Rattle.rw_kept_log.specs.Retiring.{with_first}
use Rattle.rw_kept_log.proofs.LogLemmas.{then_between}
use Rattle.rw_kept_log.proofs.shared.AdditionLemmas.{samples_in-append}
use Rattle.rw_kept_log.proofs.shared.DefinitionLemmas.{definitions-append}

-- ---- what comes after a checkpoint
same_pairs : (b : Bool) (m n : ℕ) (t : ℤ) (w : ℕ) (xs ys : List (ℕ × ℤ × ℕ)) → map without_position xs ≡ map without_position ys → map without_position (cond b ((m, t, w) ∷ xs) xs) ≡ map without_position (cond b ((n, t, w) ∷ ys) ys)
same_pairs true m n t w xs ys e = ap (λ (ps : List Point). (t, w) ∷ ps) e
same_pairs false m n t w xs ys e = e

-- after one more entry both still say the same of what is used
after_definition : (full cp es : List Entry) (q : ℕ) (m : List (List ℕ × List ℕ)) → SaySame full cp (Def q m ∷ es) → SaySame (full ++ Def q m ∷ []) (cp ++ Def q m ∷ []) es
after_definition full cp es q m same r used = labels_of-push cp (Def q m) r ∙ by_test (q == r) refl (same r) ∙ sym (labels_of-push full (Def q m) r)
  where
    by_test : (b : Bool) → (q == r) ≡ b → (cond b false (is_used r es) ≡ true → labels_of cp r (length cp) ≡ labels_of full r (length full))
        → cond b (Some m) (labels_of cp r (length cp)) ≡ cond b (Some m) (labels_of full r (length full))
    by_test true e h = refl
    by_test false e h = h used

after_sample : (full cp es : List Entry) (q : ℕ) (t : ℤ) (w : ℕ) → SaySame full cp (Sample q t w ∷ es) → SaySame (full ++ Sample q t w ∷ []) (cp ++ Sample q t w ∷ []) es
after_sample full cp es q t w same r used = labels_of-push cp (Sample q t w) r ∙ same r (right (q == r) used) ∙ sym (labels_of-push full (Sample q t w) r)
  where
    right : (b : Bool) → is_used r es ≡ true → (b || is_used r es) ≡ true
    right true h = refl
    right false h = h

pub rest-same : (full cp rest : List Entry) (l : Labels) → SaySame full cp rest → map without_position (samples_after l cp rest) ≡ map without_position (samples_after l full rest)
rest-same full cp [] l same = refl
rest-same full cp (Def q m ∷ es) l same = rest-same (full ++ Def q m ∷ []) (cp ++ Def q m ∷ []) es l (after_definition full cp es q m same)
rest-same full cp (Sample q t w ∷ es) l same =
    let here : labels_of cp q (length cp) ≡ labels_of full q (length full) = same q (used (q == q) (itself q)) in
    ap (λ o. map without_position (cond (has_labels l o) ((length cp, t, w) ∷ samples_after l (cp ++ Sample q t w ∷ []) es) (samples_after l (cp ++ Sample q t w ∷ []) es))) here
    ∙ same_pairs (has_labels l (labels_of full q (length full))) (length cp) (length full) t w (samples_after l (cp ++ Sample q t w ∷ []) es) (samples_after l (full ++ Sample q t w ∷ []) es)
    (rest-same (full ++ Sample q t w ∷ []) (cp ++ Sample q t w ∷ []) es l (after_sample full cp es q t w same))
  where
    itself : (n : ℕ) → (n == n) ≡ true
    itself n = eq-eqb n n refl

    used : (b : Bool) → b ≡ true → (b || is_used q es) ≡ true
    used true h = refl
    used false h = absurd (true≢false (sym h))

pub follows_alike : (full cp later : List Entry) (l : Labels) → SaySame full cp later
    → (rest : List Point) × (samples_of_labels (full ++ later) l ≡ samples_of_labels full l ++ rest) × (samples_of_labels (cp ++ later) l ≡ samples_of_labels cp l ++ rest)
follows_alike full cp later l same = (
  map without_position (samples_after l full later),
  samples_in-append l full later,
  samples_in-append l cp later ∙ ap (λ (ps : List Point). samples_of_labels cp l ++ ps) (rest-same full cp later l same),
)

-- ---- a checkpoint of definitions
same_defined : (r : ℕ) (known : Option (List (List ℕ × List ℕ))) (es : List Entry) → fold (defines r) known (definitions_of es) ≡ fold (defines r) known es
same_defined r known [] = refl
same_defined r known (Def q m ∷ es) = same_defined r (defines r known (Def q m)) es
same_defined r known (Sample q t w ∷ es) = same_defined r known es

pub says_same : (full later : List Entry) → SaySame full (definitions_of full) later
says_same full later r used = labels_of-all (definitions_of full) r ∙ same_defined r None full ∙ sym (labels_of-all full r)

no_samples : (l : Labels) (done es : List Entry) → samples_after l done (definitions_of es) ≡ []
no_samples l done [] = refl
no_samples l done (Def q m ∷ es) = no_samples l (done ++ Def q m ∷ []) es
no_samples l done (Sample q t w ∷ es) = no_samples l done es

pub none_of_them : (es : List Entry) (l : Labels) → samples_of_labels (definitions_of es) l ≡ []
none_of_them es l = ap (map without_position) (no_samples l [] es)

-- the log has of a label set what it had before, less the samples of its first part
pub less_first : (full later : List Entry) (l : Labels) → samples_of_labels (full ++ later) l ≡ samples_of_labels full l ++ samples_of_labels (definitions_of full ++ later) l
less_first full later l =
    samples_in-append l full later
    ∙ ap (λ (ps : List Point). samples_of_labels full l ++ ps)
    (sym (rest-same full (definitions_of full) later l (says_same full later))
    ∙ sym (samples_in-append l (definitions_of full) later ∙ ap (λ (ps : List Point). ps ++ map without_position (samples_after l (definitions_of full) later)) (none_of_them full l)))

pub definitions_twice : (es : List Entry) → definitions_in (definitions_of es) ≡ definitions_in es
definitions_twice [] = refl
definitions_twice (Def q m ∷ es) = ap (λ (ds : List (ℕ × Labels)). (q, m) ∷ ds) (definitions_twice es)
definitions_twice (Sample q t w ∷ es) = definitions_twice es

pub same_definitions : (full later : List Entry) → definitions_in (definitions_of full ++ later) ≡ definitions_in (full ++ later)
same_definitions full later =
    definitions-append (definitions_of full) later ∙ ap (λ (ds : List (ℕ × Labels)). ds ++ definitions_in later) (definitions_twice full) ∙ sym (definitions-append full later)

pub same_names : (full later : List Entry) (r : ℕ) → labels_of (definitions_of full ++ later) r (length (definitions_of full ++ later)) ≡ labels_of (full ++ later) r (length (full ++ later))
same_names full later r =
    labels_of-all (definitions_of full ++ later) r ∙ fold-append (defines r) None (definitions_of full) later
    ∙ ap (λ (o : Option (List (List ℕ × List ℕ))). fold (defines r) o later) (same_defined r None full)
    ∙ sym (labels_of-all (full ++ later) r ∙ fold-append (defines r) None full later)

stand_still : (full later : List Entry) (ps : List (ℕ × Labels)) → StandFor (full ++ later) ps → StandFor (definitions_of full ++ later) ps
stand_still full later [] all = tt
stand_still full later (p ∷ ps) all = (same_names full later p.0 ∙ all.0, stand_still full later ps all.1)

pub noted_still : (full later : List Entry) (n : ReferenceTable) → IsNoted (full ++ later) n → IsNoted (definitions_of full ++ later) n
noted_still full later n noted = record {
  stand = stand_still full later n.known noted.stand;
  below = subst (AllByRecursion (λ (d : ℕ × Labels). d.0 < n.next)) (sym (same_definitions full later)) noted.below;
  knows = λ once. subst (λ (ds : List (ℕ × Labels)). KnowsAll ds n.known) (sym (same_definitions full later)) (noted.knows (subst AreApart (same_definitions full later) once));
}

-- ---- a log in two parts
pub two_parts : (page : ℕ) (first later : Segments) → AllByRecursion (IsWholeText page) first → entries_of page (first ++ later) ≡ entries_of page first ++ entries_of page later
unfolding reading segment_in
two_parts page [] later all = refl
two_parts page (s ∷ []) [] all = sym (append-nil (entries_of page (s ∷ [])))
two_parts page (s ∷ []) (t ∷ ts) all = then_between (segment page s).stop (segment page s) (reading_after page [] (log_of (t ∷ ts))) all.0
two_parts page (s ∷ u ∷ ss) later all =
    then_between (segment page s).stop (segment page s) (reading_after page [] (log_of (u ∷ (ss ++ later)))) all.0
    ∙ ap (λ (es : List Entry). (segment page s).entries ++ es) (two_parts page (u ∷ ss) later all.1)
    ∙ sym (append_assoc (segment page s).entries (entries_of page (u ∷ ss)) (entries_of page later))
    ∙ ap (λ (es : List Entry). es ++ entries_of page later) (sym (then_between (segment page s).stop (segment page s) (reading_after page [] (log_of (u ∷ ss))) all.0))

-- ---- a log whose first segments gave way to a checkpoint
module _ (page n : ℕ) (segments texts : Segments) (is : IsCheckpointOf page n segments texts) where
  abbrev pub first : List Entry
  first = entries_of page (take n segments)

  abbrev pub later : List Entry
  later = entries_of page (drop n segments)

  pub whole_log : entries_of page segments ≡ first ++ later
  whole_log = ap (entries_of page) (sym (take-append-drop n segments)) ∙ two_parts page (take n segments) (drop n segments) is.whole_first

  pub retired_log : entries_of page (with_first n texts segments) ≡ definitions_of first ++ later
  retired_log = two_parts page texts (drop n segments) is.whole ∙ ap (λ (es : List Entry). es ++ later) is.says

  pub retired_samples : (l : Labels) → samples_of_labels (entries_of page segments) l ≡ samples_of_labels first l ++ samples_of_labels (entries_of page (with_first n texts segments)) l
  retired_samples l =
      ap (λ (es : List Entry). samples_of_labels es l) whole_log ∙ less_first first later l
      ∙ ap (λ (es : List Entry). samples_of_labels first l ++ samples_of_labels es l) (sym retired_log)

  pub retired_definitions : definitions_in (entries_of page (with_first n texts segments)) ≡ definitions_in (entries_of page segments)
  retired_definitions = ap definitions_in retired_log ∙ same_definitions first later ∙ ap definitions_in (sym whole_log)

  pub retired_noted : (t : ReferenceTable) → IsNoted (entries_of page segments) t → IsNoted (entries_of page (with_first n texts segments)) t
  retired_noted t noted = subst (λ (es : List Entry). IsNoted es t) (sym retired_log) (noted_still first later t (subst (λ (es : List Entry). IsNoted es t) whole_log noted))
