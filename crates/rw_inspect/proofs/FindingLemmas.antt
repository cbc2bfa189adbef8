-- The entries of a log at given positions.
use Rattle.std.proofs.Common.{◌≡◌, ℕ, ◌+◌, zero, suc, ℤ, List, [], ◌∷◌, ◌++◌, length, map, Bool, true, false, cond, not, is_some, nat_eq, Option, Some, None, Vec, Global, Result, Ok, Err, refl, sym, ap, ◌∙◌, subst, length-append, arith}
use Rattle.std.specs.Result.{OnOk}
use Rattle.std.specs.Prelude.{MatchOption, count_by, flat_map, slice_get, ◌||◌}
use Rattle.std.specs.FinMap.{empty}
use Rattle.std.proofs.lemmas.Bool.Decides.{nat_tests}
use Rattle.rw_types.specs.Labels.{Labels, label_fault}
use Rattle.rw_types.specs.declared.label_fault.LabelFault.{LabelFault}
use Rattle.rw_types.specs.declared.label_fault.LabelFault.TheVariants.{OutOfMemory}
use Rattle.rw_types.specs.declared.names.Names.TheVariants.{Utf8}
use Rattle.rw_types.specs.declared.entry.Entry.{Entry}
use Rattle.rw_types.specs.declared.entry.Entry.TheVariants.{Def, Sample}
use Rattle.rw_relabel.specs.declared.choice.Choice.{Choice}
use Rattle.rw_series_cache.specs.Cached.{Taken}
use Rattle.rw_series_cache.specs.Known.{definitions_of, known}
use Rattle.rw_series_cache.specs.Found.{IsLookedUp, standing_in}
use Rattle.rw_series_cache.specs.declared.known.Known.{Known}
use Rattle.rw_text.specs.LabelText.{labels_text}
use Rattle.rw_series_cache.proofs.shared.KnownLemmas.{definitions_of-definition, definitions_of-sample}
use Rattle.rw_types.proofs.shared.GatherLemmas.{gather-push}
use Rattle.rw_inspect.specs.Finding.{Finds, any_names, entry_text, label_fault_text, labels_or, sample_text, set_text, is_missing, finding_line, name_at, not_there_text, there_text, position_text, entry_text_at, text_from}
use Rattle.rw_inspect.specs.inner.Finding.{IsFinder, is_asked, note_if, note_of, noted_at, notes_in, told}
use Rattle.rw_log_read.specs.Logs.{ReadsFirst, ReadsNamed, fault_in}
use Rattle.rw_inspect.specs.declared.found.Found.{Found}
use Rattle.rw_log_read.specs.declared.log_read.Segment.{Segment}
use Rattle.rw_types.specs.Gathering.{gather_from, gather}

-- a note of another position is skipped
passes : (b : Bool) (p q : ℕ) (text : List ℕ) (notes : List (ℕ × List ℕ)) → nat_eq p q ≡ false → noted_at (note_if b p text ++ notes) q ≡ noted_at notes q
passes true p q text notes e = ap (λ x. cond x (Some text) (noted_at notes q)) e
passes false p q text notes e = refl

other : (n m : ℕ) → nat_eq n (n + suc m) ≡ false
other n m = grind (arith, nat_tests)

same : (n : ℕ) → nat_eq n (n + zero) ≡ true
same n = grind (arith, nat_tests)

-- what is noted of a position that is asked for is the text of its entry
noted_from : (positions : List ℕ) (before es : List Entry) (n : ℕ) → is_asked positions (length before + n) ≡ true → noted_at (gather_from (note_of positions) before es) (length before + n) ≡ text_from before es n
noted_from positions before [] n asked = refl
noted_from positions before (e ∷ es) zero asked =
    let here : is_asked positions (length before) ≡ true = ap (is_asked positions) (omega arith) ∙ asked in
    ap (λ b. noted_at (note_if b (length before) (entry_text before e) ++ gather_from (note_of positions) (before ++ e ∷ []) es) (length before + zero)) here
    ∙ ap (λ b. cond b (Some (entry_text before e)) (noted_at (gather_from (note_of positions) (before ++ e ∷ []) es) (length before + zero))) (same (length before))
noted_from positions before (e ∷ es) (suc n) asked =
    let len = length-append before (e ∷ []) in
    let at : length before + suc n ≡ length (before ++ e ∷ []) + n = omega (arith, len) in
    passes (is_asked positions (length before)) (length before) (length before + suc n) (entry_text before e) (gather_from (note_of positions) (before ++ e ∷ []) es) (other (length before) n)
    ∙ ap (noted_at (gather_from (note_of positions) (before ++ e ∷ []) es)) at
    ∙ noted_from positions (before ++ e ∷ []) es n (ap (is_asked positions) (sym at) ∙ asked)

pub noted_is : (positions : List ℕ) (es : List Entry) (count : ℕ) (cache : Taken) (notes : List (ℕ × Vec ℕ Global)) (position : ℕ) → IsFinder positions es count cache notes → is_asked positions position ≡ true
    → noted_at (map told notes) position ≡ entry_text_at es position
noted_is positions es count cache notes position h asked =
    let at : position ≡ length {A = Entry} [] + position = omega arith in
    ap (λ ns. noted_at ns position) h.noted ∙ ap (noted_at (gather (note_of positions) es)) at ∙ noted_from positions [] es position (ap (is_asked positions) (sym at) ∙ asked)

on_ok : {T E : Type 0} (r : Result T E) (now old t u : List ℕ) → t ≡ u → OnOk r (now ≡ old ++ t) → OnOk r (now ≡ old ++ u)
on_ok (Ok x) now old t u e h = h ∙ ap (λ l. old ++ l) e
on_ok (Err x) now old t u e h = tt

-- the line of a position of which this is noted
found_at : (positions : List ℕ) (es : List Entry) (count : ℕ) (cache : Taken) (notes seen : List (ℕ × Vec ℕ Global)) (position : ℕ) (o : Option (List ℕ)) → IsFinder positions es count cache notes → is_asked positions position ≡ true
    → seen ≡ notes → noted_at (map told seen) position ≡ o → entry_text_at es position ≡ o
found_at positions es count cache notes seen position o h asked same noted =
    sym (noted_is positions es count cache notes position h asked) ∙ ap (λ ns. noted_at (map told ns) position) (sym same) ∙ noted

pub said_there : (positions : List ℕ) (es : List Entry) (count : ℕ) (cache : Taken) (notes seen : List (ℕ × Vec ℕ Global)) (segments : List Segment) (position : ℕ) (name text now old : List ℕ) → IsFinder positions es count cache notes
    → is_asked positions position ≡ true → seen ≡ notes → noted_at (map told seen) position ≡ Some text → name ≡ name_at segments position → now ≡ old ++ there_text position name text → now ≡ old ++ position_text segments es position
said_there positions es count cache notes seen segments position name text now old h asked same noted named said =
    said ∙ ap (λ n. old ++ there_text position n text) named
    ∙ ap (λ o. old ++ finding_line segments position o) (sym (found_at positions es count cache notes seen position (Some text) h asked same noted))

pub is_there : (positions : List ℕ) (es : List Entry) (count : ℕ) (cache : Taken) (notes seen : List (ℕ × Vec ℕ Global)) (position : ℕ) (text : List ℕ) → IsFinder positions es count cache notes → is_asked positions position ≡ true
    → seen ≡ notes → noted_at (map told seen) position ≡ Some text → false ≡ is_missing es position
is_there positions es count cache notes seen position text h asked same noted =
    sym (ap (λ o. not (is_some o)) (found_at positions es count cache notes seen position (Some text) h asked same noted))

pub said_not_there : (positions : List ℕ) (es : List Entry) (count : ℕ) (cache : Taken) (notes seen : List (ℕ × Vec ℕ Global)) (segments : List Segment) (position : ℕ) (now old : List ℕ) → IsFinder positions es count cache notes
    → is_asked positions position ≡ true → seen ≡ notes → noted_at (map told seen) position ≡ None → now ≡ old ++ not_there_text position → now ≡ old ++ position_text segments es position
said_not_there positions es count cache notes seen segments position now old h asked same noted said =
    said ∙ ap (λ o. old ++ finding_line segments position o) (sym (found_at positions es count cache notes seen position None h asked same noted))

pub is_not_there : (positions : List ℕ) (es : List Entry) (count : ℕ) (cache : Taken) (notes seen : List (ℕ × Vec ℕ Global)) (position : ℕ) → IsFinder positions es count cache notes → is_asked positions position ≡ true
    → seen ≡ notes → noted_at (map told seen) position ≡ None → true ≡ is_missing es position
is_not_there positions es count cache notes seen position h asked same noted =
    sym (ap (λ o. not (is_some o)) (found_at positions es count cache notes seen position None h asked same noted))

-- before the first entry
pub finder_none : (positions : List ℕ) (es : List Entry) (choice : Choice) (cache : Taken) (notes : List (ℕ × Vec ℕ Global)) → es ≡ [] → choice ≡ any_names → cache ≡ record { choice = choice; definitions = []; noted = empty } → notes ≡ []
    → IsFinder positions es 0 cache notes
finder_none positions es choice cache notes e is c n =
    rw (e, n) record { counted = refl; choice = ap (λ (k : Taken). k.choice) c ∙ is; defined = sym (ap (λ (k : Taken). k.definitions) c); noted = refl }

-- an entry was taken, and its text noted if it is asked for
pub finder_more : (positions : List ℕ) (es now : List Entry) (e : Entry) (count up : ℕ) (cache new : Taken) (notes grown : List (ℕ × Vec ℕ Global)) (note : Option (Vec ℕ Global)) → IsFinder positions es count cache notes
    → now ≡ es ++ e ∷ [] → up ≡ count + 1 → new.choice ≡ cache.choice → ((before : List Entry) → definitions_of before ≡ cache.definitions → definitions_of (before ++ e ∷ []) ≡ new.definitions)
    → notes_in (length es) note ≡ note_of positions es e → map told grown ≡ map told notes ++ notes_in count note → IsFinder positions now up new grown
finder_more positions es now e count up cache new notes grown note h is one same defined noted added =
    rw is record {
      counted = one ∙ ap (λ n. n + 1) h.counted ∙ sym (length-append es (e ∷ []));
      choice = same ∙ h.choice;
      defined = defined es h.defined;
      noted =
          added ∙ ap (λ p. map told notes ++ notes_in p note) h.counted ∙ ap (λ ns. map told notes ++ ns) noted ∙ ap (λ ns. ns ++ note_of positions es e) h.noted
          ∙ sym (gather-push (note_of positions) es e);
    }

-- what is noted of the next entry
pub not_noted : (positions : List ℕ) (es : List Entry) (e : Entry) (count : ℕ) (cache : Taken) (notes : List (ℕ × Vec ℕ Global)) → IsFinder positions es count cache notes → is_asked positions count ≡ false
    → [] ≡ note_of positions es e
not_noted positions es e count cache notes h unasked =
    sym (ap (λ b. note_if b (length es) (entry_text es e)) (ap (is_asked positions) (sym h.counted) ∙ unasked))

pub is_noted : (positions : List ℕ) (es : List Entry) (e : Entry) (count : ℕ) (cache : Taken) (notes : List (ℕ × Vec ℕ Global)) (text : List ℕ) → IsFinder positions es count cache notes → is_asked positions count ≡ true
    → ((before : List Entry) → definitions_of before ≡ cache.definitions → text ≡ entry_text before e) → (length es, text) ∷ [] ≡ note_of positions es e
is_noted positions es e count cache notes text h asked is =
    ap (λ t. (length es, t) ∷ []) (is es h.defined) ∙ sym (ap (λ b. note_if b (length es) (entry_text es e)) (ap (is_asked positions) (sym h.counted) ∙ asked))

-- a definition is one of the definitions, and a sample is not
pub defined_ok : {T E : Type 0} (r : Result T E) (cache new : Taken) (e : Entry) (reference : ℕ) (l : Labels) → e ≡ Def reference l → OnOk r (new ≡ record cache { definitions = cache.definitions ++ Def reference l ∷ [] })
    → OnOk r ((before : List Entry) → definitions_of before ≡ cache.definitions → definitions_of (before ++ e ∷ []) ≡ new.definitions)
defined_ok (Ok x) cache new e reference l is made =
    rw is (λ before h. definitions_of-definition before reference l ∙ ap (λ ds. ds ++ Def reference l ∷ []) h ∙ sym (ap (λ (k : Taken). k.definitions) made))
defined_ok (Err x) cache new e reference l is made = tt

pub defined_sample : (cache : Taken) (e : Entry) (reference : ℕ) (t : ℤ) (word : ℕ) → e ≡ Sample reference t word → (before : List Entry) → definitions_of before ≡ cache.definitions
    → definitions_of (before ++ e ∷ []) ≡ cache.definitions
defined_sample cache e reference t word is before h = rw is (definitions_of-sample before reference t word ∙ h)

-- what was found
pub finds : (c : Bool) (lefts : List (Option (List ℕ))) (positions asked : List ℕ) (taken : List Entry) (rows segments : List Segment) (r : Found) → ReadsNamed c lefts taken rows (fault_in r.damage) → asked ≡ positions → segments ≡ rows
    → r.text.items ≡ flat_map (position_text segments taken) asked → r.missing ≡ count_by (is_missing taken) asked → Finds c lefts positions r
finds c lefts positions asked taken rows segments r h same seen text missing = record {
  texts = h.texts;
  read = subst (ReadsFirst lefts h.texts) h.are.fault_is h.read;
  segments = rows;
  segments_are = h.are.rows_are;
  text_is =
      text ∙ ap (λ ss. flat_map (position_text ss taken) asked) seen ∙ ap (λ ps. flat_map (position_text rows taken) ps) same ∙ ap (λ es. flat_map (position_text rows es) positions) h.are.all;
  missing_is = missing ∙ ap (λ ps. count_by (is_missing taken) ps) same ∙ ap (λ es. count_by (is_missing es) positions) h.are.all;
  fault_is = h.are.fault_is;
}

-- each position that is asked for is one of these
pub asked_at : (positions : List ℕ) (i p : ℕ) → slice_get positions i ≡ Some p → is_asked positions p ≡ true
asked_at [] i p h = absurd cc
asked_at (q ∷ qs) zero p h = let same : q ≡ p = cc in ap (λ b. b || is_asked qs p) (eq_is q p same)
  where
    eq_is : (a b : ℕ) → a ≡ b → nat_eq a b ≡ true
    eq_is a b e = grind (arith, nat_tests)
asked_at (q ∷ qs) (suc i) p h = or_true (nat_eq q p) (is_asked qs p) (asked_at qs i p h)
  where
    or_true : (a b : Bool) → b ≡ true → (a || b) ≡ true
    or_true true b e = refl
    or_true false b e = e

-- the text of a sample whose reference was looked up
pub sample_said : {T E : Type 0} (r : Result T E) (now old : List ℕ) (reference : ℕ) (t : ℤ) (word : ℕ) (answer : Known) (choice : Choice) (before : List Entry) → choice ≡ any_names → IsLookedUp choice before reference answer
    → OnOk r (now ≡ old ++ sample_text reference t word (standing_in answer)) → OnOk r (now ≡ old ++ entry_text before (Sample reference t word))
sample_said r now old reference t word answer choice before any h said =
    on_ok r now old (sample_text reference t word (standing_in answer)) (entry_text before (Sample reference t word))
    (ap (sample_text reference t word) (h.standing ∙ ap (λ c. known c before reference) any)) said

-- the text of labels that are a label set, and of labels that are not
pub set_said : {T E : Type 0} (r : Result T E) (now old : List ℕ) (labels set : Labels) → set ≡ labels → label_fault Utf8 labels ≡ None → OnOk r (now ≡ old ++ labels_text set) → OnOk r (now ≡ old ++ set_text labels)
set_said r now old labels set same sound said =
    on_ok r now old (labels_text set) (set_text labels) (ap labels_text same ∙ sym (ap (λ o. labels_or o labels) sound)) said

pub fault_said : {T E : Type 0} (r : Result T E) (now old : List ℕ) (labels : Labels) (f : LabelFault) → MatchOption (label_fault Utf8 labels) (f ≡ OutOfMemory) (λ g. f ≡ g) → (f ≡ OutOfMemory → ⊥) → OnOk r (now ≡ old ++ label_fault_text f)
    → OnOk r (now ≡ old ++ set_text labels)
fault_said r now old labels f found other said = by_fault (label_fault Utf8 labels) refl found
  where
    by_fault : (o : Option LabelFault) → label_fault Utf8 labels ≡ o → MatchOption o (f ≡ OutOfMemory) (λ g. f ≡ g) → OnOk r (now ≡ old ++ set_text labels)
    by_fault None is h = absurd (other h)
    by_fault (Some g) is h =
        on_ok r now old (label_fault_text f) (set_text labels) (ap label_fault_text h ∙ sym (ap (λ o. labels_or o labels) is)) said
