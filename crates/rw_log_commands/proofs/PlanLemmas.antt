-- The plan of a log, entry by entry.
use Rattle.std.proofs.Common.{◌≡◌, ℕ, ℤ, ◌+◌, List, [], ◌∷◌, ◌++◌, Bool, true, false, cond, count_by, eq-eqb, refl, sym, ◌∙◌, ap, subst, Some, None, Result, add-zero}
use Rattle.std.proofs.lemmas.List.{append-nil, map-append}
use Rattle.std.proofs.lemmas.List.Sums.{sum_by_push}
use Rattle.std.specs.Arc.{arc_value}
use Rattle.std.specs.Result.{OnOk}
use Rattle.std.specs.FinMap.{empty}
use Rattle.std.proofs.lemmas.Result.{on_ok_weaker}
use Rattle.rw_types.specs.Labels.{Labels, label_fault}
use Rattle.rw_external_labels.specs.External.{labelled_entry, labelled}
use Rattle.rw_types.specs.declared.entry.Entry.{Entry}
use Rattle.rw_types.specs.declared.entry.Entry.TheVariants.{Def, Sample}
use Rattle.rw_types.specs.declared.label_fault.LabelFault.{LabelFault}
use Rattle.rw_relabel.specs.Rules.{keeps}
use Rattle.rw_relabel.specs.declared.choice.Choice.{Choice}
use Rattle.rw_series_cache.specs.Cached.{Taken}
use Rattle.rw_series_cache.specs.Found.{IsLookedUp, standing_in, IsOfSeries}
use Rattle.rw_series_cache.specs.Known.{Standing, Unknown, Bad, Filtered, Kept, standing_of, standing_by, standing_of_set, known, definitions_of}
use Rattle.rw_series_cache.specs.Numbers.{series_of, number_of}
use Rattle.rw_series_cache.specs.declared.known.Known.{Known}
use Rattle.rw_series_cache.specs.declared.known.Known.TheVariants as found
use Rattle.rw_series_cache.proofs.shared.KnownLemmas.{bad_labels, known-definition, definitions_of-definition, definitions_of-sample}
use Rattle.rw_log_commands.specs.Plan.{bad_text, kept_text, definition_text, plan_line, standing_at, plan_lines, standings, is_kept_standing, is_filtered, is_bad, is_unknown, counts_of, counts_text, plan_text}
use Rattle.rw_log_commands.specs.inner.Planned.{IsPlanned, with_sample, found_text}
use Rattle.rw_log_commands.specs.declared.counts.SampleCounts.{SampleCounts}
use Rattle.rw_types.proofs.shared.GatherLemmas.{gather-push}

-- one more entry gives its part
lines-push : (choice : Choice) (es : List Entry) (e : Entry) → plan_lines choice (es ++ e ∷ []) ≡ plan_lines choice es ++ plan_line choice es e
unfolding plan_lines
lines-push choice es e = gather-push (plan_line choice) es e

standings-push : (choice : Choice) (es : List Entry) (e : Entry) → standings choice (es ++ e ∷ []) ≡ standings choice es ++ standing_at choice es e
unfolding standings
standings-push choice es e = gather-push (standing_at choice) es e

count_by-push : {X : Type 0} (p : X → Bool) (xs : List X) (x : X) → count_by p (xs ++ x ∷ []) ≡ cond (p x) (count_by p xs + 1) (count_by p xs)
count_by-push p xs x = sum_by_push (λ y. cond (p y) 1 0) xs x ∙ plus (p x) (count_by p xs)
  where
    plus : (b : Bool) (n : ℕ) → n + cond b 1 0 ≡ cond b (n + 1) n
    plus true n = refl
    plus false n = add-zero n

-- one more sample counts
counts_of-push : (ss : List Standing) (s : Standing) → counts_of (ss ++ s ∷ []) ≡ with_sample (counts_of ss) s
unfolding counts_of
counts_of-push ss (Kept l) = rw (count_by-push is_kept_standing ss (Kept l), count_by-push is_filtered ss (Kept l), count_by-push is_bad ss (Kept l), count_by-push is_unknown ss (Kept l)) refl
counts_of-push ss Filtered = rw (count_by-push is_kept_standing ss Filtered, count_by-push is_filtered ss Filtered, count_by-push is_bad ss Filtered, count_by-push is_unknown ss Filtered) refl
counts_of-push ss (Bad f) = rw (count_by-push is_kept_standing ss (Bad f), count_by-push is_filtered ss (Bad f), count_by-push is_bad ss (Bad f), count_by-push is_unknown ss (Bad f)) refl
counts_of-push ss Unknown = rw (count_by-push is_kept_standing ss Unknown, count_by-push is_filtered ss Unknown, count_by-push is_bad ss Unknown, count_by-push is_unknown ss Unknown) refl

-- the line of a label set that was looked up
line_as : (series : List Labels) (reference : ℕ) (l : Labels) (answer : Known) (b : Bool) → standing_in answer ≡ standing_of_set b l → IsOfSeries series answer
    → found_text reference l answer ≡ definition_text series reference l (standing_of_set b l)
line_as series reference l found.Unknown true h n = absurd cc
line_as series reference l found.Unknown false h n = absurd cc
line_as series reference l (found.Bad f) true h n = absurd cc
line_as series reference l (found.Bad f) false h n = absurd cc
line_as series reference l found.Filtered true h n = absurd cc
line_as series reference l found.Filtered false h n = refl
line_as series reference l (found.Kept number labels) true h n =
    let same : arc_value labels.now ≡ l = cc in
    ap (λ k. kept_text reference k l) (n.numbered ∙ ap (number_of series) same)
line_as series reference l (found.Kept number labels) false h n = absurd cc

-- what is known of a reference after its definition
known_own : (choice : Choice) (es : List Entry) (reference : ℕ) (l : Labels) → known choice (es ++ Def reference l ∷ []) reference ≡ standing_of choice (Some l)
known_own choice es reference l =
    known-definition choice es reference l reference ∙ ap (λ b. cond b (standing_of choice (Some l)) (known choice es reference)) (eq-eqb reference reference refl)

set_stands : (choice : Choice) (l : Labels) → label_fault choice.names l ≡ None → standing_of choice (Some l) ≡ standing_of_set (keeps choice.rules l) l
set_stands choice l e = ap (standing_by choice l) e

pub line_found : (choice : Choice) (es : List Entry) (reference : ℕ) (l : Labels) (answer : Known) → label_fault choice.names l ≡ None → IsLookedUp choice (es ++ Def reference l ∷ []) reference answer
    → found_text reference l answer ≡ plan_line choice es (Def reference l)
line_found choice es reference l answer e h =
    line_as (series_of choice (es ++ Def reference l ∷ [])) reference l answer (keeps choice.rules l) (h.standing ∙ known_own choice es reference l ∙ set_stands choice l e) h.number
    ∙ ap (definition_text (series_of choice (es ++ Def reference l ∷ [])) reference l) (sym (set_stands choice l e))

-- the line of a label set that was defined and then looked up
pub set_line : {T E : Type 0} (old new : Taken) (reference : ℕ) (labels set : Labels) (answer : Known) (text now : List ℕ) (r : Result T E)
    → new ≡ record old { definitions = old.definitions ++ Def reference labels ∷ [] } → set ≡ labels → label_fault old.choice.names labels ≡ None
    → ((es : List Entry) → definitions_of es ≡ new.definitions → IsLookedUp new.choice es reference answer)
    → OnOk r (now ≡ text ++ found_text reference set answer)
    → (es : List Entry) → definitions_of es ≡ old.definitions → OnOk r (now ≡ text ++ plan_line old.choice es (Def reference labels))
set_line old new reference labels set answer text now r defined same label_set answers pushed es taken =
    let here : definitions_of (es ++ Def reference labels ∷ []) ≡ new.definitions =
    definitions_of-definition es reference labels ∙ ap (λ ds. ds ++ Def reference labels ∷ []) taken ∙ sym (ap (λ (k : Taken). k.definitions) defined) in
    let found : IsLookedUp old.choice (es ++ Def reference labels ∷ []) reference answer =
    subst (λ rs. IsLookedUp rs (es ++ Def reference labels ∷ []) reference answer) (ap (λ (k : Taken). k.choice) defined) (answers (es ++ Def reference labels ∷ []) here) in
    let line = line_found old.choice es reference labels answer label_set found in
    on_ok_weaker r
    (λ e. e ∙ ap (λ l. text ++ found_text reference l answer) same ∙ ap (λ x. text ++ x) line) pushed

-- the line of labels that have a fault
pub line_bad : (choice : Choice) (es : List Entry) (reference : ℕ) (l : Labels) (f : LabelFault) → label_fault choice.names l ≡ Some f → bad_text reference f ≡ plan_line choice es (Def reference l)
line_bad choice es reference l f e = ap (definition_text (series_of choice (es ++ Def reference l ∷ [])) reference l) (sym (bad_labels choice l f e))

-- a planner keeps its part whatever stands for its rules
same_rules : (choice now : Choice) (es : List Entry) (cached : Taken) (text : List ℕ) (counts : SampleCounts) → now ≡ choice → IsPlanned choice es cached text counts → IsPlanned now es cached text counts
same_rules choice now es cached text counts e h = subst (λ rs. IsPlanned rs es cached text counts) (sym e) h

-- one more entry with external labels
pub labelled-push : (external : Labels) (es : List Entry) (e labelled_one : Entry) → labelled_one ≡ labelled_entry external e
    → labelled external (es ++ e ∷ []) ≡ labelled external es ++ labelled_one ∷ []
labelled-push external es e labelled_one is =
    map-append (labelled_entry external) es (e ∷ []) ∙ ap (λ x. labelled external es ++ x ∷ []) (sym is)

-- before the first entry
pub planned_none : (choice : Choice) (es : List Entry) (cached : Taken) (text : List ℕ) → es ≡ [] → cached ≡ record { choice = choice; definitions = []; noted = empty } → text ≡ []
    → IsPlanned cached.choice es cached text (record { kept = 0; filtered = 0; bad = 0; noseries = 0 })
unfolding plan_lines standings counts_of
planned_none choice es cached text e c t =
    rw e
    (same_rules choice cached.choice [] cached text (record { kept = 0; filtered = 0; bad = 0; noseries = 0 }) (ap (λ (k : Taken). k.choice) c)
    (record { cache = c; lines = t; counts = refl }))

-- the definitions in the cache are those of the entries
definitions_cached : (es : List Entry) (cached : Taken) (text : List ℕ) (counts : SampleCounts) → IsPlanned cached.choice es cached text counts → definitions_of es ≡ cached.definitions
definitions_cached es cached text counts h = sym (ap (λ (k : Taken). k.definitions) h.cache)

-- a definition was taken
pub planned_definition : (es : List Entry) (cached new : Taken) (text now : List ℕ) (counts : SampleCounts) (reference : ℕ) (l : Labels)
    → IsPlanned cached.choice es cached text counts → new ≡ record cached { definitions = cached.definitions ++ Def reference l ∷ [] }
    → ((before : List Entry) → definitions_of before ≡ cached.definitions → now ≡ text ++ plan_line cached.choice before (Def reference l))
    → IsPlanned new.choice (es ++ Def reference l ∷ []) new now counts
planned_definition es cached new text now counts reference l h c line =
    let choice = cached.choice in
    same_rules choice new.choice (es ++ Def reference l ∷ []) new now counts (ap (λ (k : Taken). k.choice) c)
    (record {
      cache =
          c ∙ ap (λ (k : Taken). record k { definitions = k.definitions ++ Def reference l ∷ [] }) h.cache
          ∙ ap (λ ds. record { choice = choice; definitions = ds; noted = empty }) (sym (definitions_of-definition es reference l));
      lines =
          line es (definitions_cached es cached text counts h) ∙ ap (λ x. x ++ plan_line choice es (Def reference l)) h.lines
          ∙ sym (lines-push choice es (Def reference l));
      counts = h.counts ∙ ap counts_of (sym (standings-push choice es (Def reference l) ∙ append-nil (standings choice es)));
    })

-- a sample was counted
pub planned_sample : (es : List Entry) (cached : Taken) (text : List ℕ) (counts now : SampleCounts) (reference : ℕ) (t : ℤ) (word : ℕ)
    → IsPlanned cached.choice es cached text counts
    → ((before : List Entry) → definitions_of before ≡ cached.definitions → now ≡ with_sample counts (known cached.choice before reference))
    → IsPlanned cached.choice (es ++ Sample reference t word ∷ []) cached text now
planned_sample es cached text counts now reference t word h counted =
    let choice = cached.choice in
    record {
      cache = h.cache ∙ ap (λ ds. record { choice = choice; definitions = ds; noted = empty }) (sym (definitions_of-sample es reference t word));
      lines = h.lines ∙ sym (lines-push choice es (Sample reference t word) ∙ append-nil (plan_lines choice es));
      counts =
          counted es (definitions_cached es cached text counts h) ∙ ap (λ (k : SampleCounts). with_sample k (known choice es reference)) h.counts
          ∙ sym (counts_of-push (standings choice es) (known choice es reference))
          ∙ ap counts_of (sym (standings-push choice es (Sample reference t word)));
    }

-- the lines and then the counts are the plan
pub planned_text : (choice : Choice) (es : List Entry) (cached : Taken) (text out : List ℕ) (counts : SampleCounts) → IsPlanned choice es cached text counts
    → out ≡ text ++ counts_text counts → out ≡ plan_text choice es
unfolding plan_text
planned_text choice es cached text out counts h e =
    e ∙ ap (λ x. x ++ counts_text counts) h.lines ∙ ap (λ (k : SampleCounts). plan_lines choice es ++ counts_text k) h.counts
