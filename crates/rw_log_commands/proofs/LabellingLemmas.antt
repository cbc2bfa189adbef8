-- What is known of a log, entry by entry.
use Rattle.std.proofs.Common.{◌≡◌, ℕ, ℤ, zero, suc, List, [], ◌∷◌, ◌++◌, length, map, Bool, true, false, cond, nat_eq, refl, sym, ◌∙◌, ap, ap₂, subst, Option, Some, None, slice_get}
use Rattle.std.specs.Arc.{arc_value}
use Rattle.std.specs.FinMap.{empty}
use Rattle.std.specs.List.{AllByRecursion, list_any}
use Rattle.std.proofs.lemmas.List.{append-nil}
use Rattle.std.proofs.lemmas.Option.{get_or_from_slice_get}
use Rattle.rw_types.specs.Labels.{Labels, label_fault}
use Rattle.rw_types.specs.declared.entry.Entry.{Entry}
use Rattle.rw_types.specs.declared.entry.Entry.TheVariants.{Def, Sample}
use Rattle.rw_types.specs.declared.label_fault.LabelFault.{LabelFault}
use Rattle.rw_write_request.specs.Message as message_specs
use Rattle.rw_wal_format.specs.Series as codes
use Rattle.rw_relabel.specs.Rules.{keeps}
use Rattle.rw_relabel.specs.declared.choice.Choice.{Choice}
use Rattle.rw_batch.specs.Grouping.{message, distinct, with_sample, labels_of_series}
use Rattle.rw_batch.specs.Groups.{Groups, StandsFor, IsAlone, with_number}
use Rattle.rw_batch.proofs.shared.MessageLemmas.{message-push}
use Rattle.rw_batch.proofs.shared.NumberLemmas.{stands_for_own, labels_stay}
use Rattle.rw_series_cache.specs.Cached.{Taken}
use Rattle.rw_series_cache.specs.Found.{IsLookedUp}
use Rattle.rw_series_cache.specs.Known.{Standing, Kept, known, standing_of, standing_by, standing_of_set, definitions_of}
use Rattle.rw_series_cache.specs.Numbers.{series_of, number_of, HasNumber}
use Rattle.rw_series_cache.specs.declared.known.Known.{Known}
use Rattle.rw_series_cache.specs.declared.known.Known.TheVariants as found
use Rattle.rw_series_cache.proofs.shared.KnownLemmas.{definitions_of-definition, definitions_of-sample}
use Rattle.rw_series_cache.proofs.shared.SeriesLemmas.{number_stays_on}
use Rattle.rw_log_commands.specs.Labelled.{labelled_samples, labelled_by, label_set_of, if_label_set, unless_bad_labels}
use Rattle.rw_log_commands.specs.inner.Labelling.{labels_at, IsNumber, IsNumbered, IsLabelling}
use Rattle.rw_log_commands.proofs.LabelledLemmas.{labelled-push}
use Rattle.rw_relabel.specs.Choices.{legacy}
use Rattle.rw_types.specs.declared.names.Names.TheVariants.{Legacy}

-- the label set of a reference that is so, if no rule drops one
abbrev pub label_set_in : Standing → Option Labels
label_set_in (Kept l) = Some l
label_set_in _ = None

keeps_all : (l : Labels) → keeps [] l ≡ true
unfolding keeps
keeps_all l = refl

label_set_by : (l : Labels) (o : Option LabelFault) → unless_bad_labels o l ≡ label_set_in (standing_by legacy l o)
label_set_by l None = ap (λ b. label_set_in (standing_of_set b l)) (sym (keeps_all l))
label_set_by l (Some f) = refl

label_set_judged : (o : Option Labels) → if_label_set o ≡ label_set_in (standing_of legacy o)
label_set_judged None = refl
label_set_judged (Some l) = label_set_by l (label_fault Legacy l)

label_set_known : (es : List Entry) (reference : ℕ) → label_set_of es reference ≡ label_set_in (known legacy es reference)
unfolding label_set_of known
label_set_known es reference = label_set_judged (codes.labels_of es reference (length es))

-- numbers keep their labels as more entries come
labels_stay_at : (es more : List Entry) (n : ℕ) → IsNumber (series_of legacy es) n → labels_at (series_of legacy (es ++ more)) n ≡ labels_at (series_of legacy es) n
labels_stay_at es more n h =
    get_or_from_slice_get (series_of legacy (es ++ more)) n (labels_at (series_of legacy es) n) [] (number_stays_on legacy es more (labels_at (series_of legacy es) n) n h).stands

is_number_on : (es more : List Entry) (n : ℕ) → IsNumber (series_of legacy es) n → IsNumber (series_of legacy (es ++ more)) n
is_number_on es more n h =
    subst (λ l. HasNumber (series_of legacy (es ++ more)) l n) (sym (labels_stay_at es more n h)) (number_stays_on legacy es more (labels_at (series_of legacy es) n) n h)

all_on : (es more : List Entry) (ns : List ℕ) → AllByRecursion (IsNumber (series_of legacy es)) ns → AllByRecursion (IsNumber (series_of legacy (es ++ more))) ns
all_on es more [] h = tt
all_on es more (n ∷ ns) h = (is_number_on es more n h.0, all_on es more ns h.1)

map_on : (es more : List Entry) (ns : List ℕ) → AllByRecursion (IsNumber (series_of legacy es)) ns → map (labels_at (series_of legacy es)) ns ≡ map (labels_at (series_of legacy (es ++ more))) ns
map_on es more [] h = refl
map_on es more (n ∷ ns) h = ap₂ (λ l ls. l ∷ ls) (sym (labels_stay_at es more n h.0)) (map_on es more ns h.1)

numbered_on : (es more : List Entry) (g : Groups) → IsNumbered (series_of legacy es) g → IsNumbered (series_of legacy (es ++ more)) g
numbered_on es more g h = record {
  labels = h.labels ∙ map_on es more g.numbers h.numbers;
  numbers = all_on es more g.numbers h.numbers;
}

-- among numbers of labels no two have the same labels
number_at : (sets : List Labels) (ns : List ℕ) (i m : ℕ) → AllByRecursion (IsNumber sets) ns → slice_get ns i ≡ Some m → IsNumber sets m
number_at sets [] i m h e = absurd cc
number_at sets (n ∷ ns) zero m h e = let same : n ≡ m = cc in subst (IsNumber sets) same h.0
number_at sets (n ∷ ns) (suc i) m h e = number_at sets ns i m h.1 e

alone : (sets : List Labels) (n : ℕ) (ns : List ℕ) → IsNumber sets n → AllByRecursion (IsNumber sets) ns → IsAlone (labels_at sets) n ns
alone sets n ns is h i m e same = (number_at sets ns i m h e).numbered ∙ ap (number_of sets) same ∙ sym is.numbered

-- a number has its labels
own : (sets : List Labels) (n : ℕ) (l : Labels) → HasNumber sets l n → labels_at sets n ≡ l
own sets n l h = get_or_from_slice_get sets n l [] h.stands

is_number : (sets : List Labels) (n : ℕ) (l : Labels) → HasNumber sets l n → IsNumber sets n
is_number sets n l h = subst (λ x. HasNumber sets x n) (sym (own sets n l h)) h

number_pushed : (sets : List Labels) (ns : List ℕ) (n : ℕ) → AllByRecursion (IsNumber sets) ns → IsNumber sets n → AllByRecursion (IsNumber sets) (ns ++ n ∷ [])
number_pushed sets [] n h is = (is, tt)
number_pushed sets (m ∷ ns) n h is = (h.0, number_pushed sets ns n h.1 is)

number_added : (sets : List Labels) (ns : List ℕ) (n : ℕ) (b : Bool) → AllByRecursion (IsNumber sets) ns → IsNumber sets n → AllByRecursion (IsNumber sets) (cond b ns (ns ++ n ∷ []))
number_added sets ns n true h is = h
number_added sets ns n false h is = number_pushed sets ns n h is

-- one more sample, of the labels of a number
numbered_more : (sets : List Labels) (g new : Groups) (n : ℕ) (l : Labels) (s : message_specs.Sample) → HasNumber sets l n
    → new.series ≡ with_sample l s g.series → new.numbers ≡ with_number n g.numbers → IsNumbered sets g → IsNumbered sets new
numbered_more sets g new n l s is series numbers h =
    let own_number = is_number sets n l is in
    record {
      labels =
          ap labels_of_series series ∙ ap (λ x. labels_of_series (with_sample x s g.series)) (sym (own sets n l is))
          ∙ labels_stay (labels_at sets) n s g h.labels (alone sets n g.numbers own_number h.numbers)
          ∙ ap (map (labels_at sets)) (sym numbers);
      numbers = subst (AllByRecursion (IsNumber sets)) (sym numbers) (number_added sets g.numbers n (list_any (nat_eq n) g.numbers) h.numbers own_number);
    }

no_series : [] ≡ message (labelled_samples [])
unfolding labelled_samples message distinct
no_series = refl

-- nothing is known before the first entry
pub nothing_taken : (es : List Entry) (choice : Choice) (cached : Taken) (g : Groups)
    → es ≡ [] → choice ≡ legacy → cached ≡ record { choice = choice; definitions = []; noted = empty } → g ≡ record { numbers = []; series = [] } → IsLabelling es cached g
nothing_taken es choice cached g e r c f = rw (e, c, r, f) record { choice = refl; definitions = refl; grouped = no_series; numbered = record { labels = refl; numbers = tt } }

-- a definition
pub definition_taken : (es : List Entry) (reference : ℕ) (labels : Labels) (cached new : Taken) (g : Groups)
    → new ≡ record cached { definitions = cached.definitions ++ Def reference labels ∷ [] } → IsLabelling es cached g → IsLabelling (es ++ Def reference labels ∷ []) new g
definition_taken es reference labels cached new g e h = record {
  choice = ap (λ (k : Taken). k.choice) e ∙ h.choice;
  definitions = definitions_of-definition es reference labels ∙ ap (λ ds. ds ++ Def reference labels ∷ []) h.definitions ∙ sym (ap (λ (k : Taken). k.definitions) e);
  grouped = h.grouped ∙ ap message (sym (labelled-push es (Def reference labels) ∙ append-nil (labelled_samples es)));
  numbered = numbered_on es (Def reference labels ∷ []) g h.numbered;
}

-- the number and the label set of an answer, if it has them
abbrev pub kept_in : Known → Option (ℕ × Labels)
kept_in (found.Kept number labels) = Some (number, arc_value labels.now)
kept_in _ = None

pub not_kept : (answer : Known) → ((n : ℕ) (labels : _) → answer ≡ found.Kept n labels → ⊥) → kept_in answer ≡ None
not_kept found.Unknown h = refl
not_kept (found.Bad f) h = refl
not_kept found.Filtered h = refl
not_kept (found.Kept n labels) h = absurd (h n labels refl)

-- they are those of the label set of the reference, if it has one
abbrev IsFound : List Entry → ℕ → Option (ℕ × Labels) → Type 0
IsFound es reference None = label_set_of es reference ≡ None
IsFound es reference (Some (n, l)) = (label_set_of es reference ≡ Some l) × HasNumber (series_of legacy es) l n

is_found : (es : List Entry) (reference : ℕ) (answer : Known) → IsLookedUp legacy es reference answer → IsFound es reference (kept_in answer)
is_found es reference found.Unknown a = label_set_known es reference ∙ ap label_set_in (sym a.standing)
is_found es reference (found.Bad f) a = label_set_known es reference ∙ ap label_set_in (sym a.standing)
is_found es reference found.Filtered a = label_set_known es reference ∙ ap label_set_in (sym a.standing)
is_found es reference (found.Kept n labels) a = (label_set_known es reference ∙ ap label_set_in (sym a.standing), a.number)

-- what a cache answers of a reference, after entries with its definitions
abbrev pub Finds : Taken → ℕ → Known → Type 0
Finds cached reference answer = (es : List Entry) → definitions_of es ≡ cached.definitions → IsLookedUp cached.choice es reference answer

found_as : (es : List Entry) (cached : Taken) (g : Groups) (reference : ℕ) (answer : Known) (o : Option (ℕ × Labels))
    → Finds cached reference answer → kept_in answer ≡ o → IsLabelling es cached g → IsFound es reference o
found_as es cached g reference answer o finds e h =
    subst (IsFound es reference) e (is_found es reference answer (subst (λ rs. IsLookedUp rs es reference answer) h.choice (finds es h.definitions)))

-- a sample of no series
pub sample_left_out : (es : List Entry) (reference : ℕ) (t : ℤ) (word : ℕ) (answer : Known) (cached : Taken) (g : Groups)
    → Finds cached reference answer → kept_in answer ≡ None → IsLabelling es cached g → IsLabelling (es ++ Sample reference t word ∷ []) cached g
sample_left_out es reference t word answer cached g finds none h =
    let unnamed = found_as es cached g reference answer None finds none h in
    record {
      choice = h.choice;
      definitions = definitions_of-sample es reference t word ∙ h.definitions;
      grouped = h.grouped ∙ ap message (sym (labelled-push es (Sample reference t word) ∙ ap (λ o. labelled_samples es ++ labelled_by o (word, t)) unnamed ∙ append-nil (labelled_samples es)));
      numbered = numbered_on es (Sample reference t word ∷ []) g h.numbered;
    }

-- the number of a series stands for its labels
pub number_stands : (es : List Entry) (reference : ℕ) (answer : Known) (n : ℕ) (l : Labels) (cached : Taken) (g : Groups)
    → Finds cached reference answer → kept_in answer ≡ Some (n, l) → IsLabelling es cached g → StandsFor n l g
number_stands es reference answer n l cached g finds e h =
    let sets = series_of legacy es in
    let is = (found_as es cached g reference answer (Some (n, l)) finds e h).1 in
    subst (λ x. StandsFor n x g) (own sets n l is) (stands_for_own (labels_at sets) n g h.numbered.labels (alone sets n g.numbers (is_number sets n l is) h.numbered.numbers))

-- a sample of a series
pub sample_taken : (es : List Entry) (reference : ℕ) (t : ℤ) (word : ℕ) (answer : Known) (n : ℕ) (l : Labels) (cached : Taken) (g new : Groups)
    → Finds cached reference answer → kept_in answer ≡ Some (n, l) → new.series ≡ with_sample l (word, t) g.series → new.numbers ≡ with_number n g.numbers
    → IsLabelling es cached g → IsLabelling (es ++ Sample reference t word ∷ []) cached new
sample_taken es reference t word answer n l cached g new finds e series numbers h =
    let both = found_as es cached g reference answer (Some (n, l)) finds e h in
    record {
      choice = h.choice;
      definitions = definitions_of-sample es reference t word ∙ h.definitions;
      grouped =
          series ∙ ap (with_sample l (word, t)) h.grouped ∙ sym (message-push (labelled_samples es) (record { labels = l; sample = (word, t) }))
          ∙ ap message (sym (labelled-push es (Sample reference t word) ∙ ap (λ o. labelled_samples es ++ labelled_by o (word, t)) both.0));
      numbered = numbered_on es (Sample reference t word ∷ []) new (numbered_more (series_of legacy es) g new n l (word, t) both.1 series numbers h.numbered);
    }
