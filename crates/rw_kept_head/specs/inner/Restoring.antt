-- The head that the entries of a log say.
use Rattle.std.specs.Prelude.{◌≡◌, ◌+◌, ◌^◌, ◌-◌, ℕ, ℤ, List, [], ◌∷◌, ◌++◌, length, min, Bool, true, false, Option, Some, None, is_some, nat_eq, if◌then◌else◌}
use Rattle.rw_types.specs.Labels.{Labels, label_fault}
use Rattle.rw_types.specs.LabelOrder.{labels_eq}
use Rattle.rw_types.specs.Rising.{Rises}
use Rattle.rw_types.specs.declared.entry.Entry.{Entry}
use Rattle.rw_types.specs.declared.names.Names.{Names}
use Rattle.rw_types.specs.declared.names.Names.TheVariants.{Utf8}
use Rattle.rw_wal_format.specs.Series.{labels_of, has_labels}
use Rattle.rw_write_request.specs.Message.{TimeSeries, WriteRequest}
use Rattle.rw_kept_log.specs.Additions.{samples_of_labels}
use Rattle.rw_head.specs.Head.{State}
use Rattle.rw_head.specs.Lists.{IsEarlier}
use Rattle.rw_head.specs.Placed.{IsPlaced}
use Rattle.rw_head.specs.Store.{Store, list_of}
use Rattle.rw_head.specs.Verdicts.{LabelLimits, refusal}
use Rattle.rw_kept_head.specs.Admitted.{MayHold, IsRefusedAt}

-- the entries so far, the head, how many of them came before the first one that was refused,
-- whether one was, and whether memory ran out
pub record Restored : Type 0 where
  pub taken : List Entry
  pub head : State
  pub accepted : ℕ
  pub refused : Bool
  pub failed : Bool

-- what entries do not change
pub record Setting : Type 0 where
  pub limits : LabelLimits
  pub busy : ℕ
  pub failed : Bool

-- What is noted of a reference says which labels it has: a series with them, or nothing if they are
-- no label set.
abbrev pub StandsFor : Names → Option (Option TimeSeries) → Option (List (List ℕ × List ℕ)) → Type 0
StandsFor names None found = found ≡ None
StandsFor names (Some (Some s)) found = found ≡ Some s.labels
StandsFor names (Some None) found = (l : Labels) × (found ≡ Some l) × (is_some (label_fault names l) ≡ true)

-- the references have the labels that the entries give them, and of each label set the store has
-- the samples that they have
pub record IsRestored (names : Names) (taken : List Entry) (lookup : ℕ → Option (Option TimeSeries)) (store : Store) : Type 0 where
  pub known : (r : ℕ) → StandsFor names (lookup r) (labels_of taken r (length taken))
  pub says : (l : Labels) → list_of store l ≡ samples_of_labels taken l

-- a series of these labels without samples, or nothing if they are no label set
abbrev pub IsSeriesOf : Names → Labels → Option TimeSeries → Type 0
IsSeriesOf names l None = is_some (label_fault names l) ≡ true
IsSeriesOf names l (Some s) = s ≡ record { labels = l; samples = [] }

-- the one sample of the one series of a message was appended
abbrev pub IsAdded : Store → Store → WriteRequest → Type 0
IsAdded old new m =
    (l : Labels) (w : ℕ) (t : ℤ) → m ≡ record { labels = l; samples = (w, t) ∷ [] } ∷ []
    → (q : Labels) → list_of new q ≡ list_of old q ++ (if labels_eq l q then (t, w) ∷ [] else [])

-- no head with these limits holds this sample of the label set after those of the store
abbrev pub CannotFollow : LabelLimits → Store → Labels → ℤ × ℕ → Type 0
CannotFollow limits store l sample = Rises IsEarlier (list_of store l ++ sample ∷ []) → refusal limits l ≡ None → ⊥

-- the one sample of the one series of a message was appended, or the head cannot hold it
abbrev pub AddsOne : LabelLimits → Store → Store → WriteRequest → Bool → Type 0
AddsOne limits old new m true = IsAdded old new m
AddsOne limits old new m false =
    (l : Labels) (w : ℕ) (t : ℤ) → m ≡ record { labels = l; samples = (w, t) ∷ [] } ∷ []
    → CannotFollow limits old l (t, w)

-- A sample of what is noted of a reference was appended, or the head cannot hold it. The series
-- that is noted then has that sample.
abbrev pub AddsTo : LabelLimits → Store → Store → Option TimeSeries → Option TimeSeries → ℤ × ℕ → Bool → Type 0
AddsTo limits old new None later sample done = (later ≡ None) × (done ≡ false)
AddsTo limits old new (Some s) later sample done =
    let one : TimeSeries = record { labels = s.labels; samples = (sample.1, sample.0) ∷ [] } in
    (later ≡ Some one) × AddsOne limits old new (one ∷ []) done

-- a reference has these labels from now on, and the others are as they were
abbrev pub Defines : Names → (ℕ → Option (Option TimeSeries)) → (ℕ → Option (Option TimeSeries)) → ℕ → Labels → Type 0
Defines names old new reference labels =
    (r : ℕ) (found : Option (List (List ℕ × List ℕ))) → StandsFor names (old r) found
    → StandsFor names (new r) (if nat_eq reference r then Some labels else found)

-- a sample of a reference was appended, and the references are as they were
pub record AddsSample (names : Names) (old new : Store) (lookup later : ℕ → Option (Option TimeSeries)) (reference : ℕ) (sample : ℤ × ℕ) : Type 0 where
  pub same : (r : ℕ) (found : Option (List (List ℕ × List ℕ))) → StandsFor names (lookup r) found → StandsFor names (later r) found
  pub added : (l : Labels) (found : Option (List (List ℕ × List ℕ))) → StandsFor names (lookup reference) found → list_of new l ≡ list_of old l ++ (if has_labels l found then sample ∷ [] else [])

-- a sample of a reference was appended, or no head with these limits holds it
abbrev pub TakesSample : LabelLimits → Store → Store → (ℕ → Option (Option TimeSeries)) → (ℕ → Option (Option TimeSeries)) → ℕ → ℤ × ℕ → Bool → Type 0
TakesSample limits old new lookup later reference sample true = AddsSample Utf8 old new lookup later reference sample
TakesSample limits old new lookup later reference sample false =
    (found : Option (List (List ℕ × List ℕ))) → StandsFor Utf8 (lookup reference) found
    → (l : Labels) × (found ≡ Some l) × CannotFollow limits old l sample

-- the label set of what is noted of a reference has this place
abbrev pub IsPlaceOf : ℕ → Option (Option TimeSeries) → List Labels → Type 0
IsPlaceOf n None names = ⊥
IsPlaceOf n (Some None) names = ⊥
IsPlaceOf n (Some (Some s)) names = IsPlaced n s.labels names

-- the same of a place that may be unknown
abbrev pub HasPlace : Option (Option ℕ) → Option (Option TimeSeries) → List Labels → Type 0
HasPlace None found names = Unit {0}
HasPlace (Some None) found names = Unit {0}
HasPlace (Some (Some n)) found names = IsPlaceOf n found names

-- each place that is noted of a reference is that of its label set
abbrev pub ArePlaced : (ℕ → Option (Option ℕ)) → (ℕ → Option (Option TimeSeries)) → List Labels → Type 0
ArePlaced places lookup names = (r : ℕ) → HasPlace (places r) (lookup r) names

-- the store has what these entries say, or no head with these limits takes them
abbrev pub IsRestoredOrRefused : LabelLimits → List Entry → (ℕ → Option (Option TimeSeries)) → Store → Bool → Type 0
IsRestoredOrRefused limits taken lookup store true = IsRestored Utf8 taken lookup store
IsRestoredOrRefused limits taken lookup store false = MayHold limits (samples_of_labels taken) → ⊥

-- how many entries came before the first one that was refused, with one more entry
abbrev pub accepted_next : ℕ → Bool → ℕ
accepted_next n refused = if refused then n else min (n + 1) (2 ^ 64 - 1)

-- the head has what the entries say, unless one of them was refused: then no head with these limits
-- takes them
pub record IsRestoring (taken : List Entry) (lookup : ℕ → Option (Option TimeSeries)) (head : State) (accepted : ℕ) (refused : Bool) : Type 0 where
  pub restored : refused ≡ false → IsRestored Utf8 taken lookup head.store
  pub refuses : refused ≡ true → MayHold head.limits (samples_of_labels taken) → ⊥
  pub holds : MayHold head.limits (list_of head.store)
  pub all : refused ≡ false → accepted ≡ min (length taken) (2 ^ 64 - 1)
  pub first : refused ≡ true → IsRefusedAt head.limits taken accepted
