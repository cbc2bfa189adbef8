-- The series of a log as its entries come.
use Rattle.std.proofs.Common.{◌≡◌, ℕ, List, [], ◌∷◌, ◌++◌, Bool, true, false, cond, nat_eq, refl, sym, ◌∙◌, ap, subst, Option, Some, None}
use Rattle.std.proofs.lemmas.List.Sums.{fold-append}
use Rattle.std.specs.List.{list_any, fold}
use Rattle.rw_types.specs.Labels.{Labels}
use Rattle.rw_types.specs.LabelOrder.{labels_eq}
use Rattle.rw_types.specs.declared.entry.Entry.{Entry}
use Rattle.rw_types.specs.declared.entry.Entry.TheVariants.{Def, Sample}
use Rattle.rw_wal_format.specs.Series.{defines}
use Rattle.rw_wal_format.proofs.shared.SeriesRows.{labels_of-all}
use Rattle.rw_relabel.specs.declared.choice.Choice.{Choice}
use Rattle.rw_series_cache.specs.Known.{Standing, Unknown, Bad, Filtered, Kept, known, standing_of}
use Rattle.rw_series_cache.specs.Numbers.{series_of, number_of, HasNumber, with_series, with_entry}
use Rattle.rw_series_cache.proofs.NumberLemmas.{has_number, number_stays, any_at, any_at_end}

either_keeps_number : (s : List Labels) (m l : Labels) (n : ℕ) (b : Bool) → HasNumber s l n → HasNumber (cond b s (s ++ m ∷ [])) l n
either_keeps_number s m l n true h = h
either_keeps_number s m l n false h = number_stays s (m ∷ []) l n h

with_series_keeps : (s : List Labels) (is : Standing) (l : Labels) (n : ℕ) → HasNumber s l n → HasNumber (with_series s is) l n
with_series_keeps s Unknown l n h = h
with_series_keeps s (Bad f) l n h = h
with_series_keeps s Filtered l n h = h
with_series_keeps s (Kept m) l n h = either_keeps_number s m l n (list_any (labels_eq m) s) h

with_entry_keeps : (choice : Choice) (s : List Labels) (e : Entry) (l : Labels) (n : ℕ) → HasNumber s l n → HasNumber (with_entry choice s e) l n
with_entry_keeps choice s (Def r m) l n h = with_series_keeps s (standing_of choice (Some m)) l n h
with_entry_keeps choice s (Sample r t w) l n h = h

entries_keep : (choice : Choice) (s : List Labels) (es : List Entry) (l : Labels) (n : ℕ) → HasNumber s l n → HasNumber (fold (with_entry choice) s es) l n
entries_keep choice s [] l n h = h
entries_keep choice s (e ∷ es) l n h = entries_keep choice (with_entry choice s e) es l n (with_entry_keeps choice s e l n h)

-- a series keeps its number as more entries come
pub number_stays_on : (choice : Choice) (es more : List Entry) (l : Labels) (n : ℕ) → HasNumber (series_of choice es) l n → HasNumber (series_of choice (es ++ more)) l n
unfolding series_of
number_stays_on choice es more l n h =
    subst (λ s. HasNumber s l n) (sym (fold-append (with_entry choice) [] es more)) (entries_keep choice (fold (with_entry choice) [] es) more l n h)

-- labels that are kept are among the series
abbrev IsAmongSeries : Choice → Option Labels → List Labels → Type 0
IsAmongSeries choice o s = (l : Labels) → standing_of choice o ≡ Kept l → list_any (labels_eq l) s ≡ true

now_there : (s : List Labels) (l : Labels) (b : Bool) → list_any (labels_eq l) s ≡ b → list_any (labels_eq l) (cond b s (s ++ l ∷ [])) ≡ true
now_there s l true e = e
now_there s l false e = any_at_end s l

added_there : (s : List Labels) (l : Labels) (is : Standing) → is ≡ Kept l → list_any (labels_eq l) (with_series s is) ≡ true
added_there s l is e = ap (λ x. list_any (labels_eq l) (with_series s x)) e ∙ now_there s l (list_any (labels_eq l) s) refl

still_there : (s : List Labels) (is : Standing) (l : Labels) → list_any (labels_eq l) s ≡ true → list_any (labels_eq l) (with_series s is) ≡ true
still_there s is l h =
    let was : HasNumber s l (number_of s l) = has_number s l h in
    any_at (with_series s is) (number_of s l) l (with_series_keeps s is l (number_of s l) was).stands

either_there : (choice : Choice) (m : Labels) (o : Option Labels) (s : List Labels) (b : Bool) → IsAmongSeries choice o s → IsAmongSeries choice (cond b (Some m) o) (with_series s (standing_of choice (Some m)))
either_there choice m o s true h l e = added_there s l (standing_of choice (Some m)) e
either_there choice m o s false h l e = still_there s (standing_of choice (Some m)) l (h l e)

all_there : (choice : Choice) (r : ℕ) (o : Option Labels) (s : List Labels) (es : List Entry) → IsAmongSeries choice o s → IsAmongSeries choice (fold (defines r) o es) (fold (with_entry choice) s es)
all_there choice r o s [] h = h
all_there choice r o s (Def q m ∷ es) h =
    all_there choice r (cond (nat_eq q r) (Some m) o) (with_series s (standing_of choice (Some m))) es (either_there choice m o s (nat_eq q r) h)
all_there choice r o s (Sample q t w ∷ es) h = all_there choice r o s es h

-- a kept label set that a reference stands for has a number
pub kept_has_number : (choice : Choice) (es : List Entry) (r : ℕ) (l : Labels) → known choice es r ≡ Kept l → (n : ℕ) × HasNumber (series_of choice es) l n
unfolding known series_of
kept_has_number choice es r l e =
    let there : list_any (labels_eq l) (series_of choice es) ≡ true =
    all_there choice r None [] es (λ m k. absurd cc) l (ap (standing_of choice) (sym (labels_of-all es r)) ∙ e) in
    (number_of (series_of choice es) l, has_number (series_of choice es) l there)
