-- A counter, entry by entry.
use Rattle.std.proofs.Common.{◌≡◌, ℕ, ◌+◌, ℤ, List, [], ◌∷◌, ◌++◌, length, count_by, refl, sym, ap, ◌∙◌, subst, append-nil, length-append}
use Rattle.std.specs.FinMap.{empty}
use Rattle.rw_types.specs.Labels.{Labels}
use Rattle.rw_types.specs.declared.entry.Entry.{Entry}
use Rattle.rw_types.specs.declared.entry.Entry.TheVariants.{Def, Sample}
use Rattle.rw_relabel.specs.declared.choice.Choice.{Choice}
use Rattle.rw_series_cache.specs.Cached.{Taken}
use Rattle.rw_series_cache.specs.Numbers.{series_of}
use Rattle.rw_series_cache.specs.Rising.{IsNoted}
use Rattle.rw_series_cache.proofs.shared.RisingLemmas.{noted_at_first, noted_definition}
use Rattle.rw_series_cache.proofs.shared.KnownLemmas.{definitions_of-definition, series_of-definitions_of}
use Rattle.rw_types.proofs.shared.GatherLemmas.{gather-push}
use Rattle.rw_inspect.specs.Counting.{log_counts}
use Rattle.rw_inspect.specs.inner.Counting.{IsCacheOf, IsCounter, IsPlaced}
use Rattle.rw_log_read.proofs.shared.HereLemmas.{here_none, sums_of-push}
use Rattle.rw_log_read.specs.Sums.{no_sums, sums_with_entry}
use Rattle.rw_inspect.specs.Troubles.{has_bad_labels, has_no_series, not_rising, trouble_of}
use Rattle.rw_inspect.specs.declared.counts.Counts.{Counts}
use Rattle.rw_log_read.specs.declared.sums.Sums.{Sums}
use Rattle.rw_inspect.specs.declared.troubles.Trouble.{Trouble}
use Rattle.rw_relabel.specs.Choices.{legacy}

-- before the first entry
pub counter_none : (es : List Entry) (choice : Choice) (cache : Taken) (sums : Sums) (troubles : List (ℕ × Trouble)) → es ≡ [] → choice ≡ legacy
    → cache ≡ record { choice = choice; definitions = []; noted = empty } → sums ≡ no_sums → troubles ≡ [] → IsCounter es 0 cache sums troubles
counter_none es choice cache sums troubles e r c s t =
    rw (e, t) record {
      counted = refl;
      cached = record {
        choice = ap (λ (k : Taken). k.choice) c ∙ r;
        defined = sym (ap (λ (k : Taken). k.definitions) c);
        noted = subst (IsNoted legacy []) (sym (ap (λ (k : Taken). k.noted) c)) (noted_at_first legacy);
      };
      all = here_none [] sums refl s;
      in_trouble = refl;
    }

-- an entry was taken
counter_more : (es now : List Entry) (e : Entry) (count up : ℕ) (cache new : Taken) (sums more : Sums) (troubles grown : List (ℕ × Trouble)) → IsCounter es count cache sums troubles
    → now ≡ es ++ e ∷ [] → up ≡ count + 1 → more ≡ sums_with_entry sums e
    → IsCacheOf (es ++ e ∷ []) new → grown ≡ troubles ++ trouble_of es e → IsCounter now up new more grown
counter_more es now e count up cache new sums more troubles grown h is one all_is cached trouble =
    rw is record {
      counted = one ∙ ap (λ n. n + 1) h.counted ∙ sym (length-append es (e ∷ []));
      cached = cached;
      all = all_is ∙ ap (λ s. sums_with_entry s e) h.all ∙ sym (sums_of-push es e);
      in_trouble = trouble ∙ ap (λ ts. ts ++ trouble_of es e) h.in_trouble ∙ sym (gather-push trouble_of es e);
    }

pub counter_definition : (es now : List Entry) (reference : ℕ) (l : Labels) (count up : ℕ) (cache new : Taken) (sums more : Sums) (troubles : List (ℕ × Trouble))
    → IsCounter es count cache sums troubles → now ≡ es ++ Def reference l ∷ [] → up ≡ count + 1
    → more ≡ sums_with_entry sums (Def reference l) → new ≡ record cache { definitions = cache.definitions ++ Def reference l ∷ [] }
    → IsCounter now up new more troubles
counter_definition es now reference l count up cache new sums more troubles h is one all_is made =
    let e = Def reference l in
    let k = h.cached in
    counter_more es now e count up cache new sums more troubles troubles h is one all_is
    (record {
      choice = ap (λ (c : Taken). c.choice) made ∙ k.choice;
      defined = definitions_of-definition es reference l ∙ ap (λ ds. ds ++ e ∷ []) k.defined ∙ sym (ap (λ (c : Taken). c.definitions) made);
      noted = subst (IsNoted legacy (es ++ e ∷ [])) (sym (ap (λ (c : Taken). c.noted) made)) (noted_definition legacy es reference l cache.noted k.noted);
    })
    (sym (append-nil troubles))

pub counter_sample : (es now : List Entry) (reference : ℕ) (t : ℤ) (word count up : ℕ) (cache new : Taken) (sums more : Sums) (troubles grown : List (ℕ × Trouble))
    → IsCounter es count cache sums troubles → now ≡ es ++ Sample reference t word ∷ [] → up ≡ count + 1
    → more ≡ sums_with_entry sums (Sample reference t word)
    → IsPlaced cache new troubles grown count reference t → IsCounter now up new more grown
counter_sample es now reference t word count up cache new sums more troubles grown h is one all_is placed =
    let both = placed.placed es word h.cached h.counted in
    counter_more es now (Sample reference t word) count up cache new sums more troubles grown h is one all_is both.0 both.1

-- what is counted
pub counted_all : (es : List Entry) (count : ℕ) (cache : Taken) (sums : Sums) (troubles : List (ℕ × Trouble)) (sets series labels falling : ℕ) → IsCounter es count cache sums troubles
    → sets ≡ length (series_of cache.choice cache.definitions) → series ≡ count_by has_no_series troubles → labels ≡ count_by has_bad_labels troubles → falling ≡ length (not_rising troubles)
    → ◌≡◌ {A = Counts} (record { sums = sums; label_sets = sets; without_series = series; bad_labels = labels; not_rising = falling }) (log_counts es)
unfolding log_counts
counted_all es count cache sums troubles sets series labels falling h s a b c =
    let k = h.cached in
    let all_sets : sets ≡ length (series_of legacy es) =
    s ∙ ap (λ rs. length (series_of rs cache.definitions)) k.choice ∙ ap (λ ds. length (series_of legacy ds)) (sym k.defined) ∙ ap (λ ss. length ss) (series_of-definitions_of legacy es) in
    let none = a ∙ ap (count_by has_no_series) h.in_trouble in
    let bad = b ∙ ap (count_by has_bad_labels) h.in_trouble in
    let still = c ∙ ap (λ ts. length (not_rising ts)) h.in_trouble in
    λ i. record { sums = h.all i; label_sets = all_sets i; without_series = none i; bad_labels = bad i; not_rising = still i }
