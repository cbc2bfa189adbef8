-- A sample that is placed after others.
use Rattle.std.proofs.Common.{◌≡◌, ℕ, ℤ, List, [], ◌∷◌, ◌++◌, cond, length, refl, sym, ap, ◌∙◌, subst, append-nil}
use Rattle.std.specs.Ordering.{nat_cmp}
use Rattle.std.specs.FinMap.{FinMap, insert}
use Rattle.rw_types.specs.declared.entry.Entry.{Entry}
use Rattle.rw_types.specs.declared.entry.Entry.TheVariants.{Sample}
use Rattle.rw_series_cache.specs.Cached.{Taken}
use Rattle.rw_series_cache.specs.Known.{Standing, Unknown, Bad, Filtered, Kept, known}
use Rattle.rw_series_cache.specs.Rising.{IsNoted}
use Rattle.rw_series_cache.proofs.shared.RisingLemmas.{noted_other, noted_falling, noted_rising}
use Rattle.rw_series_cache.proofs.shared.KnownLemmas.{definitions_of-sample}
use Rattle.rw_inspect.specs.inner.Counting.{IsCacheOf, IsStill, IsRisingSample}
use Rattle.rw_inspect.specs.Troubles.{trouble_as, trouble_of}
use Rattle.rw_inspect.specs.declared.troubles.Trouble.{Trouble}
use Rattle.rw_inspect.specs.declared.troubles.Trouble.TheVariants.{NotRising}
use Rattle.rw_relabel.specs.Choices.{legacy}

-- what does not rise is not noted
still_noted : (before : List Entry) (reference : ℕ) (t : ℤ) (word : ℕ) (noted : FinMap nat_cmp ℤ) (k : Standing) → known legacy before reference ≡ k → IsStill before t k → IsNoted legacy before noted
    → IsNoted legacy (before ++ Sample reference t word ∷ []) noted
still_noted before reference t word noted Unknown is still h = noted_other legacy before reference t word noted (λ l e. let apart : Unknown ≡ Kept l = sym is ∙ e in cc) h
still_noted before reference t word noted (Bad f) is still h = noted_other legacy before reference t word noted (λ l e. let apart : Bad f ≡ Kept l = sym is ∙ e in cc) h
still_noted before reference t word noted Filtered is still h = noted_other legacy before reference t word noted (λ l e. let apart : Filtered ≡ Kept l = sym is ∙ e in cc) h
still_noted before reference t word noted (Kept l) is still h = noted_falling legacy before reference t word l noted is still h

-- the cache stays that of the entries
cache_stays : (before : List Entry) (reference : ℕ) (t : ℤ) (word : ℕ) (cache : Taken) → IsStill before t (known legacy before reference) → IsCacheOf before cache
    → IsCacheOf (before ++ Sample reference t word ∷ []) cache
cache_stays before reference t word cache still h = record {
  choice = h.choice;
  defined = definitions_of-sample before reference t word ∙ h.defined;
  noted = still_noted before reference t word cache.noted (known legacy before reference) refl still h.noted;
}

pub placed_trouble : (before : List Entry) (reference : ℕ) (t : ℤ) (word position : ℕ) (trouble : Trouble) (cache : Taken) (troubles now : List (ℕ × Trouble))
    → IsCacheOf before cache → position ≡ length before
    → trouble_as before t (known legacy before reference) ≡ (length before, trouble) ∷ [] → IsStill before t (known legacy before reference) → now ≡ troubles ++ (position, trouble) ∷ []
    → IsCacheOf (before ++ Sample reference t word ∷ []) cache × (now ≡ troubles ++ trouble_of before (Sample reference t word))
placed_trouble before reference t word position trouble cache troubles now h at is still pushed = (
  cache_stays before reference t word cache still h,
  pushed ∙ ap (λ (p : ℕ). troubles ++ (p, trouble) ∷ []) at ∙ ap (λ ts. troubles ++ ts) (sym is),
)

pub placed_filtered : (before : List Entry) (reference : ℕ) (t : ℤ) (word : ℕ) (cache : Taken) (troubles : List (ℕ × Trouble)) → IsCacheOf before cache → known legacy before reference ≡ Filtered
    → IsCacheOf (before ++ Sample reference t word ∷ []) cache × (troubles ≡ troubles ++ trouble_of before (Sample reference t word))
placed_filtered before reference t word cache troubles h is = (
  cache_stays before reference t word cache (subst (IsStill before t) (sym is) tt) h,
  sym (append-nil troubles) ∙ ap (λ k. troubles ++ trouble_as before t k) (sym is),
)

pub placed_rising : (before : List Entry) (reference : ℕ) (t : ℤ) (word number : ℕ) (cache new : Taken) (troubles : List (ℕ × Trouble)) → IsCacheOf before cache → IsRisingSample before reference t number
    → new ≡ record cache { noted = insert cache.noted number t }
    → IsCacheOf (before ++ Sample reference t word ∷ []) new × (troubles ≡ troubles ++ trouble_of before (Sample reference t word))
placed_rising before reference t word number cache new troubles h r made = (
  record {
    choice = ap (λ (c : Taken). c.choice) made ∙ h.choice;
    defined = definitions_of-sample before reference t word ∙ h.defined ∙ sym (ap (λ (c : Taken). c.definitions) made);
    noted =
        subst (IsNoted legacy (before ++ Sample reference t word ∷ [])) (sym (ap (λ (c : Taken). c.noted) made))
        (noted_rising legacy before reference t word r.labels number cache.noted r.stands r.numbered r.rising h.noted);
  },
  sym (append-nil troubles) ∙ ap (λ b. troubles ++ cond b [] ((length before, NotRising) ∷ [])) (sym r.rising) ∙ ap (λ k. troubles ++ trouble_as before t k) (sym r.stands),
)
