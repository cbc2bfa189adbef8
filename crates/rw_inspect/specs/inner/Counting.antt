-- Inner definitions beside those of Counting.antt: only invariants, private functions and
-- proofs use them.
use Rattle.std.specs.Prelude.{◌≡◌, ◌<◌, ℕ, ℤ, List, [], ◌∷◌, ◌++◌, length, true, false}
use Rattle.std.specs.FinMap.{get}
use Rattle.rw_types.specs.Labels.{Labels}
use Rattle.rw_types.specs.declared.entry.Entry.{Entry}
use Rattle.rw_types.specs.declared.entry.Entry.TheVariants.{Sample}
use Rattle.rw_series_cache.specs.Cached.{Taken}
use Rattle.rw_series_cache.specs.Known.{Standing, Filtered, Kept, known, definitions_of}
use Rattle.rw_series_cache.specs.Numbers.{series_of, HasNumber}
use Rattle.rw_series_cache.specs.Rising.{is_after, rises, IsNoted}
use Rattle.rw_log_read.specs.Sums.{sums_of}
use Rattle.rw_inspect.specs.Troubles.{trouble_as, trouble_of, troubles_of}
use Rattle.rw_inspect.specs.declared.counter.Judged.{Judged}
use Rattle.rw_inspect.specs.declared.counter.Judged.TheVariants as judged
use Rattle.rw_log_read.specs.declared.sums.Sums.{Sums}
use Rattle.rw_inspect.specs.declared.troubles.Trouble.{Trouble}
use Rattle.rw_relabel.specs.Choices.{legacy}

-- a cache is that of these entries
pub record IsCacheOf (entries : List Entry) (cache : Taken) : Type 0 where
  pub choice : cache.choice ≡ legacy
  pub defined : definitions_of entries ≡ cache.definitions
  pub noted : IsNoted legacy entries cache.noted

-- the parts of a counter are those of its entries
pub record IsCounter (entries : List Entry) (count : ℕ) (cache : Taken) (sums : Sums) (troubles : List (ℕ × Trouble)) : Type 0 where
  pub counted : count ≡ length entries
  pub cached : IsCacheOf entries cache
  pub all : sums ≡ sums_of entries
  pub in_trouble : troubles ≡ troubles_of entries

-- a sample after these entries is one of the series of this number, and rises
pub record IsRisingSample (before : List Entry) (reference : ℕ) (t : ℤ) (number : ℕ) : Type 0 where
  pub labels : Labels
  pub stands : known legacy before reference ≡ Kept labels
  pub numbered : HasNumber (series_of legacy before) labels number
  pub rising : rises legacy before labels t ≡ true

-- a sample after these entries has no label set, or does not rise in it
abbrev pub IsStill : List Entry → ℤ → Standing → Type 0
IsStill before t (Kept l) = rises legacy before l t ≡ false
IsStill before t _ = Unit {0}

-- what becomes of a sample after these entries
abbrev pub JudgedAs : List Entry → ℕ → ℤ → Judged → Type 0
JudgedAs before reference t (judged.InTrouble trouble) = (trouble_as before t (known legacy before reference) ≡ (length before, trouble) ∷ []) × IsStill before t (known legacy before reference)
JudgedAs before reference t judged.Filtered = known legacy before reference ≡ Filtered
JudgedAs before reference t (judged.Rising number) = IsRisingSample before reference t number

abbrev pub IsJudged : Taken → ℕ → ℤ → Judged → Type 0
IsJudged cache reference t judged = (before : List Entry) → IsCacheOf before cache → JudgedAs before reference t judged

-- a sample that rises can be noted
abbrev pub CanBeNoted : Taken → ℤ → Judged → Type 0
CanBeNoted cache t (judged.Rising number) = (number < length (series_of cache.choice cache.definitions)) × (is_after (get cache.noted number) t ≡ true)
CanBeNoted cache t _ = Unit {0}

-- a sample was placed: a cache of the entries before it is one with it, and its trouble, if it has
-- one, is one more
pub record IsPlaced (cache new : Taken) (troubles now : List (ℕ × Trouble)) (position reference : ℕ) (t : ℤ) : Type 0 where
  pub placed : (before : List Entry) (word : ℕ) → IsCacheOf before cache → position ≡ length before
      → IsCacheOf (before ++ Sample reference t word ∷ []) new × (now ≡ troubles ++ trouble_of before (Sample reference t word))
