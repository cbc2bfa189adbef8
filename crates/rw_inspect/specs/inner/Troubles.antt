-- Inner definitions beside those of Troubles.antt: only invariants, private functions and
-- proofs use them.
use Rattle.std.specs.Prelude.{◌≡◌, ℕ, List, length, take, count_by}
use Rattle.rw_inspect.specs.declared.troubles.Trouble.{Trouble}
use Rattle.rw_inspect.specs.Troubles.{has_no_series, has_bad_labels, not_rising}

-- these are the numbers of troubles of each kind, and the first positions of those that do not rise
pub record AreCounted (troubles : List (ℕ × Trouble)) (without_series bad_labels falling : ℕ) (first : List ℕ) : Type 0 where
  pub series : without_series ≡ count_by has_no_series troubles
  pub labels : bad_labels ≡ count_by has_bad_labels troubles
  pub rising : falling ≡ length (not_rising troubles)
  pub front : first ≡ take 10 (not_rising troubles)
