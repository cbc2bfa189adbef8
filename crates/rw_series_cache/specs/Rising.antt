-- Which samples of a series rise: those that are later than all before them.
use Rattle.std.specs.Prelude.{◌≡◌, ℕ, ◌≤◌, ℤ, int_lt, Bool, true, List, length, Option, None, Some}
use Rattle.std.specs.List.{list_all}
use Rattle.std.specs.Ordering.{nat_cmp}
use Rattle.std.specs.FinMap.{FinMap, get}
use Rattle.rw_types.specs.Labels.{Labels}
use Rattle.rw_types.specs.declared.entry.Entry.{Entry}
use Rattle.rw_relabel.specs.declared.choice.Choice.{Choice}
use Rattle.rw_series_cache.specs.Numbers.{series_of, HasNumber}
use Rattle.rw_series_cache.specs.Points.{kept_points}

-- a timestamp is after that of each of these samples (position, timestamp, word)
abbrev pub is_after_all : ℤ → List (ℕ × ℤ × ℕ) → Bool
is_after_all t ps = list_all (λ (p : ℕ × ℤ × ℕ). int_lt p.1 t) ps

-- a sample that comes after these entries rises: it is later than all samples of its series among
-- them
unfoldable pub rises : Choice → List Entry → Labels → ℤ → Bool
rises choice before l t = is_after_all t (kept_points choice before l)

-- later than the noted timestamp, if there is one
abbrev pub is_after : Option ℤ → ℤ → Bool
is_after None t = true
is_after (Some last) t = int_lt last t

-- What is noted of a series, by its number, decides which samples rise after these entries; of
-- other numbers nothing is noted.
pub record IsNoted (choice : Choice) (entries : List Entry) (noted : FinMap nat_cmp ℤ) : Type 0 where
  pub decides : (l : Labels) (number : ℕ) (t : ℤ) → HasNumber (series_of choice entries) l number → is_after (get noted number) t ≡ rises choice entries l t
  pub none : (number : ℕ) → length (series_of choice entries) ≤ number → get noted number ≡ None
