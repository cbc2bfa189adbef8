-- What an answer of the cache means.
use Rattle.std.specs.Prelude.{◌≡◌, ℕ, List}
use Rattle.std.specs.Arc.{arc_value}
use Rattle.rw_types.specs.Labels.{Labels}
use Rattle.rw_types.specs.declared.entry.Entry.{Entry}
use Rattle.rw_relabel.specs.declared.choice.Choice.{Choice}
use Rattle.rw_series_cache.specs.Known.{Standing, Unknown, Bad, Filtered, Kept, known}
use Rattle.rw_series_cache.specs.Numbers.{series_of, HasNumber}
use Rattle.rw_series_cache.specs.declared.known.Known.{Known}
use Rattle.rw_series_cache.specs.declared.known.Known.TheVariants as found

-- what is known, without the number
abbrev pub standing_in : Known → Standing
standing_in found.Unknown = Unknown
standing_in (found.Bad fault) = Bad fault
standing_in found.Filtered = Filtered
standing_in (found.Kept number labels) = Kept (arc_value labels.now)

-- a number is that of the series
abbrev pub IsOfSeries : List Labels → Known → Type 0
IsOfSeries series found.Unknown = Unit {0}
IsOfSeries series (found.Bad fault) = Unit {0}
IsOfSeries series found.Filtered = Unit {0}
IsOfSeries series (found.Kept number labels) = HasNumber series (arc_value labels.now) number

-- The answer says what is known of the reference after these entries.
pub record IsLookedUp (choice : Choice) (entries : List Entry) (reference : ℕ) (answer : Known) : Type 0 where
  pub standing : standing_in answer ≡ known choice entries reference
  pub number : IsOfSeries (series_of choice entries) answer
