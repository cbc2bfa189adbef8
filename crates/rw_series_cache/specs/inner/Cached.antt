-- Inner definitions beside those of Cached.antt: only invariants, private functions and
-- proofs use them.
use Rattle.std.specs.Prelude.{◌≡◌, ℕ, List, Bool, true, Option, None, Some}
use Rattle.std.specs.Arc.{arc_value}
use Rattle.std.specs.List.{list_any}
use Rattle.std.specs.declared.alloc.Global.{Global}
use Rattle.std.specs.declared.sync.Arc.{Arc}
use Rattle.rw_types.specs.Labels.{Labels}
use Rattle.rw_types.specs.LabelOrder.{labels_eq}
use Rattle.rw_types.specs.declared.entry.Entry.{Entry}
use Rattle.rw_relabel.specs.Rules.{keeps}
use Rattle.rw_relabel.specs.declared.choice.Choice.{Choice}
use Rattle.rw_series_cache.specs.Known.{Standing, Unknown, Bad, Filtered, Kept, standing_of, known}
use Rattle.rw_series_cache.specs.Numbers.{with_series, series_of, HasNumber}
use Rattle.rw_series_cache.specs.declared.verdict.Verdict.{Verdict}
use Rattle.rw_series_cache.specs.declared.verdict.Verdict.TheVariants as verdict

-- the rules, and the label sets that they have kept
pub record Judged : Type 0 where
  pub choice : Choice
  pub series : List (List (List ℕ × List ℕ))

-- label sets that are shared
abbrev pub Shared : Type 0
Shared = Arc (List (List ℕ × List ℕ)) Global

-- the rules decide the same for all these label sets
abbrev pub AllJudged : Choice → Bool → List Shared → Type 0
AllJudged choice is_kept sets = (set : Shared) → list_any (λ (s : Shared). labels_eq (arc_value set) (arc_value s)) sets ≡ true → keeps choice.rules (arc_value set) ≡ is_kept

-- a verdict, if there is one, stands for what is known
abbrev pub StandsFor : List Labels → Option Verdict → Standing → Type 0
StandsFor series None Unknown = Unit {0}
StandsFor series (Some (verdict.Bad found)) (Bad fault) = found ≡ fault
StandsFor series (Some verdict.Filtered) Filtered = Unit {0}
StandsFor series (Some (verdict.Kept number)) (Kept l) = HasNumber series l number
StandsFor series _ _ = ⊥

-- labels are judged, and numbered if they are kept
pub record Judges (old new : Judged) (labels : Labels) (found : Verdict) : Type 0 where
  pub choice : new.choice ≡ old.choice
  pub series : new.series ≡ with_series old.series (standing_of old.choice (Some labels))
  pub verdict : StandsFor new.series (Some found) (standing_of old.choice (Some labels))

-- each reference has its verdict, and the series are those of the definitions
pub record IsCache (choice : Choice) (definitions : List Entry) (verdict_of : ℕ → Option Verdict) (sets : List Labels) : Type 0 where
  pub verdicts : (reference : ℕ) → StandsFor sets (verdict_of reference) (known choice definitions reference)
  pub series : sets ≡ series_of choice definitions
