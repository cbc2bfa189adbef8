-- What a sender owes a receiver: of each label set that the rules keep, the samples that rise.
use Rattle.std.specs.Prelude.{◌≡◌, ℕ, ℤ, int_lt, Bool, true, not, ◌&&◌, if◌then◌else◌, List, [], ◌∷◌, ◌++◌, map, filter}
use Rattle.rw_types.specs.Labels.{Labels}
use Rattle.rw_types.specs.declared.entry.Entry.{Entry}
use Rattle.rw_relabel.specs.declared.choice.Choice.{Choice}
use Rattle.rw_series_cache.specs.Points.{kept_points}
use Rattle.rw_head.specs.Order.{Point}

-- samples of a log (position, timestamp, word) as a head holds them
abbrev pub pairs_of : List (ℕ × ℤ × ℕ) → List Point
pairs_of ps = map (λ (p : ℕ × ℤ × ℕ). (p.1, p.2)) ps

-- the timestamp is later than that of each of these samples
abbrev pub is_after_each : ℤ → List Point → Bool
is_after_each t [] = true
is_after_each t (p ∷ ps) = int_lt p.0 t && is_after_each t ps

-- the samples that are later than all before them; the samples `before` come first
abbrev pub rising_after : List Point → List Point → List Point
rising_after before [] = []
rising_after before (p ∷ ps) =
    if is_after_each p.0 before then p ∷ rising_after (before ++ p ∷ []) ps
    else rising_after (before ++ p ∷ []) ps

abbrev pub rising : List Point → List Point
rising ps = rising_after [] ps

-- what a head holds of a label set once the whole log is shipped and nothing was refused
abbrev pub owed_of : Choice → List Entry → Labels → List Point
owed_of choice entries l = rising (pairs_of (kept_points choice entries l))

-- the second list is a suffix of the first one
abbrev pub EndsWith : List Point → List Point → Type 0
EndsWith whole end = (before : List Point) × (whole ≡ before ++ end)

-- the sample is not earlier than this time
abbrev pub is_from : ℤ → Point → Bool
is_from floor p = not (int_lt p.0 floor)

abbrev pub those_from : ℤ → List Point → List Point
those_from floor ps = filter (is_from floor) ps
