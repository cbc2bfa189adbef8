-- The samples of a series in a log.
use Rattle.std.specs.Prelude.{ℕ, ℤ, List, Bool, ◌&&◌, filter, nat_lt, is_none}
use Rattle.rw_types.specs.Labels.{Labels, label_fault}
use Rattle.rw_types.specs.declared.entry.Entry.{Entry}
use Rattle.rw_wal_format.specs.Series.{kept}
use Rattle.rw_relabel.specs.Rules.{keeps}
use Rattle.rw_relabel.specs.declared.choice.Choice.{Choice}

-- the labels are a label set that the rules keep
abbrev pub is_kept : Choice → Labels → Bool
is_kept choice l = is_none (label_fault choice.names l) && keeps choice.rules l

-- the samples of a series that the rules keep; other labels have none
abbrev pub kept_points : Choice → List Entry → Labels → List (ℕ × ℤ × ℕ)
kept_points choice entries l = kept (is_kept choice) entries l

-- those at positions below `end`
abbrev pub kept_points_below : Choice → List Entry → Labels → ℕ → List (ℕ × ℤ × ℕ)
kept_points_below choice entries l end = filter (λ p. nat_lt p.0 end) (kept_points choice entries l)
