-- What a sender counts by reason, by type and by cause, in the order of the code's tables.
use Rattle.std.specs.Prelude.{List, [], ◌∷◌}
use Rattle.rw_metrics.specs.declared.rows.Shown.{Shown}
use Rattle.rw_metrics.specs.declared.rows.Shown.TheVariants as shown
use Rattle.rw_metrics.specs.declared.send_numbers.Drops.{Drops}
use Rattle.rw_metrics.specs.declared.send_numbers.Failures.{Failures}
use Rattle.rw_metrics.specs.declared.send_numbers.Skipped.{Skipped}

abbrev pub by_reason : Drops → List Shown
by_reason d = shown.Count d.no_series ∷ shown.Count d.bad_labels ∷ shown.Count d.not_rising ∷ []

-- those first that may hold samples
abbrev pub by_type : Skipped → List Shown
by_type s =
    shown.IfAny s.histograms ∷ shown.IfAny s.float_histograms ∷ shown.IfAny s.custom_histograms
    ∷ shown.IfAny s.custom_float_histograms ∷ shown.IfAny s.unknown ∷ shown.IfAny s.tombstones
    ∷ shown.IfAny s.exemplars ∷ shown.IfAny s.mmap_markers ∷ shown.IfAny s.metadata ∷ []

abbrev pub by_cause : Failures → List Shown
by_cause f =
    shown.Count f.connect ∷ shown.Count f.timeout ∷ shown.Count f.broken ∷ shown.Count f.ended
    ∷ shown.Count f.bad_reply ∷ shown.Count f.memory ∷ []
