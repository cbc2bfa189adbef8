-- What a receiver counts by kind and by reason, in the order of the code's tables.
use Rattle.std.specs.Prelude.{List, [], ◌∷◌, Bool, ◌||◌, nat_lt}
use Rattle.rw_metrics.specs.declared.rows.Shown.{Shown}
use Rattle.rw_metrics.specs.declared.rows.Shown.TheVariants as shown
use Rattle.rw_metrics.specs.declared.refusals.RefusedSamples.{RefusedSamples}
use Rattle.rw_metrics.specs.declared.skipped_parts.SkippedParts.{SkippedParts}

abbrev pub by_kind : SkippedParts → List Shown
by_kind s = shown.Count s.histograms ∷ shown.Count s.exemplars ∷ shown.Count s.metadata ∷ []

-- something was not held
abbrev pub is_skipping : SkippedParts → Bool
is_skipping s = nat_lt 0 s.histograms || nat_lt 0 s.exemplars || nat_lt 0 s.metadata

abbrev pub by_refusal : RefusedSamples → List Shown
by_refusal r =
    shown.Count r.order ∷ shown.Count r.labels ∷ shown.Count r.limits ∷ shown.Count r.body
    ∷ shown.Count r.full ∷ shown.Count r.unavailable ∷ shown.Count r.busy ∷ []
