use Rattle.std.proofs.Common.{◌≡◌, ◌<◌, ℤ, length, slice_set, Some, sym, ap, ◌∙◌, subst, to_z, of_z, w64}
use Rattle.std.specs.FinMap as map
use Rattle.std.proofs.lemmas.Int.{to_z-of_z}
use Rattle.std.proofs.lemmas.List.{length-set}
use Rattle.rw_series_cache.specs.inner.Noted.{Times, times_from}
use Rattle.rw_series_cache.proofs.TimestampLemmas.{set_in}
use Rattle.rw_series_cache.proofs.timestamps.Timestamps.set.Goals as goal

pub returns : goal.returns
returns c =
    let ts = c.self.inside.latest.items in
    let t : ℤ = to_z w64 (of_z w64 c.args.t) in
    let within : c.args.place < length ts = subst (λ (s : Times). c.args.place < s.places) (sym c.self.view_is) c.requires in
    let places : length (slice_set ts c.args.place (Some t)) ≡ c.args.self.now.places = length-set ts c.args.place (Some t) ∙ ap (λ (s : Times). s.places) c.self.view_is in
    let times : times_from 0 (slice_set ts c.args.place (Some t)) ≡ map.insert c.args.self.now.times c.args.place c.args.t =
    set_in ts c.args.place t within ∙ ap (λ (s : Times). map.insert s.times c.args.place t) c.self.view_is
    ∙ ap (map.insert c.args.self.now.times c.args.place) (to_z-of_z w64 c.args.t c.ranges.t)
    in
    λ i. record { places = places i; times = times i }
