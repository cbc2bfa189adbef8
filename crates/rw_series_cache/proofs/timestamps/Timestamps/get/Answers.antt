use Rattle.std.proofs.Common.{◌≡◌, ◌<◌, length, slice_get, Some, sym, ap, ◌∙◌, subst}
use Rattle.std.specs.FinMap as map
use Rattle.std.proofs.lemmas.Option.{slice_get-get_or}
use Rattle.rw_series_cache.specs.inner.Noted.{Times}
use Rattle.rw_series_cache.proofs.TimestampLemmas.{noted_in, noted_at}
use Rattle.rw_series_cache.proofs.timestamps.Timestamps.get.Goals as goal

pub returns : goal.returns
returns c =
    let ts = c.self.inside.latest.items in
    let within : c.args.place < length ts = subst (λ (s : Times). c.args.place < s.places) (sym c.self.view_is) c.requires in
    let here : slice_get ts c.args.place ≡ Some c.index.result.now = slice_get-get_or ts c.args.place c.index.result.now within ∙ ap Some (sym c.index.ensures) in
    sym (ap (λ (s : Times). map.get s.times c.args.place) (sym c.self.view_is) ∙ noted_at ts c.args.place ∙ ap noted_in here)
