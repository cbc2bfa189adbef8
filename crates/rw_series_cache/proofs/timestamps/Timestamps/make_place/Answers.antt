use Rattle.std.proofs.Common.{ap, ◌∙◌}
use Rattle.rw_series_cache.specs.inner.Noted.{Times, times_from}
use Rattle.rw_series_cache.proofs.TimestampLemmas.{place_more}
use Rattle.rw_series_cache.proofs.timestamps.Timestamps.make_place.Goals as goal

pub returns-in_ok-push-clause-times : goal.returns-in_ok-push-clause-times
returns-in_ok-push-clause-times c =
    ap (times_from 0) c.in_ok-push.ensures.items ∙ place_more c.self.inside.latest.items 0 ∙ ap (λ (s : Times). s.times) c.self.view_is
