-- Inner definitions beside those of Grouping.antt: only invariants, private functions and
-- proofs use them.
use Rattle.std.specs.Prelude.{ℕ, List, [], get_or}
use Rattle.rw_write_request.specs.Message.{TimeSeries}
use Rattle.rw_batch.specs.Grouping.{LabelledSample, message}

-- the series at a place of the message of these samples
abbrev pub series_at : List LabelledSample → ℕ → TimeSeries
series_at xs place = get_or (message xs) place (record { labels = []; samples = [] })
