-- Series of the program, without their places in memory.
use Rattle.std.specs.Prelude.{List, map, String}
use Rattle.std.specs.Global.{Global}
use Rattle.rw_types.specs.Labels.{text_label}
use Rattle.rw_write_request.specs.Message.{Sample, TimeSeries}

abbrev pub series_of_texts : List (String Global × String Global) → List Sample → TimeSeries
series_of_texts labels samples = record { labels = map text_label labels; samples = samples }
