-- Messages and series, read part by part.
use Rattle.std.specs.Prelude.{◌≡◌, ◌≢◌, ℕ, Bool, true, false, List, [], ◌∷◌, ◌++◌, Result, Ok, Err}
use Rattle.rw_types.specs.Labels.{Labels}
use Rattle.rw_write_request.specs.declared.kind.Kind.TheVariants as kinds
use Rattle.rw_write_request.specs.declared.fault.WireFault.{WireFault}
use Rattle.rw_write_request.specs.declared.fault.WireFault.TheVariants.{OutOfMemory}
use Rattle.rw_write_request.specs.Message.{Sample, TimeSeries, WriteRequest}
use Rattle.rw_write_request.specs.Read.{read_fields, read_series, request_step, series_step}

-- the message that the bytes spell after series that were read before them, or the first fault
abbrev pub read_on : WriteRequest → List ℕ → Result WriteRequest WireFault
read_on m bytes = read_fields kinds.WriteRequest request_step m bytes

-- the same, after what was read as one more series
abbrev pub read_on_after : WriteRequest → Result TimeSeries WireFault → List ℕ → Result WriteRequest WireFault
read_on_after m (Ok s) rest = read_on (m ++ s ∷ []) rest
read_on_after m (Err e) rest = Err e

-- the series that the bytes spell after what was read of it before them, or the first fault
abbrev pub series_on : TimeSeries → List ℕ → Result TimeSeries WireFault
series_on s bytes = read_fields kinds.TimeSeries series_step s bytes

-- the head of a series: whole fields, none of them a sample, which spell these labels
abbrev pub IsHeadOf : List ℕ → Labels → Type 0
IsHeadOf head labels = read_series head ≡ Ok (record { labels = labels; samples = [] })

-- What a function that reads samples says about the series: it has these, if the function read them
-- all.
abbrev pub SamplesGive : Result Bool WireFault → Labels → List Sample → Result TimeSeries WireFault → Type 0
SamplesGive (Ok true) labels samples series = series ≡ Ok (record { labels = labels; samples = samples })
SamplesGive (Ok false) labels samples series = Unit {0}
SamplesGive (Err e) labels samples series = e ≢ OutOfMemory → series ≡ Err e
