-- What can be spelled: strings are UTF-8, words and timestamps have 64 bits, and so has the whole
-- length.
use Rattle.std.specs.Prelude.{◌^◌, ◌<◌, length, IsUtf8, FitsSigned}
use Rattle.std.specs.Int.{w64}
use Rattle.std.specs.List.{AllByRecursion}
use Rattle.rw_types.specs.Labels.{Label}
use Rattle.rw_write_request.specs.Message.{Sample, TimeSeries, WriteRequest}
use Rattle.rw_write_request.specs.Canon.{canon}

abbrev pub IsLabel : Label → Type 0
IsLabel l = IsUtf8 l.0 × IsUtf8 l.1

abbrev pub IsValidSample : Sample → Type 0
IsValidSample s = (s.0 < 2 ^ 64) × FitsSigned w64 s.1

pub record IsSeries (s : TimeSeries) : Type 0 where
  pub labels : AllByRecursion IsLabel s.labels
  pub samples : AllByRecursion IsValidSample s.samples

pub record IsMessage (m : WriteRequest) : Type 0 where
  pub series : AllByRecursion IsSeries m
  pub short : length (canon m) < 2 ^ 64
