-- The WriteRequest message of Remote-Write 1.0, as plain data.
use Rattle.std.specs.Prelude.{ℕ, ℤ, List}
use Rattle.rw_types.specs.Labels.{Labels}

-- a sample's value, as the 64-bit word of a double, and its timestamp in milliseconds
abbrev pub Sample : Type 0
Sample = ℕ × ℤ

pub record TimeSeries : Type 0 where
  pub labels : Labels
  pub samples : List Sample

abbrev pub WriteRequest : Type 0
WriteRequest = List TimeSeries
