-- The canonical spelling of a message: fields in number order, repeated ones in list order, the
-- shortest varints, and neither a scalar whose bits are all zero nor an empty string.
use Rattle.std.specs.Prelude.{ℕ, ◌+◌, ◌==◌, if◌then◌else◌, ℤ, List, [], ◌++◌, length}
use Rattle.std.specs.Int.{w64, to_le_bytes, cast_unsigned}
use Rattle.std.specs.List.{flat_map}
use Rattle.rw_types.specs.Labels.{Labels}
use Rattle.rw_types.specs.LabelFields.{tag, bytes_field, label_fields}
use Rattle.rw_write_request.specs.Message.{Sample, TimeSeries, WriteRequest}
use Rattle.rw_codes.specs.Varint.{uvarint}

-- wire type 1: eight bytes, little-endian
unfoldable pub fixed64_field : ℕ → ℕ → List ℕ
fixed64_field number word = if word == 0 then [] else tag number 1 ++ to_le_bytes w64 word

-- wire type 0: a varint, of the 64-bit two's complement for an int64
unfoldable pub int64_field : ℕ → ℤ → List ℕ
int64_field number z = if cast_unsigned w64 z == 0 then [] else tag number 0 ++ uvarint (cast_unsigned w64 z)

-- Sample: 1 value, 2 timestamp
unfoldable pub sample : Sample → List ℕ
sample s = fixed64_field 1 s.0 ++ int64_field 2 s.1

-- TimeSeries: 1 labels, 2 samples
unfoldable pub sample_field : Sample → List ℕ
sample_field s = bytes_field 2 (sample s)

abbrev pub sample_fields : List Sample → List ℕ
sample_fields ss = flat_map sample_field ss

unfoldable pub series : TimeSeries → List ℕ
series s = label_fields s.labels ++ sample_fields s.samples

-- WriteRequest: 1 timeseries
unfoldable pub series_field : TimeSeries → List ℕ
series_field s = bytes_field 1 (series s)

-- the whole message
abbrev pub canon : WriteRequest → List ℕ
canon m = flat_map series_field m

-- what comes before the sample fields of a series whose sample fields take n bytes
unfoldable pub series_head : Labels → ℕ → List ℕ
series_head ls n = tag 1 2 ++ uvarint (length (label_fields ls) + n) ++ label_fields ls
