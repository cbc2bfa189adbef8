-- The canonical spelling of the labels of a series: the fields `labels` of a TimeSeries
-- (Remote-Write 1.0; Protocol Buffers encoding). Each is a Label, with the fields 1 name and 2
-- value; an empty string is not spelled.
use Rattle.std.specs.Prelude.{ℕ, ◌+◌, ◌*◌, List, [], ◌∷◌, ◌++◌, length}
use Rattle.std.specs.List.{flat_map}
use Rattle.rw_codes.specs.Varint.{uvarint}
use Rattle.rw_types.specs.Labels.{Label, Labels}

-- The tag of a field, `number * 8 + wire type`, is one byte for the numbers below 16.
abbrev pub tag : ℕ → ℕ → List ℕ
tag number wire = (number * 8 + wire) ∷ []

-- wire type 2: the length, then the bytes
abbrev pub bytes_field : ℕ → List ℕ → List ℕ
bytes_field number bytes = tag number 2 ++ uvarint (length bytes) ++ bytes

abbrev pub string_field : ℕ → List ℕ → List ℕ
string_field number [] = []
string_field number (b ∷ bytes) = bytes_field number (b ∷ bytes)

-- Label: 1 name, 2 value
unfoldable pub label : Label → List ℕ
label l = string_field 1 l.0 ++ string_field 2 l.1

-- TimeSeries: 1 labels
unfoldable pub label_field : Label → List ℕ
label_field l = bytes_field 1 (label l)

abbrev pub label_fields : Labels → List ℕ
label_fields ls = flat_map label_field ls
