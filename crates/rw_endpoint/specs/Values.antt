-- The values that this endpoint reads (RFC 9110, sections 5.6.3, 8.3, 8.4 and 8.6; Remote-Write
-- 1.0).
use Rattle.std.specs.Prelude.{ℕ, List, [], ◌∷◌, Bool, false, ◌||◌, ◌&&◌, ◌==◌, nat_lt, nat_le, length, take, drop, codes, Option, None, Some, if◌then◌else◌}
use Rattle.std.specs.List.{list_all}
use Rattle.std.specs.Str.{str_eq_ignore_ascii_case}
use Rattle.std.specs.Char.{is_ascii_digit}
use Rattle.std.specs.Str.Parse.{digits_value}
use Rattle.httparse.specs.Grammar.{skip_ows}
use Rattle.rw_endpoint.specs.Fields.{NameValue, is_named, each_value}

-- Content-Length = 1*DIGIT, of at most 19 digits
unfoldable pub length_value : List ℕ → Option ℕ
length_value text =
    if nat_lt 0 (length text) && nat_le (length text) 19 && list_all is_ascii_digit text then Some (digits_value 10 text) else None

-- the value is a length, and this one
abbrev pub is_some_length : Option ℕ → ℕ → Bool
is_some_length None n = false
is_some_length (Some m) n = m == n

-- the value is this length
abbrev pub is_length : ℕ → List ℕ → Bool
is_length n text = is_some_length (length_value text) n

-- the first Content-Length
abbrev pub first_length : List NameValue → Option ℕ
first_length [] = None
first_length (field ∷ fields) = if is_named (codes "content-length") field then length_value field.1 else first_length fields

-- that length, if each Content-Length is the same
abbrev pub agreed : Option ℕ → List NameValue → Option ℕ
agreed None fields = None
agreed (Some n) fields = if each_value (codes "content-length") (is_length n) fields then Some n else None

-- the length that the fields announce
abbrev pub announced : List NameValue → Option ℕ
announced fields = agreed (first_length fields) fields

-- the value is this content coding, in any case
abbrev pub is_coding : List ℕ → List ℕ → Bool
is_coding coding value = str_eq_ignore_ascii_case value coding

-- a Connection that closes
abbrev pub is_close : List ℕ → Bool
is_close value = str_eq_ignore_ascii_case value (codes "close")

-- ";" OWS, and the parameter of Remote-Write 1.0
unfoldable pub is_write_request : List ℕ → Bool
is_write_request [] = false
is_write_request (b ∷ more) = (b == 59) && str_eq_ignore_ascii_case (skip_ows more) (codes "proto=prometheus.WriteRequest")

-- the media type of Remote-Write 1.0, alone or with its parameter
unfoldable pub is_protobuf : List ℕ → Bool
is_protobuf value =
    str_eq_ignore_ascii_case value (codes "application/x-protobuf")
    || str_eq_ignore_ascii_case (take 22 value) (codes "application/x-protobuf") && is_write_request (skip_ows (drop 22 value))
