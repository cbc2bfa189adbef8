-- Fields that are added to a request (RFC 9110, section 5; RFC 9112, sections 2.1 and 5).
use Rattle.std.specs.Prelude.{◌≡◌, ℕ, ◌+◌, ◌≤◌, List, [], ◌∷◌, ◌++◌, length, Bool, false, true, not, ◌&&◌, ◌||◌, ◌==◌, nat_lt, nat_le, codes, if◌then◌else◌}
use Rattle.std.specs.List.{flat_map, list_all, list_any}
use Rattle.std.specs.Str.{str_eq_ignore_ascii_case}
use Rattle.httparse.specs.Grammar.{is_token, is_value_byte, is_ows}
use Rattle.rw_types.specs.Requests.{line}

-- a field's name and value
abbrev pub NameValue : Type 0
NameValue = List ℕ × List ℕ

abbrev pub begins_with_ows : List ℕ → Bool
begins_with_ows [] = false
begins_with_ows (b ∷ bytes) = is_ows b

abbrev pub ends_with_ows : List ℕ → Bool
ends_with_ows [] = false
ends_with_ows (b ∷ []) = is_ows b
ends_with_ows (b ∷ c ∷ bytes) = ends_with_ows (c ∷ bytes)

-- field-value: no control byte other than the tab, and no white space at either end
abbrev pub is_field_value : List ℕ → Bool
is_field_value text = list_all is_value_byte text && not (begins_with_ows text || ends_with_ows text)

-- the same name, in any case
abbrev pub is_same_name : List ℕ → List ℕ → Bool
is_same_name name other = str_eq_ignore_ascii_case name other

-- the names of the fields that each request has already, or has if its body is a Snappy block
abbrev pub is_in_request : List ℕ → Bool
is_in_request name =
    is_same_name name (codes "host") || is_same_name name (codes "user-agent")
    || is_same_name name (codes "content-type") || is_same_name name (codes "content-encoding")
    || is_same_name name (codes "x-prometheus-remote-write-version")
    || is_same_name name (codes "connection") || is_same_name name (codes "content-length")

-- the names of the fields that say where a message ends, or concern its connection alone (RFC 9110,
-- sections 7.6.1, 7.8 and 10.1; RFC 9112, sections 6 and 7)
abbrev pub is_framing : List ℕ → Bool
is_framing name =
    is_same_name name (codes "transfer-encoding") || is_same_name name (codes "te")
    || is_same_name name (codes "trailer") || is_same_name name (codes "upgrade")
    || is_same_name name (codes "keep-alive") || is_same_name name (codes "proxy-connection")
    || is_same_name name (codes "expect")

-- a field that a request may have besides
unfoldable pub is_extra : NameValue → Bool
is_extra field =
    is_token field.0 && is_field_value field.1 && not (is_in_request field.0 || is_framing field.0)

-- field-line = field-name ":" OWS field-value OWS, with its CR LF
abbrev pub field_line : NameValue → List ℕ
field_line field = line (field.0 ++ codes ": " ++ field.1)

abbrev pub field_lines : List NameValue → List ℕ
field_lines fields = flat_map field_line fields

-- some field has this name
abbrev pub has_name : List ℕ → List NameValue → Bool
has_name name fields = list_any (λ field. is_same_name field.0 name) fields

-- a field that can be added to these: no other has its name, and in all they are 32 at most, of at
-- most 6,000 bytes
unfoldable pub can_add : List NameValue → NameValue → Bool
can_add fields field =
    is_extra field && not (has_name field.0 fields) && nat_lt (length fields) 32
    && nat_le (length (field_lines fields) + length (field_line field)) 6000

-- `Authorization` with a bearer token (RFC 6750, section 2.1)
abbrev pub bearer : List ℕ → NameValue
bearer token = (codes "Authorization", codes "Bearer " ++ token)

-- fields that are added to a request
pub record AreExtra (fields : List NameValue) : Type 0 where
  pub each : list_all is_extra fields ≡ true
  pub few : length fields ≤ 32
  pub short : length (field_lines fields) ≤ 6000

-- the first line of a text with its line feed, or all of a text without one
unfoldable pub first_line : List ℕ → List ℕ
first_line [] = []
first_line (b ∷ bytes) = b ∷ (if b == 10 then [] else first_line bytes)

-- what comes after that
unfoldable pub after_first_line : List ℕ → List ℕ
after_first_line [] = []
after_first_line (b ∷ bytes) = if b == 10 then bytes else after_first_line bytes

-- HTTP-message = start-line CRLF *( field-line CRLF ) CRLF [ message-body ]: the request with these
-- field lines after its request line
unfoldable pub with_fields : List NameValue → List ℕ → List ℕ
with_fields fields request = first_line request ++ field_lines fields ++ after_first_line request
