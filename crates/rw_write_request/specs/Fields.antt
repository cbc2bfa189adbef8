-- Fields of the Protocol Buffers wire format, whatever their message.
use Rattle.std.specs.Prelude.{◌≡◌, ℕ, ◌+◌, ◌*◌, ◌<◌, ◌==◌, if◌then◌else◌, List, [], ◌∷◌, ◌++◌, length, Option, Some, None, IfSome, Ok}
use Rattle.std.specs.Int.{w32, w64, from_le_bytes}
use Rattle.rw_codes.specs.Varint.{read_uvarint}
use Rattle.rw_write_request.specs.declared.kind.Kind.{Kind}
use Rattle.rw_write_request.specs.declared.kind.Kind.TheVariants.{WriteRequest, TimeSeries, Label, Sample}

-- what a field holds, by its wire type
pub data Content : Type 0 where
  Varint : ℕ → Content
  Fixed64 : ℕ → Content
  Bytes : List ℕ → Content
  Fixed32 : ℕ → Content

pub record Field : Type 0 where
  pub number : ℕ
  pub content : Content

abbrev pub wire_of : Content → ℕ
wire_of (Varint n) = 0
wire_of (Fixed64 n) = 1
wire_of (Bytes bytes) = 2
wire_of (Fixed32 n) = 5

-- the bytes are the varint of a number, and nothing more
abbrev pub IsUvarint : List ℕ → ℕ → Type 0
IsUvarint bytes n = read_uvarint bytes ≡ Ok (n, [])

-- the bytes after the tag
abbrev pub IsPayload : List ℕ → Content → Type 0
IsPayload bytes (Varint n) = IsUvarint bytes n
IsPayload bytes (Fixed64 n) = (length bytes ≡ 8) × (n ≡ from_le_bytes w64 bytes)
IsPayload bytes (Bytes held) = (len : List ℕ) × IsUvarint len (length held) × (bytes ≡ len ++ held)
IsPayload bytes (Fixed32 n) = (length bytes ≡ 4) × (n ≡ from_le_bytes w32 bytes)

-- a field: its tag, `number * 8 + wire type`, and then what it holds
pub record IsField (bytes : List ℕ) (f : Field) : Type 0 where
  pub tag : List ℕ
  pub payload : List ℕ
  pub parts : bytes ≡ tag ++ payload
  pub numbered : 0 < f.number
  pub is_tag : IsUvarint tag (f.number * 8 + wire_of f.content)
  pub is_payload : IsPayload payload f.content

-- the bytes are these fields, one after the other
abbrev pub AreFields : List ℕ → List Field → Type 0
AreFields bytes [] = bytes ≡ []
AreFields bytes (f ∷ fs) = (front : List ℕ) × (rest : List ℕ) × (bytes ≡ front ++ rest) × IsField front f × AreFields rest fs

-- the wire type of each known field
abbrev pub known_wire : Kind → ℕ → Option ℕ
known_wire WriteRequest number = if number == 1 then Some 2 else None
known_wire TimeSeries number = if number == 1 then Some 2 else (if number == 2 then Some 2 else None)
known_wire Label number = if number == 1 then Some 2 else (if number == 2 then Some 2 else None)
known_wire Sample number = if number == 1 then Some 1 else (if number == 2 then Some 0 else None)

-- a known field has its wire type, an unknown one any
abbrev pub HasKnownWire : Kind → Field → Type 0
HasKnownWire kind f = IfSome (known_wire kind f.number) (λ w. wire_of f.content ≡ w)

-- what the fields of this number hold, in order
abbrev pub contents : ℕ → List Field → List Content
contents number [] = []
contents number (f ∷ fs) = (if f.number == number then f.content ∷ [] else []) ++ contents number fs
