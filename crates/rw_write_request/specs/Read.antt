-- Reading a message from left to right, with the first fault that is met. A nested message is read
-- before what follows it.
use Rattle.std.specs.Prelude.{◌≡◌, ◌≢◌, ℕ, zero, suc, ◌/◌, ◌%◌, nat_lt, ◌==◌, if◌then◌else◌, ℤ, pos, List, [], ◌∷◌, ◌++◌, length, take, drop, Option, Some, None, Result, Ok, Err}
use Rattle.std.specs.Int.{w32, w64, from_le_bytes, cast_signed}
use Rattle.std.specs.Str.{is_utf8}
use Rattle.rw_write_request.specs.declared.kind.Kind.{Kind}
use Rattle.rw_write_request.specs.declared.kind.Kind.TheVariants as kinds
use Rattle.rw_write_request.specs.declared.fault.WireFault.{WireFault}
use Rattle.rw_write_request.specs.declared.fault.WireFault.TheVariants.{OutOfMemory, Truncated, VarintTooBig, WrongWire, BadWire, FieldZero, NotUtf8}
use Rattle.rw_codes.specs.Varint.{◌>>=◌, read_uvarint}
use Rattle.rw_codes.specs.declared.code_fault.CodeFault.{CodeFault}
use Rattle.rw_codes.specs.declared.code_fault.CodeFault.TheVariants.{Short, TooBig}
use Rattle.rw_types.specs.Labels.{Label}
use Rattle.rw_write_request.specs.Message.{Sample, TimeSeries, WriteRequest}
use Rattle.rw_write_request.specs.Fields.{Content, Varint, Fixed64, Bytes, Fixed32, Field, known_wire}

-- What a function returned, seen by view, is what reading gives, unless memory ran out.
abbrev pub GivesOrMemory : {X Y : Type 0} → (X → Y) → Result X WireFault → Result Y WireFault → Type 0
GivesOrMemory view (Ok x) read = read ≡ Ok (view x)
GivesOrMemory view (Err e) read = e ≢ OutOfMemory → read ≡ Err e

-- what a varint that cannot be read says about its message
abbrev pub varint_fault : CodeFault → WireFault
varint_fault Short = Truncated
varint_fault TooBig = VarintTooBig

unfoldable pub in_message : Result (ℕ × List ℕ) CodeFault → Result (ℕ × List ℕ) WireFault
in_message (Ok x) = Ok x
in_message (Err e) = Err (varint_fault e)

-- a varint at the front, and the bytes after it
abbrev pub uvarint_at : List ℕ → Result (ℕ × List ℕ) WireFault
uvarint_at bytes = in_message (read_uvarint bytes)

-- this many bytes
abbrev pub bytes_at : ℕ → List ℕ → Result (List ℕ × List ℕ) WireFault
bytes_at n bytes = if nat_lt (length bytes) n then Err Truncated else Ok (take n bytes, drop n bytes)

-- what a field of this wire type holds
unfoldable pub content_at : ℕ → List ℕ → Result (Content × List ℕ) WireFault
content_at wire bytes =
    if wire == 0 then (uvarint_at bytes >>= λ n. Ok (Varint n.0, n.1))
    else (if wire == 1 then (bytes_at 8 bytes >>= λ held. Ok (Fixed64 (from_le_bytes w64 held.0), held.1))
    else (if wire == 2 then (uvarint_at bytes >>= λ len. bytes_at len.0 len.1 >>= λ held. Ok (Bytes held.0, held.1))
    else (if wire == 5 then (bytes_at 4 bytes >>= λ held. Ok (Fixed32 (from_le_bytes w32 held.0), held.1))
    else Err BadWire)))

-- a known field has its wire type
unfoldable pub known_judged : Option ℕ → ℕ → Result ℕ WireFault
known_judged None wire = Ok wire
known_judged (Some known) wire = if wire == known then Ok wire else Err WrongWire

-- at a tag: the number, then the wire type, then that of a known field
unfoldable pub judged_tag : Kind → ℕ → ℕ → Result ℕ WireFault
judged_tag kind number wire =
    if number == 0 then Err FieldZero
    else (if nat_lt wire 3 then known_judged (known_wire kind number) wire
    else (if wire == 5 then known_judged (known_wire kind number) wire
    else Err BadWire))

unfoldable pub field_at : Kind → List ℕ → Result (Field × List ℕ) WireFault
field_at kind bytes = do
  tag ← uvarint_at bytes
  wire ← judged_tag kind (tag.0 / 8) (tag.0 % 8)
  content ← content_at wire tag.1
  Ok (record { number = tag.0 / 8; content = content.0 }, content.1)

-- Field after field until the bytes end: each step adds a field to what was read so far. There are
-- at most as many fields as bytes.
unfoldable pub fields_in : {X : Type 0} → ℕ → Kind → (X → Field → Result X WireFault) → X → List ℕ → Result X WireFault
fields_in most kind step so_far [] = Ok so_far
fields_in zero kind step so_far (b ∷ bytes) = Err Truncated
fields_in (suc most) kind step so_far (b ∷ bytes) = do
  f ← field_at kind (b ∷ bytes)
  next ← step so_far f.0
  fields_in most kind step next f.1

abbrev pub read_fields : {X : Type 0} → Kind → (X → Field → Result X WireFault) → X → List ℕ → Result X WireFault
read_fields kind step so_far bytes = fields_in (length bytes) kind step so_far bytes

-- the bytes of a string
unfoldable pub text : Content → Result (List ℕ) WireFault
text (Bytes bytes) = if is_utf8 bytes then Ok bytes else Err NotUtf8
text _ = Err WrongWire

unfoldable pub label_step : Label → Field → Result Label WireFault
label_step l f =
    if f.number == 1 then (text f.content >>= λ name. Ok (name, l.1))
    else (if f.number == 2 then (text f.content >>= λ value. Ok (l.0, value))
    else Ok l)

abbrev pub read_label : List ℕ → Result Label WireFault
read_label bytes = read_fields kinds.Label label_step ([], []) bytes

unfoldable pub word : Content → Result ℕ WireFault
word (Fixed64 n) = Ok n
word _ = Err WrongWire

unfoldable pub timestamp : Content → Result ℤ WireFault
timestamp (Varint n) = Ok (cast_signed w64 n)
timestamp _ = Err WrongWire

unfoldable pub sample_step : Sample → Field → Result Sample WireFault
sample_step s f =
    if f.number == 1 then (word f.content >>= λ w. Ok (w, s.1))
    else (if f.number == 2 then (timestamp f.content >>= λ t. Ok (s.0, t))
    else Ok s)

abbrev pub read_sample : List ℕ → Result Sample WireFault
read_sample bytes = read_fields kinds.Sample sample_step (0, pos 0) bytes

-- the message in a field
unfoldable pub nested : {X : Type 0} → (List ℕ → Result X WireFault) → Content → Result X WireFault
nested read (Bytes bytes) = read bytes
nested read _ = Err WrongWire

unfoldable pub series_step : TimeSeries → Field → Result TimeSeries WireFault
series_step s f =
    if f.number == 1 then (nested read_label f.content >>= λ l. Ok (record { labels = s.labels ++ l ∷ []; samples = s.samples }))
    else (if f.number == 2 then (nested read_sample f.content >>= λ x. Ok (record { labels = s.labels; samples = s.samples ++ x ∷ [] }))
    else Ok s)

abbrev pub read_series : List ℕ → Result TimeSeries WireFault
read_series bytes = read_fields kinds.TimeSeries series_step (record { labels = []; samples = [] }) bytes

unfoldable pub request_step : WriteRequest → Field → Result WriteRequest WireFault
request_step m f =
    if f.number == 1 then (nested read_series f.content >>= λ s. Ok (m ++ s ∷ []))
    else Ok m

-- the message that the bytes spell, or the first fault
abbrev pub read : List ℕ → Result WriteRequest WireFault
read bytes = read_fields kinds.WriteRequest request_step [] bytes
