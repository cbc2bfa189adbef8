-- The first fault of a message (Protocol Buffers encoding): the fields before it are whole and
-- sound, and it is the fault of the field there.
use Rattle.std.specs.Prelude.{◌≡◌, ◌≢◌, ◌⊎◌, ℕ, ◌+◌, ◌*◌, ◌<◌, List, [], ◌++◌, length, Option, Some, IfSome, Err, IsUtf8}
use Rattle.std.specs.List.{AllByRecursion}
use Rattle.rw_codes.specs.Varint.{read_uvarint}
use Rattle.rw_codes.specs.declared.code_fault.CodeFault.{CodeFault}
use Rattle.rw_write_request.specs.declared.kind.Kind.{Kind}
use Rattle.rw_write_request.specs.declared.kind.Kind.TheVariants as kinds
use Rattle.rw_write_request.specs.declared.fault.WireFault.{WireFault}
use Rattle.rw_write_request.specs.declared.fault.WireFault.TheVariants.{Truncated, WrongWire, BadWire, FieldZero, NotUtf8}
use Rattle.rw_write_request.specs.Fields.{Content, Bytes, Field, IsUvarint, IsField, known_wire, HasKnownWire}
use Rattle.rw_write_request.specs.Spells.{AreFieldsOf, IsText, SpellsLabel, SpellsSample, SpellsSeries}
use Rattle.rw_write_request.specs.Read.{varint_fault}

-- no varint is at the front
abbrev pub VarintFault : List ℕ → WireFault → Type 0
VarintFault bytes e = (f : CodeFault) × (read_uvarint bytes ≡ Err f) × (e ≡ varint_fault f)

-- there are fewer bytes than that
abbrev pub TooFew : ℕ → List ℕ → WireFault → Type 0
TooFew n bytes e = (length bytes < n) × (e ≡ Truncated)

-- a length, and fewer bytes after it
pub record LengthFault (bytes : List ℕ) (e : WireFault) : Type 0 where
  pub len : List ℕ
  pub rest : List ℕ
  pub n : ℕ
  pub parts : bytes ≡ len ++ rest
  pub is_len : IsUvarint len n
  pub few : TooFew n rest e

-- what a field of this wire type holds is not complete
abbrev pub ContentFault : ℕ → List ℕ → WireFault → Type 0
ContentFault wire bytes e =
    ((wire ≡ 0) × VarintFault bytes e)
    ⊎ (((wire ≡ 1) × TooFew 8 bytes e)
    ⊎ (((wire ≡ 2) × (VarintFault bytes e ⊎ LengthFault bytes e))
    ⊎ ((wire ≡ 5) × TooFew 4 bytes e)))

-- a wire type that exists
abbrev pub IsWire : ℕ → Type 0
IsWire wire = (wire < 3) ⊎ (wire ≡ 5)

-- a known field has another wire type
abbrev pub IsMisfit : Option ℕ → ℕ → Type 0
IsMisfit known wire = (w : ℕ) × (known ≡ Some w) × (wire ≢ w)

-- a tag that no field has: its number is 0, or otherwise there is no such wire type, or otherwise a
-- known field has another one
abbrev pub TagFault : Kind → ℕ → ℕ → WireFault → Type 0
TagFault kind number wire e =
    ((number ≡ 0) × (e ≡ FieldZero))
    ⊎ (((0 < number) × ¬ (IsWire wire) × (e ≡ BadWire))
    ⊎ ((0 < number) × IsWire wire × IsMisfit (known_wire kind number) wire × (e ≡ WrongWire)))

-- a tag that a field may have
abbrev pub IsTag : Kind → ℕ → ℕ → Type 0
IsTag kind number wire = (0 < number) × IfSome (known_wire kind number) (λ w. wire ≡ w)

-- after a tag: it is not allowed there, or what it announces is not complete
pub record TaggedFault (kind : Kind) (bytes : List ℕ) (e : WireFault) : Type 0 where
  pub tag : List ℕ
  pub rest : List ℕ
  pub number : ℕ
  pub wire : ℕ
  pub parts : bytes ≡ tag ++ rest
  pub low : wire < 8
  pub is_tag : IsUvarint tag (number * 8 + wire)
  pub fault : TagFault kind number wire e ⊎ (IsTag kind number wire × ContentFault wire rest e)

-- no field is at the front
abbrev pub FieldFault : Kind → List ℕ → WireFault → Type 0
FieldFault kind bytes e = VarintFault bytes e ⊎ TaggedFault kind bytes e

-- a whole field is at the front, which has a fault inside
pub record InnerFault (Inner : Field → WireFault → Type 0) (kind : Kind) (bytes : List ℕ) (e : WireFault) : Type 0 where
  pub front : List ℕ
  pub rest : List ℕ
  pub field : Field
  pub parts : bytes ≡ front ++ rest
  pub is : IsField front field
  pub wire : HasKnownWire kind field
  pub inner : Inner field e

-- the fault of a message of this kind, whose fields are sound or have a fault inside
pub record FirstFault (kind : Kind) (Sound : Field → Type 0) (Inner : Field → WireFault → Type 0) (bytes : List ℕ) (e : WireFault) : Type 0 where
  pub before : List ℕ
  pub rest : List ℕ
  pub fields : List Field
  pub parts : bytes ≡ before ++ rest
  pub more : rest ≢ []
  pub are : AreFieldsOf kind before fields
  pub sound : AllByRecursion Sound fields
  pub fault : FieldFault kind rest e ⊎ InnerFault Inner kind rest e

-- ---- the messages

-- a message of which this is a spelling
abbrev pub HoldsSpelling : {X : Type 0} → (List ℕ → X → Type 0) → Content → Type 0
HoldsSpelling Spelling c = (bytes : List ℕ) × (x : _) × (c ≡ Bytes bytes) × Spelling bytes x

abbrev pub FaultyText : Field → WireFault → Type 0
FaultyText f e = ((f.number ≡ 1) ⊎ (f.number ≡ 2)) × ((bytes : List ℕ) × (f.content ≡ Bytes bytes) × ¬ (IsUtf8 bytes)) × (e ≡ NotUtf8)

abbrev pub IsLabelField : Field → Type 0
IsLabelField f = (f.number ≡ 1 → IsText f.content) × (f.number ≡ 2 → IsText f.content)

abbrev pub LabelFault : List ℕ → WireFault → Type 0
LabelFault bytes e = FirstFault kinds.Label IsLabelField FaultyText bytes e

-- a sample's field that is whole has no fault inside
abbrev pub SampleFault : List ℕ → WireFault → Type 0
SampleFault bytes e = FirstFault kinds.Sample (λ f. Unit {0}) (λ f e. ⊥) bytes e

abbrev pub FaultOf : ℕ → (List ℕ → WireFault → Type 0) → Field → WireFault → Type 0
FaultOf number Fault f e = (f.number ≡ number) × ((bytes : List ℕ) × (f.content ≡ Bytes bytes) × Fault bytes e)

abbrev pub IsSeriesField : Field → Type 0
IsSeriesField f = (f.number ≡ 1 → HoldsSpelling SpellsLabel f.content) × (f.number ≡ 2 → HoldsSpelling SpellsSample f.content)

abbrev pub SeriesFault : List ℕ → WireFault → Type 0
SeriesFault bytes e = FirstFault kinds.TimeSeries IsSeriesField (λ f e. FaultOf 1 LabelFault f e ⊎ FaultOf 2 SampleFault f e) bytes e

abbrev pub IsRequestField : Field → Type 0
IsRequestField f = f.number ≡ 1 → HoldsSpelling SpellsSeries f.content

abbrev pub RequestFault : List ℕ → WireFault → Type 0
RequestFault bytes e = FirstFault kinds.WriteRequest IsRequestField (FaultOf 1 SeriesFault) bytes e
