-- What a message's bytes mean (Protocol Buffers encoding): fields in any order, unknown ones
-- skipped, the last of a scalar or string counts, and one that is absent is zero or empty.
use Rattle.std.specs.Prelude.{◌≡◌, ℕ, List, [], ◌∷◌, IsUtf8}
use Rattle.std.specs.Int.{w64, cast_signed}
use Rattle.std.specs.List.{AllByRecursion}
use Rattle.rw_write_request.specs.declared.kind.Kind.{Kind}
use Rattle.rw_write_request.specs.declared.kind.Kind.TheVariants as kinds
use Rattle.rw_types.specs.Labels.{Label}
use Rattle.rw_write_request.specs.Message.{Sample, TimeSeries, WriteRequest}
use Rattle.rw_write_request.specs.Fields.{Content, Varint, Fixed64, Bytes, Fixed32, Field, AreFields, HasKnownWire, contents}

-- the bytes are fields of a message of this kind
pub record AreFieldsOf (kind : Kind) (bytes : List ℕ) (fields : List Field) : Type 0 where
  pub spelled : AreFields bytes fields
  pub wires : AllByRecursion (HasKnownWire kind) fields

-- the last of them, or the value for an absent field
abbrev pub last_or : {X : Type 0} → X → List X → X
last_or none [] = none
last_or none (x ∷ xs) = last_or x xs

-- a string is UTF-8
abbrev pub IsText : Content → Type 0
IsText (Bytes bytes) = IsUtf8 bytes
IsText (Varint n) = ⊥
IsText (Fixed64 n) = ⊥
IsText (Fixed32 n) = ⊥

pub record SpellsLabel (bytes : List ℕ) (label : Label) : Type 0 where
  pub fields : List Field
  pub are : AreFieldsOf kinds.Label bytes fields
  pub texts : AllByRecursion IsText (contents 1 fields) × AllByRecursion IsText (contents 2 fields)
  pub name : last_or (Bytes []) (contents 1 fields) ≡ Bytes label.0
  pub value : last_or (Bytes []) (contents 2 fields) ≡ Bytes label.1

pub record SpellsSample (bytes : List ℕ) (sample : Sample) : Type 0 where
  pub fields : List Field
  pub are : AreFieldsOf kinds.Sample bytes fields
  pub word : last_or (Fixed64 0) (contents 1 fields) ≡ Fixed64 sample.0
  pub timestamp : (n : ℕ) × (last_or (Varint 0) (contents 2 fields) ≡ Varint n) × (sample.1 ≡ cast_signed w64 n)

-- each content is the bytes of the item at its place
abbrev pub EachSpells : {X : Type 0} → (List ℕ → X → Type 0) → List Content → List X → Type 0
EachSpells Spelling [] [] = Unit {0}
EachSpells Spelling (Bytes bytes ∷ cs) (x ∷ xs) = Spelling bytes x × EachSpells Spelling cs xs
EachSpells Spelling _ _ = ⊥

pub record SpellsSeries (bytes : List ℕ) (series : TimeSeries) : Type 0 where
  pub fields : List Field
  pub are : AreFieldsOf kinds.TimeSeries bytes fields
  pub labels : EachSpells SpellsLabel (contents 1 fields) series.labels
  pub samples : EachSpells SpellsSample (contents 2 fields) series.samples

-- the bytes are a spelling of the message
pub record Spells (bytes : List ℕ) (message : WriteRequest) : Type 0 where
  pub fields : List Field
  pub are : AreFieldsOf kinds.WriteRequest bytes fields
  pub series : EachSpells SpellsSeries (contents 1 fields) message
