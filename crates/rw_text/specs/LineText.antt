-- Log text, one record a line.
use Rattle.std.specs.Prelude.{◌≡◌, ◌^◌, ◌<◌, ℕ, ℤ, List, ◌∷◌, ◌++◌, length, Some, codes, true, FitsSigned}
use Rattle.std.proofs.Common.{w64}
use Rattle.std.specs.Str.{is_utf8}
use Rattle.rw_types.specs.Labels.{Labels}
use Rattle.rw_text.specs.HexText.{read_digits}
use Rattle.rw_text.specs.Numbers.{IsNumber, IsInteger}
use Rattle.rw_text.specs.LabelText.{labels_text}
use Rattle.rw_text.specs.ValueText.{IsValue}
use Rattle.rw_text.specs.declared.line.LogLine.{LogLine}
use Rattle.rw_text.specs.declared.line.LogLine.TheVariants as rust

-- what a line says: a definition, a sample as (reference, timestamp, word), or the bytes of a
-- record
pub data Line : Type 0 where
  series : ℕ → Labels → Line
  sample : ℕ → ℤ → ℕ → Line
  raw : List ℕ → Line

-- `REF LABELS`
pub record IsSeriesLine (text : List ℕ) (reference : ℕ) (labels : Labels) : Type 0 where
  pub number : List ℕ
  pub parts : text ≡ number ++ 32 ∷ labels_text labels
  pub is_number : IsNumber number reference
  pub fits : reference < 2 ^ 64

-- `REF T VALUE`
pub record IsSampleLine (text : List ℕ) (reference : ℕ) (t : ℤ) (word : ℕ) : Type 0 where
  pub number : List ℕ
  pub time : List ℕ
  pub value : List ℕ
  pub parts : text ≡ number ++ 32 ∷ (time ++ 32 ∷ value)
  pub is_number : IsNumber number reference
  pub fits : reference < 2 ^ 64
  pub is_integer : IsInteger time t
  pub time_fits : FitsSigned w64 t
  pub is_value : IsValue value word
  pub word_fits : word < 2 ^ 64

-- `HEX`, at least one byte
pub record IsRaw (text bytes : List ℕ) : Type 0 where
  pub digits : read_digits text ≡ Some bytes
  pub some : 0 < length bytes

-- `series REF LABELS`, `sample REF T VALUE` or `raw HEX`, with single spaces
abbrev pub Says : List ℕ → Line → Type 0
Says text (series reference labels) = (rest : List ℕ) × (text ≡ codes "series " ++ rest) × IsSeriesLine rest reference labels
Says text (sample reference t word) = (rest : List ℕ) × (text ≡ codes "sample " ++ rest) × IsSampleLine rest reference t word
Says text (raw bytes) = (rest : List ℕ) × (text ≡ codes "raw " ++ rest) × IsRaw rest bytes

-- a line of log text, which is UTF-8
pub record IsLine (text : List ℕ) (line : Line) : Type 0 where
  pub utf8 : is_utf8 text ≡ true
  pub says : Says text line

-- what was read of a line
abbrev pub line_of : LogLine → Line
line_of (rust.Series reference labels) = series reference labels
line_of (rust.Sample reference t word) = sample reference t word
line_of (rust.Raw bytes) = raw bytes.items
