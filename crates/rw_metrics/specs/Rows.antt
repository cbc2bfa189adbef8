-- Rows of a page or of a line: a label and its number.
use Rattle.std.specs.Prelude.{ℕ, List, [], ◌++◌, ◌/◌, ◌%◌, Bool, true, false, ◌||◌, nat_lt, if◌then◌else◌, None, Some, map, flat_map, codes, decimal}
use Rattle.std.specs.List.{zip}
use Rattle.rw_metrics.specs.declared.cause.Cause.{Cause}
use Rattle.rw_metrics.specs.declared.cause.Cause.TheVariants as cause
use Rattle.rw_metrics.specs.declared.rows.Shown.{Shown}
use Rattle.rw_metrics.specs.declared.rows.Shown.TheVariants as shown

-- a text of a table of the code
abbrev pub Text : Type 0
Text = record { now : List ℕ }

abbrev pub texts : List Text → List (List ℕ)
texts ts = map (λ t. t.now) ts

-- a heading or a first word, the labels of rows, and what the label of a status begins with
abbrev pub Table : Type 0
Table = List ℕ × List (List ℕ) × List ℕ

-- the same, as a table of the code
abbrev pub table : Text × record { now : List Text } × Text → Table
table t = (t.0.now, texts t.1.now, t.2.now)

-- the texts of a row before and after its label, and at its end; and whether zeros have rows
pub record Shape : Type 0 where
  pub start : List ℕ
  pub between : List ℕ
  pub end : List ℕ
  pub zeros : Bool

-- the last three digits of a number
unfoldable pub three_digits : ℕ → List ℕ
three_digits n = decimal (n / 100 % 10) ++ decimal (n / 10 % 10) ++ decimal (n % 10)

-- microseconds as seconds
unfoldable pub seconds_text : ℕ → List ℕ
seconds_text micros = decimal (micros / 1000000) ++ codes "." ++ three_digits (micros / 1000) ++ three_digits micros

abbrev pub cause_text : Cause → List ℕ
cause_text cause.Connect = codes "connect"
cause_text cause.Timeout = codes "timeout"
cause_text cause.Broken = codes "broken"
cause_text cause.Ended = codes "ended"
cause_text cause.BadReply = codes "bad_reply"
cause_text cause.Memory = codes "memory"
cause_text (cause.Status status) = codes "status_" ++ decimal status

-- there is a row of this number
abbrev pub has_row : (zeros : Bool) → Shown → Bool
has_row zeros (shown.Count n) = true
has_row zeros (shown.IfAny n) = zeros || nat_lt 0 n
has_row zeros (shown.Known None) = false
has_row zeros (shown.Known (Some n)) = true
has_row zeros (shown.Micros n) = true
has_row zeros (shown.Last None) = false
has_row zeros (shown.Last (Some c)) = true

-- a number as it is shown
abbrev pub shown_text : Shown → List ℕ
shown_text (shown.Count n) = decimal n
shown_text (shown.IfAny n) = decimal n
shown_text (shown.Known None) = []
shown_text (shown.Known (Some n)) = decimal n
shown_text (shown.Micros n) = seconds_text n
shown_text (shown.Last None) = []
shown_text (shown.Last (Some c)) = cause_text c

-- a row, if there is one of this number
unfoldable pub row_text : Shape → (label : List ℕ) → Shown → List ℕ
row_text shape label number =
    if has_row shape.zeros number
    then shape.start ++ label ++ shape.between ++ shown_text number ++ shape.end
    else []

-- a row for each label, with its number
abbrev pub rows_text : Shape → (labels : List (List ℕ)) → List Shown → List ℕ
rows_text shape labels numbers = flat_map (λ row. row_text shape row.0 row.1) (zip labels numbers)

-- how often a status came, which follows the label
unfoldable pub status_text : Shape → (label : List ℕ) → ℕ × ℕ → List ℕ
status_text shape label count = shape.start ++ label ++ decimal count.0 ++ shape.between ++ decimal count.1 ++ shape.end

abbrev pub statuses_text : Shape → (label : List ℕ) → List (ℕ × ℕ) → List ℕ
statuses_text shape label counts = flat_map (status_text shape label) counts
