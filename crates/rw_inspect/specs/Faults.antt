-- How a fault of a log is printed: what is wrong, where, and what to do next.
use Rattle.std.specs.Prelude.{ℕ, ◌-◌, List, [], ◌++◌, Bool, true, false, if◌then◌else◌, get_or, decimal, Option, None, Some, slice_get, string_bytes}
use Rattle.rw_wal_format.specs.Faults.{log_fault_number}
use Rattle.rw_wal_format.specs.declared.tail_fault.TailFault.{TailFault}
use Rattle.rw_wal_format.specs.declared.tail_fault.TailFault.TheVariants.{Compressed, BadRecord}
use Rattle.rw_wal_tail.specs.declared.place.Damage.{Damage}
use Rattle.rw_wal_tail.specs.declared.place.FaultPlace.{FaultPlace}
use Rattle.rw_log_read.specs.declared.log_read.Segment.{Segment}
use Rattle.rw_inspect.specs.JsonText.{json_quoted}
use Rattle.rw_inspect.specs.Cells.{Text}
use Rattle.rw_inspect.specs.declared.words.TheConstants.{FAULTS}

-- The row of a fault of a log, which may have Snappy blocks or has none: its number, or a later row
-- if the fault means something else in a log with such blocks.
abbrev pub row_number : (compresses : Bool) → TailFault → ℕ
row_number false f = log_fault_number f
row_number true Compressed = 9
row_number true BadRecord = 10
row_number true f = log_fault_number f

-- what is wrong and what to do next
abbrev pub fault_row : Bool → TailFault → Text × Text
fault_row compresses f = get_or FAULTS (row_number compresses f) (record { now = [] }, record { now = [] })

abbrev pub fault_words : Bool → TailFault → List ℕ
fault_words compresses f = (fault_row compresses f).0.now

abbrev pub next_step : Bool → TailFault → List ℕ
next_step compresses f = (fault_row compresses f).1.now

-- the texts around what is wrong, where, and what to do next; and whether sentences and names are
-- JSON strings
pub record FaultShape : Type 0 where
  pub said : List ℕ × List ℕ
  pub place : List ℕ × List ℕ × List ℕ × List ℕ
  pub next : List ℕ × List ℕ
  pub is_json : Bool

-- the same, as a constant of the code
abbrev pub shape : (Text × Text) × (Text × Text × Text × Text) × (Text × Text) × Bool → FaultShape
shape f = record {
  said = (f.0.0.now, f.0.1.now);
  place = (f.1.0.now, f.1.1.now, f.1.2.now, f.1.3.now);
  next = (f.2.0.now, f.2.1.now);
  is_json = f.3;
}

-- a sentence or a name, and a sentence with the texts around it
abbrev pub shown_text : (is_json : Bool) → List ℕ → List ℕ
shown_text is_json text = if is_json then json_quoted text else text

unfoldable pub sentence_text : (around : List ℕ × List ℕ) → (is_json : Bool) → List ℕ → List ℕ
sentence_text around is_json text = around.0 ++ shown_text is_json text ++ around.1

-- a place in a file of this name and length, with the number of bytes from there to its end
unfoldable pub spot_text : FaultShape → (name : List ℕ) → (bytes offset : ℕ) → List ℕ
spot_text s name bytes offset =
    s.place.0 ++ shown_text s.is_json name ++ s.place.1 ++ decimal offset ++ s.place.2 ++ decimal (bytes - offset) ++ s.place.3

abbrev pub any_spot : FaultShape → Option Segment → ℕ → List ℕ
any_spot s None offset = []
any_spot s (Some segment) offset = spot_text s (string_bytes segment.name) segment.bytes offset

abbrev pub placed_text : FaultShape → List Segment → Option FaultPlace → List ℕ
placed_text s segments None = []
placed_text s segments (Some p) = any_spot s (slice_get segments p.segment) p.offset

-- a fault with its place, and the damage of a log, if it has one
unfoldable pub fault_text : FaultShape → (compresses : Bool) → TailFault → (place : List ℕ) → List ℕ
fault_text s compresses f place =
    sentence_text s.said s.is_json (fault_words compresses f) ++ place
    ++ sentence_text s.next s.is_json (next_step compresses f)

abbrev pub damage_text : FaultShape → (compresses : Bool) → List Segment → Option Damage → List ℕ
damage_text s compresses segments None = []
damage_text s compresses segments (Some d) = fault_text s compresses d.fault (placed_text s segments d.place)
