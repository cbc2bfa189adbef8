-- What a run of a command does to its reader and its writer.
use Rattle.std.specs.Prelude.{◌≡◌, ◌≢◌, ℕ, ◌≤◌, List, [], ◌∷◌, ◌++◌, length, take, Bool, true, false, Option, Some, None, Ok, Err}
use Rattle.std.specs.Io.KnownBytes.{Appends, Consumes, IsAtEnd}
use Rattle.rw_wal_format.specs.Pieces.{fault}
use Rattle.rw_wal_format.specs.declared.tail_fault.TailFault.{TailFault}
use Rattle.rw_wal_format.specs.declared.tail_fault.TailFault.TheVariants as tail
use Rattle.rw_text.specs.HexText.{hex_text, read_text}
use Rattle.rw_log_read.specs.Logs.{log_in}
use Rattle.rw_log_commands.specs.Body.{body_of_segment}
use Rattle.rw_log_commands.specs.Taking.{ReadsToFault}

-- the bytes that an input stands for, which may be hexadecimal text
abbrev pub IsInputFor : Bool → List ℕ → List ℕ → Type 0
IsInputFor false input segment = input ≡ segment
IsInputFor true input segment = read_text input ≡ Ok segment

-- what is written of a text: hexadecimal text with a newline at its end, or the bytes alone
abbrev pub output_of : Bool → List ℕ → List ℕ
output_of false text = text
output_of true text = hex_text text ++ 10 ∷ []

-- An input was read to the end, and it stands for a segment that has a fault, or none. The segment
-- may have Snappy blocks, or has none.
pub record ReadsInput (hex compresses : Bool) (has : Option TailFault) (left_before left_after : Option (List ℕ)) (segment : List ℕ) : Type 0 where
  pub input : List ℕ
  pub read : Consumes left_before left_after input
  pub ended : IsAtEnd left_after
  pub stands : IsInputFor hex input segment
  pub faulty : fault (log_in compresses (segment ∷ [])) ≡ has

-- an input was read whose segment has no fault, and the segment's body was written
abbrev pub WritesBody : (hex compresses : Bool) → Option (List ℕ) → Option (List ℕ) → Option (List ℕ) → Option (List ℕ) → Type 0
WritesBody hex compresses left_before left_after before after =
    (segment : List ℕ) × ReadsInput hex compresses None left_before left_after segment
    × Appends before after (output_of hex (body_of_segment compresses segment))

-- the same, and a prefix of its body was written
abbrev pub WritesPart : (hex compresses : Bool) → Option (List ℕ) → Option (List ℕ) → Option (List ℕ) → Option (List ℕ) → Type 0
WritesPart hex compresses left_before left_after before after =
    (segment : List ℕ) × ReadsInput hex compresses None left_before left_after segment
    × ((n : ℕ) × (n ≤ length (output_of hex (body_of_segment compresses segment)))
    × Appends before after (take n (output_of hex (body_of_segment compresses segment))))

-- The log has this fault. Bytes are read up to it, and hexadecimal text to its end.
abbrev pub ReadsFault : (hex compresses : Bool) → TailFault → Option (List ℕ) → Option (List ℕ) → Type 0
ReadsFault false compresses f left_before left_after = ReadsToFault compresses f left_before left_after
ReadsFault true compresses f left_before left_after =
    (f ≢ tail.OutOfMemory) × ((segment : List ℕ) × ReadsInput true compresses (Some f) left_before left_after segment)

-- hexadecimal text was read to the end, and has a fault in this line
abbrev pub ReadsLine : Bool → ℕ → Option (List ℕ) → Option (List ℕ) → Type 0
ReadsLine false line left_before left_after = ⊥
ReadsLine true line left_before left_after = (text : List ℕ) × Consumes left_before left_after text × IsAtEnd left_after × (read_text text ≡ Err line)
