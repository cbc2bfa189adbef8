-- What a run of the command `replay` does to its reader and its writer.
use Rattle.std.specs.Prelude.{ℕ, ◌≤◌, List, length, take, Option}
use Rattle.std.specs.Io.KnownBytes.{Appends, Consumes, IsAtEnd}
use Rattle.rw_machine.specs.Worlds.{Setup}
use Rattle.rw_replay.specs.ScriptText.{Order}
use Rattle.rw_replay.specs.Scripts.{IsScript, IsBadScriptLine}
use Rattle.rw_replay.specs.Played.{IsPrintedState}

-- a script was read to its end
pub record ReadsScript (left_before left_after : Option (List ℕ)) (orders : List Order) : Type 0 where
  pub text : List ℕ
  pub read : Consumes left_before left_after text
  pub ended : IsAtEnd left_after
  pub script : IsScript text orders

-- a text was read to its end, and the first of its lines that is not a line of a script has this
-- number
pub record ReadsBadLine (left_before left_after : Option (List ℕ)) (number : ℕ) : Type 0 where
  pub text : List ℕ
  pub read : Consumes left_before left_after text
  pub ended : IsAtEnd left_after
  pub bad : IsBadScriptLine text number

-- a script was read, and the state at its end was written
abbrev pub WritesState : Setup → Option (List ℕ) → Option (List ℕ) → Option (List ℕ) → Option (List ℕ) → Type 0
WritesState c left_before left_after before after =
    (orders : List Order) × ReadsScript left_before left_after orders
    × ((text : List ℕ) × IsPrintedState c orders text × Appends before after text)

-- a prefix of it was written
abbrev pub WritesStatePart : Setup → Option (List ℕ) → Option (List ℕ) → Option (List ℕ) → Option (List ℕ) → Type 0
WritesStatePart c left_before left_after before after =
    (orders : List Order) × ReadsScript left_before left_after orders
    × ((text : List ℕ) × IsPrintedState c orders text × ((n : ℕ) × (n ≤ length text) × Appends before after (take n text)))
