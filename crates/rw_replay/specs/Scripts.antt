-- Event scripts: the orders of their lines.
use Rattle.std.specs.Prelude.{◌≡◌, ℕ, ◌+◌, ◌<◌, List, [], ◌∷◌, ◌++◌, length, Bool, true, false, ◌&&◌}
use Rattle.std.specs.List.{list_any}
use Rattle.rw_text.specs.RecordLines.{lines}
use Rattle.rw_replay.specs.declared.words.BareWord.{BareWord}
use Rattle.rw_replay.specs.declared.words.BareWord.TheVariants.{Segment}
use Rattle.rw_replay.specs.declared.fault.ScriptFault.{ScriptFault}
use Rattle.rw_replay.specs.declared.fault.ScriptFault.TheVariants as fault
use Rattle.rw_replay.specs.ScriptText.{Order, logged, fed, bare, IsOrder}

abbrev pub is_segment : BareWord → Bool
is_segment Segment = true
is_segment _ = false

-- the log grows by records
abbrev pub is_log : Order → Bool
is_log (logged rec) = true
is_log _ = false

-- the log grows by pieces of its bytes
abbrev pub is_piece : Order → Bool
is_piece (fed bytes) = true
is_piece (bare word) = is_segment word
is_piece _ = false

-- a script lets the log grow in one of these ways, and not in both
abbrev pub is_mixed : List Order → Bool
is_mixed orders = list_any is_log orders && list_any is_piece orders

-- the orders of lines, one after the other; an empty line has none
abbrev pub AreOrders : List (List ℕ) → List Order → Type 0
AreOrders [] orders = orders ≡ []
AreOrders ([] ∷ ls) orders = AreOrders ls orders
AreOrders ((b ∷ bs) ∷ ls) [] = ⊥
AreOrders ((b ∷ bs) ∷ ls) (o ∷ orders) = IsOrder (b ∷ bs) o × AreOrders ls orders

-- a text that is a script with these orders
pub record IsScript (text : List ℕ) (orders : List Order) : Type 0 where
  pub are_orders : AreOrders (lines text) orders
  pub one_way : is_mixed orders ≡ false

-- The line of this number, counted from 1, is not empty, and no order that it may have goes with
-- those before it, which go with one another.
pub record IsBadScriptLine (text : List ℕ) (number : ℕ) : Type 0 where
  pub front : List (List ℕ)
  pub line : List ℕ
  pub later : List (List ℕ)
  pub parts : lines text ≡ front ++ line ∷ later
  pub place : number ≡ length front + 1
  pub orders : List Order
  pub good : AreOrders front orders
  pub one_way : is_mixed orders ≡ false
  pub some : 0 < length line
  pub bad : (o : Order) → IsOrder line o → is_mixed (orders ++ o ∷ []) ≡ true

-- a fault is that of the first bad line; nothing is said about memory
abbrev pub IsFaultOfScript : List ℕ → ScriptFault → Type 0
IsFaultOfScript text fault.OutOfMemory = Unit {0}
IsFaultOfScript text (fault.Line number) = IsBadScriptLine text number
