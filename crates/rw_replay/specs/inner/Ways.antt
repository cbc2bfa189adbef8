-- The ways in which a script has let its log grow.
use Rattle.std.specs.Prelude.{◌≡◌, List, Bool, ◌&&◌, ◌||◌}
use Rattle.std.specs.List.{list_any}
use Rattle.rw_replay.specs.declared.ways.Ways.{Ways}
use Rattle.rw_replay.specs.ScriptText.{Order}
use Rattle.rw_replay.specs.Scripts.{is_log, is_piece}

-- just these were used
pub record AreWaysOf (w : Ways) (orders : List Order) : Type 0 where
  pub log : w.log ≡ list_any is_log orders
  pub pieces : w.pieces ≡ list_any is_piece orders

-- both
abbrev pub are_both : Ways → Bool
are_both w = w.log && w.pieces

-- one more order
abbrev pub with_order : Ways → Order → Ways
with_order w o = record { log = w.log || is_log o; pieces = w.pieces || is_piece o }
