-- What a planner keeps.
use Rattle.std.specs.Prelude.{List, Bool}
use Rattle.rw_types.specs.Labels.{Labels}
use Rattle.rw_types.specs.declared.entry.Entry.{Entry}
use Rattle.rw_relabel.specs.declared.choice.Choice.{Choice}

-- the rules, the labels that are added, the entries so far without them, and whether a call was
-- refused
pub record Planned : Type 0 where
  pub choice : Choice
  pub external : Labels
  pub entries : List Entry
  pub has_failed : Bool
