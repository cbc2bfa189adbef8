-- What a cache is, and what it keeps.
use Rattle.std.specs.Prelude.{ℤ, List}
use Rattle.std.specs.Ordering.{nat_cmp}
use Rattle.std.specs.FinMap.{FinMap}
use Rattle.rw_types.specs.declared.entry.Entry.{Entry}
use Rattle.rw_relabel.specs.declared.choice.Choice.{Choice}

-- the rules, the definitions that were taken, and the latest timestamp that was noted of each
-- series, by its number
pub record Taken : Type 0 where
  pub choice : Choice
  pub definitions : List Entry
  pub noted : FinMap nat_cmp ℤ
