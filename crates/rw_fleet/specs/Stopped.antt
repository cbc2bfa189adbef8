-- The shards of all epochs that have ended, and what they leave.
use Rattle.std.specs.Prelude.{ℕ, List, [], ◌∷◌, ◌++◌, flat_map}
use Rattle.std.specs.FinMap.{entries}
use Rattle.rw_ledger.specs.Names.{Named}
use Rattle.rw_ledger.specs.declared.ledger.Reason.{Reason}
use Rattle.rw_fleet.specs.declared.joined.StoppedShard.{StoppedShard}

-- Shards that have ended, oldest first; of how many of the first ones only sums and the refused
-- samples are kept; and for how many more shards there is room.
pub record StoppedList (T : Type 0) : Type 0 where
  pub items : List (StoppedShard T)
  pub folded : ℕ
  pub room : ℕ

-- the refused samples of a shard
abbrev pub part_of : {T : Type 0} → StoppedShard T → Named
part_of j = j.part

-- the dropped samples of all parts
abbrev pub names_in_parts : List Named → List (ℕ × Reason)
names_in_parts parts = flat_map (λ (part : Named). entries part.names) parts

-- the positions of the samples that shards were put and that are not resolved
abbrev pub abandoned_in : {T : Type 0} → List (StoppedShard T) → List ℕ
abandoned_in [] = []
abandoned_in (j ∷ js) = j.abandoned.items ++ abandoned_in js
