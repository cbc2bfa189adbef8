-- What a report lists: the samples that were left, and those that were dropped.
use Rattle.std.specs.Prelude.{◌≡◌, ◌==◌, ℕ, Bool, false, List, Some, slice_get}
use Rattle.std.specs.List.{list_any}
use Rattle.std.specs.FinMap.{get}
use Rattle.rw_ledger.specs.declared.ledger.Reason.{Reason}
use Rattle.rw_ledger.specs.Names.{Named}
use Rattle.rw_shard_core.specs.declared.outcome.Outcome.{Outcome}
use Rattle.rw_shard_core.specs.declared.outcome.Outcome.TheVariants.{Complete, Abandoned, Damaged}

-- the outcome lists this position among those that were left
abbrev pub is_left : Outcome → ℕ → Bool
is_left (Complete end) p = false
is_left (Abandoned placed samples) p = list_any (λ (q : ℕ). q == p) samples.items
is_left (Damaged f) p = false

-- a part of the report names the position, with this reason
abbrev pub IsNamedIn : List Named → ℕ → Reason → Type 0
IsNamedIn parts p reason = (k : ℕ) × (part : Named) × (slice_get parts k ≡ Some part)
    × (get part.names p ≡ Some reason)
