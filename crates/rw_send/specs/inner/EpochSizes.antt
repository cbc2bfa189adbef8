-- Inner definitions beside those of EpochSizes.antt: only invariants, private functions and
-- proofs use them.
use Rattle.std.specs.Prelude.{ℕ}
use Rattle.rw_fleet.specs.Fleets.{Shards}
use Rattle.rw_send.specs.EpochSizes.{HasEpochSizes}

-- if each epoch had as many shards as it may, it still has
abbrev pub KeepsEpochSizes : {T : Type 0} → (fewest most : ℕ) → Shards T → Shards T → Type 0
KeepsEpochSizes fewest most old new = (first : ℕ) → HasEpochSizes first fewest most old → HasEpochSizes first fewest most new
