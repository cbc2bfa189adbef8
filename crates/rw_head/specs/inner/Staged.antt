-- Inner definitions beside those of Staged.antt: only invariants, private functions and
-- proofs use them.
use Rattle.std.specs.Prelude.{◌≤◌}
use Rattle.rw_types.specs.Beginnings.{Begins}
use Rattle.rw_types.specs.Labels.{Labels}
use Rattle.rw_head.specs.Growth.{EachRises}
use Rattle.rw_head.specs.inner.Growth.{HoldsNoneRefused}
use Rattle.rw_head.specs.Store.{Store, list_of, total, HasNoEmptyList}
use Rattle.rw_head.specs.Verdicts.{LabelLimits}

-- both are stores of a head, and each list of the first is a prefix of its list in the second
pub record IsStaging (limits : LabelLimits) (kept staged : Store) : Type 0 where
  pub rises : EachRises kept
  pub filled : HasNoEmptyList kept
  pub within : HoldsNoneRefused limits kept
  pub rises_after : EachRises staged
  pub filled_after : HasNoEmptyList staged
  pub within_after : HoldsNoneRefused limits staged
  pub more : total kept ≤ total staged
  pub begins : (l : Labels) → Begins (list_of kept l) (list_of staged l)
