-- Inner definitions of how the log of a head is read: only an invariant and proofs use them.
use Rattle.std.specs.Prelude.{◌≡◌, ℕ, false}
use Rattle.rw_head.specs.Verdicts.{LabelLimits}
use Rattle.rw_kept_head.specs.inner.Restoring.{Restored}

-- the head that is made has these limits, and memory did not run out
pub record IsMadeWith (restored : Restored) (limits : LabelLimits) (busy : ℕ) : Type 0 where
  pub limits_are : restored.head.limits ≡ limits
  pub busy_is : restored.head.busy ≡ busy
  pub whole : restored.failed ≡ false
