-- Inner definitions beside those of Growth.antt: only invariants, private functions and
-- proofs use them.
use Rattle.std.specs.Prelude.{◌≡◌, None, true}
use Rattle.rw_types.specs.Labels.{Labels}
use Rattle.rw_head.specs.Lists.{has_samples}
use Rattle.rw_head.specs.inner.Lists.{Stores}
use Rattle.rw_head.specs.Store.{Store, list_of, HasNoEmptyList}
use Rattle.rw_head.specs.Verdicts.{LabelLimits, refusal}
use Rattle.rw_head.specs.Growth.{EachRises}

-- nothing is staged nor noted, and what is kept is in order
pub record IsReady (stores : Stores) : Type 0 where
  pub settled : stores.staged ≡ stores.kept
  pub rises : EachRises stores.kept
  pub filled : HasNoEmptyList stores.kept
  pub unnoted : stores.noted ≡ 0

-- no label set that has samples is refused by these limits
abbrev pub HoldsNoneRefused : LabelLimits → Store → Type 0
HoldsNoneRefused limits store =
    (l : Labels) → has_samples (list_of store l) ≡ true → refusal limits l ≡ None
