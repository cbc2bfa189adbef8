-- Inner definitions beside those of Hashing.antt: only invariants, private functions and
-- proofs use them.
use Rattle.std.specs.Prelude.{◌≡◌, IsTrue}
use Rattle.std.proofs.Common.{ap}
use Rattle.rw_types.specs.Labels.{Labels}
use Rattle.rw_types.specs.LabelOrder.{labels_eq}
use Rattle.rw_types.specs.inner.LabelOrder.{same_if_equal}
use Rattle.rw_types.specs.Hashing.{hash_input}

-- labels that compare as equal are fed alike
pub same_input : (x y : Labels) → IsTrue (labels_eq x y) → hash_input x ≡ hash_input y
same_input x y e = ap hash_input (same_if_equal x y e)
