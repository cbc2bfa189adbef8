use Rattle.rw_types.proofs.shared.OrderLemmas.{equal_if_same, same_if_equal}
use Rattle.rw_types.proofs.label_set.equal_where_same.Goals as goal

pub returns : goal.returns
returns c = λ a b. (same_if_equal a b, equal_if_same a b)
