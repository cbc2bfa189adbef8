use Rattle.rw_head.proofs.shared.StoreLemmas.{HasNoEmptyList-empty, HasNoEmptyList-with_list}
use Rattle.rw_head.proofs.laws.stores_hold_no_empty_list.Goals as goal

pub returns : goal.returns
returns c = record { none = HasNoEmptyList-empty; one = HasNoEmptyList-with_list }
