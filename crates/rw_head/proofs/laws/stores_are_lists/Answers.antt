use Rattle.rw_head.proofs.shared.StoreLemmas.{list_of-empty, list_of-with_list, same_store}
use Rattle.rw_head.proofs.laws.stores_are_lists.Goals as goal

pub returns : goal.returns
returns c = record { none = list_of-empty; one = list_of-with_list; same = same_store }
