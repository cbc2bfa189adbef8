use Rattle.rw_head.proofs.PartialLemmas.{all_taken, all_whole, only_whole}
use Rattle.rw_head.proofs.laws.what_can_be_taken_is_taken.Goals as goal

pub returns : goal.returns
returns c = record { taken = all_taken; whole = λ limits store next m h e. all_whole limits store next m h e; only = only_whole }
