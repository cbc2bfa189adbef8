use Rattle.rw_kept_folder.proofs.NotedLemmas.{own_if_only}
use Rattle.rw_kept_folder.proofs.open_folder.OpenFolder.new.Goals as goal

pub invariant_of-result : goal.invariant_of-result
invariant_of-result g c = (c.requires.count, own_if_only c.args.noted c.requires.synced)
