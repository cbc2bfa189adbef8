use Rattle.rw_in_memory.proofs.Held.{holds-in-memory}
use Rattle.rw_in_memory.proofs.laws.a_head_in_memory_holds_the_samples.Goals as goal

pub returns : goal.returns
returns c = holds-in-memory
