use Rattle.std.proofs.Common.{length}
use Rattle.rw_log_commands.proofs.shared.FillingLemmas.{Filling}
use Rattle.rw_log_commands.proofs.filled.fill.Given as goal

abbrev pub invariant-loop-alloc : goal.invariant-loop-alloc
invariant-loop-alloc l = Filling l.pages l.text l.writer l.rest

abbrev pub decreases-loop-alloc : goal.decreases-loop-alloc
decreases-loop-alloc l = length l.rest
