use Rattle.std.proofs.Common.{length}
use Rattle.rw_kept_log.proofs.shared.HoldLemmas.{HasPut}
use Rattle.rw_kept_log.proofs.records.put_samples.Given as goal

abbrev pub invariant-loop-rest : goal.invariant-loop-rest
invariant-loop-rest l = HasPut l.initial.writer l.writer l.samples l.rest

abbrev pub decreases-loop-rest : goal.decreases-loop-rest
decreases-loop-rest l = length l.rest
