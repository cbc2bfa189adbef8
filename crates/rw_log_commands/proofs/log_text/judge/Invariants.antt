use Rattle.std.proofs.Common.{length}
use Rattle.rw_log_commands.proofs.LogTextLemmas.{Judged}
use Rattle.rw_log_commands.proofs.log_text.judge.Given as goal

abbrev pub invariant-loop-rest : goal.invariant-loop-rest
invariant-loop-rest l = Judged l.text l.rest l.number l.longest

abbrev pub decreases-loop-rest : goal.decreases-loop-rest
decreases-loop-rest l = length l.rest
