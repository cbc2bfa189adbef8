use Rattle.rw_worker.specs.Report.{IsStateFrom}
use Rattle.rw_worker.proofs.worker.Worker.run.Given as goal

abbrev pub invariant-loop : goal.invariant-loop
invariant-loop g l = IsStateFrom g.T.Transport.tells g.T.Transport.seen g.P.Pause.tells g.P.Pause.paused l.start l.intake l.sending l.pause
