use Rattle.rw_worker.proofs.StateLemmas.{report-stopped}
use Rattle.rw_worker.proofs.step.give_up.Goals as goal

pub returns-clause-report : goal.returns-clause-report
returns-clause-report g c = report-stopped _ _ _ _ _ _ _ c.args.intake c.close.result c.args.stopped c.args._sending.now c.args._pause.now c.requires.state c.close.ensures c.requires.still
