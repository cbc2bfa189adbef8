use Rattle.std.proofs.Common.{None, Some, inl, refl, sym, ap, ◌∙◌}
use Rattle.rw_worker.specs.declared.report.TakingEnd.TheVariants as end
use Rattle.rw_worker.specs.Report.{given_back}
use Rattle.rw_worker.specs.Stops.{StopRead}
use Rattle.rw_worker.proofs.StateLemmas.{opened, report-killed, report-whole, stopped-at}
use Rattle.rw_worker.proofs.step.go_on.Goals as goal

pub returns-in-Some-clause-progress : goal.returns-in-Some-clause-progress
returns-in-Some-clause-progress g c = report-killed _ _ _ _ _ _ _ c.in-Open.drain c.kill.result (Some c.in-Some.stopped) None c.args.sending.now c.args.pause.now (opened _ _ _ _ _ _ _ c.args.intake c.in-Open.drain c.args.sending.now c.args.pause.now c.requires.state c.in-Open.is) c.kill.ensures (ap (λ (x : StopRead). x.resolved) c.in-Some.ensures, tt) (inl refl)

pub returns-in-Ended-clause-progress : goal.returns-in-Ended-clause-progress
returns-in-Ended-clause-progress g c = report-whole _ _ _ _ _ _ _ c.args.intake c.in-Ended.kind c.in-Ended.drain c.args.sending.now c.args.pause.now c.requires.state c.in-Ended.is c.requires.can

pub returns-in-Some-clause-stopped : goal.returns-in-Some-clause-stopped
returns-in-Some-clause-stopped g c = stopped-at c.args.stop.now c.args.intake c.args.sending.now _ _ (ap end.Killed c.kill.ensures ∙ sym (ap given_back c.in-Open.is)) c.in-Some.ensures
