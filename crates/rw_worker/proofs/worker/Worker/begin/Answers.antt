use Rattle.std.proofs.Common.{refl, subst}
use Rattle.rw_worker.specs.Report.{IsState}
use Rattle.rw_worker.specs.Setups.{WorkerSetup}
use Rattle.rw_worker.specs.Steps.{working}
use Rattle.rw_worker.specs.declared.state.Intake.TheVariants as intake
use Rattle.rw_worker.proofs.StateLemmas.{state-begun}
use Rattle.rw_worker.proofs.worker.Worker.begin.Goals as goal

pub returns : goal.returns
returns g c =
    let i = c.self.invariant in
    let drain = c.self.inside.drain in
    let core = c.self.inside.core in
    let ledger = c.self.inside.ledger in
    let backoff = c.self.inside.backoff in
    let tally = c.self.inside.tally in
    let setup : WorkerSetup = record { queue = drain.queue; target = core.target; batch = core.full; min_backoff = backoff.0; max_backoff = backoff.1 } in
    subst (λ (s : WorkerSetup). IsState g.T.Transport.tells g.T.Transport.seen g.P.Pause.tells g.P.Pause.paused s c.args.transport c.args._pause.now (intake.Open drain) (record {
      core = core;
      ledger = ledger;
      backoff = backoff;
      resolved = 0;
      tally = tally;
      retries = 0;
      transport = c.args.transport;
    }) c.args._pause.now) c.self.view_is (state-begun g.T.Transport.tells g.T.Transport.seen g.P.Pause.tells g.P.Pause.paused setup c.args.transport c.args._pause.now drain core ledger backoff tally i.3 i.4 refl refl i.0 (λ j. working (i.1 j) (i.2 j)))
