use Rattle.std.proofs.Common.{refl}
use Rattle.rw_worker.specs.Report.{intake_drain}
use Rattle.rw_worker.proofs.StateLemmas.{adds-due, steps-frozen, steps-waited, state-frozen, state-waited}
use Rattle.rw_worker.proofs.step.freeze.Goals as goal

pub returns-in-Ok-clause-state : goal.returns-in-Ok-clause-state
returns-in-Ok-clause-state g c = state-frozen _ _ _ _ _ _ _ c.args._intake.now c.args.sending.now c.args.pause.now c.freeze.new.self c.freeze.new.ledger c.requires.state c.requires.full c.requires.none c.in-Ok.ensures.core c.in-Ok.ensures.ledger

pub returns-in-Ok-clause-steps : goal.returns-in-Ok-clause-steps
returns-in-Ok-clause-steps g c = steps-frozen _ _ _ _ _ _ _ c.args._intake.now c.args.sending.now c.args.pause.now c.freeze.new.self c.freeze.new.ledger c.requires.state c.requires.full c.requires.none c.in-Ok.ensures.core c.in-Ok.ensures.ledger

pub returns-in-Err-clause-state : goal.returns-in-Err-clause-state
returns-in-Err-clause-state g c =
    state-waited _ _ _ _ _ _ _ c.args._intake.now c.args.sending.now _ c.args.pause.now _ c.requires.state c.requires.full c.in-Err.ensures.err c.in-Err.ensures.err_ledger refl refl refl refl
    (adds-due _ _ _ _ _ _ c.pause.ensures c.least.ensures)

pub returns-in-Err-clause-steps : goal.returns-in-Err-clause-steps
returns-in-Err-clause-steps g c =
    steps-waited _ _ _ _ _ _ _ (intake_drain c.args._intake.now) c.args.sending.now _ c.args.pause.now _ c.requires.state.sending c.requires.full c.in-Err.ensures.err c.in-Err.ensures.err_ledger refl refl refl
    (adds-due _ _ _ _ _ _ c.pause.ensures c.least.ensures)
