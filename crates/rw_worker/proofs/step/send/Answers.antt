use Rattle.std.proofs.Common.{◌≡◌, ◌+◌, ◌-◌, ◌^◌, min, length, refl, ap, arith, rules}
use Rattle.rw_worker.specs.Report.{intake_drain}
use Rattle.rw_shard_core.proofs.shared.StepGuards.{cannot_take}
use Rattle.rw_worker.proofs.StateLemmas.{adds-none, adds-due, state-can_send, state-room, pending-few, steps-settled, steps-again, steps-waited, state-settled, state-again, state-waited}
use Rattle.rw_worker.proofs.step.send.Goals as goal

pub send_once-requires-clause-guard : goal.send_once-requires-clause-guard
send_once-requires-clause-guard g c = state-can_send _ _ _ _ _ _ _ (intake_drain c.args._intake.now) c.args.sending.now _ c.requires.state.sending c.requires.some

pub send_once-requires-clause-room : goal.send_once-requires-clause-room
send_once-requires-clause-room g c = state-room _ _ _ _ _ _ _ (intake_drain c.args._intake.now) c.args.sending.now _ c.requires.state.sending c.requires.core

pub overflow_add-sending : goal.overflow_add-sending
overflow_add-sending g c =
    let few = pending-few _ _ _ _ _ _ _ (intake_drain c.args._intake.now) c.args.sending.now _ c.requires.state.sending in
    let same = ap length c.pending_places.ensures in
    omega arith

pub returns-in-Ok-true-clause-state : goal.returns-in-Ok-true-clause-state
returns-in-Ok-true-clause-state g c =
    let s = c.args.sending.now in
    let p = c.args.pause.now in
    state-settled _ _ _ _ _ _ _ c.args._intake.now s _ p p c.in-Ok-true.field-0 c.in-Ok-true.field-0-test c.requires.state c.requires.some c.in-Ok-true.ensures.ok refl refl
    (adds-none (g.P.Pause.tells p) (g.P.Pause.paused p)) (ap (λ ps. s.resolved + length ps) c.pending_places.ensures)

pub returns-in-Ok-true-clause-steps : goal.returns-in-Ok-true-clause-steps
returns-in-Ok-true-clause-steps g c =
    let p = c.args.pause.now in
    steps-settled _ _ _ _ _ _ _ c.args._intake.now c.args.sending.now _ p p c.in-Ok-true.field-0 c.in-Ok-true.field-0-test c.requires.state c.requires.some c.in-Ok-true.ensures.ok refl refl
    (adds-none (g.P.Pause.tells p) (g.P.Pause.paused p))

pub returns-in-Ok-false-clause-state : goal.returns-in-Ok-false-clause-state
returns-in-Ok-false-clause-state g c =
    let s = c.args.sending.now in
    let counts : c.saturating_add-sending.result ≡ min (s.retries + 1) (2 ^ 64 - 1) = search rules in
    state-again _ _ _ _ _ _ _ c.args._intake.now s _ c.args.pause.now _ c.in-Ok-false.field-0 c.in-Ok-false.field-0-test c.requires.state c.requires.some c.in-Ok-false.ensures.ok counts refl
    (adds-due _ _ _ _ _ _ c.pause.ensures c.before-in-Ok-false.ensures) refl

pub returns-in-Ok-false-clause-steps : goal.returns-in-Ok-false-clause-steps
returns-in-Ok-false-clause-steps g c =
    let s = c.args.sending.now in
    let counts : c.saturating_add-sending.result ≡ min (s.retries + 1) (2 ^ 64 - 1) = search rules in
    steps-again _ _ _ _ _ _ _ c.args._intake.now s _ c.args.pause.now _ c.in-Ok-false.field-0 c.in-Ok-false.field-0-test c.requires.state c.requires.some c.in-Ok-false.ensures.ok counts refl
    (adds-due _ _ _ _ _ _ c.pause.ensures c.before-in-Ok-false.ensures)

pub returns-in-Err-clause-state : goal.returns-in-Err-clause-state
returns-in-Err-clause-state g c =
    let s = c.args.sending.now in
    state-waited _ _ _ _ _ _ _ c.args._intake.now s _ c.args.pause.now _ c.requires.state (cannot_take s.core c.requires.some) c.in-Err.ensures.err c.in-Err.ensures.err_ledger c.in-Err.ensures.err_transport refl refl refl
    (adds-due _ _ _ _ _ _ c.pause-in-Err.ensures c.least.ensures)

pub returns-in-Err-clause-steps : goal.returns-in-Err-clause-steps
returns-in-Err-clause-steps g c =
    let s = c.args.sending.now in
    steps-waited _ _ _ _ _ _ _ (intake_drain c.args._intake.now) s _ c.args.pause.now _ c.requires.state.sending (cannot_take s.core c.requires.some) c.in-Err.ensures.err c.in-Err.ensures.err_ledger c.in-Err.ensures.err_transport refl refl
    (adds-due _ _ _ _ _ _ c.pause-in-Err.ensures c.least.ensures)
