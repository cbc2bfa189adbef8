use Rattle.std.proofs.Common.{sym, ap, ◌∙◌, ℕ, drop}
use Rattle.rw_in_flight.specs.InFlight.{first_open}
use Rattle.rw_in_flight.specs.declared.body.Body.{Body}
use Rattle.rw_in_flight.proofs.BodyLemmas.{stops, ended, one_closes, one_passes}
use Rattle.rw_in_flight.proofs.sums.first_open.Goals.{then-body-first, else-body-first}
use Rattle.rw_in_flight.proofs.sums.first_open.Goals as goal

pub returns-then-need-eq0 : goal.returns-then-need-eq0
returns-then-need-eq0 c =
    let rest = drop c.loop-body.body-index c.args.bodies.now in
    sym (c.loop-body.invariant ∙ ap (λ (n : ℕ). first_open n c.loop-body.first rest) c.if-need-eq0.true ∙ stops c.loop-body.first rest)

pub loop-body-preserved : goal.loop-body-preserved
loop-body-preserved c =
    let bodies = c.args.bodies.now in let i = c.loop-body.body-index in let d : Body = record { number = 0; bytes = 0 } in
    elim c.if-body-first.branch [
      | then-body-first w ↦
          rw (w.need-is, w.first-is, w.saturating_sub-need.ensures)
          (c.loop-body.invariant ∙ one_closes c.loop-body.need c.loop-body.first i bodies d c.loop-body-test.true c.if-need-eq0.false w.if-body-first.true)
      | else-body-first w ↦
          rw (w.need-is, w.first-is)
          (c.loop-body.invariant ∙ one_passes c.loop-body.need c.loop-body.first i bodies d c.loop-body-test.true c.if-need-eq0.false w.if-body-first.false)
    ]

pub returns : goal.returns
returns c = sym (c.loop-body.invariant ∙ ended c.loop-body.need c.loop-body.first c.loop-body.body-index c.args.bodies.now c.loop-body-test.false)
