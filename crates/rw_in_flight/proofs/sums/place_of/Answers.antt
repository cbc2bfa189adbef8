use Rattle.std.proofs.Common.{◌≡◌, ◌==◌, false, ne_eqb}
use Rattle.std.proofs.lemmas.List.{take_all}
use Rattle.std.proofs.lemmas.List.Elements.{All-more}
use Rattle.rw_in_flight.specs.declared.body.Body.{Body}
use Rattle.rw_in_flight.proofs.sums.place_of.Goals as goal

pub loop-i-preserved : goal.loop-i-preserved
loop-i-preserved c =
    All-more (λ (b : Body). (b.number == c.args.number) ≡ false) c.args.bodies.now c.loop-i.i (record { number = 0; bytes = 0 }) c.loop-i-test.true c.loop-i.invariant
    (ne_eqb _ _ c.if-body-number.false)

pub returns : goal.returns
returns c = rw (take_all c.loop-i.i c.args.bodies.now c.loop-i-test.false) at c.loop-i.invariant
