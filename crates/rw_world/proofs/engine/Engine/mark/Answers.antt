use Rattle.std.proofs.Common.{◌∙◌, sym}
use Rattle.rw_world.proofs.RoundLemmas.{last_restart, last_flush, last_none}
use Rattle.rw_world.proofs.engine.Engine.mark.Goals as goal

pub returns-then-not-is_ending : goal.returns-then-not-is_ending
returns-then-not-is_ending c =
    let m = c.args.self.now in
    last_restart m.setup m.world (sym c.is_ending.ensures ∙ c.if-not-is_ending.true)

pub returns-in-Some : goal.returns-in-Some
returns-in-Some c =
    let m = c.args.self.now in
    last_flush m.setup m.world c.in-Some.i (sym c.is_ending.ensures ∙ c.if-not-is_ending.false) (sym c.in-Some.ensures)

pub returns-in-None : goal.returns-in-None
returns-in-None c =
    let m = c.args.self.now in
    last_none m.setup m.world (sym c.is_ending.ensures ∙ c.if-not-is_ending.false) (sym c.in-None.ensures)
