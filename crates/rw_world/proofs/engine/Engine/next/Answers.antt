use Rattle.std.proofs.Common.{◌∙◌, sym}
use Rattle.rw_world.proofs.RoundLemmas.{open_at, next_place, next_last}
use Rattle.rw_world.proofs.engine.Engine.next.Goals as goal

pub exchange-requires : goal.exchange-requires
exchange-requires c = open_at c.args.self.now.world.shards c.in-Some.i (sym c.first_open.ensures ∙ c.in-Some.is)

pub returns-then-can_place : goal.returns-then-can_place
returns-then-can_place c =
    let m = c.args.self.now in
    next_place m.setup m.world (sym c.can_place.ensures ∙ c.if-can_place.true)

pub returns : goal.returns
returns c =
    let m = c.args.self.now in
    c.mark.ensures
    ∙ next_last m.setup m.world (sym c.can_place.ensures ∙ c.if-can_place.false) (sym c.first_open.ensures ∙ c.in_default.is) (sym c.first_due.ensures ∙ c.in_default-first_due.is) (sym c.first_taking.ensures ∙ c.in_default-first_taking.is)
