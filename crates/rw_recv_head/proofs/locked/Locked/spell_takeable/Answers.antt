use Rattle.std.proofs.Common.{Ok, ap, ap₂, ◌∙◌}
use Rattle.rw_write_request.specs.Message.{WriteRequest}
use Rattle.rw_head.specs.Partial.{takeable}
use Rattle.rw_head.specs.Store.{Store}
use Rattle.rw_head.specs.Verdicts.{LabelLimits}
use Rattle.rw_recv_head.proofs.locked.Locked.spell_takeable.Goals as goal

pub returns-clause-spells : goal.returns-clause-spells
returns-clause-spells g c =
    let i = c.self.invariant.0 in
    rw (← c.self.view_is) (
    (c.reads_spellings.ensures c.in_ok-text.text.items c.in_ok-part.part).1 c.in_ok-text.ensures.again
    ∙ ap (λ (m : WriteRequest). Ok m) (c.in_ok-part.ensures.takeable ∙ ap₂ (λ (limits : LabelLimits) (store : Store). takeable limits store c.args.message) i.limits i.holds)
    )
