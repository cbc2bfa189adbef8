use Rattle.std.proofs.Common.{◌≡◌, [], drop, ◌∙◌, arith}
use Rattle.std.proofs.lemmas.List.{drop_all}
use Rattle.toml.specs.View.{items_view}
use Rattle.rw_settings.specs.Notes.{noted}
use Rattle.rw_settings.proofs.NoteLemmas.{rules_from}
use Rattle.rw_settings.proofs.explain.note_rules.Goals as goal

pub returns : goal.returns
returns c =
    let none : drop c.loop-i.i c.args.rules.now ≡ [] = drop_all c.loop-i.i c.args.rules.now (omega arith) in
    rw none at c.loop-i.invariant ∙ rules_from (noted c.args.notes.now.items) (items_view c.args.rules.now)
