use Rattle.std.proofs.Common.{◌≡◌, drop}
use Rattle.toml.specs.View.{items_view}
use Rattle.rw_settings.specs.Notes.{noted}
use Rattle.rw_settings.specs.RuleTables.{with_rules_fault}
use Rattle.rw_settings.proofs.explain.note_rules.Given as goal

abbrev pub invariant-loop-i : goal.invariant-loop-i
invariant-loop-i l =
    with_rules_fault (noted l.notes.items) (items_view (drop l.i l.rules))
    ≡ with_rules_fault (noted l.initial.notes.items) (items_view l.rules)
