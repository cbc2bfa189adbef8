use Rattle.rw_settings.specs.Notes.{noted, IsLeastNoted}
use Rattle.rw_settings.proofs.explain.note_patterns.Given as goal

abbrev pub invariant-loop-i : goal.invariant-loop-i
invariant-loop-i l = IsLeastNoted (noted l.initial.notes.items) (noted l.notes.items)
