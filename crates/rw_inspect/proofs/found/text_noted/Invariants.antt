use Rattle.std.proofs.Common.{◌≡◌, map, drop}
use Rattle.rw_inspect.specs.inner.Finding.{noted_at, told}
use Rattle.rw_inspect.proofs.found.text_noted.Given as goal

abbrev pub invariant-loop-note : goal.invariant-loop-note
invariant-loop-note l = noted_at (map told l.notes) l.position ≡ noted_at (map told (drop l.note-index l.notes)) l.position
