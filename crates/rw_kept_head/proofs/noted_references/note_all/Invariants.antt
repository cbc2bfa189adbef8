use Rattle.std.proofs.Common.{◌≡◌}
use Rattle.rw_kept_head.specs.inner.Noting.{CanNote, no_references, noted_from}
use Rattle.rw_kept_head.proofs.noted_references.note_all.Given as goal

abbrev pub invariant-loop-reference : goal.invariant-loop-reference
invariant-loop-reference l =
    CanNote l.references l.reference-iterator
    × (noted_from l.references l.reference-iterator ≡ noted_from (no_references l.next) l.fn.series.entries)
