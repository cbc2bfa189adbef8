use Rattle.std.proofs.Common.{◌≡◌, ◌++◌}
use Rattle.rw_types.specs.Labels.{Labels}
use Rattle.rw_head.specs.Added.{samples_added}
use Rattle.rw_kept_log.specs.References.{AreReferenced, points_of, only_defined}
use Rattle.rw_kept_head.proofs.added.collect.Given as goal

abbrev pub invariant-loop-series : goal.invariant-loop-series
invariant-loop-series g l =
    AreReferenced l.references l.samples.items
    × ((m : Labels) → points_of l.references m l.samples.items ++ samples_added m l.series-iterator ≡ samples_added m l.staged.added)
    × (only_defined l.references ≡ only_defined l.initial.references)
