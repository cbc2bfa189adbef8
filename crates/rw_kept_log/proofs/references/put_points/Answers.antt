use Rattle.std.proofs.Common.{rules, ap, ◌∙◌, ◌++◌, ◌∷◌, [], ℤ, w64}
use Rattle.std.proofs.lemmas.Int.{to_z-of_z}
use Rattle.std.specs.Prelude.{FitsSigned}
use Rattle.rw_kept_log.proofs.PlaceLemmas.{with_next}
use Rattle.rw_kept_log.proofs.references.put_points.Goals as goal

pub loop-point-preserved : goal.loop-point-preserved
loop-point-preserved c =
    let fits : FitsSigned w64 c.point-item.result.0 = search rules in
    with_next c.args.reference c.loop-point.point-index c.args.new.now c.point-item.result c.args.samples.now.items c.loop-point.samples.items c.push.new.self.items c.loop-point-test.true c.point-item.is
    c.loop-point.invariant
    (c.in_ok-push.ensures.items ∙ ap (λ (z : ℤ). c.loop-point.samples.items ++ (c.args.reference, z, c.point-item.result.1) ∷ []) (to_z-of_z w64 c.point-item.result.0 fits))
