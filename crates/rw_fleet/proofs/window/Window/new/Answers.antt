use Rattle.std.proofs.Common.{refl, sym, ◌∙◌}
use Rattle.std.proofs.Math.Seq.{drop-nil}
use Rattle.rw_fleet.proofs.window.Window.new.Goals as goal

pub invariant_of-result : goal.invariant_of-result
invariant_of-result c =
    let kept = c.in_ok-with_capacity.ensures in
    rw c.new.ensures (kept.items ∙ sym (drop-nil _), refl, c.requires, kept.capacity)
