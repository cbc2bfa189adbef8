use Rattle.std.proofs.Common.{arith}
use Rattle.rw_fleet.proofs.shared.LaneLemmas.{set_up_same}
use Rattle.rw_fleet.proofs.fleet.ShardSet.mark.Goals as goal

pub invariant_of-self : goal.invariant_of-self
invariant_of-self g c =
    let i = c.self.invariant in
    let n = c.mark_all.ensures.len in
    let a = i.3 in
    let b = i.4 in
    let d = i.6 in
    (i.0, i.1, set_up_same c.self.inside.config _ _ c.mark_all.ensures.same i.2, omega arith, omega arith, i.5, omega arith, i.7, i.8)
