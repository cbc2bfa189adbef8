use Rattle.std.proofs.Common.{sym, w64, FitsSigned, rules}
use Rattle.std.proofs.Math.Facts.{to_z-of_z}
use Rattle.rw_head.proofs.shared.OrderLemmas.{later_of_last}
use Rattle.rw_head.proofs.blocks.is_later.Goals as goal

pub returns-in-Some : goal.returns-in-Some
returns-in-Some c =
    let fits : FitsSigned w64 c.in-Some.last.now.0 = search rules in
    rw (to_z-of_z fits, to_z-of_z c.ranges.t) (sym (later_of_last c.args.t c.args.samples.now c.in-Some.last.now c.in-Some.ensures.value))
