use Rattle.std.proofs.Common.{refl}
use Rattle.rw_metrics.proofs.lines.send_line.Goals as goal

pub returns : goal.returns
returns c = rw (c.in_ok-out.ensures, c.lag.ensures, c.percent.ensures) refl
