use Rattle.std.proofs.Common.{refl}
use Rattle.rw_metrics.proofs.sender_html.push_reading.Goals as goal

pub returns : goal.returns
returns c = rw (c.in_ok-push_table.ensures, c.percent.ensures) refl
