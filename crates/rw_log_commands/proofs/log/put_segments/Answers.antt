use Rattle.rw_log_commands.proofs.shared.FillingLemmas.{rest_is_good}
use Rattle.rw_log_commands.proofs.log.put_segments.Goals as goal

pub loop-number-init : goal.loop-number-init
loop-number-init c d = (d.requires.good.records, d.requires.good.good)

pub loop-number-preserved : goal.loop-number-preserved
loop-number-preserved g c = rest_is_good c.args.pages c.loop-number.rest.now c.in_ok-filled.filled.segment.items c.in_ok-filled.filled.rest.now c.in_ok-filled.ensures c.loop-number.invariant
