use Rattle.std.proofs.Common.{◌≡◌, ◌++◌, take, flat_map}
use Rattle.rw_report_text.specs.StateText.{abandoned_text}
use Rattle.rw_report_text.proofs.state.push_all_abandoned.Given as goal

abbrev pub invariant-loop-pos : goal.invariant-loop-pos
invariant-loop-pos l = l.out.items ≡ l.fn.out.items ++ flat_map abandoned_text (take l.pos-index l.samples)
