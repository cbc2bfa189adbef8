use Rattle.std.proofs.Common.{◌≡◌, ◌++◌, take, flat_map}
use Rattle.rw_report_text.specs.StateText.{dropped_text}
use Rattle.rw_send.proofs.printed_report.push_all_dropped.Given as goal

abbrev pub invariant-loop-name : goal.invariant-loop-name
invariant-loop-name l = l.out.items ≡ l.fn.out.items ++ flat_map dropped_text (take l.name-index l.names)
