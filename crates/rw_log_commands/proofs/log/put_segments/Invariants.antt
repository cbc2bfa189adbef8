use Rattle.std.proofs.Common.{List, ℕ}
use Rattle.rw_text.specs.RecordLines.{lines}
use Rattle.rw_log_commands.specs.LogText.{AreRecordsOfLines}
use Rattle.rw_log_commands.proofs.log.put_segments.Given as goal

abbrev pub invariant-loop-number : goal.invariant-loop-number
invariant-loop-number g l = (recs : List (List ℕ)) × AreRecordsOfLines (lines l.rest) recs
