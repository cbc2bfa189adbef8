use Rattle.std.proofs.Common.{rules, length, ◌≤◌}
use Rattle.rw_kept_log.proofs.shared.HoldLemmas.{holds_empty}
use Rattle.rw_kept_log.proofs.records.put_last.Goals as goal

pub returns-then-is_empty : goal.returns-then-is_empty
returns-then-is_empty c = let none : length c.args.samples.now ≤ 0 = search rules in holds_empty c.args.writer.now c.args.samples.now none
