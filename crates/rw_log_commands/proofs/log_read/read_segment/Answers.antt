use Rattle.rw_log_commands.proofs.PlanRuns.{begins_one}
use Rattle.rw_log_commands.proofs.TakingLemmas.{damage_is_fault, on_error, reads_whole, says_so, stops_segment, stops_unread, whole_segment}
use Rattle.rw_log_commands.proofs.log_read.read_segment.Goals as goal

pub returns-clause-ok : goal.returns-clause-ok
returns-clause-ok g c = whole_segment c.args.may_compress _ _ _ (reads_whole c.args.may_compress _ _ _ _ _ _ (c.in_ok-read.ensures.ok _ (begins_one _)) c.in-None.is)

pub returns-in-Some-clause-err : goal.returns-in-Some-clause-err
returns-in-Some-clause-err g c =
    stops_segment c.args.may_compress _ _ _ _ (says_so c.args.may_compress _ c.in-Some.damage _ (damage_is_fault c.args.may_compress _ _ _ _ _ _ c.in-Some.damage (c.in_ok-read.ensures.ok _ (begins_one _)) c.in-Some.is) c.from.ensures)

pub returns-in_err-read-clause-err : goal.returns-in_err-read-clause-err
returns-in_err-read-clause-err g c =
    let failed = c.in_err-read.ensures in
    on_error _ _ _ c.from_residual.ensures.1 (stops_unread c.args.may_compress _ _ _ _ _ (failed.no_log, failed.no_line, failed.no_full, failed.device))
