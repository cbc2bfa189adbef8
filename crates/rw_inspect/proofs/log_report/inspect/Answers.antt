use Rattle.std.proofs.Common.{Err, ap, sym}
use Rattle.rw_inspect.proofs.InspectLemmas.{handed_on, reported_first}
use Rattle.rw_inspect.proofs.log_report.inspect.Goals as goal

pub returns-clause-ok : goal.returns-clause-ok
returns-clause-ok g c = reported_first _ _ _ _ _ _ c.in_ok-read.ensures.ok c.in_ok-report_of.ensures

pub returns-in_err-read-clause-sure : goal.returns-in_err-read-clause-sure
returns-in_err-read-clause-sure g c = λ all u is.
    c.in_err-read.ensures.sure all u (ap Err (sym (handed_on _ _ _ c.from_residual.ensures.1 is)))
