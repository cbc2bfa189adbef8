use Rattle.std.proofs.Common.{inl, refl, sym}
use Rattle.rw_send.proofs.PrintLemmas.{fault_is, if_ok, prints_all, prints_part, prints_so}
use Rattle.rw_send.proofs.follow.run_kept.Goals as goal

pub returns-in_err-report-clause-prints : goal.returns-in_err-report-clause-prints
returns-in_err-report-clause-prints g c = λ start h. prints_so _ _ _ _ _ _ _ _ _ _ _ _ _ _ _ (fault_is _ _ c.from_residual.ensures.1) (inl refl)

pub returns-in_err-print_report-clause-prints : goal.returns-in_err-print_report-clause-prints
returns-in_err-print_report-clause-prints g c = λ start h.
    let printed = c.in_err-print_report.ensures in
    prints_so _ _ _ _ _ _ _ _ _ _ _ _ _ _ _ (fault_is _ _ c.from_residual-in_err-print_report.ensures.1)
    (prints_part _ _ _ _ _ _ _ _ _ _ _ _ _ _ _ _ (c.in_ok-report.ensures start h) printed.faults printed.memory printed.device)

pub returns-clause-prints : goal.returns-clause-prints
returns-clause-prints g c = λ start h. prints_so _ _ _ _ _ _ _ _ _ _ _ _ _ _ _ (sym c.at.ensures) (prints_all _ _ _ _ _ _ _ _ _ _ _ _ _ _ _ (c.in_ok-report.ensures start h) c.in_ok-print_report.ensures.ok)

pub returns-clause-sound : goal.returns-clause-sound
returns-clause-sound g c = if_ok _ c.in_ok-print_report.ensures.sound
