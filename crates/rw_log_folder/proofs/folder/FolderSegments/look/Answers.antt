use Rattle.std.proofs.Common.{IfSome, inr, subst, rules}
use Rattle.rw_log_folder.specs.GrowingFolders.{IsBelow, IsMissingIn, IsPassed, state}
use Rattle.rw_log_folder.proofs.LackLemmas.{missing_passed}
use Rattle.rw_log_folder.proofs.folder.FolderSegments.look.Goals as goal

pub returns-in-Some-missing-clause-missing : goal.returns-in-Some-missing-clause-missing
returns-in-Some-missing-clause-missing g c n e =
    let s = state c.see_next.new.self in
    let known = c.in_ok-see_next.ensures in
    let passed : IsPassed s s.ahead c.in-Some-missing.number = subst (λ o. IfSome o (IsPassed s s.ahead)) c.in-Some-missing.is c.missing.ensures in
    let missing = missing_passed s c.in-Some-missing.number known.by_number (passed.0, subst (IsBelow c.in-Some-missing.number) known.seen passed.1) in
    inr (subst (IsMissingIn s) (search rules) missing, λ some. known.fresh)
