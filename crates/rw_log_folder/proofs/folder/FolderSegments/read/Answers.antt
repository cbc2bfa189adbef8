use Rattle.std.proofs.Common.{ap, is_some, subst}
use Rattle.rw_follow.specs.Meals.{read_by}
use Rattle.rw_log_folder.specs.GrowingFolders.{HasGiven, key_at, state}
use Rattle.rw_log_folder.proofs.GrowingLemmas.{given_by, given_nothing}
use Rattle.rw_log_folder.proofs.folder.FolderSegments.read.Goals as goal

pub returns-in-None-clause-gives : goal.returns-in-None-clause-gives
returns-in-None-clause-gives g c start meal h = given_nothing c.args.buf.now (state c.begin.new.self) meal (c.begin.ensures.stays meal h)

pub returns-clause-gives : goal.returns-clause-gives
returns-clause-gives g c start meal h =
    let s = state c.begin.new.self in
    let key = ap key_at c.in-Some.is in
    subst (λ k. HasGiven (record s { current = k; calls = c.read-outcome.new.self }) (read_by c.read-outcome.result c.read-outcome.new.buf meal)) key
    (given_by c.read-outcome.result s c.read-outcome.new.self c.read-outcome.new.buf meal (ap is_some key) c.read-outcome.ensures.read c.read-outcome.ensures.failed (c.begin.ensures.stays meal h))
