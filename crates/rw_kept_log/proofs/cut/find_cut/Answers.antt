use Rattle.std.proofs.Common.{subst}
use Rattle.rw_kept_log.specs.inner.Reading.{IsFaultOf}
use Rattle.rw_kept_log.proofs.shared.ReopeningLemmas.{cut_at_end, is_whole}
use Rattle.rw_kept_log.proofs.cut.find_cut.Goals as goal

pub returns-in_default-clause-cut : goal.returns-in_default-clause-cut
returns-in_default-clause-cut c = cut_at_end c.args.text.now (is_whole c.args.text.now (subst (IsFaultOf c.args.text.now) c.in_default.is c.requires.fault_is))
