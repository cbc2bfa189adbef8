use Rattle.std.proofs.Common.{lit<}
use Rattle.rw_kept_log.proofs.shared.CutLemmas.{checked}
use Rattle.rw_kept_log.proofs.laws.a_checked_cut_is_clean.Goals as goal

pub returns : goal.returns
returns c = λ text at within sound as_many. checked text at within sound as_many (lit< tt)
