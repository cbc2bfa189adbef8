use Rattle.std.proofs.Common.{subst, refl}
use Rattle.rw_kept_log.specs.inner.Reopening.{IsFound}
use Rattle.rw_kept_log.proofs.shared.ReopeningLemmas.{ends_empty, ends_cut}
use Rattle.rw_kept_log.proofs.log_reading.end_log.Goals as goal

pub returns-in-Nothing-clause-end : goal.returns-in-Nothing-clause-end
returns-in-Nothing-clause-end c = λ ss taken high found. ends_empty ss taken c.args.greatest _ high (subst (IsFound ss taken) c.in-Nothing.is found) refl c.new.ensures.items refl refl

pub returns-in-Ok-clause-end : goal.returns-in-Ok-clause-end
returns-in-Ok-clause-end c = λ ss taken high found. ends_cut ss taken c.args.greatest c.in-Last.last _ high (subst (IsFound ss taken) c.in-Last.is found) c.in-Ok.is refl refl refl
