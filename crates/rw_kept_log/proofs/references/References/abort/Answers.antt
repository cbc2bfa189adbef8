use Rattle.rw_kept_log.proofs.TableLemmas.{aborted}
use Rattle.rw_kept_log.proofs.references.References.abort.Goals as goal

pub invariant_of-self : goal.invariant_of-self
invariant_of-self c = aborted c.self.inside.sets.entries c.truncate.new.self.entries c.self.inside.defined c.self.inside.next c.self.invariant c.truncate.ensures.entries
