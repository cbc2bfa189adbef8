use Rattle.std.proofs.Common.{sym, ap}
use Rattle.rw_kept_log.specs.Reading.{greatest_after}
use Rattle.rw_kept_log.proofs.greatest.Greatest.new.Goals as goal

pub invariant_of-result : goal.invariant_of-result
invariant_of-result g c = sym (ap (greatest_after 0) c.requires)
