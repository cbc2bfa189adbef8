use Rattle.rw_sender.proofs.FeederLemmas.{feeder_begun}
use Rattle.rw_sender.proofs.feeder.Feeder.with_tail.Goals as goal

pub invariant_of-result : goal.invariant_of-result
invariant_of-result c = feeder_begun _ _ _ _ _ c.requires c.new.ensures.knows c.new.ensures.filtered c.new-2.ensures.names c.new-3.ensures
