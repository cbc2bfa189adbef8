use Rattle.std.proofs.Common.{take}
use Rattle.std.specs.Prelude.{drop}
use Rattle.rw_sender.proofs.FeederLemmas.{begins_seen}
use Rattle.rw_sender.proofs.feeder.Feeder.finish.Goals as goal

pub returns-clause-begins : goal.returns-clause-begins
returns-clause-begins c =
    let s = c.self.inside in
    begins_seen s.router.cache.choice s.labels s.tail (take s.count s.read) (drop s.count s.read) _ c.self.invariant.taken c.self.view_is
