use Rattle.std.proofs.Common.{sym, ◌∙◌}
use Rattle.rw_send.proofs.EpochSizeLemmas.{sizes_asked}
use Rattle.rw_send.proofs.sharding.retuned.Goals as goal

pub returns-clause-sizes : goal.returns-clause-sizes
returns-clause-sizes g c =
    let asked = c.args.sharding in
    sizes_asked asked.fewest asked.most asked.shards asked.placed asked.resolved c.lately-next.result.shards c.load.result c.args.shipper.now c.reshard.new.self c.reshard.result asked.range.1 c.load.ensures.placed
    (sym c.is_err.ensures.value ∙ c.if-is_err.false) c.reshard.ensures.compared c.reshard.ensures.drained c.reshard.ensures.opened c.lately-next.ensures.shards
