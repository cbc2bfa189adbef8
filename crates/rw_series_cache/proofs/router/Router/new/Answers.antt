use Rattle.rw_series_cache.proofs.shared.KnowsLemmas.{knows_none}
use Rattle.rw_series_cache.proofs.router.Router.new.Goals as goal

pub returns-clause-knows : goal.returns-clause-knows
returns-clause-knows c = knows_none c.args.choice c.new.result c.new.ensures
