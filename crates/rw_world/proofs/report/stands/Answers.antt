use Rattle.std.proofs.Common.{◌∙◌}
use Rattle.rw_world.proofs.ReportLemmas.{searched_is}
use Rattle.rw_world.proofs.report.stands.Goals as goal

pub returns : goal.returns
returns c = c.is_ok.ensures.value ∙ searched_is c.args.positions.now c.args.pos c.binary_search.result c.requires c.binary_search.ensures.position
