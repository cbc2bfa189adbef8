use Rattle.rw_batch.proofs.GroupsLemmas.{found_in}
use Rattle.rw_batch.proofs.grouping.Grouping.place_of.Goals as goal

pub returns-else-is_at-2-clause-some : goal.returns-else-is_at-2-clause-some
returns-else-is_at-2-clause-some c = found_in c.args.number c.self.inside.numbers.keys c.self.inside.series.items c.args.self.now c.get_index_of.result c.self.view_is c.get_index_of.ensures.index
