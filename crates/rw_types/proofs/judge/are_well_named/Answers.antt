use Rattle.rw_types.proofs.NameLemmas.{all_well_named}
use Rattle.rw_types.proofs.judge.are_well_named.Goals as goal

pub returns-in-Utf8 : goal.returns-in-Utf8
returns-in-Utf8 g c = all_well_named c.args.names g.L.LabelBytes.shown c.args.labels.now c.in-Utf8.is
