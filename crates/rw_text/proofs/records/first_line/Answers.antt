use Rattle.std.proofs.Common.{◌∙◌, ap}
use Rattle.rw_text.specs.RecordLines.{lines}
use Rattle.rw_text.proofs.shared.RecordLemmas.{lines-at, lines_of_one, nothing_left}
use Rattle.rw_text.proofs.records.first_line.Goals as goal

pub returns-in-Some-clause-parts : goal.returns-in-Some-clause-parts
returns-in-Some-clause-parts c = ap lines c.in-Some.ensures.0 ∙ lines-at c.in-Some.line.now c.in-Some.rest.now c.in-Some.ensures.1

pub returns-in-None-clause-parts : goal.returns-in-None-clause-parts
returns-in-None-clause-parts c = lines_of_one c.args.text.now _ c.requires c.in-None.ensures (nothing_left c.args.text.now)
