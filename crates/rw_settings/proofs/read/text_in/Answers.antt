use Rattle.rw_types.proofs.shared.TextLemmas.{passes, fails}
use Rattle.rw_settings.proofs.read.text_in.Goals as goal

pub returns-in-Ok-clause-utf8 : goal.returns-in-Ok-clause-utf8
returns-in-Ok-clause-utf8 c = passes _ c.in-Ok.ensures.cases.1

pub returns-in-Err-clause-utf8 : goal.returns-in-Err-clause-utf8
returns-in-Err-clause-utf8 c = fails _ c.in-Err.ensures.cases.0
