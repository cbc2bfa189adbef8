use Rattle.std.proofs.Common.{◌∙◌}
use Rattle.rw_types.proofs.shared.TextLemmas.{decided}
use Rattle.rw_text.proofs.lines.is_utf8_text.Goals as goal

pub returns : goal.returns
returns c = c.is_ok.ensures.value ∙ decided _ _ _ _ c.from_utf8.ensures.cases
