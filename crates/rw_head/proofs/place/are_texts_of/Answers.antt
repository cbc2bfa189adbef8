use Rattle.std.proofs.Common.{sym, ◌∙◌}
use Rattle.rw_types.proofs.shared.OrderLemmas.{same_where_texts_are}
use Rattle.rw_head.proofs.place.are_texts_of.Goals as goal

pub returns : goal.returns
returns c = λ yes. sym c.as_slice.ensures.labels ∙ same_where_texts_are c.as_slice.result.now c.args.texts.now (sym yes ∙ c.eq.ensures)
