use Rattle.std.proofs.Common.{sym, ◌∙◌, map, arith}
use Rattle.rw_types.specs.Labels.{text_label}
use Rattle.rw_types.proofs.shared.OrderLemmas.{equal_if_same, same_where_texts_are}
use Rattle.rw_head.proofs.NameLemmas.{stands_here}
use Rattle.rw_head.proofs.places.Places.if_at.Goals as goal

pub returns-then-eq : goal.returns-then-eq
returns-then-eq c =
    let l = map text_label c.args.texts.now in
    stands_here c.args.self.now.tree c.args.self.now.names.items c.args.place c.index.result.now l c.args.self.now.named (let len = c.len.ensures in omega arith) c.index.ensures
    (sym (equal_if_same c.index.result.now l (sym c.labels.ensures ∙ sym c.as_slice.ensures.labels ∙ same_where_texts_are c.as_slice.result.now c.args.texts.now c.if-eq.ensures)))
