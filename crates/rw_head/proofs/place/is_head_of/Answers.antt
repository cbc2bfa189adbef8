use Rattle.std.proofs.Common.{◌≡◌, length, rules}
use Rattle.rw_head.proofs.shared.BodyLemmas.{head_spelled}
use Rattle.rw_head.proofs.place.is_head_of.Goals as goal

pub returns : goal.returns
returns c =
    let none : length c.series.inside.samples.items ≡ 0 = search rules in
    λ yes. head_spelled c.args.bytes.now c.in-Ok.series c.series.inside.labels.items c.deref.result.now c.series.inside.samples.items c.args.labels.now c.in-Ok.ensures c.series.view_is none c.deref.ensures.value (c.are_texts_of.ensures yes)
