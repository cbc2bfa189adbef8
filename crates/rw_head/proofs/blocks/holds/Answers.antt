use Rattle.std.proofs.Common.{◌∙◌, rules}
use Rattle.std.proofs.Math.Facts.{to_z-of_z}
use Rattle.std.proofs.lemmas.List.Sorted.{answers_always}
use Rattle.rw_head.proofs.shared.OrderLemmas.{found_there, found_nowhere, searchable}
use Rattle.rw_head.proofs.blocks.holds.Goals as goal

pub returns-in-Ok : goal.returns-in-Ok
returns-in-Ok c =
    let by_key = c.in-Ok.ensures.position (λ sample. sample.0) (answers_always _ _ _ (λ f a r g called. search rules)) in
    c.eq.ensures ∙ found_there c.args.t _ c.args.word c.args.samples.now c.in-Ok.at (to_z-of_z c.ranges.t) c.requires c.in-Ok.ensures.bound by_key c.index-samples-at.result c.index-samples-at.is

pub returns-in-Err : goal.returns-in-Err
returns-in-Err c =
    let by_key = c.in-Err.ensures.position (λ sample. sample.0) (answers_always _ _ _ (λ f a r g called. search rules)) in
    found_nowhere c.args.t _ c.args.word c.args.samples.now c.in-Err.field-0 (to_z-of_z c.ranges.t) (by_key (searchable c.args.samples.now _ c.requires))
