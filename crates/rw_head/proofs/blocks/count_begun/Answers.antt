use Rattle.std.proofs.Common.{rules}
use Rattle.std.proofs.Math.Facts.{to_z-of_z}
use Rattle.std.proofs.lemmas.List.Sorted.{answers_always}
use Rattle.rw_head.specs.inner.Blocks.{first_time}
use Rattle.rw_head.proofs.BlockLemmas.{begun_there, begun_between, searchable_blocks}
use Rattle.rw_head.proofs.blocks.count_begun.Goals as goal

pub returns-in-Ok : goal.returns-in-Ok
returns-in-Ok c =
    let by_key = c.in-Ok.ensures.position (λ b. first_time b.value) (answers_always _ _ _ (λ f a r g called. search rules)) in
    begun_there (λ b. b.value) c.args.sealed.now c.args.t _ c.in-Ok.at (to_z-of_z c.ranges.t) c.requires.full c.requires.rises c.in-Ok.ensures.bound by_key

pub returns-in-Err : goal.returns-in-Err
returns-in-Err c =
    let by_key = c.in-Err.ensures.position (λ b. first_time b.value) (answers_always _ _ _ (λ f a r g called. search rules)) in
    begun_between (λ b. b.value) c.args.sealed.now c.args.t _ c.in-Err.at (to_z-of_z c.ranges.t) c.requires.full c.in-Err.ensures.bound
    (by_key (searchable_blocks (λ b. b.value) c.args.sealed.now _ c.requires.full c.requires.rises))
