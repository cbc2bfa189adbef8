use Rattle.std.proofs.Common.{◌≡◌, ◌+◌, ◌<◌, ◌≤◌, ◌++◌, length, take, append_assoc, length-append, sym, ap, ◌∙◌, subst, arith}
use Rattle.std.specs.Prelude.{vec_len, vec_capacity}
use Rattle.std.proofs.Math.Seq.{take-length}
use Rattle.rw_fleet.specs.Stopped.{abandoned_in}
use Rattle.rw_sender.proofs.shared.ListingLemmas.{abandoned_more, abandoned_within, appended, longer}
use Rattle.rw_sender.proofs.unresolved.list_all.Goals as goal

pub unwrap-requires : goal.unwrap-requires
unwrap-requires g c =
    let i = c.loop-shard.invariant in
    let below : c.loop-shard.shard-index < length c.args.shards.now = let test = c.loop-shard-test.true in omega arith in
    let few = abandoned_within c.args.shards.now c.loop-shard.shard-index c.shard-item.result below c.shard-item.is in
    let listed = i.1 in
    let more = i.2 in
    let room = c.requires in
    let one : vec_len c.loop-shard.samples + length c.shard-item.result.abandoned.items ≤ vec_capacity c.loop-shard.samples = omega arith in
    c.extend_from_slice.ensures.succeeds (subst (λ xs. vec_len c.loop-shard.samples + length xs ≤ vec_capacity c.loop-shard.samples) (sym c.as_slice.ensures.value) one)

pub loop-shard-preserved : goal.loop-shard-preserved
loop-shard-preserved g c =
    let i = c.loop-shard.invariant in
    let below : c.loop-shard.shard-index < length c.args.shards.now = let test = c.loop-shard-test.true in omega arith in
    let all = abandoned_more c.args.shards.now c.loop-shard.shard-index c.shard-item.result below c.shard-item.is in
    let before = abandoned_in (take c.loop-shard.shard-index c.args.shards.now) in
    let items = appended _ _ _ _ _ _ c.unwrap.ensures c.extend_from_slice.ensures.items c.as_slice.ensures.value in
    let len = longer _ _ _ _ _ _ c.unwrap.ensures c.extend_from_slice.ensures.len c.as_slice.ensures.value in
    let was = i.1 in
    let more = i.2 in
    let cap = c.extend_from_slice.ensures.capacity in
    let counted = ap length all ∙ length-append before c.shard-item.result.abandoned.items in (
      items ∙ ap (λ l. l ++ c.shard-item.result.abandoned.items) i.0 ∙ append_assoc c.args.samples.now.items before c.shard-item.result.abandoned.items ∙ ap (λ l. c.args.samples.now.items ++ l) (sym all),
      omega arith,
      omega arith,
    )

pub returns : goal.returns
returns g c =
    let test = c.loop-shard-test.false in
    let end = c.loop-shard.auto.shard-index-end in
    let whole : c.loop-shard.shard-index ≡ length c.args.shards.now = omega arith in
    c.loop-shard.invariant.0 ∙ ap (λ js. c.args.samples.now.items ++ abandoned_in js) (ap (λ k. take k c.args.shards.now) whole ∙ take-length c.args.shards.now)
