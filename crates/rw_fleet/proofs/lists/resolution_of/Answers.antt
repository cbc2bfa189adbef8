use Rattle.std.proofs.Common.{◌≡◌, ◌<◌, List, Some, length, sym, ap, ◌∙◌, subst, arith}
use Rattle.std.specs.Prelude.{slice_get}
use Rattle.std.proofs.lemmas.Option.{slice_get_within}
use Rattle.rw_fleet.proofs.shared.ListLemmas.{get_at}
use Rattle.rw_fleet.proofs.SoftLemmas.{resolved_more}
use Rattle.rw_fleet.proofs.lists.resolution_of.Goals as goal

pub returns-then-not-is_resolved-clause-not_all : goal.returns-then-not-is_resolved-clause-not_all
returns-then-not-is_resolved-clause-not_all g c = λ left.
    let value = ap length c.deref-shard-items.ensures.value in
    let test = c.loop-shard-test.true in
    let below : c.loop-shard.shard-index < length c.deref-shard-items.result.now = omega arith in
    let here = subst (λ (xs : List _). slice_get xs c.loop-shard.shard-index ≡ Some c.shard-item.result) c.deref-shard-items.ensures.value (get_at c.deref-shard-items.result.now c.shard-item.result c.loop-shard.shard-index below c.shard-item.is) in
    (c.loop-shard.shard-index, c.shard-item.result, here, sym c.is_resolved.ensures ∙ c.if-not-is_resolved.true)

pub loop-shard-preserved : goal.loop-shard-preserved
loop-shard-preserved g c =
    let value = ap length c.deref-shard-items.ensures.value in
    let test = c.loop-shard-test.true in
    let below : c.loop-shard.shard-index < length c.deref-shard-items.result.now = omega arith in
    let here = subst (λ (xs : List _). slice_get xs c.loop-shard.shard-index ≡ Some c.shard-item.result) c.deref-shard-items.ensures.value (get_at c.deref-shard-items.result.now c.shard-item.result c.loop-shard.shard-index below c.shard-item.is) in
    resolved_more c.args.joined.now.items c.loop-shard.shard-index c.shard-item.result here (sym c.is_resolved.ensures ∙ c.if-not-is_resolved.false) c.loop-shard.invariant

pub returns-clause-all : goal.returns-clause-all
returns-clause-all g c = λ all k j at.
    let value = ap length c.deref-shard-items.ensures.value in
    let test = c.loop-shard-test.false in
    let within = slice_get_within c.args.joined.now.items k j at in
    c.loop-shard.invariant k (omega arith) j at
