use Rattle.std.proofs.Common.{◌<◌, List, length, refl, sym, ap, ◌∙◌, arith}
use Rattle.std.specs.Prelude.{get_or}
use Rattle.rw_fleet.specs.Loads.{resolved_in, left_in_shard}
use Rattle.rw_fleet.proofs.LoadLemmas.{load_on, load_whole}
use Rattle.rw_fleet.proofs.lists.load_with.Goals as goal

pub loop-shard-preserved : goal.loop-shard-preserved
loop-shard-preserved g c = λ r n is.
    let below : c.loop-shard.shard-index < length c.args.joined.now.items = let value = ap length c.deref-shard-items.ensures.value in let test = c.loop-shard-test.true in omega arith in
    let here = c.shard-item.is ∙ ap (λ (xs : List _). get_or xs c.loop-shard.shard-index c.shard-item.result) c.deref-shard-items.ensures.value in
    load_on resolved_in left_in_shard c.args.joined.now.items c.loop-shard.shard-index r n c.shard-item.result.finished.resolved c.len.result c.shard-item.result c.loop-shard.load c.with-load.result below here refl (sym (c.len.ensures ∙ c.shard-item.result.abandoned.ok.0)) (c.loop-shard.invariant r n is) c.with-load.ensures

pub returns : goal.returns
returns g c = λ r l is.
    let value = ap length c.deref-shard-items.ensures.value in
    let test = c.loop-shard-test.false in
    let end = c.loop-shard.auto.shard-index-end in
    load_whole resolved_in left_in_shard c.args.joined.now.items c.loop-shard.shard-index r l c.loop-shard.load (omega arith) (c.loop-shard.invariant r l is)
