use Rattle.std.proofs.Common.{◌≡◌, ◌+◌, ◌-◌, ◌<◌, ◌≤◌, List, length, ap, ◌∙◌, arith}
use Rattle.std.specs.Prelude.{get_or}
use Rattle.rw_fleet.specs.Loads.{count_in}
use Rattle.rw_fleet.proofs.LoadLemmas.{advised_on, advised_whole, waits_are_put}
use Rattle.rw_fleet.proofs.lists.load_at_work.Goals as goal

pub loop-shard-preserved : goal.loop-shard-preserved
loop-shard-preserved g c = λ r n is.
    let below : c.loop-shard.shard-index < length c.args.running.now.items = let value = ap length c.deref-shard-items.ensures.value in let test = c.loop-shard-test.true in omega arith in
    let here = c.shard-item.is ∙ ap (λ (xs : List _). get_or xs c.loop-shard.shard-index c.shard-item.result) c.deref-shard-items.ensures.value in
    let few = c.waiting-waiting.ensures in
    let put : c.waiting-waiting.result ≤ count_in c.shard-item.result = waits_are_put c.args.window c.shard-item.result c.waiting-waiting.result few in
    let count = c.count.ensures in
    let all : (c.count.result - c.waiting-waiting.result) + c.waiting-waiting.result ≡ count_in c.shard-item.result = omega (arith, put, count) in
    advised_on c.args.window c.args.running.now.items c.loop-shard.shard-index r n (c.count.result - c.waiting-waiting.result) c.waiting-waiting.result c.shard-item.result c.loop-shard.load c.with-load.result below here all few (c.loop-shard.invariant r n is) c.with-load.ensures

pub returns : goal.returns
returns g c = λ r l is.
    let value = ap length c.deref-shard-items.ensures.value in
    let test = c.loop-shard-test.false in
    let end = c.loop-shard.auto.shard-index-end in
    advised_whole _ c.args.running.now.items c.loop-shard.shard-index r l _ (omega arith) (c.loop-shard.invariant r l is)
