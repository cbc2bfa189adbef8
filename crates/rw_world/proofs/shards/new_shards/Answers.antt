use Rattle.std.proofs.Common.{◌≡◌, ◌∙◌, ◌+◌, ◌++◌, ◌∷◌, [], suc, sym, ap, arith}
use Rattle.rw_shard_core.specs.Shard.{new_core}
use Rattle.rw_machine.specs.Shards.{new_shard}
use Rattle.rw_world.specs.Sending.{new_held}
use Rattle.rw_world.proofs.SendingLemmas.{new-snoc}
use Rattle.rw_world.proofs.shards.new_shards.Goals as goal

pub loop-i-preserved : goal.loop-i-preserved
loop-i-preserved c =
    let i = c.loop-i.i in
    let before = new_held c.args.target.now c.args.capacity c.args.batch c.args.epoch 0 i in
    let up : suc i ≡ i + 1 = omega arith in
    let flat : i + 0 ≡ i = omega arith in
    let item : c.in_ok-new.field-0 ≡ record { capacity = c.args.capacity; shard = new_shard (new_core c.args.target.now c.args.epoch (i + 0) c.args.batch) } = rw flat c.in_ok-new.ensures in
    c.in_ok-push.ensures.items ∙ ap (λ hs. hs ++ c.in_ok-new.field-0 ∷ []) c.loop-i.invariant ∙ ap (λ h. before ++ h ∷ []) item
    ∙ sym (new-snoc c.args.target.now c.args.capacity c.args.batch c.args.epoch 0 i) ∙ ap (new_held c.args.target.now c.args.capacity c.args.batch c.args.epoch 0) up
