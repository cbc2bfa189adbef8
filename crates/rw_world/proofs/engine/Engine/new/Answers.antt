use Rattle.std.proofs.Common.{rules, ◌≡◌, ◌∙◌, ap, arith}
use Rattle.rw_shard_core.specs.declared.config.ConfigFields.{ConfigFields}
use Rattle.rw_head.specs.declared.limits.Limits.{Limits}
use Rattle.rw_machine.specs.Worlds.{start}
use Rattle.rw_world.specs.Machine.{setup_of}
use Rattle.rw_world.specs.Sending.{Sending}
use Rattle.rw_world.proofs.WorldLemmas.{started, head_is, world_begun}
use Rattle.rw_world.proofs.engine.Engine.new.Goals as goal

pub returns-clause-start : goal.returns-clause-start
returns-clause-start c =
    let cfg : ConfigFields = c.into_fields-target.result in
    let l = c.in_ok-limits.limits in
    let v = c.in_ok-senders.senders in
    let made = rw (c.get.ensures.number, c.get-2.ensures.number, c.get-3.ensures.number) at c.in_ok-senders.ensures in
    let head = head_is c.new-6.result l c.new-6.ensures.store c.new-6.ensures.names c.new-6.ensures.max_labels c.new-6.ensures.max_label_bytes c.new-6.ensures.busy in
    started cfg l v c.new-2.result c.new-3.result c.new-4.result.items c.new-5.result.items c.new-6.result made c.new-2.ensures c.new-3.ensures.cache c.new-3.ensures.filtered c.new-4.ensures.items c.new-5.ensures.items head
    ∙ ap (λ (x : Limits). record { setup = setup_of cfg x; world = start (setup_of cfg x) }) c.in_ok-limits.ensures
    ∙ ap (λ (f : ConfigFields). record { setup = setup_of f c.args.limits; world = start (setup_of f c.args.limits) }) c.into_fields-target.ensures

pub returns-clause-can : goal.returns-clause-can
returns-clause-can c =
    let v : Sending = c.in_ok-senders.senders in
    let capacity : v.capacity ≡ c.get.result = ap (λ (x : Sending). x.capacity) c.in_ok-senders.ensures in
    let batch : v.batch ≡ c.get-2.result = ap (λ (x : Sending). x.batch) c.in_ok-senders.ensures in
    record {
      capacity = omega (arith, c.get.ensures.low);
      batch = omega (arith, c.get-2.ensures.low);
      shards = omega (arith, c.get-3.ensures.low, c.get-3.ensures.number);
    }

pub invariant_of-result : goal.invariant_of-result
invariant_of-result c = (
  world_begun c.in_ok-senders.senders.next c.new-2.result c.new-3.result (ap (λ (v : Sending). v.next) c.in_ok-senders.ensures) c.new-3.ensures.knows c.new-3.ensures.filtered,
  search rules,
)
