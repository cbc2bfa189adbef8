use Rattle.std.proofs.Common.{ap, ◌∙◌}
use Rattle.rw_shard_core.specs.declared.config.ConfigFields.{ConfigFields}
use Rattle.rw_in_memory.proofs.ShippedLemmas.{if_ok, shipped_new}
use Rattle.rw_in_memory.specs.Shipped.{IsShipped, IsShippedTo}
use Rattle.rw_in_memory.proofs.ship_log.ship.Goals as goal

pub returns : goal.returns
returns g c =
    let head = c.new-head.result in
    let new = c.new-head.ensures in
    let path = c.in_ok-limits.field-0 in
    let limit = c.new-limits.result in
    if_ok (IsShippedTo head path limit c.args.config c.args.log.items) (IsShipped c.args.config c.args.limits c.args.log.items) c.ship_shared.result c.ship_shared.ensures
    (λ v shipped. shipped_new head c.args.limits c.args.config c.args.log.items v path limit
    (record { store = new.store; names = new.names; max_labels = new.max_labels; max_label_bytes = new.max_label_bytes; busy = new.busy })
    (c.in_ok-limits.ensures ∙ ap (λ (f : ConfigFields). f.target.path) c.fields.ensures.fields) c.new-limits.ensures shipped)
