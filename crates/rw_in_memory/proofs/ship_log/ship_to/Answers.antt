use Rattle.std.proofs.Common.{◌≡◌, [], false, refl}
use Rattle.rw_shard_core.specs.Configs.{choice_of}
use Rattle.rw_in_memory.proofs.ShippedLemmas.{if_ok, shipped_so}
use Rattle.rw_in_memory.specs.Shipped.{IsGathered, IsShippedTo}
use Rattle.rw_in_memory.specs.declared.ship_log.Shipped.{Shipped}
use Rattle.rw_in_memory.proofs.ship_log.ship_to.Goals as goal
use Rattle.rw_sender.proofs.shared.ShippingLemmas.{read_begun}

pub feed_all-fed-requires-clause-read : goal.feed_all-fed-requires-clause-read
feed_all-fed-requires-clause-read g c = λ lifetimes live. read_begun c.in_ok-shipper.shipper.log (choice_of c.args.config) [] false [] refl c.in_ok-shipper.ensures.log

pub returns : goal.returns
returns g c =
    let was = c.in_ok-shipper in
    let opening = g.L.HeadNaming.opening in
    let path = g.L.Endpoint.path in
    let limit = g.L.Endpoint.limit in
    let now = c.feed_all-fed.new.shipper in
    let answer = c.feed_all-fed.result in
    if_ok (λ (v : Shipped). IsGathered opening path limit now v × (v.fed ≡ answer)) (IsShippedTo opening path limit c.args.config c.args.log.items) c.gathered.result c.gathered.ensures
    (λ v gathered. shipped_so opening path limit c.args.config c.args.log.items was.shipper now answer v was.ensures.log was.ensures.config was.ensures.opened c.feed_all-fed.ensures gathered.0 gathered.1 c.requires.empty c.requires.path c.requires.sound)
