use Rattle.std.proofs.Common.{rules, refl, ap, ◌∙◌}
use Rattle.rw_reshard.specs.Fleets.{FleetShards, refilled, with_running}
use Rattle.rw_reshard.proofs.fleet.Fleet.shards_mut.Goals as goal

pub returns : goal.returns
returns g c =
    let fleet = c.self.inside in
    let shown : FleetShards g.row.S.Denot = record { epoch = fleet.epoch; running = fleet.running.items; wanted = fleet.wanted; made = fleet.made.items } in
    ((refl, λ w. ap (λ n. refilled n shown w) fleet.running.ok.0 ∙ ap (λ f. with_running f w) c.self.view_is), search rules)
