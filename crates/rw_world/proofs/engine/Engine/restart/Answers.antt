use Rattle.std.proofs.Common.{◌≡◌, ◌∙◌, ◌&&◌, not, ◌+◌, map, Some, None, sym, ap, refl}
use Rattle.rw_machine.specs.Worlds.{is_finished, all_drained}
use Rattle.rw_machine.specs.Steps.{restart}
use Rattle.rw_world.specs.Held.{Held}
use Rattle.rw_world.specs.Sending.{Sending, new_held}
use Rattle.rw_world.specs.Machine.{Machine}
use Rattle.rw_world.specs.contracts.engine.Engine.{the_view}
use Rattle.rw_world.proofs.WorldLemmas.{parts, restarted}
use Rattle.rw_world.proofs.engine.Engine.restart.Goals as goal

pub returns-clause-ok : goal.returns-clause-ok
returns-clause-ok c =
    let s = c.self.inside in
    let u : Machine = the_view s in
    let draining : u.world.draining ≡ Some c.in-Some.n = c.in-Some.is in
    let may = parts (is_finished u.world) (all_drained u.world) (ap (λ (m : Machine). not (is_finished m.world) && all_drained m.world) c.self.view_is ∙ sym c.may_restart.ensures ∙ c.if-not-may_restart.false) in
    let v = s.senders in
    let next : Sending = record v { epoch = v.epoch + 1; shards = map (λ (h : Held). h.shard) (new_held v.target v.capacity v.batch (v.epoch + 1) 0 c.in-Some.n) } in
    ap (λ (v : Sending). the_view (record s { senders = v; draining = None })) c.in_ok-restart.ensures.ok
    ∙ restarted u v next c.in-Some.n draining may.0 may.1 refl refl refl refl refl
    ∙ ap (λ (m : Machine). record m { world = restart m.setup m.world }) c.self.view_is
