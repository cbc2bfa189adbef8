use Rattle.std.proofs.Common.{◌∙◌, take, ap, subst}
use Rattle.std.proofs.Math.Facts.{to_z-of_z}
use Rattle.rw_wal_format.specs.Pieces.{entries}
use Rattle.rw_series_cache.specs.Known.{known}
use Rattle.rw_series_cache.specs.Numbers.{number_of}
use Rattle.rw_series_cache.specs.Fates.{fate}
use Rattle.rw_series_cache.specs.Routing.{WouldSend}
use Rattle.rw_machine.specs.Settling.{can_place_known}
use Rattle.rw_world.specs.Machine.{Machine}
use Rattle.rw_world.specs.inner.Machine.{placed_entries}
use Rattle.rw_world.specs.contracts.engine.Engine.{the_view}
use Rattle.rw_world.proofs.RoundLemmas.{sent_placed}
use Rattle.rw_world.proofs.WorldLemmas.{same_series}
use Rattle.rw_world.proofs.engine.Engine.can_place_known.Goals as goal

pub returns-in-Some : goal.returns-in-Some
returns-in-Some c =
    let s = c.self.inside in
    let u : Machine = the_view s in
    let before = take s.placed (entries s.log) in
    let knows = c.self.invariant.0.knows in
    let sends = subst (λ t. WouldSend s.router.cache.choice before c.args.reference t c.in-Some.series) (to_z-of_z c.ranges.t) (c.in-Some.ensures.some before knows) in
    let number = sends.2.numbered ∙ ap (λ xs. number_of xs sends.0) (same_series before s.router.cache knows) in
    sent_placed u.setup u.world (fate s.router.cache.choice before c.args.reference c.args.t) sends.0 c.in-Some.series c.len.result c.has_room.result sends.1 number c.len.ensures.len c.has_room.ensures
    ∙ ap (λ (m : Machine). can_place_known m.setup m.world c.args.t (known m.setup.choice (placed_entries m) c.args.reference)) c.self.view_is
