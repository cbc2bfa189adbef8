use Rattle.std.proofs.Common.{rules, ◌≡◌, ◌∙◌, ℤ, true, false, is_some, sym, ap, take}
use Rattle.std.proofs.lemmas.Int.{to_z-of_z}
use Rattle.std.specs.Int.{w64}
use Rattle.std.specs.Prelude.{FitsSigned}
use Rattle.std.specs.Prelude.{slice_get}
use Rattle.rw_wal_format.specs.Pieces.{entries}
use Rattle.rw_series_cache.specs.Known.{known}
use Rattle.rw_machine.specs.Settling.{can_place, can_place_known}
use Rattle.rw_world.specs.Machine.{Machine}
use Rattle.rw_world.specs.Positions.{ahead_of}
use Rattle.rw_world.specs.declared.log.Ahead.TheVariants as ahead
use Rattle.rw_world.specs.contracts.engine.Engine.{the_view}
use Rattle.rw_world.proofs.RoundLemmas.{place_stops, place_none, place_defined, place_sampled}
use Rattle.rw_world.proofs.engine.Engine.can_place.Goals as goal

pub returns-then-is_some : goal.returns-then-is_some
returns-then-is_some c =
    let u : Machine = the_view c.self.inside in
    let d : is_some u.world.draining ≡ true = sym c.is_some.ensures ∙ c.if-is_some.true in
    place_stops u.setup u.world d ∙ ap (λ (m : Machine). can_place m.setup m.world) c.self.view_is

pub returns-in-Nothing : goal.returns-in-Nothing
returns-in-Nothing c =
    let u : Machine = the_view c.self.inside in
    let d : is_some u.world.draining ≡ false = sym c.is_some.ensures ∙ c.if-is_some.false in
    place_none u.setup u.world d (sym c.in-Nothing.ensures) ∙ ap (λ (m : Machine). can_place m.setup m.world) c.self.view_is

pub returns-in-Definition : goal.returns-in-Definition
returns-in-Definition c =
    let u : Machine = the_view c.self.inside in
    let d : is_some u.world.draining ≡ false = sym c.is_some.ensures ∙ c.if-is_some.false in
    place_defined u.setup u.world d (sym c.in-Definition.ensures) ∙ ap (λ (m : Machine). can_place m.setup m.world) c.self.view_is

pub returns-in-Sample : goal.returns-in-Sample
returns-in-Sample c =
    let u : Machine = the_view c.self.inside in
    let m = c.args.self.now in
    let d : is_some m.world.draining ≡ false = ap (λ (x : Machine). is_some x.world.draining) (sym c.self.view_is) ∙ sym c.is_some.ensures ∙ c.if-is_some.false in
    let e : ahead_of (slice_get (entries m.world.pieces) m.world.placed) ≡ ahead.Sample c.in-Sample.reference c.in-Sample.t = ap (λ (x : Machine). ahead_of (slice_get (entries x.world.pieces) x.world.placed)) (sym c.self.view_is) ∙ sym c.in-Sample.ensures in
    let fits : FitsSigned w64 c.in-Sample.t = search rules in
    c.can_place_known.ensures
    ∙ ap (λ (z : ℤ). can_place_known m.setup m.world z (known m.setup.choice (take m.world.placed (entries m.world.pieces)) c.in-Sample.reference)) (to_z-of_z w64 c.in-Sample.t fits)
    ∙ place_sampled m.setup m.world c.in-Sample.reference c.in-Sample.t d e
