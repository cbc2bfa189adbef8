use Rattle.std.proofs.Common.{◌≡◌, ◌∙◌, ◌+◌, ℕ, ℤ, false, is_some, suc, Some, add-one, refl, ap, sym, subst, take, arith}
use Rattle.std.specs.Prelude.{slice_get}
use Rattle.rw_types.specs.declared.entry.Entry.{Entry}
use Rattle.rw_types.specs.declared.entry.Entry.TheVariants.{Def, Sample}
use Rattle.rw_wal_format.specs.Pieces.{entries}
use Rattle.rw_series_cache.specs.Fates.{Fate, Drops, Filters, Sends, fate}
use Rattle.rw_series_cache.specs.Routing.{Routing, Routes, RoutesAs, KnowsMore}
use Rattle.rw_series_cache.specs.declared.router.Routed.TheVariants as routed
use Rattle.rw_series_cache.proofs.shared.RouteLemmas.{placed_filtered, told_dropped, told_sample}
use Rattle.rw_machine.specs.Steps.{place, place_as, place_entry}
use Rattle.rw_world.specs.Machine.{Machine}
use Rattle.rw_world.specs.inner.Machine.{IsWorld}
use Rattle.rw_world.specs.contracts.engine.Engine.{the_view}
use Rattle.rw_world.proofs.WorldLemmas.{world_more, series_defined}
use Rattle.rw_world.proofs.PlaceLemmas.{place_is}
use Rattle.rw_world.proofs.engine.Engine.place.Goals as goal

pub invariant_of-self-in-Placed : goal.invariant_of-self-in-Placed
invariant_of-self-in-Placed c =
    let s = c.self.inside in
    let i = c.self.invariant.0 in
    let before = take s.placed (entries s.log) in
    let e = c.in-Some.entry in
    let at : slice_get (entries s.log) s.placed ≡ Some e = sym c.in_ok-entry.ensures ∙ c.in-Some.is in
    let routes = subst (Routes s.router before s.placed e c.place.new.self) c.in-Placed.is (c.in_ok-place.ensures.ok before i.knows) in
    let knows = subst (KnowsMore before e c.place.new.self.cache) c.in-Placed.is (c.in_ok-place.ensures.knows before i.knows) in
    let most = placed_filtered s.router c.place.new.self before s.placed e routes in
    (world_more s.senders.next s.senders.next s.placed s.log s.router c.place.new.self s.draining e i at knows (omega (arith, most, i.filtered_within)) (omega (arith, i.next_within)), c.self.invariant.1)

pub name_next-requires-clause-next : goal.name_next-requires-clause-next
name_next-requires-clause-next c =
    let s = c.self.inside in
    let before = take s.placed (entries s.log) in
    let e = c.in-Some.entry in
    let at : slice_get (entries s.log) s.placed ≡ Some e = sym c.in_ok-entry.ensures ∙ c.in-Some.is in
    let routes = subst (Routes s.router before s.placed e c.place.new.self) c.in-Dropped.is (c.in_ok-place.ensures.ok before c.self.invariant.0.knows) in
    let d = told_dropped s.router c.place.new.self before s.placed e c.in-Dropped.reason routes in
    record {
      reference = d.1.0;
      t = d.1.1;
      word = d.1.2;
      at = at ∙ ap Some d.1.3;
      fate_is = ap (λ (x : Routing). fate x.cache.choice before d.1.0 d.1.1) d.0 ∙ d.1.4;
    }

pub invariant_of-self-in-Sample : goal.invariant_of-self-in-Sample
invariant_of-self-in-Sample c =
    let s = c.self.inside in
    let before = take s.placed (entries s.log) in
    let routes = subst (Routes s.router before s.placed c.in-Some.entry c.place.new.self) c.in-Sample.is (c.in_ok-place.ensures.ok before c.self.invariant.0.knows) in
    let same = told_sample s.router c.place.new.self before s.placed c.in-Some.entry c.in-Sample.sample routes in
    (subst (λ r. IsWorld s.senders.next s.placed s.log r s.draining) (sym same) c.self.invariant.0, c.self.invariant.1)

pub returns-in-Placed-clause-ok : goal.returns-in-Placed-clause-ok
returns-in-Placed-clause-ok c =
    let s = c.self.inside in
    let u : Machine = the_view s in
    let before = take s.placed (entries s.log) in
    let e = c.in-Some.entry in
    let at : slice_get (entries s.log) s.placed ≡ Some e = sym c.in_ok-entry.ensures ∙ c.in-Some.is in
    let draining : is_some s.draining ≡ false = sym c.is_some.ensures ∙ c.if-is_some.false in
    let routes = subst (Routes s.router before s.placed e c.place.new.self) c.in-Placed.is (c.in_ok-place.ensures.ok before c.self.invariant.0.knows) in
    by_entry e c.place.new.self routes
    ∙ sym (place_is u e draining at)
    ∙ ap (λ (m : Machine). record m { world = place m.setup m.world }) c.self.view_is
  where
    by_fate : (reference : ℕ) (t : ℤ) (word : ℕ) (after : Routing) (f : Fate) → fate c.self.inside.router.cache.choice (take c.self.inside.placed (entries c.self.inside.log)) reference t ≡ f
        → RoutesAs c.self.inside.router (take c.self.inside.placed (entries c.self.inside.log)) c.self.inside.placed t word f after routed.Placed
        → the_view (record c.self.inside { router = after; placed = c.self.inside.placed + 1 })
        ≡ record (the_view c.self.inside) { world = place_entry (the_view c.self.inside).setup (the_view c.self.inside).world (Some (Sample reference t word)) }
    by_fate reference t word after (Drops reason) e is = absurd is
    by_fate reference t word after Filters e is =
        let s = c.self.inside in
        let u : Machine = the_view s in
        ap (λ (r : Routing). the_view (record s { router = r; placed = s.placed + 1 })) is
        ∙ ap (λ k. record u { world = record u.world { filtered = suc s.router.filtered; placed = k } }) (add-one s.placed)
        ∙ sym (ap (λ f. record u { world = place_as u.setup u.world t word f }) e)
    by_fate reference t word after (Sends l) e is = absurd is

    by_entry : (e : Entry) (after : Routing) → Routes c.self.inside.router (take c.self.inside.placed (entries c.self.inside.log)) c.self.inside.placed e after routed.Placed
        → the_view (record c.self.inside { router = after; placed = c.self.inside.placed + 1 })
        ≡ record (the_view c.self.inside) { world = place_entry (the_view c.self.inside).setup (the_view c.self.inside).world (Some e) }
    by_entry (Def reference l) after is =
        let s = c.self.inside in
        let u : Machine = the_view s in
        ap (λ (r : Routing). the_view (record s { router = r; placed = s.placed + 1 })) is.1
        ∙ ap (λ xs. record u { world = record u.world { series = xs; placed = s.placed + 1 } }) (series_defined s.router.cache.choice s.router.cache.definitions reference l)
        ∙ ap (λ k. record u { world = record (place_entry u.setup u.world (Some (Def reference l))) { placed = k } }) (add-one s.placed)
    by_entry (Sample reference t word) after is =
        by_fate reference t word after (fate c.self.inside.router.cache.choice (take c.self.inside.placed (entries c.self.inside.log)) reference t) refl is
