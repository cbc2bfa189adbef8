use Rattle.std.proofs.Common.{rules, refl, sym, ap, subst}
use Rattle.std.specs.Prelude.{Option}
use Rattle.rw_fleet.proofs.shared.LaneLemmas.{same_self}
use Rattle.rw_series_cache.specs.declared.sample.RoutedSample.{RoutedSample}
use Rattle.rw_sender.specs.Feeders.{Sorting, Judges}
use Rattle.rw_sender.specs.Shipping.{PlacesAll}
use Rattle.rw_sender.specs.inner.Shipping.{GoesOn, IsWaiting}
use Rattle.rw_sender.proofs.shared.PlacementLemmas.{kept_self}
use Rattle.rw_sender.proofs.CutLemmas.{goes_cut_self}
use Rattle.rw_sender.proofs.shared.SkewLemmas.{is_waiting}
use Rattle.rw_sender.proofs.TimeLemmas.{spanned_same}
use Rattle.rw_sender.proofs.shared.ShippingLemmas.{goes_same, goes_placed, places_none}
use Rattle.rw_sender.proofs.place.place_entry.Goals as goal

pub returns-in_default-clause-goes : goal.returns-in_default-clause-goes
returns-in_default-clause-goes g c = goes_same _ c.args.feeder.now c.place.new.self c.args.fleet.now c.in_default.ensures.err

pub returns-in_default-clause-spanned : goal.returns-in_default-clause-spanned
returns-in_default-clause-spanned g c = spanned_same c.args.span.now _ _ (same_self c.args.fleet.now.current) c.requires.since

pub returns-in_default-found-clause-goes : goal.returns-in_default-found-clause-goes
returns-in_default-found-clause-goes g c =
    let j = subst (λ (o : Option RoutedSample). Judges c.args.feeder.now c.place.new.self c.args.entry o) c.in_default-found.is c.in-Ok.ensures.ok in
    goes_placed _ c.args.feeder.now c.args.feeder.now c.place.new.self c.args.fleet.now c.args.fleet.now refl j.0 refl refl (kept_self c.args.fleet.now.current) (λ none. refl)

pub returns-in_default-found-clause-cut : goal.returns-in_default-found-clause-cut
returns-in_default-found-clause-cut g c = goes_cut_self c.args.cuts.now c.args.fleet.now.current c.requires.counted

pub returns-in_default-found-clause-places : goal.returns-in_default-found-clause-places
returns-in_default-found-clause-places g c =
    let j = subst (λ (o : Option RoutedSample). Judges c.args.feeder.now c.place.new.self c.args.entry o) c.in_default-found.is c.in-Ok.ensures.ok in
    places_none c.args.feeder.now c.place.new.self c.args.fleet.now c.args.entry j.0 c.requires.hand j.1 c.requires.places

pub returns-in_default-found-clause-spanned : goal.returns-in_default-found-clause-spanned
returns-in_default-found-clause-spanned g c = spanned_same c.args.span.now _ _ (same_self c.args.fleet.now.current) c.requires.since

pub returns-then-not-takes-clause-ok : goal.returns-then-not-takes-clause-ok
returns-then-not-takes-clause-ok g c =
    let j = subst (λ (o : Option RoutedSample). Judges c.args.feeder.now c.place.new.self c.args.entry o) c.in-Some.is c.in-Ok.ensures.ok in
    (is_waiting c.args.feeder.now c.place.new.self c.args.entry c.in-Some.sample c.requires.hand j, c.takes.ensures.bound (search rules))

pub returns-then-not-takes-clause-goes : goal.returns-then-not-takes-clause-goes
returns-then-not-takes-clause-goes g c =
    let j = subst (λ (o : Option RoutedSample). Judges c.args.feeder.now c.place.new.self c.args.entry o) c.in-Some.is c.in-Ok.ensures.ok in
    goes_same _ c.args.feeder.now c.place.new.self c.args.fleet.now j.0

pub returns-then-not-takes-clause-cut : goal.returns-then-not-takes-clause-cut
returns-then-not-takes-clause-cut g c = goes_cut_self c.args.cuts.now c.args.fleet.now.current c.requires.counted

pub returns-then-not-takes-clause-places : goal.returns-then-not-takes-clause-places
returns-then-not-takes-clause-places g c =
    let j = subst (λ (o : Option RoutedSample). Judges c.args.feeder.now c.place.new.self c.args.entry o) c.in-Some.is c.in-Ok.ensures.ok in
    subst (λ (s : Sorting). PlacesAll s c.args.fleet.now) (sym j.0) c.requires.places

pub returns-then-not-takes-clause-spanned : goal.returns-then-not-takes-clause-spanned
returns-then-not-takes-clause-spanned g c = spanned_same c.args.span.now _ _ (same_self c.args.fleet.now.current) c.requires.since

pub put_sample-requires-clause-waiting : goal.put_sample-requires-clause-waiting
put_sample-requires-clause-waiting g c κs within =
    let j = subst (λ (o : Option RoutedSample). Judges c.args.feeder.now c.place.new.self c.args.entry o) c.in-Some.is c.in-Ok.ensures.ok in
    is_waiting c.args.feeder.now c.place.new.self c.args.entry c.in-Some.sample c.requires.hand j

pub put_sample-requires-clause-places : goal.put_sample-requires-clause-places
put_sample-requires-clause-places g c κs within =
    let j = subst (λ (o : Option RoutedSample). Judges c.args.feeder.now c.place.new.self c.args.entry o) c.in-Some.is c.in-Ok.ensures.ok in
    subst (λ (s : Sorting). PlacesAll s c.args.fleet.now) (sym j.0) c.requires.places

pub returns-in_err-put_sample-clause-goes : goal.returns-in_err-put_sample-clause-goes
returns-in_err-put_sample-clause-goes g c =
    let j = subst (λ (o : Option RoutedSample). Judges c.args.feeder.now c.place.new.self c.args.entry o) c.in-Some.is c.in-Ok.ensures.ok in
    subst (λ (s : Sorting). GoesOn c.args.cuts.now.limit s c.put_sample.new.feeder c.args.fleet.now c.put_sample.new.fleet) j.0 c.put_sample.ensures.goes

pub returns-clause-goes : goal.returns-clause-goes
returns-clause-goes g c =
    let j = subst (λ (o : Option RoutedSample). Judges c.args.feeder.now c.place.new.self c.args.entry o) c.in-Some.is c.in-Ok.ensures.ok in
    subst (λ (s : Sorting). GoesOn c.args.cuts.now.limit s c.put_sample.new.feeder c.args.fleet.now c.put_sample.new.fleet) j.0 c.put_sample.ensures.goes
