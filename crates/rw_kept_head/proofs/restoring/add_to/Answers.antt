use Rattle.std.proofs.Common.{◌≡◌, ◌∷◌, [], ap, sym, subst, rules, ℤ, w64, Option, Some}
use Rattle.std.proofs.lemmas.Int.{to_z-of_z}
use Rattle.std.specs.Prelude.{FitsSigned}
use Rattle.rw_write_request.specs.Message.{TimeSeries}
use Rattle.rw_kept_head.specs.inner.Restoring.{AddsTo, AddsOne}
use Rattle.rw_kept_head.proofs.restoring.add_to.Goals as goal

pub returns-clause-done : goal.returns-clause-done
returns-clause-done g c =
    let fits : FitsSigned w64 c.args.sample.0 = search rules in
    let was : c.args.known.now ≡ Some c.in-Some.found = search rules in
    subst (λ (o : Option TimeSeries). AddsTo c.args.head.now.head.limits c.args.head.now.head.store c.append_series.new.head.head.store o (Some c.set_sample.new.series) c.args.sample c.in_ok-done.done) (sym was)
    (subst
    (λ (z : ℤ).
    AddsTo c.args.head.now.head.limits c.args.head.now.head.store c.append_series.new.head.head.store (Some c.in-Some.found) (Some c.set_sample.new.series) (z, c.args.sample.1) c.in_ok-done.done)
    (to_z-of_z w64 c.args.sample.0 fits) (
      ap (λ (s : TimeSeries). Some s) c.in_ok-set_sample.ensures,
      subst (λ (s : TimeSeries). AddsOne c.args.head.now.head.limits c.args.head.now.head.store c.append_series.new.head.head.store (s ∷ []) c.in_ok-done.done) c.in_ok-set_sample.ensures
          c.in_ok-done.ensures.done,
    ))
