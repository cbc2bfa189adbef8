use Rattle.std.proofs.Common.{◌≢◌, [], get_or, rules, sym, subst, ℤ, w64, to_z, of_z}
use Rattle.std.proofs.lemmas.Int.{to_z-of_z}
use Rattle.std.specs.Prelude.{FitsSigned}
use Rattle.rw_head.specs.declared.verdict.Verdict.TheVariants.{NoMemory}
use Rattle.rw_head.specs.Placed.{one_sample}
use Rattle.rw_head.specs.Store.{Store, list_of}
use Rattle.rw_kept_head.specs.Admitted.{MayHold}
use Rattle.rw_kept_head.specs.inner.Restoring.{AddsOne}
use Rattle.rw_kept_head.proofs.AdmittedLemmas.{applied_held}
use Rattle.rw_kept_head.proofs.RestoringLemmas.{one_judged}
use Rattle.rw_kept_head.proofs.restoring.append_at.Goals as goal

pub returns-in_default : goal.returns-in_default
returns-in_default g c =
    let known : c.apply_at.result ≢ NoMemory = search rules in
    let fits : FitsSigned w64 c.args.sample.0 = search rules in
    let l = get_or c.args.head.now.places c.args.place [] in
    let m = one_sample l (to_z w64 (of_z w64 c.args.sample.0)) c.args.sample.1 in
    let store = c.apply_at.ensures.store known in
    record {
      done = subst (λ (z : ℤ). AddsOne c.args.head.now.head.limits c.args.head.now.head.store c.apply_at.new.self.head.store (one_sample l z c.args.sample.1) c.is_new.result) (to_z-of_z w64 c.args.sample.0 fits)
          (one_judged c.args.head.now.head.limits c.args.head.now.head.store c.apply_at.new.self.head.store m c.apply_at.result c.is_new.result (c.apply_at.ensures.verdict known) store c.is_new.ensures.one c.is_new.ensures.other);
      held = λ may. subst (λ (s : Store). MayHold c.args.head.now.head.limits (list_of s)) (sym store) (applied_held c.args.head.now.head.limits c.args.head.now.head.store m may);
      limits = c.apply_at.ensures.limits;
      busy = c.apply_at.ensures.busy;
      places = c.apply_at.ensures.places;
    }
