use Rattle.std.proofs.Common.{◌≢◌, ◌∷◌, [], rules, sym, subst}
use Rattle.rw_head.specs.declared.verdict.Verdict.TheVariants.{NoMemory}
use Rattle.rw_head.specs.Store.{Store, list_of}
use Rattle.rw_kept_head.specs.Admitted.{MayHold}
use Rattle.rw_kept_head.proofs.AdmittedLemmas.{applied_held}
use Rattle.rw_kept_head.proofs.RestoringLemmas.{one_judged}
use Rattle.rw_kept_head.proofs.restoring.append_series.Goals as goal

pub returns-in_default : goal.returns-in_default
returns-in_default g c =
    let known : c.apply.result ≢ NoMemory = search rules in
    let store = c.apply.ensures.store known in
    record {
      done = one_judged c.args.head.now.head.limits c.args.head.now.head.store c.apply.new.self.head.store (c.args.series.now ∷ []) c.apply.result c.is_new.result (c.apply.ensures.verdict known) store c.is_new.ensures.one c.is_new.ensures.other;
      held = λ may. subst (λ (s : Store). MayHold c.args.head.now.head.limits (list_of s)) (sym store) (applied_held c.args.head.now.head.limits c.args.head.now.head.store (c.args.series.now ∷ []) may);
      limits = c.apply.ensures.limits;
      busy = c.apply.ensures.busy;
      places = c.apply.ensures.places;
    }
