use Rattle.std.proofs.Common.{◌∷◌, [], List, length, nat_eq, cond, Some, sym, ap, subst, ◌∙◌, length-append, rules}
use Rattle.rw_types.specs.declared.entry.Entry.{Entry}
use Rattle.rw_types.specs.declared.entry.Entry.TheVariants.{Def}
use Rattle.rw_series_cache.specs.inner.Verdicts.{verdict_in, IsWithin}
use Rattle.rw_series_cache.proofs.CacheLemmas.{one_defined}
use Rattle.rw_series_cache.proofs.cache.Cache.define.Goals as goal

pub invariant_of-self-2 : goal.invariant_of-self-2
invariant_of-self-2 c = (
  one_defined c.self.inside.sets c.judge.new.self c.self.inside.taken c.push.new.self (verdict_in c.self.inside.verdicts) (verdict_in c.put.new.self) c.args.reference c.args.labels
      c.in_ok-verdict.verdict c.self.invariant.0 c.in_ok-verdict.ensures.ok c.push.ensures
      (λ r. c.put.ensures.found r ∙ ap (λ o. cond (nat_eq c.args.reference r) (Some c.in_ok-verdict.verdict) o) (c.in_ok-make_room.ensures.same r)),
  c.judge.ensures.places,
  subst (IsWithin c.put.new.self) (sym (ap (λ (ds : List Entry). length ds) c.push.ensures ∙ length-append c.self.inside.taken (Def c.args.reference c.args.labels ∷ [])))
      (c.put.ensures.within (length c.self.inside.taken) (c.in_ok-make_room.ensures.within (length c.self.inside.taken) c.self.invariant.2)),
)

pub invariant_of-self : goal.invariant_of-self
invariant_of-self c = (search rules, search rules, c.in_err-make_room.ensures.within (length c.self.inside.taken) c.self.invariant.2)

pub invariant_of-self-in_err-verdict : goal.invariant_of-self-in_err-verdict
invariant_of-self-in_err-verdict c = (search rules, c.judge.ensures.places, c.in_ok-make_room.ensures.within (length c.self.inside.taken) c.self.invariant.2)
