use Rattle.std.proofs.Common.{◌++◌, [], ◌∷◌, nat_eq, subst, sym, rules, ℤ, w64}
use Rattle.std.proofs.lemmas.Int.{to_z-of_z}
use Rattle.std.specs.HashMap.{get}
use Rattle.std.specs.Prelude.{FitsSigned}
use Rattle.rw_types.specs.declared.entry.Entry.{Entry}
use Rattle.rw_types.specs.declared.names.Names.TheVariants.{Utf8}
use Rattle.rw_types.specs.declared.entry.Entry.TheVariants.{Sample}
use Rattle.rw_kept_head.specs.inner.Restoring.{IsRestored, IsRestoredOrRefused}
use Rattle.rw_kept_head.proofs.RestoringLemmas.{defined_next, sample_taken}
use Rattle.rw_kept_head.proofs.restoring.take_entry.Goals as goal

pub returns-in_ok-first-in-Def-clause-done : goal.returns-in_ok-first-in-Def-clause-done
returns-in_ok-first-in-Def-clause-done g c = λ taken restored.
    subst (λ (e : Entry). IsRestored Utf8 (taken ++ e ∷ []) (λ n. get nat_eq c.define.new.series n) c.args.head.now.head.store) (sym c.in-Def.is)
    (defined_next Utf8 taken (λ n. get nat_eq c.args.series.now n) (λ n. get nat_eq c.define.new.series n) c.args.head.now.head.store _ _ c.in_ok-first-in-Def.ensures.defined restored)

pub returns-in_ok-done-in-Sample-clause-done : goal.returns-in_ok-done-in-Sample-clause-done
returns-in_ok-done-in-Sample-clause-done g c =
    let fits : FitsSigned w64 c.in-Sample.t = search rules in
    λ taken restored.
    subst (λ (e : Entry). IsRestoredOrRefused c.args.head.now.head.limits (taken ++ e ∷ []) (λ n. get nat_eq c.add_sample.new.series n) c.add_sample.new.head.head.store c.in_ok-done-in-Sample.done) (sym c.in-Sample.is)
    (subst
    (λ (z : ℤ). IsRestoredOrRefused c.args.head.now.head.limits (taken ++ Sample c.in-Sample.reference z c.in-Sample.word ∷ []) (λ n. get nat_eq c.add_sample.new.series n) c.add_sample.new.head.head.store c.in_ok-done-in-Sample.done)
    (to_z-of_z w64 c.in-Sample.t fits)
    (sample_taken c.args.head.now.head.limits taken (λ n. get nat_eq c.args.series.now n) (λ n. get nat_eq c.add_sample.new.series n) c.args.head.now.head.store c.add_sample.new.head.head.store _ _ _ c.in_ok-done-in-Sample.done c.in_ok-done-in-Sample.ensures.done restored))
