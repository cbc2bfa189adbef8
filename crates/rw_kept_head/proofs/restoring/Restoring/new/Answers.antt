use Rattle.std.proofs.Common.{ℕ, Option, subst, List, ◌^◌, ◌-◌, min, length, nat_eq, ap, sym, ◌∙◌}
use Rattle.std.specs.HashMap.{get}
use Rattle.std.specs.Map.{lookup}
use Rattle.rw_types.specs.declared.entry.Entry.{Entry}
use Rattle.rw_types.specs.declared.names.Names.TheVariants.{Utf8}
use Rattle.rw_head.specs.Store.{Store, list_of}
use Rattle.rw_head.proofs.shared.StoreLemmas.{list_of-empty}
use Rattle.rw_kept_head.specs.inner.Restoring.{HasPlace}
use Rattle.rw_kept_head.proofs.RestoringLemmas.{nothing_yet, holds_nothing}
use Rattle.rw_kept_head.proofs.restoring.Restoring.new.Goals as goal

pub invariant_of-result : goal.invariant_of-result
invariant_of-result g c = λ _. (
  record {
    restored = λ _.
        nothing_yet Utf8 c.new.result _ c.new-2.result.head.store c.new.ensures (λ r. ap (λ es. lookup (nat_eq r) es) c.new-3.ensures.empty) (λ l. ap (λ (s : Store). list_of s l) c.new-2.ensures.store ∙ list_of-empty l);
    refuses = λ is. absurd cc;
    all = λ is. ap (λ (es : List Entry). min (length es) (2 ^ 64 - 1)) (sym c.new.ensures);
    first = λ is. absurd cc;
    holds = holds_nothing c.new-2.result.head.limits (list_of c.new-2.result.head.store) (λ l. ap (λ (s : Store). list_of s l) c.new-2.ensures.store ∙ list_of-empty l);
  },
  λ r. subst (λ (o : Option (Option ℕ)). HasPlace o (get nat_eq c.new-3.result r) c.new-2.result.places) (sym (ap (λ es. lookup (nat_eq r) es) c.new-4.ensures.empty)) tt,
)
