use Rattle.std.proofs.Common.{◌≡◌, ℕ, List, Bool, false, not, rules, ◌||◌, nat_eq, sym, subst}
use Rattle.std.specs.HashMap.{get}
use Rattle.rw_types.specs.declared.entry.Entry.{Entry}
use Rattle.rw_kept_head.specs.inner.Restoring.{accepted_next, IsRestoring}
use Rattle.rw_kept_head.proofs.RestoringLemmas.{restoring_next}
use Rattle.rw_kept_head.proofs.restoring.RestoringTaker.take.Goals as goal

pub invariant_of-self-2 : goal.invariant_of-self-2
invariant_of-self-2 g c = λ whole.
    let before : c.self.inside.failed ≡ false = search rules in
    rw c.let_go.ensures (
      subst (λ (n : ℕ). IsRestoring c.push.new.self (λ n. get nat_eq c.take_entry.new.series n) c.take_entry.new.head.head n c.is_refused-self-inside.result) (sym c.count_accepted-self-inside.ensures)
          (subst (λ (b : Bool). IsRestoring c.push.new.self (λ n. get nat_eq c.take_entry.new.series n) c.take_entry.new.head.head (accepted_next c.self.inside.accepted b) b) (sym c.is_refused-self-inside.ensures)
          (subst (λ (es : List Entry). IsRestoring es (λ n. get nat_eq c.take_entry.new.series n) c.take_entry.new.head.head (accepted_next c.self.inside.accepted (c.self.inside.refused || not c.in_ok-done.done)) (c.self.inside.refused || not c.in_ok-done.done)) (sym c.push.ensures)
          (restoring_next c.self.inside.taken c.args.entry (λ n. get nat_eq c.self.inside.series n) (λ n. get nat_eq c.take_entry.new.series n) c.self.inside.head.head c.take_entry.new.head.head c.self.inside.accepted c.self.inside.refused
          c.in_ok-done.done c.take_entry.ensures.limits (c.self.invariant before).0 (c.in_ok-done.ensures.done c.self.inside.taken) c.in_ok-done.ensures.held))),
      c.in_ok-done.ensures.places,
    )
