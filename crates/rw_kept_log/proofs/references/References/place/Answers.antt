use Rattle.std.proofs.Common.{sym}
use Rattle.rw_kept_log.proofs.TableLemmas.{equal_at, in_table, looked_up, not_found}
use Rattle.rw_kept_log.proofs.references.References.place.Goals as goal

pub returns-then-eq-clause-some : goal.returns-then-eq-clause-some
returns-then-eq-clause-some c =
    in_table c.self.inside.sets.entries c.self.inside.defined c.self.inside.next c.in-Some.reference.now c.args.labels.now c.args.self.now c.self.invariant c.self.view_is
    (equal_at c.self.inside.sets.entries c.self.inside.likely c.in-Some.reference.now c.in-Some.set.now c.args.labels.now (sym c.in-Some.ensures.entry) (sym c.if-eq.ensures))

pub returns-in_err-place-clause-none : goal.returns-in_err-place-clause-none
returns-in_err-place-clause-none c = λ e k one.
    not_found c.self.inside.sets.entries c.self.inside.defined c.self.inside.next k c.args.labels.now c.args.self.now c.self.invariant c.self.view_is c.in_err-place.ensures.value one

pub returns-clause-some : goal.returns-clause-some
returns-clause-some c =
    in_table c.self.inside.sets.entries c.self.inside.defined c.self.inside.next c.in_ok-place.reference.now c.args.labels.now c.args.self.now c.self.invariant c.self.view_is
    (looked_up c.args.labels.now c.self.inside.sets.entries c.in_ok-place.reference.now (sym c.in_ok-place.ensures.value))
