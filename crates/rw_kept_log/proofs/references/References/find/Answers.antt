use Rattle.std.proofs.Common.{refl, sym, subst}
use Rattle.rw_kept_log.specs.Definitions.{IsOneOf}
use Rattle.rw_kept_log.specs.References.{ReferenceTable, pairs_of}
use Rattle.rw_kept_log.specs.inner.References.{table_of}
use Rattle.rw_kept_log.proofs.TableLemmas.{is_one, named}
use Rattle.rw_kept_log.proofs.references.References.find.Goals as goal

pub returns-in_err-place-clause-none : goal.returns-in_err-place-clause-none
returns-in_err-place-clause-none c = λ e k at. c.in_err-place.ensures.none refl k (is_one (pairs_of c.args.self.now) k c.args.labels.now at)

pub returns-clause-some : goal.returns-clause-some
returns-clause-some c =
    named (pairs_of (table_of c.self.inside.sets.entries c.self.inside.defined c.self.inside.next)) c.in_ok-place.reference c.args.labels.now c.self.invariant.table.apart
    (subst (λ (n : ReferenceTable). IsOneOf (pairs_of n) (c.in_ok-place.reference, c.args.labels.now)) (sym c.self.view_is) c.in_ok-place.ensures.some)
