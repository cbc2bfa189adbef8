use Rattle.std.proofs.Common.{◌≡◌, ◌∙◌, Some, ap, sym, subst, map}
use Rattle.rw_wal_format.specs.Pieces.{fault}
use Rattle.rw_wal_tail.specs.Fed.{Fed, told_of}
use Rattle.rw_wal_tail.specs.inner.Fed.{IsStuck}
use Rattle.rw_wal_tail.specs.Places.{told_place}
use Rattle.rw_wal_tail.proofs.FedLaws.{has_fault, places_fault}
use Rattle.rw_wal_tail.proofs.tail.Tail.fault_place.Goals as goal

pub returns-in-Some-clause-place : goal.returns-in-Some-clause-place
returns-in-Some-clause-place c =
    let i = c.self.invariant in
    let e : IsStuck c.self.inside.reader (Some c.in-Some.field-0) = subst (IsStuck c.self.inside.reader) c.in-Some.is i.stuck in
    ap Some c.place.ensures
    ∙ sym (places_fault _ c.self.inside.given c.self.inside.reader i.follows c.in-Some.field-0 e.0 e.1)
    ∙ ap (λ f. told_place f (map told_of c.self.inside.pieces)) (sym c.in-Some.is)
    ∙ ap (λ (t : Fed). told_place t.fault t.pieces) c.self.view_is

pub returns-in-Some-clause-is_fault : goal.returns-in-Some-clause-is_fault
returns-in-Some-clause-is_fault c f q =
    let i = c.self.invariant in
    let told : c.self.inside.told ≡ Some f = ap (λ (t : Fed). t.fault) c.self.view_is ∙ q in
    let e : IsStuck c.self.inside.reader (Some f) = subst (IsStuck c.self.inside.reader) told i.stuck in
    sym (ap (λ (t : Fed). fault t.pieces) c.self.view_is) ∙ has_fault _ c.self.inside.given c.self.inside.reader i.follows f e.0 e.1
