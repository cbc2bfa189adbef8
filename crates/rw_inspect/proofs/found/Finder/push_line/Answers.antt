use Rattle.std.proofs.Common.{◌≡◌, true, sym, subst}
use Rattle.rw_inspect.specs.inner.Finding.{Finding, is_asked}
use Rattle.rw_inspect.proofs.FindingLemmas.{is_not_there, is_there, said_not_there, said_there}
use Rattle.rw_inspect.proofs.found.Finder.push_line.Goals as goal

pub returns-in_ok-push_there-in-Some-clause-line : goal.returns-in_ok-push_there-in-Some-clause-line
returns-in_ok-push_there-in-Some-clause-line c =
    let asked = subst (λ (f : Finding). is_asked f.positions.items c.args.position ≡ true) (sym c.self.view_is) c.requires in
    rw (← c.self.view_is) (said_there _ _ _ _ _ _ _ _ _ _ _ _ c.self.invariant asked c.deref.ensures.value c.in-Some.ensures c.name_at.ensures c.in_ok-push_there-in-Some.ensures)

pub returns-in_ok-push_there-in-Some-clause-missing : goal.returns-in_ok-push_there-in-Some-clause-missing
returns-in_ok-push_there-in-Some-clause-missing c =
    let asked = subst (λ (f : Finding). is_asked f.positions.items c.args.position ≡ true) (sym c.self.view_is) c.requires in
    rw (← c.self.view_is) (is_there _ _ _ _ _ _ _ _ c.self.invariant asked c.deref.ensures.value c.in-Some.ensures)

pub returns-in_ok-push_not_there-in-None-clause-line : goal.returns-in_ok-push_not_there-in-None-clause-line
returns-in_ok-push_not_there-in-None-clause-line c =
    let asked = subst (λ (f : Finding). is_asked f.positions.items c.args.position ≡ true) (sym c.self.view_is) c.requires in
    rw (← c.self.view_is) (said_not_there _ _ _ _ _ _ _ _ _ _ c.self.invariant asked c.deref.ensures.value c.in-None.ensures c.in_ok-push_not_there-in-None.ensures)

pub returns-in_ok-push_not_there-in-None-clause-missing : goal.returns-in_ok-push_not_there-in-None-clause-missing
returns-in_ok-push_not_there-in-None-clause-missing c =
    let asked = subst (λ (f : Finding). is_asked f.positions.items c.args.position ≡ true) (sym c.self.view_is) c.requires in
    rw (← c.self.view_is) (is_not_there _ _ _ _ _ _ _ c.self.invariant asked c.deref.ensures.value c.in-None.ensures)
