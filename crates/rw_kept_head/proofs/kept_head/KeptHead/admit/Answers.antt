use Rattle.std.proofs.Common.{◌<◌, ◌∙◌, ap, sym, inl, inr, subst, ⊎_elim}
use Rattle.rw_types.specs.Beginnings.{Begins}
use Rattle.rw_head.specs.Head.{State, answer}
use Rattle.rw_head.specs.Store.{list_of}
use Rattle.rw_kept_head.proofs.kept_head.KeptHead.admit.Goals as goal

pub returns-clause-kept : goal.returns-clause-kept
returns-clause-kept g c = λ none. record {
  says = c.admit_kept-head.ensures.says none;
  whole = c.conforms.ensures.whole none;
  synced = c.conforms.ensures.synced none;
}

pub returns-clause-acknowledged : goal.returns-clause-acknowledged
returns-clause-acknowledged g c = λ ne.
    let none = c.admit_kept-head.ensures.open ne in
    record {
      says = c.admit_kept-head.ensures.says none;
      whole = c.conforms.ensures.whole none;
      synced = c.conforms.ensures.synced none;
    }

pub returns-clause-begins : goal.returns-clause-begins
returns-clause-begins g c = λ l.
    subst (λ (h : State). Begins (list_of h.store l) (list_of (answer h c.args.body.now).head.store l)) (c.replace-head.ensures.value ∙ ap (λ k. k.head) c.self.view_is) (c.admit_kept-head.ensures.begins l)

pub returns-clause-failed : goal.returns-clause-failed
returns-clause-failed g c = λ e.
    ⊎_elim (λ was. inl (sym (ap (λ k. k.fault) c.self.view_is) ∙ was))
    (λ less. inr (subst (λ j. g.J.Journal.faults j < g.J.Journal.faults c.admit_kept-head.new.log.journal) (ap (λ k. k.journal) c.self.view_is) less)) (c.admit_kept-head.ensures.failed e)

pub returns-clause-last : goal.returns-clause-last
returns-clause-last g c = λ none. c.conforms.ensures.last none
