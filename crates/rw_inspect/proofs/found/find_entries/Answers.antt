use Rattle.std.proofs.Common.{Err, ap, sym, ◌∙◌}
use Rattle.rw_inspect.proofs.InspectLemmas.{handed_on}
use Rattle.rw_inspect.specs.inner.Finding.{Finding}
use Rattle.rw_inspect.proofs.FindingLemmas.{finds}
use Rattle.rw_inspect.proofs.found.find_entries.Goals as goal

pub returns-clause-ok : goal.returns-clause-ok
returns-clause-ok g c =
    let read = c.in_ok-read.ensures in
    finds _ _ _ _ _ _ _ _ read.ok (read.fixed ∙ ap (λ (f : Finding). f.positions.items) c.new-finder.ensures) c.deref.ensures.value c.in_ok-text.ensures.text c.in_ok-text.ensures.missing

pub returns-in_err-read-clause-sure : goal.returns-in_err-read-clause-sure
returns-in_err-read-clause-sure g c = λ all u is.
    c.in_err-read.ensures.sure all u (ap Err (sym (handed_on _ _ _ c.from_residual.ensures.1 is)))
