use Rattle.std.proofs.Common.{◌≡◌, Bool, false, ◌∙◌, ap}
use Rattle.std.specs.Prelude.{not}
use Rattle.rw_wal_tail.specs.Fed.{Fed}
use Rattle.rw_resume.proofs.PassingLemmas.{one_open}
use Rattle.rw_resume.proofs.passing.none_is_open.Goals as goal

pub returns-clause-no : goal.returns-clause-no
returns-clause-no c = λ e k text h.
    let is : c.is_none.result ≡ false = cc in
    one_open k text c.args.tail.now c.next_segment.new.self c.take_all.new.tail _ _ c.in_ok-fault.fault h (c.next_segment.ensures.taken _ h.taken)
    (ap (λ (t : Fed). t.pieces) c.next_segment.ensures.next) c.take_all.ensures.pieces c.in_ok-fault.ensures.all
    (ap not c.is_none.ensures ∙ ap (λ (b : Bool). not (not b)) is)
