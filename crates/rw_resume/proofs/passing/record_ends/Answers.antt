use Rattle.std.proofs.Common.{[], ◌∷◌, Ok, ◌∙◌, ap}
use Rattle.rw_resume.proofs.PassingLemmas.{ends_record}
use Rattle.rw_resume.proofs.passing.record_ends.Goals as goal

pub returns-clause-yes : goal.returns-clause-yes
returns-clause-yes c = λ e k text h len.
    ends_record c.segments_are_read.ensures k text (255 ∷ []) c.args.count len
    (c.item_ends.ensures.yes (c.in_ok-item_ends.was ∙ ap Ok c.if-not-branch.false) k text h)
    (c.none_is_open.ensures.yes e k text h)
