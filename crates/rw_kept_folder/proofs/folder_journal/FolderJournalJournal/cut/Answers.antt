use Rattle.std.proofs.Common.{◌∙◌, ap, sym, subst, length, take}
use Rattle.rw_kept_folder.proofs.LengthLemmas.{length_on_last, cut_length, not_cut}
use Rattle.rw_kept_folder.proofs.folder_journal.FolderJournalJournal.cut.Goals as goal

pub returns-in_err-set_aside-clause-crash : goal.returns-in_err-set_aside-clause-crash
returns-in_err-set_aside-clause-crash g c =
    λ x left. not_cut c.args.len _ x (c.requires x (subst (λ j. g.F.SegmentFiles.may_leave j x) c.self.view_is (c.set_aside.ensures.crash x left)))

pub invariant_of-self-2 : goal.invariant_of-self-2
invariant_of-self-2 g c =
    λ _ x left. cut_length c.args.len _ x (c.set_len.ensures.crash x left)
    ∙ sym (ap length c.set_len.ensures.asked ∙ length_on_last (take c.args.len) _)
