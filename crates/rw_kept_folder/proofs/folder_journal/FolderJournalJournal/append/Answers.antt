use Rattle.std.proofs.Common.{◌∙◌, ◌++◌, ap, sym, length}
use Rattle.rw_kept_folder.proofs.LengthLemmas.{length_on_last, torn_length}
use Rattle.rw_kept_folder.proofs.folder_journal.FolderJournalJournal.append.Goals as goal

pub invariant_of-self-2 : goal.invariant_of-self-2
invariant_of-self-2 g c =
    let old = g.F.SegmentFiles.seen c.self.inside.files in
    λ _ x left. torn_length g.F.SegmentFiles.tears c.args.bytes.now old x (c.append.ensures.crash x left)
    ∙ sym (ap length c.append.ensures.asked ∙ length_on_last (λ s. s ++ c.args.bytes.now) old)
