-- The samples of a log, entry by entry.
use Rattle.std.proofs.Common.{◌≡◌, List, [], ◌∷◌, ◌++◌, sym, ◌∙◌, ap, append_assoc}
use Rattle.std.proofs.lemmas.List.{append-nil}
use Rattle.rw_types.specs.declared.entry.Entry.{Entry}
use Rattle.rw_log_commands.specs.Labelled.{labelled_samples, labelled_after, labelled_of}

labelled_after-push : (before es : List Entry) (e : Entry) → labelled_after before (es ++ e ∷ []) ≡ labelled_after before es ++ labelled_of (before ++ es) e
labelled_after-push before [] e = append-nil (labelled_of before e) ∙ ap (λ b. labelled_of b e) (sym (append-nil before))
labelled_after-push before (d ∷ es) e =
    ap (λ r. labelled_of before d ++ r) (labelled_after-push (before ++ d ∷ []) es e)
    ∙ ap (λ b. labelled_of before d ++ (labelled_after (before ++ d ∷ []) es ++ labelled_of b e)) (append_assoc before (d ∷ []) es)
    ∙ sym (append_assoc (labelled_of before d) (labelled_after (before ++ d ∷ []) es) (labelled_of (before ++ d ∷ es) e))

-- one more entry gives its sample, if it has one
pub labelled-push : (es : List Entry) (e : Entry) → labelled_samples (es ++ e ∷ []) ≡ labelled_samples es ++ labelled_of es e
unfolding labelled_samples
labelled-push es e = labelled_after-push [] es e
