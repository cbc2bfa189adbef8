-- What the entries of a log give, with one entry more.
use Rattle.std.proofs.Common.{◌≡◌, List, [], ◌∷◌, ◌++◌, sym, ap, ◌∙◌, append_assoc, append-nil}
use Rattle.rw_types.specs.declared.entry.Entry.{Entry}
use Rattle.rw_types.specs.Gathering.{gather_from, gather}

module _ {A : Type 0} (f : List Entry → Entry → List A) where
  pub gather_from-push : (before es : List Entry) (e : Entry) → gather_from f before (es ++ e ∷ []) ≡ gather_from f before es ++ f (before ++ es) e
  gather_from-push before [] e = append-nil (f before e) ∙ ap (λ b. f b e) (sym (append-nil before))
  gather_from-push before (x ∷ xs) e =
      ap (λ l. f before x ++ l) (gather_from-push (before ++ x ∷ []) xs e)
      ∙ ap (λ b. f before x ++ (gather_from f (before ++ x ∷ []) xs ++ f b e)) (append_assoc before (x ∷ []) xs)
      ∙ sym (append_assoc (f before x) (gather_from f (before ++ x ∷ []) xs) (f (before ++ x ∷ xs) e))

  pub gather-push : (es : List Entry) (e : Entry) → gather f (es ++ e ∷ []) ≡ gather f es ++ f es e
  gather-push es e = gather_from-push [] es e
