-- What holds a head, after one question more.
use Rattle.std.proofs.Common.{◌≡◌, ℕ, List, [], ◌∷◌, ◌++◌, Option, Some, refl, sym, subst}
use Rattle.rw_recv_head.specs.declared.question.Question.{Question}
use Rattle.rw_recv_head.specs.declared.questions.PassState.{PassState}
use Rattle.rw_recv_head.specs.Seats.{AreAdmitted, HasAdmitted}

module _ {H : Type 0} (admits : H → List ℕ → ℕ → H → Type 0) where
  pub AreAdmitted-push : (asked : List Question) (first old new : H) (q : Question) → AreAdmitted admits first asked old
      → admits old q.body q.status new → AreAdmitted admits first (asked ++ q ∷ []) new
  AreAdmitted-push [] first old new q same step =
      (new, subst (λ (h : H). admits h q.body q.status new) same step, refl)
  AreAdmitted-push (p ∷ later) first old new q (next, is, more) step = (next, is, AreAdmitted-push later next old new q more step)

  -- nothing was asked yet
  pub none_admitted : (opening : Option H) (first : H) (asked : List Question) → opening ≡ Some first → asked ≡ []
      → HasAdmitted admits opening asked first
  none_admitted opening first asked is none =
      (first, is, subst (λ (l : List Question). AreAdmitted admits first l first) (sym none) refl)

  -- one more was asked, and noted
  pub one_more_admitted : (opening : Option H) (known now : PassState) (old new : H) (q : Question)
      → HasAdmitted admits opening known.asked old → now ≡ record known { asked = known.asked ++ q ∷ [] }
      → admits old q.body q.status new → HasAdmitted admits opening now.asked new
  one_more_admitted opening known now old new q (first, is, before) noted step =
      (first, is, subst (λ (k : PassState). AreAdmitted admits first k.asked new) (sym noted) (AreAdmitted-push known.asked first old new q before step))
