-- One more moment joins those of a journal in memory.
use Rattle.std.proofs.Common.{◌≡◌, ◌⊎◌, inl, inr, ⊎_elim, ℕ, zero, suc, ◌≤◌, List, [], ◌∷◌, ◌++◌, length, drop, refl, sym, subst, arith, length-append}
use Rattle.rw_kept_log.specs.Journal.{Segments, Elapses}
use Rattle.rw_kept_log.specs.Memory.{IsLeftOf, HadBeen, LeftSince}
use Rattle.rw_kept_log.specs.declared.image.Image.{Image}

keeps : (past : List Image) (v : Image) (c : Segments) → HadBeen past c → HadBeen (past ++ v ∷ []) c
keeps [] v c had = absurd had
keeps (p ∷ past) v c (inl here) = inl here
keeps (p ∷ past) v c (inr there) = inr (keeps past v c there)

adds : (past : List Image) (v : Image) (c : Segments) → HadBeen (past ++ v ∷ []) c → HadBeen past c ⊎ IsLeftOf v c
adds [] v c (inl here) = inr here
adds [] v c (inr none) = absurd none
adds (p ∷ past) v c (inl here) = inl (inl here)
adds (p ∷ past) v c (inr there) = ⊎_elim (λ had. inl (inr had)) (λ new. inr new) (adds past v c there)

newest : (past : List Image) (v : Image) (c : Segments) → IsLeftOf v c → HadBeen (past ++ v ∷ []) c
newest [] v c is = inl is
newest (p ∷ past) v c is = inr (newest past v c is)

drop_push : (t : ℕ) (past : List Image) (v : Image) → t ≤ length past → drop t (past ++ v ∷ []) ≡ drop t past ++ v ∷ []
drop_push zero past v le = refl
drop_push (suc t) [] v le = absurd (omega arith)
drop_push (suc t) (p ∷ past) v le = drop_push t past v (omega arith)

pub elapses_same : (past : List Image) (image : Image) → Elapses (length past) (length past) (LeftSince past image) (LeftSince past image) (IsLeftOf image)
elapses_same past image = record { later = omega arith; nothing_else = λ t c le left. inl left; keeps = λ t c le left. left }

pub elapses_push : (past : List Image) (old new : Image) → Elapses (length past) (length (past ++ old ∷ [])) (LeftSince past old) (LeftSince (past ++ old ∷ []) new) (IsLeftOf new)
elapses_push past old new = record {
  later = omega (arith, length-append past (old ∷ []));
  nothing_else = λ t c le left. ⊎_elim (λ now. inr now) (λ had. inl (was t c (adds (drop t past) old c (subst (λ (l : List Image). HadBeen l c) (drop_push t past old le) had)))) left;
  keeps = λ t c le left. inr (subst (λ (l : List Image). HadBeen l c) (sym (drop_push t past old le)) (⊎_elim (newest (drop t past) old c) (keeps (drop t past) old c) left));
}
  where
    was : (t : ℕ) (c : Segments) → HadBeen (drop t past) c ⊎ IsLeftOf old c → LeftSince past old t c
    was t c (inl had) = inr had
    was t c (inr here) = inl here

pub elapses_to : (past later : List Image) (old new : Image) → later ≡ past ++ old ∷ [] → Elapses (length past) (length later) (LeftSince past old) (LeftSince later new) (IsLeftOf new)
elapses_to past later old new same =
    subst (λ (l : List Image). Elapses (length past) (length l) (LeftSince past old) (LeftSince l new) (IsLeftOf new)) (sym same) (elapses_push past old new)
