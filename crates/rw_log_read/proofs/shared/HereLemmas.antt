-- The totals of the entries of a segment, one more entry at a time.
use Rattle.std.proofs.Common.{◌≡◌, List, [], ◌∷◌, ◌++◌, refl, sym, ap, ◌∙◌, append_assoc, append-nil}
use Rattle.std.proofs.lemmas.List.{append_cancel_left}
use Rattle.std.proofs.lemmas.List.Sums.{fold-append}
use Rattle.rw_types.specs.declared.entry.Entry.{Entry}
use Rattle.rw_log_read.specs.inner.Counted.{AreCounted}
use Rattle.rw_log_read.specs.Sums.{no_sums, sums_of, sums_with_entry}
use Rattle.rw_log_read.specs.declared.sums.Sums.{Sums}

pub sums_of-none : sums_of [] ≡ no_sums
unfolding sums_of
sums_of-none = refl

pub sums_of-push : (es : List Entry) (e : Entry) → sums_of (es ++ e ∷ []) ≡ sums_with_entry (sums_of es) e
unfolding sums_of
sums_of-push es e = fold-append sums_with_entry no_sums es (e ∷ [])

-- the entries of the current segment
pub here_none : (es : List Entry) (s : Sums) → es ≡ [] → s ≡ no_sums → s ≡ sums_of es
here_none es s e n = n ∙ sym sums_of-none ∙ ap sums_of (sym e)

-- before the first entry
pub counted_none : (taken noted before : List Entry) (s : Sums) → taken ≡ [] → noted ≡ [] → before ≡ [] → s ≡ no_sums → AreCounted taken noted before s
counted_none taken noted before s e n b t = record {
  same = e ∙ sym n;
  here = [];
  adds = n ∙ sym (ap (λ es. es ++ []) b);
  sums_are = t ∙ sym sums_of-none;
}

-- when the next segment begins
pub counted_begun : (taken noted before again : List Entry) (s t : Sums) → AreCounted taken noted before s → again ≡ noted → t ≡ no_sums → AreCounted taken noted again t
counted_begun taken noted before again s t h is e = record {
  same = h.same;
  here = [];
  adds = sym is ∙ sym (append-nil again);
  sums_are = e ∙ sym sums_of-none;
}

-- one more entry
pub counted_more : (taken now noted again more before : List Entry) (e : Entry) (s t : Sums) → AreCounted taken noted before s → now ≡ taken ++ e ∷ [] → again ≡ noted → more ≡ again ++ e ∷ [] → t ≡ sums_with_entry s e → AreCounted now more before t
counted_more taken now noted again more before e s t h up is push m =
    let noted_more : more ≡ noted ++ e ∷ [] = push ∙ ap (λ es. es ++ e ∷ []) is in
    record {
      same = up ∙ ap (λ es. es ++ e ∷ []) h.same ∙ sym noted_more;
      here = h.here ++ e ∷ [];
      adds = noted_more ∙ ap (λ es. es ++ e ∷ []) h.adds ∙ append_assoc before h.here (e ∷ []);
      sums_are = m ∙ ap (λ x. sums_with_entry x e) h.sums_are ∙ sym (sums_of-push h.here e);
    }

-- no entry was taken
pub counted_same : (taken now noted before : List Entry) (s : Sums) → AreCounted taken noted before s → now ≡ taken → AreCounted now noted before s
counted_same taken now noted before s h is = record { same = is ∙ h.same; here = h.here; adds = h.adds; sums_are = h.sums_are }

-- the totals of the entries since the segment began
pub counted_sums : (taken noted before more : List Entry) (s : Sums) → AreCounted taken noted before s → taken ≡ before ++ more → s ≡ sums_of more
counted_sums taken noted before more s h is = h.sums_are ∙ ap sums_of (append_cancel_left before h.here more (sym h.adds ∙ sym h.same ∙ is))
