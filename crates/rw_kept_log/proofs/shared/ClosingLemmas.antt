-- A last segment that is cut somewhere after its last whole record, and an empty one after it,
-- change no entries.
use Rattle.std.proofs.Common.{◌≡◌, inl, inr, ℕ, zero, suc, ◌<◌, ◌≤◌, List, [], ◌∷◌, ◌++◌, length, take, drop, refl, sym, ap, ◌∙◌, subst, arith, append-nil, length-append, take-append-drop, false}
use Rattle.std.proofs.lemmas.List.{take-take}
use Rattle.rw_types.specs.declared.entry.Entry.{Entry}
use Rattle.rw_wal_format.specs.Segments.{segment, item_at, segment_in}
use Rattle.rw_wal_format.specs.Pieces.{reading, reading_after}
use Rattle.rw_wal_format.proofs.shared.Growing.{segment_grows}
use Rattle.rw_kept_log.specs.Journal.{Segments, on_last, IsCutEnd, IsBegun}
use Rattle.rw_kept_log.specs.Logs.{log_of, entries_of, IsWholeText, IsCleanCut}
use Rattle.rw_kept_log.specs.TornLogs.{last_of, AllBefore}
use Rattle.rw_kept_log.proofs.LogLemmas.{then_between}

-- two lists that begin each other
both_ways : (xs ys m n : List Entry) → ys ≡ xs ++ m → xs ≡ ys ++ n → ys ≡ xs
both_ways xs ys m n e f =
    let none : m ≡ [] = none_of m (omega (arith, ap length e, ap length f, length-append xs m, length-append ys n)) in
    e ∙ ap (λ (k : List Entry). xs ++ k) none ∙ append-nil xs
  where
    none_of : (es : List Entry) → length es ≤ 0 → es ≡ []
    none_of [] h = refl
    none_of (x ∷ es) h = absurd (omega arith)

cut_between : (page : ℕ) (text : List ℕ) (at k : ℕ) → 0 < page → IsCleanCut page text at → at ≤ k → (segment page (take k text)).entries ≡ (segment page text).entries
cut_between page text at k p clean le =
    let front : take at (take k text) ≡ take at text = take-take at k text le in
    let low = segment_grows false page (take at (take k text)) (drop at (take k text)) p in
    let high = segment_grows false page (take k text) (drop k text) p in
    let low' : (segment page (take k text)).entries ≡ (segment page text).entries ++ low.more =
    ap (λ (t : List ℕ). (segment page t).entries) (sym (take-append-drop at (take k text))) ∙ low.entries
    ∙ ap (λ (t : List ℕ). (segment page t).entries ++ low.more) front ∙ ap (λ (es : List Entry). es ++ low.more) clean.keeps in
    let high' : (segment page text).entries ≡ (segment page (take k text)).entries ++ high.more =
    ap (λ (t : List ℕ). (segment page t).entries) (sym (take-append-drop k text)) ∙ high.entries in
    both_ways (segment page text).entries (segment page (take k text)).entries low.more high.more low' high'

pub front_of : (page : ℕ) (s t : List ℕ) (ss : Segments) → IsWholeText page s → entries_of page (s ∷ t ∷ ss) ≡ (segment page s).entries ++ entries_of page (t ∷ ss)
unfolding reading
front_of page s t ss whole = then_between (segment page s).stop (segment page s) (reading_after page [] (log_of (t ∷ ss))) whole

front_on : (page : ℕ) (f : List ℕ → List ℕ) (s t : List ℕ) (ss : Segments) → IsWholeText page s → entries_of page (s ∷ on_last f (t ∷ ss)) ≡ (segment page s).entries ++ entries_of page (on_last f (t ∷ ss))
front_on page f s t [] whole = front_of page s (f t) [] whole
front_on page f s t (u ∷ ss) whole = front_of page s t (on_last f (u ∷ ss)) whole

same_on : (page : ℕ) (f : List ℕ → List ℕ) (ss : Segments) → AllBefore (IsWholeText page) ss → (segment page (f (last_of ss))).entries ≡ (segment page (last_of ss)).entries
    → entries_of page (on_last f ss) ≡ entries_of page ss
unfolding reading
same_on page f [] all e = refl
same_on page f (s ∷ []) all e = e
same_on page f (s ∷ t ∷ ss) all e =
    front_on page f s t ss all.0 ∙ ap (λ (es : List Entry). (segment page s).entries ++ es) (same_on page f (t ∷ ss) all.1 e) ∙ sym (front_of page s t ss all.0)

-- a crash while the last segment is being cut
pub cutting : (page : ℕ) (ss : Segments) (at : ℕ) (c : Segments) → 0 < page → AllBefore (IsWholeText page) ss → IsCleanCut page (last_of ss) at → IsCutEnd at ss c
    → entries_of page c ≡ entries_of page ss
cutting page ss at c p all clean cut =
    ap (entries_of page) cut.folder ∙ same_on page (take cut.at) ss all (cut_between page (last_of ss) at cut.at p clean cut.no_shorter)

pub nothing_read : (page : ℕ) → (segment page []).entries ≡ []
unfolding segment_in item_at
nothing_read page = refl

-- an empty segment after whole ones
empty_after : (page : ℕ) (ss : Segments) → AllBefore (IsWholeText page) ss → IsWholeText page (last_of ss) → entries_of page (ss ++ [] ∷ []) ≡ entries_of page ss
unfolding reading
empty_after page [] all whole = refl
empty_after page (s ∷ []) all whole = front_of page s [] [] whole ∙ ap (λ (es : List Entry). (segment page s).entries ++ es) (nothing_read page) ∙ append-nil (segment page s).entries
empty_after page (s ∷ t ∷ ss) all whole =
    front_of page s t (ss ++ [] ∷ []) all.0 ∙ ap (λ (es : List Entry). (segment page s).entries ++ es) (empty_after page (t ∷ ss) all.1 whole) ∙ sym (front_of page s t ss all.0)

last_on : (at : ℕ) (ss : Segments) → last_of (on_last (take at) ss) ≡ take at (last_of ss)
last_on zero [] = refl
last_on (suc at) [] = refl
last_on at (s ∷ []) = refl
last_on at (s ∷ t ∷ []) = refl
last_on at (s ∷ t ∷ u ∷ ss) = last_on at (t ∷ u ∷ ss)

before_on : (P : List ℕ → Type 0) (f : List ℕ → List ℕ) (ss : Segments) → AllBefore P ss → AllBefore P (on_last f ss)
before_on P f [] all = tt
before_on P f (s ∷ []) all = tt
before_on P f (s ∷ t ∷ []) all = (all.0, tt)
before_on P f (s ∷ t ∷ u ∷ ss) all = (all.0, before_on P f (t ∷ u ∷ ss) all.1)

before_push : (P : List ℕ → Type 0) (ss : Segments) → AllBefore P ss → P (last_of ss) → AllBefore P (ss ++ [] ∷ [])
before_push P [] all here = tt
before_push P (s ∷ []) all here = (here, tt)
before_push P (s ∷ t ∷ ss) all here = (all.0, before_push P (t ∷ ss) all.1 here)

module _ (page : ℕ) (ss : Segments) (at : ℕ) (p : 0 < page) (all : AllBefore (IsWholeText page) ss) (clean : IsCleanCut page (last_of ss) at) where
  whole_last : IsWholeText page (last_of (on_last (take at) ss))
  whole_last = subst (IsWholeText page) (sym (last_on at ss)) clean.whole

  cut_entries : entries_of page (on_last (take at) ss) ≡ entries_of page ss
  cut_entries = same_on page (take at) ss all clean.keeps

  -- once the cut is there, and the next segment may be
  pub beginning : (cut c : Segments) → cut ≡ on_last (take at) ss → IsBegun cut c → entries_of page c ≡ entries_of page ss
  beginning cut c is (inl same) = ap (entries_of page) (same ∙ is) ∙ cut_entries
  beginning cut c is (inr more) =
      ap (entries_of page) (more ∙ ap (λ (s : Segments). s ++ [] ∷ []) is) ∙ empty_after page (on_last (take at) ss) (before_on (IsWholeText page) (take at) ss all) whole_last ∙ cut_entries

  pub begun : (new : Segments) → new ≡ on_last (take at) ss ++ [] ∷ [] → (entries_of page new ≡ entries_of page ss) × AllBefore (IsWholeText page) new
  begun new is = (
    ap (entries_of page) is ∙ empty_after page (on_last (take at) ss) (before_on (IsWholeText page) (take at) ss all) whole_last ∙ cut_entries,
    subst (AllBefore (IsWholeText page)) (sym is) (before_push (IsWholeText page) (on_last (take at) ss) (before_on (IsWholeText page) (take at) ss all) whole_last),
  )
