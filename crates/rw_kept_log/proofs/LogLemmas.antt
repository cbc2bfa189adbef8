-- The entries of a log are those of its segments, one after the other.
use Rattle.std.proofs.Common.{◌≡◌, ℕ, List, [], ◌∷◌, ◌++◌, take, refl, sym, ap, ◌∙◌, append_assoc, append-nil}
use Rattle.std.specs.List.{AllByRecursion}
use Rattle.rw_types.specs.declared.entry.Entry.{Entry}
use Rattle.rw_wal_format.specs.Segments.{Stop, between, Reading, segment}
use Rattle.rw_wal_format.specs.Pieces.{Piece, bytes, next_segment, then_after, reading_after, reading}
use Rattle.rw_kept_log.specs.Logs.{log_of, entries_of, IsWholeText, IsCleanCut}

log_next : (s : List ℕ) (ss : List (List ℕ)) (last : List ℕ) → log_of (s ∷ (ss ++ last ∷ [])) ≡ bytes s ∷ next_segment ∷ log_of (ss ++ last ∷ [])
log_next s [] last = refl
log_next s (t ∷ ss) last = refl

pub then_between : (s : Stop) (r next : Reading) → s ≡ between → (then_after s r next).entries ≡ r.entries ++ next.entries
then_between s r next e = ap (λ (x : Stop). (then_after x r next).entries) e

-- the entries of the segments, one after the other
pub each_of : ℕ → List (List ℕ) → List Entry
each_of page [] = []
each_of page (s ∷ ss) = (segment page s).entries ++ each_of page ss

pub add_up : (page : ℕ) (done : List (List ℕ)) (last : List ℕ) → AllByRecursion (IsWholeText page) done
    → entries_of page (done ++ last ∷ []) ≡ each_of page done ++ (segment page last).entries
unfolding reading each_of
add_up page [] last all = refl
add_up page (s ∷ ss) last all =
    ap (λ (ps : List Piece). (reading_after page [] ps).entries) (log_next s ss last)
    ∙ then_between (segment page s).stop (segment page s) (reading_after page [] (log_of (ss ++ last ∷ []))) all.0
    ∙ ap (λ (es : List Entry). (segment page s).entries ++ es) (add_up page ss last all.1)
    ∙ sym (append_assoc (segment page s).entries (each_of page ss) (segment page last).entries)

each_push : (page : ℕ) (done : List (List ℕ)) (s : List ℕ) → each_of page (done ++ s ∷ []) ≡ each_of page done ++ (segment page s).entries
unfolding each_of
each_push page [] s = append-nil (segment page s).entries
each_push page (d ∷ ds) s =
    ap (λ (es : List Entry). (segment page d).entries ++ es) (each_push page ds s) ∙ sym (append_assoc (segment page d).entries (each_of page ds) (segment page s).entries)

all_push : (page : ℕ) (done : List (List ℕ)) (s : List ℕ) → AllByRecursion (IsWholeText page) done → IsWholeText page s → AllByRecursion (IsWholeText page) (done ++ s ∷ [])
all_push page [] s all w = (w, tt)
all_push page (d ∷ ds) s all w = (all.0, all_push page ds s all.1 w)

-- a next segment adds its entries
pub next_adds : (page : ℕ) (done : List (List ℕ)) (text last : List ℕ) → AllByRecursion (IsWholeText page) done → IsWholeText page text
    → entries_of page (done ++ text ∷ last ∷ []) ≡ entries_of page (done ++ text ∷ []) ++ (segment page last).entries
next_adds page done text last all whole =
    ap (entries_of page) (sym (append_assoc done (text ∷ []) (last ∷ [])))
    ∙ add_up page (done ++ text ∷ []) last (all_push page done text all whole)
    ∙ ap (λ (es : List Entry). es ++ (segment page last).entries) (each_push page done text ∙ sym (add_up page done text all))

-- after a clean cut a next segment adds its entries to those that were there
pub goes_on : (page : ℕ) (done : List (List ℕ)) (text next : List ℕ) (at : ℕ) → AllByRecursion (IsWholeText page) done → IsCleanCut page text at
    → entries_of page (done ++ take at text ∷ next ∷ []) ≡ entries_of page (done ++ text ∷ []) ++ (segment page next).entries
goes_on page done text next at all cut =
    ap (entries_of page) (sym (append_assoc done (take at text ∷ []) (next ∷ [])))
    ∙ add_up page (done ++ take at text ∷ []) next (all_push page done (take at text) all cut.whole)
    ∙ ap (λ (es : List Entry). es ++ (segment page next).entries) (each_push page done (take at text) ∙ ap (λ (es : List Entry). each_of page done ++ es) cut.keeps ∙ sym (add_up page done text all))
