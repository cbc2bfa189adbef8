-- A torn log: the entries of all its segments.
use Rattle.std.proofs.Common.{◌≡◌, ℕ, ◌+◌, ◌<◌, List, [], ◌∷◌, ◌++◌, length, take, refl, sym, ap, ◌∙◌, subst, arith, append_assoc, length-append, length-take, false}
use Rattle.std.proofs.lemmas.List.{take_at}
use Rattle.std.proofs.Math.Seq.{take-append-add}
use Rattle.rw_types.specs.Beginnings.{Begins}
use Rattle.rw_types.specs.declared.entry.Entry.{Entry}
use Rattle.rw_types.proofs.shared.BeginningLemmas.{begins_itself}
use Rattle.rw_wal_format.specs.Segments.{segment}
use Rattle.rw_wal_format.specs.Pieces.{reading}
use Rattle.rw_wal_format.proofs.shared.Growing.{segment_grows}
use Rattle.rw_kept_log.specs.Journal.{Segments, with_more}
use Rattle.rw_kept_log.specs.Torn.{IsTorn, IsTornFrom, IsTornLog}
use Rattle.rw_kept_log.specs.Logs.{entries_of, IsWholeText}
use Rattle.rw_kept_log.specs.TornLogs.{NoChance, last_of, AllBefore}
use Rattle.rw_kept_log.proofs.TornLemmas.{torn_begins}
use Rattle.rw_kept_log.proofs.shared.ClosingLemmas.{front_of}

module _ (tears : List ℕ → List ℕ → Type 0) (page : ℕ) (text written more : List ℕ) (t : IsTornFrom tears page (length text) written more) where
  front : List ℕ
  front = text ++ take t.synced written

  len : length (take t.synced written) ≡ t.synced
  len = omega (arith, t.known, length-take t.synced written)

  -- what is torn from an offset on is torn in the segment
  torn_whole : IsTorn page (length text + t.synced) (text ++ written) (text ++ more)
  torn_whole = record {
    known = omega (arith, t.known, length-append text written);
    front = take-append-add text more t.synced ∙ ap (λ (x : List ℕ). text ++ x) (ap (take t.synced) t.segment ∙ take_at (take t.synced written) t.torn t.synced len) ∙ sym (take-append-add text written t.synced);
    within = omega (arith, t.within, t.no_longer, length-append text more, ap length t.segment, length-append (take t.synced written) t.torn, len);
  }

-- what was there stays in front
there_first : (page : ℕ) (text more : List ℕ) → 0 < page → Begins (segment page text).entries (segment page (text ++ more)).entries
there_first page text more p = let grown = segment_grows false page text more p in (grown.more, grown.entries)

one_torn : (tears : List ℕ → List ℕ → Type 0) (page : ℕ) (text written more : List ℕ) → 0 < page → NoChance page (text ++ written) (text ++ more) → IsTornFrom tears page (length text) written more
    → Begins (segment page text).entries (segment page (text ++ more)).entries × Begins (segment page (text ++ more)).entries (segment page (text ++ written)).entries
one_torn tears page text written more p none t = (
  there_first page text more p,
  torn_begins page (length text + t.synced) (text ++ written) (text ++ more) p (torn_whole tears page text written more t) none,
)

front_more : (page : ℕ) (s t : List ℕ) (ss : Segments) (more : List ℕ) → IsWholeText page s → entries_of page (s ∷ with_more (t ∷ ss) more) ≡ (segment page s).entries ++ entries_of page (with_more (t ∷ ss) more)
front_more page s t [] more whole = front_of page s (t ++ more) [] whole
front_more page s t (u ∷ ss) more whole = front_of page s t (with_more (u ∷ ss) more) whole

last_more : (s t : List ℕ) (ss : Segments) (more : List ℕ) → last_of (s ∷ with_more (t ∷ ss) more) ≡ last_of (with_more (t ∷ ss) more)
last_more s t [] more = refl
last_more s t (u ∷ ss) more = refl

begin_after : (front a b x y : List Entry) → x ≡ front ++ a → y ≡ front ++ b → Begins a b → Begins x y
begin_after front a b x y ex ey h = (h.0, ey ∙ ap (λ (l : List Entry). front ++ l) h.1 ∙ sym (append_assoc front a h.0) ∙ ap (λ (l : List Entry). l ++ h.0) (sym ex))

Between : ℕ → Segments → List ℕ → List ℕ → Type 0
Between page old more written = Begins (entries_of page old) (entries_of page (with_more old more)) × Begins (entries_of page (with_more old more)) (entries_of page (with_more old written))

all_torn : (tears : List ℕ → List ℕ → Type 0) (page : ℕ) (old : Segments) (written more : List ℕ) → 0 < page → NoChance page (last_of (with_more old written)) (last_of (with_more old more)) → AllBefore (IsWholeText page) old
    → IsTornFrom tears page (length (last_of old)) written more → Between page old more written
unfolding Between reading
all_torn tears page [] written more p none all t = (begins_itself (entries_of page []), begins_itself (entries_of page []))
all_torn tears page (s ∷ []) written more p none all t = one_torn tears page s written more p none t
all_torn tears page (s ∷ t ∷ ss) written more p none all torn =
    let none' = subst (λ (x : List ℕ). NoChance page x (last_of (with_more (t ∷ ss) more))) (last_more s t ss written)
    (subst (λ (x : List ℕ). NoChance page (last_of (s ∷ with_more (t ∷ ss) written)) x) (last_more s t ss more) none) in
    let rest = all_torn tears page (t ∷ ss) written more p none' all.1 torn in
    let e = front_of page s t ss all.0 in
    let em = front_more page s t ss more all.0 in
    let ew = front_more page s t ss written all.0 in (
      begin_after (segment page s).entries (entries_of page (t ∷ ss)) (entries_of page (with_more (t ∷ ss) more)) _ _ e em rest.0,
      begin_after (segment page s).entries (entries_of page (with_more (t ∷ ss) more)) (entries_of page (with_more (t ∷ ss) written)) _ _ em ew rest.1,
    )

pub left_between : (tears : List ℕ → List ℕ → Type 0) (page : ℕ) (old : Segments) (written : List ℕ) (left : Segments) → 0 < page → NoChance page (last_of (with_more old written)) (last_of left) → AllBefore (IsWholeText page) old
    → IsTornLog tears page (length (last_of old)) old written left
    → Begins (entries_of page old) (entries_of page left) × Begins (entries_of page left) (entries_of page (with_more old written))
unfolding Between
left_between tears page old written left p none all torn =
    subst (λ (c : Segments). Begins (entries_of page old) (entries_of page c) × Begins (entries_of page c) (entries_of page (with_more old written))) (sym torn.folder)
    (all_torn tears page old written torn.more p (subst (λ (c : Segments). NoChance page (last_of (with_more old written)) (last_of c)) torn.folder none) all torn.torn)
