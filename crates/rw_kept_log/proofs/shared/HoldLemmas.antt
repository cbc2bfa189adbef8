-- Records that are written one after the other.
use Rattle.std.proofs.Common.{◌≡◌, ℕ, ◌+◌, ◌<◌, ◌≤◌, ℤ, List, [], ◌∷◌, ◌++◌, length, map, take, drop, take-append-drop, get_or, Option, Some, None, refl, sym, ap, ◌∙◌, subst, arith, append_assoc, append-nil, length-append, lit<}
use Rattle.std.proofs.lemmas.List.{map-append, take_all, take_more}
use Rattle.std.specs.List.{AllByRecursion}
use Rattle.rw_types.specs.declared.entry.Entry.{Entry}
use Rattle.rw_wal_format.proofs.shared.Written.{segment_read}
use Rattle.rw_wal_format.specs.Laws.{AreRecords, log_all, entries_of_records, reading_of_records, sample_entry}
use Rattle.rw_wal_format.specs.Pieces.{page_size}
use Rattle.rw_wal_format.specs.Records.{◌then◌, record_entries}
use Rattle.rw_wal_format.specs.Segments.{between, Reading, with_entries}
use Rattle.rw_wal_format.specs.Writing.{log_bytes}
use Rattle.rw_wal_format.proofs.shared.Appended.{log_all-append}
use Rattle.rw_wal_write.specs.Segment.{Segment}
use Rattle.rw_kept_log.specs.Journal.{Segments, with_more}
use Rattle.rw_kept_log.specs.Logs.{entries_of, IsWholeText}
use Rattle.rw_kept_log.specs.TornLogs.{AllBefore}
use Rattle.rw_kept_log.proofs.shared.RecordLemmas.{entries-append}
use Rattle.rw_kept_log.proofs.shared.OpeningLemmas.{before_of}
use Rattle.rw_kept_log.specs.inner.Buffers.{Buffered}
use Rattle.rw_kept_log.specs.Ends.{EndsAt}
use Rattle.rw_kept_log.specs.inner.Writing.{Holds}

are_both : (ds more : List (List ℕ)) → AreRecords ds → AreRecords more → AreRecords (ds ++ more)
are_both [] more a b = b
are_both (d ∷ ds) more a b = (a.0, a.1, are_both ds more a.2 b)

read_first : (o p : Option (List Entry)) (es : List Entry) → (o then λ first. p then λ more. Some (first ++ more)) ≡ Some es
    → (first : List Entry) × (gs : List Entry) × (o ≡ Some first) × (p ≡ Some gs) × (first ++ gs ≡ es)
read_first None p es e = absurd (cc)
read_first (Some first) None es e = absurd (cc)
read_first (Some first) (Some gs) es e = (first, gs, refl, refl, cc)

read_one : (d : List ℕ) (es : List Entry) → record_entries d ≡ Some es → entries_of_records (d ∷ []) ≡ Some es
read_one d es e =
    ap (λ (o : Option (List Entry)). o then λ first. Some (first ++ [])) e ∙ ap Some (append-nil es)

-- ---- what a writer holds

pub holds_none : (a : Segment Buffered) → Holds a a []
holds_none a = record {
  records = [];
  are = tt;
  read = refl;
  bytes = sym (append-nil a.sink.bytes);
  offset = omega arith;
  pages = refl;
}

pub holds_one : (old new : Segment Buffered) (d : List ℕ) (es : List Entry) → AreRecords (d ∷ []) → record_entries d ≡ Some es
    → new.sink.bytes ≡ old.sink.bytes ++ log_bytes page_size old.offset d → new.offset ≡ old.offset + length (log_bytes page_size old.offset d) → new.pages ≡ old.pages
    → Holds old new es
holds_one old new d es are read bytes offset pages = record {
  records = d ∷ [];
  are = are;
  read = read_one d es read;
  bytes = bytes ∙ ap (λ (x : List ℕ). old.sink.bytes ++ x) (sym (append-nil (log_bytes page_size old.offset d)));
  offset = offset ∙ ap (λ (x : List ℕ). old.offset + length x) (sym (append-nil (log_bytes page_size old.offset d)));
  pages = pages;
}

pub holds_then : (a b c : Segment Buffered) (es fs : List Entry) → Holds a b es → Holds b c fs → Holds a c (es ++ fs)
holds_then a b c es fs h g =
    let first = log_all page_size a.offset h.records in
    let next : log_all page_size b.offset g.records ≡ log_all page_size (a.offset + length (log_all page_size a.offset h.records)) g.records =
    ap (λ (n : ℕ). log_all page_size n g.records) h.offset in
    let all : first ++ log_all page_size b.offset g.records ≡ log_all page_size a.offset (h.records ++ g.records) =
    ap (λ (x : List ℕ). log_all page_size a.offset h.records ++ x) next ∙ sym (log_all-append page_size a.offset h.records g.records) in
    record {
      records = h.records ++ g.records;
      are = are_both h.records g.records h.are g.are;
      read = entries-append h.records g.records es fs h.read g.read;
      bytes = g.bytes ∙ ap (λ (x : List ℕ). x ++ log_all page_size b.offset g.records) h.bytes
          ∙ append_assoc a.sink.bytes first (log_all page_size b.offset g.records) ∙ ap (λ (x : List ℕ). a.sink.bytes ++ x) all;
      offset = omega (arith, g.offset, h.offset, ap length all, length-append first (log_all page_size b.offset g.records));
      pages = g.pages ∙ h.pages;
    }

-- one more item of a list, whose entry was written
pub holds_next : {A : Type 0} (f : A → Entry) (xs : List A) (i : ℕ) (x : A) (a b c : Segment Buffered) → i < length xs → x ≡ get_or xs i x
    → Holds a b (map f (take i xs)) → Holds b c (f x ∷ []) → Holds a c (map f (take (i + 1) xs))
holds_next f xs i x a b c lt is h g =
    let one : take (i + 1) xs ≡ take i xs ++ x ∷ [] = take_more xs i x lt ∙ ap (λ y. take i xs ++ y ∷ []) (sym is) in
    subst (Holds a c) (sym (ap (map f) one ∙ map-append f (take i xs) (x ∷ []))) (holds_then a b c (map f (take i xs)) (f x ∷ []) h g)

-- samples that were written from the front on
pub HasPut : Segment Buffered → Segment Buffered → List (ℕ × ℤ × ℕ) → List (ℕ × ℤ × ℕ) → Type 0
HasPut old new samples rest = (done : List (ℕ × ℤ × ℕ)) × (samples ≡ done ++ rest) × Holds old new (map sample_entry done)

pub put_none : (a : Segment Buffered) (samples : List (ℕ × ℤ × ℕ)) → HasPut a a samples samples
unfolding HasPut
put_none a samples = ([], refl, holds_none a)

pub put_more : (a b c : Segment Buffered) (samples rest part later : List (ℕ × ℤ × ℕ)) → HasPut a b samples rest → rest ≡ part ++ later → Holds b c (map sample_entry part)
    → HasPut a c samples later
unfolding HasPut
put_more a b c samples rest part later h e g = (
  h.0 ++ part,
  h.1 ∙ ap (λ (x : List (ℕ × ℤ × ℕ)). h.0 ++ x) e ∙ sym (append_assoc h.0 part later),
  subst (Holds a c) (sym (map-append sample_entry h.0 part)) (holds_then a b c (map sample_entry h.0) (map sample_entry part) h.2 g),
)

pub put_all : (a b : Segment Buffered) (samples rest : List (ℕ × ℤ × ℕ)) → HasPut a b samples rest → length rest ≤ 0 → Holds a b (map sample_entry samples)
unfolding HasPut
put_all a b samples [] h le = subst (λ x. Holds a b (map sample_entry x)) (sym (h.1 ∙ append-nil h.0)) h.2
put_all a b samples (s ∷ rest) h le = absurd (omega arith)

pub holds_empty : (a : Segment Buffered) (samples : List (ℕ × ℤ × ℕ)) → length samples ≤ 0 → Holds a a (map sample_entry samples)
holds_empty a [] le = holds_none a
holds_empty a (s ∷ ss) le = absurd (omega arith)

pub put_rest : (a b c : Segment Buffered) (samples rest : List (ℕ × ℤ × ℕ)) → HasPut a b samples rest → Holds b c (map sample_entry rest) → Holds a c (map sample_entry samples)
put_rest a b c samples rest h g = put_all a c samples [] (put_more a b c samples rest rest [] h (sym (append-nil rest)) g) (omega arith)

pub put_next : (a b c : Segment Buffered) (samples rest part later : List (ℕ × ℤ × ℕ)) (n : ℕ) → HasPut a b samples rest → part ≡ take n rest → later ≡ drop n rest
    → Holds b c (map sample_entry part) → HasPut a c samples later
put_next a b c samples rest part later n h front back g =
    let parts : rest ≡ part ++ later =
    sym (ap (λ (x : List (ℕ × ℤ × ℕ)). x ++ later) front ∙ ap (λ (x : List (ℕ × ℤ × ℕ)). take n rest ++ x) back ∙ take-append-drop n rest) in
    put_more a b c samples rest part later h parts g

-- all items of a list
pub holds_all : {A : Type 0} (f : A → Entry) (xs : List A) (i : ℕ) (a b : Segment Buffered) → length xs ≤ i → Holds a b (map f (take i xs)) → Holds a b (map f xs)
holds_all f xs i a b le h = subst (λ ys. Holds a b (map f ys)) (take_all i xs le) h

-- ---- whole segments

stops : (ds : List (List ℕ)) (es : List Entry) → entries_of_records ds ≡ Some es → (reading_of_records ds).stop ≡ between
stops [] es e = refl
stops (d ∷ ds) es e =
    let parts = read_first (record_entries d) (entries_of_records ds) es e in
    ap (λ (o : Option (List Entry)). (with_entries d o (reading_of_records ds)).stop) parts.2 ∙ stops ds parts.1 parts.3

whole_text : (ds : List (List ℕ)) (es : List Entry) → AreRecords ds → entries_of_records ds ≡ Some es → IsWholeText page_size (log_all page_size 0 ds)
whole_text ds es are e = ap (λ (r : Reading). r.stop) (segment_read page_size ds (lit< tt) (lit< tt) are) ∙ stops ds es e

pub before_all : (P : List ℕ → Type 0) (done : Segments) (text : List ℕ) → AllBefore P (done ++ text ∷ []) → AllByRecursion P done
before_all P [] text all = tt
before_all P (s ∷ []) text all = (all.0, tt)
before_all P (s ∷ t ∷ done) text all = (all.0, before_all P (t ∷ done) text all.1)

push_all : (P : List ℕ → Type 0) (done : Segments) (text : List ℕ) → AllByRecursion P done → P text → AllByRecursion P (done ++ text ∷ [])
push_all P [] text all here = (here, tt)
push_all P (s ∷ done) text all here = (all.0, push_all P done text all.1 here)

ends_empty : (done : Segments) → AllByRecursion (IsWholeText page_size) done → EndsAt (done ++ [] ∷ []) 0
ends_empty done all = record {
  done = done;
  records = [];
  entries = [];
  whole = all;
  are = tt;
  read = refl;
  folder = refl;
  len = refl;
}

pub ends_at_0 : (done : Segments) → AllBefore (IsWholeText page_size) (done ++ [] ∷ []) → EndsAt (done ++ [] ∷ []) 0
ends_at_0 done all = ends_empty done (before_all (IsWholeText page_size) done [] all)

pub before_last : (segments : Segments) (offset : ℕ) → EndsAt segments offset → AllBefore (IsWholeText page_size) segments
before_last segments offset e =
    subst (AllBefore (IsWholeText page_size)) (sym e.folder) (before_of (IsWholeText page_size) e.done (log_all page_size 0 e.records) e.whole)

pub next_begins : (segments : Segments) (offset : ℕ) → EndsAt segments offset → EndsAt (segments ++ [] ∷ []) 0
next_begins segments offset e =
    subst (λ (ss : Segments). EndsAt (ss ++ [] ∷ []) 0) (sym e.folder)
    (ends_empty (e.done ++ log_all page_size 0 e.records ∷ []) (push_all (IsWholeText page_size) e.done (log_all page_size 0 e.records) e.whole (whole_text e.records e.entries e.are e.read)))

-- ---- the end of a log

pub more_last : (done : Segments) (text more : List ℕ) → with_more (done ++ text ∷ []) more ≡ done ++ (text ++ more) ∷ []
more_last [] text more = refl
more_last (s ∷ []) text more = refl
more_last (s ∷ t ∷ done) text more = ap (λ (ss : Segments). s ∷ ss) (more_last (t ∷ done) text more)

-- what `records_add_entries` says
abbrev pub AddsEntries : Type 0
AddsEntries =
    (done : Segments) (ds more : List (List ℕ)) (es fs : List Entry) → AllByRecursion (IsWholeText page_size) done → AreRecords (ds ++ more)
    → entries_of_records ds ≡ Some es → entries_of_records more ≡ Some fs
    → entries_of page_size (done ++ log_all page_size 0 (ds ++ more) ∷ []) ≡ entries_of page_size (done ++ log_all page_size 0 ds ∷ []) ++ fs

module _ (segments : Segments) (old new : Segment Buffered) (es : List Entry) (e : EndsAt segments old.offset) (h : Holds old new es) (empty : old.sink.bytes ≡ []) where
  place : old.offset ≡ 0 + length (log_all page_size 0 e.records)
  place = omega (arith, e.len)

  written : new.sink.bytes ≡ log_all page_size (0 + length (log_all page_size 0 e.records)) h.records
  written = h.bytes ∙ ap (λ (x : List ℕ). x ++ log_all page_size old.offset h.records) empty ∙ ap (λ (n : ℕ). log_all page_size n h.records) place

  joined : log_all page_size 0 e.records ++ new.sink.bytes ≡ log_all page_size 0 (e.records ++ h.records)
  joined = ap (λ (x : List ℕ). log_all page_size 0 e.records ++ x) written ∙ sym (log_all-append page_size 0 e.records h.records)

  folder : with_more segments new.sink.bytes ≡ e.done ++ log_all page_size 0 (e.records ++ h.records) ∷ []
  folder = ap (λ (ss : Segments). with_more ss new.sink.bytes) e.folder ∙ more_last e.done (log_all page_size 0 e.records) new.sink.bytes ∙ ap (λ (x : List ℕ). e.done ++ x ∷ []) joined

  moved : new.offset ≡ length (log_all page_size 0 (e.records ++ h.records))
  moved = omega (arith, h.offset, e.len, ap length joined, length-append (log_all page_size 0 e.records) new.sink.bytes, ap length written, ap (λ (n : ℕ). length (log_all page_size n h.records)) place)

  pub entries_added : AddsEntries → entries_of page_size (with_more segments new.sink.bytes) ≡ entries_of page_size segments ++ es
  entries_added law =
      ap (entries_of page_size) folder
      ∙ law e.done e.records h.records e.entries es e.whole (are_both e.records h.records e.are h.are) e.read h.read
      ∙ ap (λ (ss : Segments). entries_of page_size ss ++ es) (sym e.folder)

  pub ends_later : EndsAt (with_more segments new.sink.bytes) new.offset
  ends_later = record {
    done = e.done;
    records = e.records ++ h.records;
    entries = e.entries ++ es;
    whole = e.whole;
    are = are_both e.records h.records e.are h.are;
    read = entries-append e.records h.records e.entries es e.read h.read;
    folder = folder;
    len = moved;
  }

-- two runs of records, one after the other
pub both_added : (segments : Segments) (a b c : Segment Buffered) (es fs : List Entry) (bytes : List ℕ) → EndsAt segments a.offset → a.sink.bytes ≡ [] → Holds a b es → Holds b c fs
    → bytes ≡ c.sink.bytes → AddsEntries → entries_of page_size (with_more segments bytes) ≡ entries_of page_size segments ++ es ++ fs
both_added segments a b c es fs bytes e empty h g is law =
    ap (λ (x : List ℕ). entries_of page_size (with_more segments x)) is ∙ entries_added segments a c (es ++ fs) e (holds_then a b c es fs h g) empty law
    ∙ sym (append_assoc (entries_of page_size segments) es fs)

pub both_end : (segments : Segments) (a b c : Segment Buffered) (es fs : List Entry) (bytes : List ℕ) (offset : ℕ) → EndsAt segments a.offset → a.sink.bytes ≡ [] → Holds a b es → Holds b c fs
    → bytes ≡ c.sink.bytes → offset ≡ c.offset → EndsAt (with_more segments bytes) offset
both_end segments a b c es fs bytes offset e empty h g is at =
    subst (EndsAt (with_more segments bytes)) (sym at)
    (subst (λ (x : List ℕ). EndsAt (with_more segments x) c.offset) (sym is) (ends_later segments a c (es ++ fs) e (holds_then a b c es fs h g) empty))
