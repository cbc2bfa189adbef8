-- Records that were written one after the other are read again.
use Rattle.std.proofs.Common.{◌≡◌, ℕ, suc, arith, List, [], ◌∷◌, ◌++◌, Option, Some, None, Bool, All, map, flat_map, refl, sym, ap, ◌∙◌, subst, lit<}
use Rattle.std.specs.Io.KnownBytes.{Appends}
use Rattle.std.proofs.KnownBytes.{Appends-trans, Appends-nil}
use Rattle.rw_types.specs.declared.entry.Entry.{Entry}
use Rattle.rw_wal_format.specs.Records.{record_entries}
use Rattle.rw_wal_format.specs.Segments.{Reading, between, with_entries, segment}
use Rattle.rw_wal_format.specs.Pieces.{bytes, reading, page_size, entries, fault, fault_at}
use Rattle.rw_wal_format.specs.Laws.{AreRecords, log_all, reading_of_records}
use Rattle.rw_wal_format.proofs.shared.Written.{segment_read}
use Rattle.rw_wal_write.specs.Segment.{Segment, AreLogged, HoldsEntries}

first : (r : List ℕ × List Entry) (rs : List (List ℕ × List Entry)) → All HoldsEntries (r ∷ rs) → HoldsEntries r
first r rs h = h 0 r (omega arith)

others : (r : List ℕ × List Entry) (rs : List (List ℕ × List Entry)) → All HoldsEntries (r ∷ rs) → All HoldsEntries rs
others r rs h = λ k d l. h (suc k) d (omega arith)

are_records : (records : List (List ℕ × List Entry)) → All HoldsEntries records → AreRecords (map (λ r. r.0) records)
are_records [] h = tt
are_records (r ∷ rs) h = ((first r rs h).are_bytes, (first r rs h).some, are_records rs (others r rs h))

reading-with : (d : List ℕ) (es rest : List Entry) (found : Option (List Entry)) (r : Reading) → found ≡ Some es → r.entries ≡ rest → r.stop ≡ between
    → ((with_entries d found r).entries ≡ es ++ rest) × ((with_entries d found r).stop ≡ between)
reading-with d es rest found r e f s = rw e (ap (λ (x : List Entry). es ++ x) f, s)

-- what is read of records is what they hold
reading-entries : (records : List (List ℕ × List Entry)) → All HoldsEntries records
    → ((reading_of_records (map (λ r. r.0) records)).entries ≡ flat_map (λ r. r.1) records) × ((reading_of_records (map (λ r. r.0) records)).stop ≡ between)
reading-entries [] h = (refl, refl)
reading-entries (r ∷ rs) h =
    let more = reading-entries rs (others r rs h) in
    reading-with r.0 r.1 (flat_map (λ r. r.1) rs) (record_entries r.0) (reading_of_records (map (λ r. r.0) rs)) (first r rs h).entries more.0 more.1

text_read : (text : List ℕ) (records : List (List ℕ × List Entry)) → All HoldsEntries records → text ≡ log_all page_size 0 (map (λ r. r.0) records)
    → (entries (bytes text ∷ []) ≡ flat_map (λ r. r.1) records) × (fault (bytes text ∷ []) ≡ None)
unfolding reading
text_read text records h e =
    let again : segment page_size text ≡ reading_of_records (map (λ r. r.0) records) =
    ap (segment page_size) e ∙ segment_read page_size (map (λ r. r.0) records) (lit< tt) (lit< tt) (are_records records h) in
    let held = reading-entries records h in
    (ap (λ (r : Reading). r.entries) again ∙ held.0, ap (λ (r : Reading). fault_at r.stop) again ∙ ap fault_at held.1)

module _ {W : Type 0} (contents : W → Option (List ℕ)) (has_failed : W → Bool) (room : W → ℕ) where
  -- the device grows by the fragments of all records
  logged_bytes : (old new : Segment W) (recs : List (List ℕ)) → AreLogged contents has_failed room old new recs
      → Appends (contents old.sink) (contents new.sink) (log_all page_size old.offset recs)
  logged_bytes old new [] e = subst (λ (s : Segment W). Appends (contents old.sink) (contents s.sink) []) (sym e) (Appends-nil (contents old.sink))
  logged_bytes old new (rec ∷ recs) (next, one, more) =
      let rest = logged_bytes next new recs more in
      let rest' = subst (λ (n : ℕ). Appends (contents next.sink) (contents new.sink) (log_all page_size n recs)) (ap (λ (s : Segment W). s.offset) one.moved) rest in
      Appends-trans (contents old.sink) (contents next.sink) (contents new.sink) _ _ one.bytes.appended rest'

  pub entries_read : (old new : Segment W) (records : List (List ℕ × List Entry)) → old.offset ≡ 0 → All HoldsEntries records → AreLogged contents has_failed room old new (map (λ r. r.0) records)
      → (text : List ℕ) × Appends (contents old.sink) (contents new.sink) text × (entries (bytes text ∷ []) ≡ flat_map (λ r. r.1) records) × (fault (bytes text ∷ []) ≡ None)
  entries_read old new records z h l =
      let text = log_all page_size 0 (map (λ r. r.0) records) in
      let grown = subst (λ (n : ℕ). Appends (contents old.sink) (contents new.sink) (log_all page_size n (map (λ r. r.0) records))) z (logged_bytes old new (map (λ r. r.0) records) l) in
      let read = text_read text records h refl in
      (text, grown, read.0, read.1)
