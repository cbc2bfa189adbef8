-- Records that are written after those of the last segment.
use Rattle.std.proofs.Common.{◌≡◌, ℕ, List, [], ◌∷◌, ◌++◌, Option, Some, None, refl, sym, ap, ◌∙◌, append_assoc}
use Rattle.std.specs.List.{AllByRecursion}
use Rattle.rw_types.specs.declared.entry.Entry.{Entry}
use Rattle.rw_wal_format.specs.Laws.{AreRecords, log_all, entries_of_records}
use Rattle.rw_wal_format.specs.Pieces.{page_size, reading}
use Rattle.rw_wal_format.specs.Records.{◌then◌, record_entries}
use Rattle.rw_wal_format.specs.Segments.{segment}
use Rattle.rw_wal_format.proofs.shared.Written.{entries_read}
use Rattle.rw_kept_log.specs.Journal.{Segments}
use Rattle.rw_kept_log.specs.Logs.{entries_of, IsWholeText}
use Rattle.rw_kept_log.proofs.LogLemmas.{each_of, add_up}

front_records : (ds more : List (List ℕ)) → AreRecords (ds ++ more) → AreRecords ds
front_records [] more all = tt
front_records (d ∷ ds) more all = (all.0, all.1, front_records ds more all.2)

joined : (d : List ℕ) (o p : Option (List Entry)) (fs es : List Entry) → (o then λ first. p then λ more. Some (first ++ more)) ≡ Some es
    → ((gs : List Entry) → p ≡ Some gs → (rest : Option (List Entry)) × (rest ≡ Some (gs ++ fs)))
    → (first : List Entry) × (gs : List Entry) × (o ≡ Some first) × (p ≡ Some gs) × (first ++ gs ≡ es)
joined d None p fs es e more = absurd (cc)
joined d (Some first) None fs es e more = absurd (cc)
joined d (Some first) (Some gs) fs es e more = (first, gs, refl, refl, cc)

pub entries-append : (ds more : List (List ℕ)) (es fs : List Entry) → entries_of_records ds ≡ Some es → entries_of_records more ≡ Some fs → entries_of_records (ds ++ more) ≡ Some (es ++ fs)
entries-append [] more es fs e f = let none : [] ≡ es = cc in f ∙ ap (λ (x : List Entry). Some (x ++ fs)) none
entries-append (d ∷ ds) more es fs e f =
    let parts = joined d (record_entries d) (entries_of_records ds) fs es e (λ gs g. (Some (gs ++ fs), refl)) in
    let rest : entries_of_records (ds ++ more) ≡ Some (parts.1 ++ fs) = entries-append ds more parts.1 fs parts.3 f in
    ap (λ (o : Option (List Entry)). o then λ first. entries_of_records (ds ++ more) then λ later. Some (first ++ later)) parts.2
    ∙ ap (λ (o : Option (List Entry)). o then λ later. Some (parts.0 ++ later)) rest
    ∙ ap Some (sym (append_assoc parts.0 parts.1 fs) ∙ ap (λ (x : List Entry). x ++ fs) parts.4)

segment_entries : (ds : List (List ℕ)) (es : List Entry) → AreRecords ds → entries_of_records ds ≡ Some es → (segment page_size (log_all page_size 0 ds)).entries ≡ es
unfolding reading
segment_entries ds es all e = (entries_read ds es all e).0

pub records_added : (done : Segments) (ds more : List (List ℕ)) (es fs : List Entry) → AllByRecursion (IsWholeText page_size) done → AreRecords (ds ++ more)
    → entries_of_records ds ≡ Some es → entries_of_records more ≡ Some fs
    → entries_of page_size (done ++ log_all page_size 0 (ds ++ more) ∷ []) ≡ entries_of page_size (done ++ log_all page_size 0 ds ∷ []) ++ fs
records_added done ds more es fs whole all e f =
    add_up page_size done (log_all page_size 0 (ds ++ more)) whole
    ∙ ap (λ (x : List Entry). each_of page_size done ++ x) (segment_entries (ds ++ more) (es ++ fs) all (entries-append ds more es fs e f))
    ∙ sym (append_assoc (each_of page_size done) es fs)
    ∙ ap (λ (x : List Entry). (each_of page_size done ++ x) ++ fs) (sym (segment_entries ds es (front_records ds more all) e))
    ∙ ap (λ (x : List Entry). x ++ fs) (sym (add_up page_size done (log_all page_size 0 ds) whole))
