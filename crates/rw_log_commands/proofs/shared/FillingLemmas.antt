-- Segments in memory are filled with the records of lines.
use Rattle.std.proofs.Common.{◌≡◌, ◌<◌, ◌≤◌, ◌+◌, ◌*◌, ℕ, List, [], ◌∷◌, ◌++◌, length, Some, None, Result, Ok, Err, IfSome, IfErr, Bool, true, false, leb, add-zero, refl, sym, ap, ◌∙◌, subst, arith, inl, inr, append_assoc}
use Rattle.std.proofs.lemmas.Bool.{cases_lt, lt-ltb, le-ltb, le-leb, lt-leb, and_parts, and_cases, and_left, and_right, false≢true}
use Rattle.std.proofs.lemmas.List.{length-append, append-nil, nil_from_length}
use Rattle.rw_wal_format.specs.Laws.{log_all}
use Rattle.rw_wal_format.specs.Pieces.{page_size}
use Rattle.rw_wal_format.specs.Writing.{log_bytes, room}
use Rattle.rw_wal_format.proofs.shared.Appended.{log_all-append}
use Rattle.rw_types.specs.Memory.{Reserved}
use Rattle.rw_wal_write.proofs.shared.Fitting.{room_fits}
use Rattle.rw_wal_write.specs.Segment.{Segment, IsPlace, IsLogged, log_refusal}
use Rattle.rw_wal_write.specs.Sinks.{TakesPart}
use Rattle.rw_wal_write.specs.declared.log_fault.LogFault.{LogFault}
use Rattle.rw_wal_write.specs.declared.log_fault.LogFault.TheVariants.{SegmentFull, Device}
use Rattle.rw_text.specs.LineText.{Line, series, sample, raw, IsLine}
use Rattle.rw_log_commands.specs.inner.Filling.{HasMemory, TakesRecords}
use Rattle.rw_text.specs.RecordLines.{lines, record_of, IsRecordOf}
use Rattle.rw_log_commands.specs.LogText.{have_room, segment_of, AreRecordsOfLines}
use Rattle.rw_log_commands.specs.inner.LogText.{Fills}
use Rattle.rw_log_commands.proofs.LogTextLemmas.{records_join, one_record}
use Rattle.rw_text.proofs.shared.LineLemmas.{next_parts}

-- ---- one record

refused : (s : Segment Reserved) (len : ℕ) → HasMemory s → len ≤ 16 * 1024 * 1024 → room page_size s.pages s.offset < len → log_refusal s len ≡ Some SegmentFull
refused s len m short full = rw (m.open', le-ltb (16 * 1024 * 1024) len short, lt-ltb (room page_size s.pages s.offset) len full) refl

let_in : (s : Segment Reserved) (len : ℕ) → HasMemory s → len ≤ 16 * 1024 * 1024 → len ≤ room page_size s.pages s.offset → log_refusal s len ≡ None
let_in s len m short fits = rw (m.open', le-ltb (16 * 1024 * 1024) len short, le-ltb (room page_size s.pages s.offset) len fits) refl

no_ok : (r : Result (Unit {0}) LogFault) (f : LogFault) → r ≡ Ok tt → r ≡ Err f → ⊥
no_ok r f e g = cc

same_fault : (r : Result (Unit {0}) LogFault) (f g : LogFault) → r ≡ Err f → r ≡ Err g → f ≡ g
same_fault r f g e h = cc

abbrev pub Refused : Segment Reserved → Segment Reserved → Result (Unit {0}) LogFault → ℕ → Type 0
Refused s new r len = IfSome (log_refusal s len) (λ fault. (r ≡ Err fault) × (new ≡ s))

abbrev pub Taken : Segment Reserved → Result (Unit {0}) LogFault → ℕ → Type 0
Taken s r len = log_refusal s len ≡ None → IfErr r (λ fault. fault ≡ Device)

full_gives : (s new : Segment Reserved) (r : Result (Unit {0}) LogFault) (len : ℕ) → HasMemory s → len ≤ 16 * 1024 * 1024 → room page_size s.pages s.offset < len → Refused s new r len
    → (r ≡ Err SegmentFull) × (new ≡ s)
full_gives s new r len m short full h = rw (refused s len m short full) at h

room_gives : (s : Segment Reserved) (r : Result (Unit {0}) LogFault) (f : LogFault) (len : ℕ) → HasMemory s → len ≤ 16 * 1024 * 1024 → len ≤ room page_size s.pages s.offset → Taken s r len
    → r ≡ Err f → f ≡ Device
room_gives s r f len m short fits t e = rw e at (t (let_in s len m short fits))

abbrev pub Logged : Segment Reserved → Segment Reserved → List ℕ → Type 0
Logged s new rec = IsLogged (λ (w : Reserved). Some w.bytes) (λ (w : Reserved). w.has_failed) (λ (w : Reserved). w.room) s new rec

one_written : (s new : Segment Reserved) (rec : List ℕ) → HasMemory s → 0 < length rec → length rec ≤ room page_size s.pages s.offset → Logged s new rec → TakesRecords s new (rec ∷ [])
one_written s new rec m some fits l =
    let bytes : new.sink.bytes ≡ s.sink.bytes ++ log_bytes page_size s.offset rec = l.bytes.appended in
    let offset : new.offset ≡ s.offset + length (log_bytes page_size s.offset rec) = ap (λ (x : Segment Reserved). x.offset) l.moved in
    let pages : new.pages ≡ s.pages = ap (λ (x : Segment Reserved). x.pages) l.moved in
    let closed : new.closed ≡ s.closed = ap (λ (x : Segment Reserved). x.closed) l.moved in
    let place : IsPlace s.pages (s.offset + length (log_bytes page_size s.offset rec)) = room_fits s.pages s.offset rec m.place some fits in
    record {
      bytes = bytes ∙ ap (λ (t : List ℕ). s.sink.bytes ++ t) (sym (append-nil (log_bytes page_size s.offset rec)));
      pages = pages;
      memory = record {
        place = rw (pages, offset) place;
        open' = closed ∙ m.open';
        sound = l.bytes.sound m.sound;
        written = omega (arith, offset, m.written, ap length bytes, length-append s.sink.bytes (log_bytes page_size s.offset rec));
        reserved = rw pages (omega (arith, offset, m.reserved, l.bytes.room_left));
      };
      fits = rw (le-leb (length rec) (room page_size s.pages s.offset) fits) refl;
    }

pub log_took : (s new : Segment Reserved) (r : Result (Unit {0}) LogFault) (line rec : List ℕ) → HasMemory s → 0 < length line → 0 < length rec → IsRecordOf line rec → Refused s new r (length rec) → r ≡ Ok tt
    → Logged s new rec → (recs : List (List ℕ)) × AreRecordsOfLines (line ∷ []) recs × TakesRecords s new recs
log_took s new r line rec m some long is h e l = elim (cases_lt (room page_size s.pages s.offset) (length rec)) [
  | inl full ↦ absurd (no_ok r SegmentFull e (full_gives s new r (length rec) m is.short full h).0)
  | inr fits ↦ (rec ∷ [], one_record line rec some is, one_written s new rec m long fits l)
]

pub log_full : (s new : Segment Reserved) (r : Result (Unit {0}) LogFault) (line rec : List ℕ) → HasMemory s → 0 < length line → IsRecordOf line rec → Refused s new r (length rec) → Taken s r (length rec)
    → r ≡ Err SegmentFull → (recs : List (List ℕ)) × AreRecordsOfLines (line ∷ []) recs × ((new ≡ s) × (have_room s.pages s.offset recs ≡ false))
log_full s new r line rec m some is h t e = elim (cases_lt (room page_size s.pages s.offset) (length rec)) [
  | inl full ↦ (rec ∷ [], one_record line rec some is, ((full_gives s new r (length rec) m is.short full h).1, rw (lt-leb (length rec) (room page_size s.pages s.offset) full) refl))
  | inr fits ↦ let same : SegmentFull ≡ Device = room_gives s r SegmentFull (length rec) m is.short fits t e in absurd (cc)
]

pub not_device : (s new : Segment Reserved) (r : Result (Unit {0}) LogFault) (line rec : List ℕ) → HasMemory s → 0 < length rec → IsRecordOf line rec → Refused s new r (length rec)
    → r ≡ Err Device → TakesPart (λ (w : Reserved). Some w.bytes) (λ (w : Reserved). w.has_failed) (λ (w : Reserved). w.room) s.sink new.sink (log_bytes page_size s.offset rec) → ⊥
not_device s new r line rec m long is h e part = elim (cases_lt (room page_size s.pages s.offset) (length rec)) [
  | inl full ↦ let same : Device ≡ SegmentFull = same_fault r Device SegmentFull e (full_gives s new r (length rec) m is.short full h).0 in cc
  | inr fits ↦
      let place : IsPlace s.pages (s.offset + length (log_bytes page_size s.offset rec)) = room_fits s.pages s.offset rec m.place long fits in
      omega (arith, place.within, m.reserved, part.lacked m.sound)
]

pub said_some : (line : List ℕ) (said : Line) → IsLine line said → 0 < length (record_of said)
said_some line (series reference labels) l = omega arith
said_some line (sample reference t word) l = omega arith
said_some line (raw bytes) l = l.says.2.some

pub record_some : (line rec : List ℕ) → IsRecordOf line rec → 0 < length rec
record_some line rec h = rw h.is (said_some line h.said h.is_line)

pub has_record : (line : List ℕ) (recs : List (List ℕ)) → 0 < length line → AreRecordsOfLines (line ∷ []) recs → ((rec : List ℕ) → IsRecordOf line rec → ⊥) → ⊥
has_record [] recs some h none = omega arith
has_record (b ∷ bs) [] some h none = h
has_record (b ∷ bs) (rec ∷ recs) some h none = none rec h.0

pub no_record : (s : Segment Reserved) (line : List ℕ) → HasMemory s → line ≡ [] → (recs : List (List ℕ)) × AreRecordsOfLines (line ∷ []) recs × TakesRecords s s recs
no_record s line m e = ([], rw e refl, record { bytes = sym (append-nil s.sink.bytes); pages = refl; memory = m; fits = refl })

-- ---- all records that have room

have_room-append : (pages offset : ℕ) (recs others : List (List ℕ)) (b : Bool) → have_room pages offset recs ≡ true → have_room pages (offset + length (log_all page_size offset recs)) others ≡ b
    → have_room pages offset (recs ++ others) ≡ b
have_room-append pages offset [] others b h i = ap (λ (n : ℕ). have_room pages n others) (sym (add-zero offset)) ∙ i
have_room-append pages offset (rec ∷ recs) others b h i =
    let one : List ℕ = log_bytes page_size offset rec in
    let all : List ℕ = log_all page_size (offset + length one) recs in
    let p = and_parts (leb (length rec) (room page_size pages offset)) (have_room pages (offset + length one) recs) h in
    let place : offset + length (one ++ all) ≡ offset + length one + length all = omega (arith, length-append one all) in
    rw p.0 (have_room-append pages (offset + length one) recs others b p.1 (ap (λ (n : ℕ). have_room pages n others) (sym place) ∙ i))

-- the records of the lines before `rest` are written
pub record Filling (pages : ℕ) (text : List ℕ) (w : Segment Reserved) (rest : List ℕ) : Type 0 where
  pub front : List (List ℕ)
  pub records : List (List ℕ)
  pub parts : lines text ≡ front ++ lines rest
  pub good : AreRecordsOfLines front records
  pub fits : have_room pages 0 records ≡ true
  pub bytes : w.sink.bytes ≡ segment_of records
  pub pages_are : w.pages ≡ pages
  pub memory : HasMemory w

pub filling_begins : (pages : ℕ) (text : List ℕ) (w : Segment Reserved) → HasMemory w × (w.pages ≡ pages) × (w.sink.bytes ≡ []) → Filling pages text w text
filling_begins pages text w (m, p, b) = record { front = []; records = []; parts = refl; good = refl; fits = refl; bytes = b; pages_are = p; memory = m }

offset_is : (pages : ℕ) (text : List ℕ) (w : Segment Reserved) (rest : List ℕ) (f : Filling pages text w rest) → w.offset ≡ 0 + length (segment_of f.records)
offset_is pages text w rest f = omega (arith, f.memory.written, ap length f.bytes)

room_after : (pages : ℕ) (text : List ℕ) (w : Segment Reserved) (rest : List ℕ) (f : Filling pages text w rest) (recs : List (List ℕ)) (b : Bool) → have_room w.pages w.offset recs ≡ b
    → have_room pages (0 + length (segment_of f.records)) recs ≡ b
room_after pages text w rest f recs b h =
    ap (λ (n : ℕ). have_room pages n recs) (sym (offset_is pages text w rest f)) ∙ ap (λ (n : ℕ). have_room n w.offset recs) (sym f.pages_are) ∙ h

pub filling_more : (pages : ℕ) (text : List ℕ) (w next : Segment Reserved) (rest line more : List ℕ) → Filling pages text w rest → lines rest ≡ line ∷ lines more
    → (recs : List (List ℕ)) × AreRecordsOfLines (line ∷ []) recs × TakesRecords w next recs → Filling pages text next more
filling_more pages text w next rest line more f e (recs, good, t) = record {
  front = f.front ++ line ∷ [];
  records = f.records ++ recs;
  parts = next_parts text rest line more f.front f.parts e;
  good = records_join f.front (line ∷ []) f.records recs f.good good;
  fits = have_room-append pages 0 f.records recs true f.fits (room_after pages text w rest f recs true t.fits);
  bytes = t.bytes ∙ ap (λ (b : List ℕ). b ++ log_all page_size w.offset recs) f.bytes
      ∙ ap (λ (n : ℕ). segment_of f.records ++ log_all page_size n recs) (offset_is pages text w rest f) ∙ sym (log_all-append page_size 0 f.records recs);
  pages_are = t.pages ∙ f.pages_are;
  memory = t.memory;
}

records_back : (front back recs : List (List ℕ)) → AreRecordsOfLines (front ++ back) recs → (others : List (List ℕ)) × AreRecordsOfLines back others
records_back [] back recs h = (recs, h)
records_back ([] ∷ front) back recs h = records_back front back recs h
records_back ((b ∷ bs) ∷ front) back [] h = absurd h
records_back ((b ∷ bs) ∷ front) back (rec ∷ recs) h = records_back front back recs h.1

records_first : (line : List ℕ) (more recs : List (List ℕ)) → AreRecordsOfLines (line ∷ more) recs → (others : List (List ℕ)) × AreRecordsOfLines (line ∷ []) others
records_first [] more recs h = ([], refl)
records_first (b ∷ bs) more [] h = absurd h
records_first (b ∷ bs) more (rec ∷ recs) h = (rec ∷ [], (h.0, refl))

pub line_is_good : (pages : ℕ) (text : List ℕ) (w : Segment Reserved) (rest line more : List ℕ) → (recs : List (List ℕ)) × AreRecordsOfLines (lines text) recs → Filling pages text w rest → lines rest ≡ line ∷ lines more
    → (recs : List (List ℕ)) × AreRecordsOfLines (line ∷ []) recs
line_is_good pages text w rest line more (recs, h) f e =
    let back = records_back f.front (lines rest) recs (subst (λ (ls : List (List ℕ)). AreRecordsOfLines ls recs) f.parts h) in
    records_first line (lines more) back.0 (subst (λ (ls : List (List ℕ)). AreRecordsOfLines ls back.0) e back.1)

pub filling_stops : (pages : ℕ) (text : List ℕ) (w next : Segment Reserved) (rest line more segment : List ℕ) → Filling pages text w rest → lines rest ≡ line ∷ lines more
    → (recs : List (List ℕ)) × AreRecordsOfLines (line ∷ []) recs × ((next ≡ w) × (have_room w.pages w.offset recs ≡ false)) → segment ≡ next.sink.bytes → Fills pages text segment rest
filling_stops pages text w next rest line more segment f e (recs, good, (same, full)) is =
    let bytes : segment ≡ segment_of f.records = is ∙ ap (λ (s : Segment Reserved). s.sink.bytes) same ∙ f.bytes in
    let place : length segment ≡ 0 + length (segment_of f.records) = omega (arith, ap length bytes) in
    record {
      front = f.front;
      records = f.records;
      parts = f.parts;
      good = f.good;
      fits = f.fits;
      bytes = bytes;
      full = λ _. (line, lines more, recs, e, good, ap (λ (n : ℕ). have_room pages n recs) place ∙ room_after pages text w rest f recs false full);
    }

pub filling_ends : (pages : ℕ) (text : List ℕ) (w : Segment Reserved) (rest segment : List ℕ) → Filling pages text w rest → length rest ≡ 0 → segment ≡ w.sink.bytes → Fills pages text segment rest
filling_ends pages text w rest segment f e is = record {
  front = f.front;
  records = f.records;
  parts = f.parts;
  good = f.good;
  fits = f.fits;
  bytes = is ∙ f.bytes;
  full = λ some. absurd (omega (arith, some, e));
}

-- ---- one segment

pub filled_all : (pages : ℕ) (text segment rest : List ℕ) → Fills pages text segment rest → length rest ≡ 0
    → (recs : List (List ℕ)) × AreRecordsOfLines (lines text) recs × ((have_room pages 0 recs ≡ true) × (segment ≡ segment_of recs))
filled_all pages text segment rest f e =
    let whole : lines text ≡ f.front = f.parts ∙ ap (λ (t : List ℕ). f.front ++ lines t) (nil_from_length rest e) ∙ append-nil f.front in
    (f.records, subst (λ (ls : List (List ℕ)). AreRecordsOfLines ls f.records) (sym whole) f.good, (f.fits, f.bytes))

no_more_room : (pages offset : ℕ) (recs others : List (List ℕ)) → have_room pages offset recs ≡ false → have_room pages offset (recs ++ others) ≡ false
no_more_room pages offset [] others h = absurd (false≢true (sym h))
no_more_room pages offset (rec ∷ recs) others h =
    let place : ℕ = offset + length (log_bytes page_size offset rec) in
    elim (and_cases (leb (length rec) (room page_size pages offset)) (have_room pages place recs) h) [
      | inl f ↦ and_left (leb (length rec) (room page_size pages offset)) (have_room pages place (recs ++ others)) f
      | inr f ↦ and_right (leb (length rec) (room page_size pages offset)) (have_room pages place (recs ++ others)) (no_more_room pages place recs others f)
    ]

pub overfull : (pages : ℕ) (text segment rest : List ℕ) → Fills pages text segment rest → 0 < length rest → (recs : List (List ℕ)) × AreRecordsOfLines (lines text) recs
    → (recs : List (List ℕ)) × AreRecordsOfLines (lines text) recs × (have_room pages 0 recs ≡ false)
overfull pages text segment rest f some (all, h) =
    let n = f.full some in
    let back = records_back f.front (lines rest) all (subst (λ (ls : List (List ℕ)). AreRecordsOfLines ls all) f.parts h) in
    let last = records_back (n.0 ∷ []) n.1 back.0 (subst (λ (ls : List (List ℕ)). AreRecordsOfLines ls back.0) n.3 back.1) in
    let begun : List (List ℕ) = f.front ++ n.0 ∷ [] in
    let whole : lines text ≡ begun ++ n.1 = f.parts ∙ ap (λ (ls : List (List ℕ)). f.front ++ ls) n.3 ∙ sym (append_assoc f.front (n.0 ∷ []) n.1) in
    let place : length segment ≡ 0 + length (segment_of f.records) = omega (arith, ap length f.bytes) in
    let none : have_room pages 0 (f.records ++ n.2) ≡ false = have_room-append pages 0 f.records n.2 false f.fits (ap (λ (m : ℕ). have_room pages m n.2) (sym place) ∙ n.5) in
    let good : AreRecordsOfLines (begun ++ n.1) ((f.records ++ n.2) ++ last.0) = records_join begun n.1 (f.records ++ n.2) last.0 (records_join f.front (n.0 ∷ []) f.records n.2 f.good n.4) last.1 in
    ((f.records ++ n.2) ++ last.0, subst (λ (ls : List (List ℕ)). AreRecordsOfLines ls ((f.records ++ n.2) ++ last.0)) (sym whole) good, no_more_room pages 0 (f.records ++ n.2) last.0 none)

pub rest_is_good : (pages : ℕ) (text segment rest : List ℕ) → Fills pages text segment rest → (recs : List (List ℕ)) × AreRecordsOfLines (lines text) recs → (recs : List (List ℕ)) × AreRecordsOfLines (lines rest) recs
rest_is_good pages text segment rest f (all, h) = records_back f.front (lines rest) all (subst (λ (ls : List (List ℕ)). AreRecordsOfLines ls all) f.parts h)
