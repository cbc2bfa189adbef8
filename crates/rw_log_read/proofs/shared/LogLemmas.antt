-- The segments of a log, one after the other.
use Rattle.std.proofs.Common.{◌≡◌, ℕ, ◌+◌, ◌<◌, ◌≤◌, List, [], ◌∷◌, ◌++◌, length, map, Bool, true, false, Option, None, Some, refl, sym, ap, ◌∙◌, subst, append_assoc, append-nil, length-append, arith}
use Rattle.std.specs.Prelude.{flat_map, nat_eq}
use Rattle.std.specs.Io.KnownBytes.{Consumes, IsAtEnd}
use Rattle.std.proofs.lemmas.Grind.{flat_map-append}
use Rattle.std.proofs.lemmas.Bool.Decides.{nat_tests}
use Rattle.rw_follow.specs.Meals.{Meal, no_meal, with_next}
use Rattle.rw_follow.specs.Queues as queue
use Rattle.rw_follow.specs.Queues.{AreAllRead, IsAllOf, IsFirstAtEnd}
use Rattle.rw_types.specs.declared.entry.Entry.{Entry}
use Rattle.rw_wal_format.specs.Laws.{Extends}
use Rattle.rw_wal_format.specs.Pieces.{Piece, bytes, next_segment, may_compress, begun_log, is_marked, fault, fault_at, page_size, reading, skipped}
use Rattle.rw_wal_format.specs.Segments.{Reading, Stop, at_fault, between, inside, segment_in}
use Rattle.rw_wal_format.proofs.shared.Growing.{cuts_after, reading-append}
use Rattle.rw_wal_format.specs.declared.tail_fault.TailFault.{TailFault}
use Rattle.rw_wal_tail.specs.Fed.{Fed}
use Rattle.rw_wal_tail.specs.Taking.{HasTakenAll}
use Rattle.rw_log_read.specs.Logs.{AreRead, AreRows, IsRow, ReadsInto, ReadsNamed, log_of, log_in, next_pieces, texts_of}
use Rattle.rw_log_read.specs.inner.Logs.{AreTaken, Gives, IsSegmentTaken, ReadsLog, ReadsSegment, begun}
use Rattle.rw_log_read.specs.inner.Reading.{AreFed, ReadsText}
use Rattle.rw_log_read.specs.Sums.{sums_of}
use Rattle.rw_log_read.specs.declared.log_read.Segment.{Segment}
use Rattle.rw_log_read.specs.declared.segment_text.TextRead.{TextRead}

abbrev pub none_yet : List (List ℕ) → Bool
none_yet [] = true
none_yet (t ∷ ts) = false

-- one more segment
log_of-push : (texts : List (List ℕ)) (text : List ℕ) → log_of (texts ++ text ∷ []) ≡ begun (none_yet texts) (log_of texts) ++ bytes text ∷ []
log_of-push [] text = refl
log_of-push (t ∷ ts) text =
    ap (λ ps. bytes t ∷ ps) (flat_map-append next_pieces ts (text ∷ []))
    ∙ ap (λ ps. bytes t ∷ ps) (sym (append_assoc (flat_map next_pieces ts) (next_segment ∷ []) (bytes text ∷ [])))

log_in-push : (c : Bool) (texts : List (List ℕ)) (text : List ℕ) → log_in c (texts ++ text ∷ []) ≡ begun (none_yet texts) (log_in c texts) ++ bytes text ∷ []
log_in-push false texts text = log_of-push texts text
log_in-push true [] text = refl
log_in-push true (t ∷ ts) text = ap (λ ps. may_compress ∷ ps) (log_of-push (t ∷ ts) text)

-- what is begun of pieces that are read alike is read alike
begun_alike : (is_first : Bool) (ps qs : List Piece) → ((later : List Piece) → reading page_size (ps ++ later) ≡ reading page_size (qs ++ later)) → (later : List Piece)
    → reading page_size (begun is_first ps ++ later) ≡ reading page_size (begun is_first qs ++ later)
begun_alike true ps qs h later = h later
begun_alike false ps qs h later =
    ap (reading page_size) (append_assoc ps (next_segment ∷ []) later) ∙ h (next_segment ∷ later) ∙ ap (reading page_size) (sym (append_assoc qs (next_segment ∷ []) later))

-- the rows, one more
rows-push : (c : Bool) (done texts : List (List ℕ)) (rows : List Segment) (text : List ℕ) (row : Segment) → AreRows c done texts rows → IsRow c (done ++ texts) text row → AreRows c done (texts ++ text ∷ []) (rows ++ row ∷ [])
rows-push c done [] [] text row h one = (subst (λ d. IsRow c d text row) (append-nil done) one, tt)
rows-push c done [] (r ∷ rs) text row h one = absurd h
rows-push c done (t ∷ ts) [] text row h one = absurd h
rows-push c done (t ∷ ts) (r ∷ rs) text row h one = (h.0, rows-push c (done ++ t ∷ []) ts rs text row h.1 (subst (λ d. IsRow c d text row) (sym (append_assoc done (t ∷ []) ts)) one))

-- whether something is there, by the number of what is there
not_none : (n : ℕ) → 0 < n → nat_eq n 0 ≡ false
not_none n lt = grind (arith, nat_tests)

pub no_items : {X : Type 0} (xs : List X) (len : ℕ) (b : Bool) → len ≡ length xs → b ≡ nat_eq len 0 → b ≡ true → xs ≡ []
no_items [] len b h is e = refl
no_items (x ∷ xs) len b h is e = let no : true ≡ false = sym e ∙ is ∙ not_none len (omega (arith, h)) in absurd cc

pub some_items : {X : Type 0} (xs : List X) (len : ℕ) (b : Bool) → len ≡ length xs → b ≡ nat_eq len 0 → b ≡ false → 0 < length xs
some_items [] len b h is e = let no : false ≡ true = sym e ∙ is ∙ ap (λ n. nat_eq n 0) h in absurd cc
some_items (x ∷ xs) len b h is e = omega arith

-- there are rows if there are texts
pub first_row : (c : Bool) (texts : List (List ℕ)) (rows : List Segment) (len : ℕ) (b : Bool) → AreRows c [] texts rows → len ≡ length rows → b ≡ nat_eq len 0 → b ≡ none_yet texts
first_row c [] [] len b h e is = is ∙ ap (λ n. nat_eq n 0) e
first_row c [] (r ∷ rs) len b h e is = absurd h
first_row c (t ∷ ts) [] len b h e is = absurd h
first_row c (t ∷ ts) (r ∷ rs) len b h e is = is ∙ not_none len (omega (arith, e))

-- all entries of the log were taken
alike_entries : (c : Bool) (texts : List (List ℕ)) (t : Fed) → ((later : List Piece) → reading page_size (t.pieces ++ later) ≡ reading page_size (log_in c texts ++ later)) → reading page_size t.pieces ≡ reading page_size (log_in c texts)
alike_entries c texts t h = ap (reading page_size) (sym (append-nil t.pieces)) ∙ h [] ∙ ap (reading page_size) (append-nil (log_in c texts))

-- the next segment was read
pub taken_more : (c : Bool) (texts : List (List ℕ)) (t new : Fed) (before after : List Entry) (rows : List Segment) (is_first : Bool) (text : List ℕ) (row : Segment) (found : Option TailFault) → AreTaken c texts t before rows None → is_first ≡ none_yet texts
    → IsSegmentTaken is_first t new before after text row found → AreTaken c (texts ++ text ∷ []) new after (rows ++ row ∷ []) found
taken_more c texts t new before after rows is_first text row found h first r =
    let same : (later : List Piece) → reading page_size (new.pieces ++ later) ≡ reading page_size (log_in c (texts ++ text ∷ []) ++ later) = λ later.
    r.same later ∙ begun_alike is_first t.pieces (log_in c texts) h.same (bytes text ∷ later)
    ∙ ap (λ b. reading page_size (begun b (log_in c texts) ++ bytes text ∷ later)) first
    ∙ ap (reading page_size) (sym (append_assoc (begun (none_yet texts) (log_in c texts)) (bytes text ∷ []) later))
    ∙ ap (λ ps. reading page_size (ps ++ later)) (sym (log_in-push c texts text)) in
    let old_read = alike_entries c texts t h.same in
    let new_read = alike_entries c (texts ++ text ∷ []) new same in
    let is_row : IsRow c texts text row = record {
      length_is = r.length_is;
      more = r.more;
      adds =
          sym (ap (λ (x : Reading). x.entries) new_read) ∙ sym r.all.read.all ∙ r.adds
          ∙ ap (λ es. es ++ r.more) (h.all.read.all ∙ ap (λ (x : Reading). x.entries) old_read);
      sums_are = r.sums_are;
      passed =
          ap (λ ts. length ts + row.passed) (sym (h.all.passed ∙ ap (λ (x : Reading). x.skipped) old_read)) ∙ r.passed
          ∙ ap length (r.all.passed ∙ ap (λ (x : Reading). x.skipped) new_read);
    } in
    record { same = same; all = r.all; rows_are = rows-push c [] texts rows text row h.rows_are is_row }

-- how far a log was read when its next segment begins
pub record Going {Start : Type 0} (c : Bool) (gave now : Start → Meal → Type 0) (t : Fed) (taken : List Entry) (rows : List Segment) : Type 0 where
  pub texts : List (List ℕ)
  pub so_far : AreTaken c texts t taken rows None
  pub read : Gives gave now (record { whole = texts; begun = [] })

pub going_none : {Start : Type 0} (c : Bool) (gave : Start → Meal → Type 0) (t : Fed) (taken : List Entry) (rows : List Segment) → AreTaken c [] t taken rows None → Going c gave gave t taken rows
going_none {Start} c gave t taken rows h = record { texts = []; so_far = h; read = λ start is. is }

-- a segment was read without a fault, and the next one begins
pub going_more : {Start : Type 0} (c : Bool) (gave mid given now all : Start → Meal → Type 0) (is_read is_followed : Type 0) (t new : Fed) (before after : List Entry) (rows grown : List Segment) (past_fault is_first : Bool) (found : Segment × TextRead)
    → (g : Going c gave mid t before rows) → is_first ≡ none_yet g.texts → ReadsSegment past_fault is_first mid given all is_read is_followed t new before after found → found.1.fault ≡ None → grown ≡ rows ++ found.0 ∷ []
    → ((start : Start) (meal : Meal) → given start meal → now start (with_next meal)) → Going c gave now new after grown
going_more {Start} c gave mid given now all is_read is_followed t new before after rows grown past_fault is_first found g first r sound pushed steps = record {
  texts = g.texts ++ r.text ∷ [];
  so_far = rw pushed (subst (AreTaken c (g.texts ++ r.text ∷ []) new after (rows ++ found.0 ∷ [])) sound (taken_more c g.texts t new before after rows is_first r.text found.0 found.1.fault g.so_far first r.taken));
  read = λ start is. steps start _ (r.is.read start _ (g.read start is));
}

-- a fault was found, or the last segment was read
pub stops : {Start : Type 0} (c : Bool) (gave mid given all : Start → Meal → Type 0) (is_read is_followed : Type 0) (t new : Fed) (before after : List Entry) (rows grown : List Segment) (past_fault is_first : Bool) (found : Segment × TextRead)
    → (g : Going c gave mid t before rows) → is_first ≡ none_yet g.texts → ReadsSegment past_fault is_first mid given all is_read is_followed t new before after found → grown ≡ rows ++ found.0 ∷ []
    → (found.1.fault ≡ None → found.1.is_followed ≡ false) → ReadsLog past_fault c gave given all is_read new after grown found.1.fault
stops {Start} c gave mid given all is_read is_followed t new before after rows grown past_fault is_first found g first r pushed last = record {
  fed = record { whole = g.texts; begun = r.text };
  read = λ start is. r.is.read start _ (g.read start is);
  whole = λ none start is. r.is.last none (last none) start _ (g.read start is);
  ended = r.is.ended;
  are = rw pushed (taken_more c g.texts t new before after rows is_first r.text found.0 found.1.fault g.so_far first r.taken);
}

-- before the first segment
pub taken_none : (c : Bool) (t : Fed) (taken : List Entry) (rows : List Segment) → t ≡ record { pieces = begun_log c; given = 0; skipped = []; fault = None } → taken ≡ [] → rows ≡ [] → AreTaken (is_marked t.pieces) [] t taken rows None
unfolding reading segment_in
taken_none false t taken rows e n r =
    rw (e, n, r) record {
      same = λ later. refl;
      all = record {
        taken_all = record { count = refl; rest = []; begins = refl };
        read = record { all = refl; fault_is = refl };
        passed = refl;
      };
      rows_are = tt;
    }
taken_none true t taken rows e n r =
    rw (e, n, r) record {
      same = λ later. refl;
      all = record {
        taken_all = record { count = refl; rest = []; begins = refl };
        read = record { all = refl; fault_is = refl };
        passed = refl;
      };
      rows_are = tt;
    }

-- whether it may have Snappy blocks
pub begun_is : (c : Bool) (t : Fed) → t ≡ record { pieces = begun_log c; given = 0; skipped = []; fault = None } → is_marked t.pieces ≡ c
begun_is c t e = ap (λ (x : Fed). is_marked x.pieces) e ∙ marked c
  where
    marked : (b : Bool) → is_marked (begun_log b) ≡ b
    marked true = refl
    marked false = refl

-- a segment was read after others
pub reads_segment : {Start : Type 0} (past_fault is_first : Bool) (a b all : Start → Meal → Type 0) (is_read is_followed : Type 0) (old begun_at new : Fed) (before first after : List Entry) (read : TextRead) (row : Segment)
    → begun_at ≡ record old { pieces = begun is_first old.pieces } → first ≡ before → ReadsText past_fault a b all is_read is_followed begun_at new first after read → row.bytes ≡ read.bytes
    → ((more : List Entry) → after ≡ first ++ more → row.sums ≡ sums_of more) → length old.skipped + row.passed ≡ length new.skipped → ReadsSegment past_fault is_first a b all is_read is_followed old new before after (row, read)
reads_segment {Start} past_fault is_first a b all is_read is_followed old begun_at new before first after read row at same r bytes_are sums_are passed = record {
  text = r.text;
  is = r.is;
  taken = record {
    length_is = bytes_are ∙ r.counted;
    same = λ later. r.same later ∙ ap (λ (x : Fed). reading page_size (x.pieces ++ bytes r.text ∷ later)) at;
    all = r.all;
    more = r.begins.0;
    adds = r.begins.1 ∙ ap (λ (es : List Entry). es ++ r.begins.0) same;
    sums_are = sums_are r.begins.0 r.begins.1;
    passed = passed;
  };
}

-- records that were skipped stay skipped
pub passed_grows : (is_first : Bool) (old begun_at new : Fed) (text : List ℕ) (before after : List Entry) (found : Option TailFault)
    → HasTakenAll old before None → begun_at ≡ record old { pieces = begun is_first old.pieces } → AreFed begun_at.pieces text new.pieces → HasTakenAll new after found → length old.skipped ≤ length new.skipped
passed_grows is_first old begun_at new text before after found h b same all =
    let alike : reading page_size new.pieces ≡ reading page_size (begun is_first old.pieces ++ bytes text ∷ []) =
    ap (reading page_size) (sym (append-nil new.pieces)) ∙ same [] ∙ ap (λ (x : Fed). reading page_size (x.pieces ++ bytes text ∷ [])) b in
    let less = more_passed is_first old.pieces text in
    let now : new.skipped ≡ skipped (begun is_first old.pieces ++ bytes text ∷ []) = all.passed ∙ ap (λ (x : Reading). x.skipped) alike in
    omega (arith, less, ap length now, ap length h.passed)
  where
    more_within : (a b : Reading) → Extends a b → length a.skipped ≤ length b.skipped
    more_within a b x = omega (arith, ap length x.skipped, length-append a.skipped x.more_skipped)

    more_passed : (f : Bool) (ps : List Piece) (text : List ℕ) → length (skipped ps) ≤ length (skipped (begun f ps ++ bytes text ∷ []))
    more_passed true ps text = more_within _ _ (reading-append page_size ps (bytes text ∷ []) (omega arith))
    more_passed false ps text =
        subst (λ qs. length (skipped ps) ≤ length (skipped qs)) (sym (append_assoc ps (next_segment ∷ []) (bytes text ∷ []))) (more_within _ _ (reading-append page_size ps (next_segment ∷ bytes text ∷ []) (omega arith)))

-- the fault that was found is that of the log
found_is : (c : Bool) (texts : List (List ℕ)) (t : Fed) (taken : List Entry) (rows : List Segment) (found : Option TailFault) → AreTaken c texts t taken rows found → found ≡ fault (log_in c texts)
found_is c texts t taken rows found h = sym h.all.read.fault_is ∙ ap (λ (x : Reading). fault_at x.stop) (alike_entries c texts t h.same)

-- what was read into a taker
pub reads_into : {Start : Type 0} (past_fault c marked : Bool) (gave given all : Start → Meal → Type 0) (is_read : Type 0) (t : Fed) (taken now : List Entry) (rows : List Segment) (found said : Option TailFault)
    → marked ≡ c → ReadsLog past_fault marked gave given all is_read t taken rows found → now ≡ taken → said ≡ found → (start : Start) → gave start no_meal → ReadsInto past_fault c (given start) (all start) is_read now rows said
reads_into {Start} past_fault c marked gave given all is_read t taken now rows found said same l is e start begins =
    let r : ReadsLog past_fault c gave given all is_read t taken rows found = subst (λ b. ReadsLog past_fault b gave given all is_read t taken rows found) same l in
    rw e record {
      fed = r.fed;
      gives = r.read start begins;
      whole = λ none. r.whole none start begins;
      ended = r.ended;
      are = record {
        rows_are = r.are.rows_are;
        all = is ∙ r.are.all.read.all ∙ ap (λ (x : Reading). x.entries) (alike_entries c (texts_of r.fed) t r.are.same);
        fault_is = found_is c (texts_of r.fed) t taken rows found r.are;
      };
    }

-- ---- of readers

all_of : (left now : Option (List ℕ)) (text : List ℕ) → Consumes left now text → IsAtEnd now → IsAllOf left text
all_of None now text h e = tt
all_of (Some xs) None text h e = absurd h
all_of (Some xs) (Some ys) text h e = sym (append-nil text) ∙ ap (λ (zs : List ℕ). text ++ zs) (sym e) ∙ sym h

none_read : (lefts : List (Option (List ℕ))) → AreRead lefts []
none_read [] = tt
none_read (l ∷ ls) = tt

-- the current one was read to its end
first_read : (lefts : List (Option (List ℕ))) (whole : List (List ℕ)) (part : List ℕ) (now : List (Option (List ℕ))) → 0 < length lefts → queue.AreRead lefts whole part now → IsFirstAtEnd now → AreRead lefts (whole ++ part ∷ [])
first_read [] whole part now some h e = absurd (omega (arith, some))
first_read (left ∷ lefts) [] part [] some h e = absurd h
first_read (left ∷ lefts) [] part (n ∷ later) some h e = (all_of left n part h.0 e, none_read lefts)
first_read (left ∷ []) (text ∷ whole) part now some h e = absurd h
first_read (left ∷ next ∷ lefts) (text ∷ whole) part now some h e = (h.0, first_read (next ∷ lefts) whole part now (omega arith) h.1 e)

-- how many there are
count_read : (lefts : List (Option (List ℕ))) (whole : List (List ℕ)) (part : List ℕ) (now : List (Option (List ℕ))) → 0 < length lefts → queue.AreRead lefts whole part now → length whole + length now ≡ length lefts
count_read [] whole part now some h = absurd (omega (arith, some))
count_read (left ∷ lefts) [] part [] some h = absurd h
count_read (left ∷ lefts) [] part (n ∷ later) some h =
    let rest = ap (λ (xs : List (Option (List ℕ))). length xs) h.1 in
    omega (arith, rest)
count_read (left ∷ []) (text ∷ whole) part now some h = absurd h
count_read (left ∷ next ∷ lefts) (text ∷ whole) part now some h =
    let rest = count_read (next ∷ lefts) whole part now (omega arith) h.1 in
    omega (arith, rest)

some_now : (lefts : List (Option (List ℕ))) (whole : List (List ℕ)) (part : List ℕ) (now : List (Option (List ℕ))) → 0 < length lefts → queue.AreRead lefts whole part now → 0 < length now
some_now [] whole part now some h = absurd (omega (arith, some))
some_now (left ∷ lefts) [] part [] some h = absurd h
some_now (left ∷ lefts) [] part (n ∷ later) some h = omega arith
some_now (left ∷ []) (text ∷ whole) part now some h = absurd h
some_now (left ∷ next ∷ lefts) (text ∷ whole) part now some h = some_now (next ∷ lefts) whole part now (omega arith) h.1

pub reads_named : (c : Bool) (lefts now : List (Option (List ℕ))) (taken : List Entry) (rows : List Segment) (found : Option TailFault) → 0 < length lefts
    → ReadsInto true c (λ (m : Meal). queue.AreRead lefts m.whole m.begun now) (λ (m : Meal). AreAllRead lefts m) (IsFirstAtEnd now) taken rows found → ReadsNamed c lefts taken rows found
reads_named c lefts now taken rows None some h =
    let all = h.whole refl in
    let count = count_read lefts h.fed.whole h.fed.begun all.now some all.read in
    let any = some_now lefts h.fed.whole h.fed.begun all.now some all.read in
    let len = length-append h.fed.whole (h.fed.begun ∷ []) in
    let last = all.last in
    record {
      texts = h.fed.whole ++ h.fed.begun ∷ [];
      read = record {
        read = first_read lefts h.fed.whole h.fed.begun all.now some all.read all.at_end;
        whole = λ none. omega (arith, count, any, len, last);
      };
      are = h.are;
    }
reads_named c lefts now taken rows (Some f) some h = record {
  texts = h.fed.whole ++ h.fed.begun ∷ [];
  read = record {
    read = first_read lefts h.fed.whole h.fed.begun now some h.gives (h.ended refl refl);
    whole = λ none. absurd cc;
  };
  are = h.are;
}

-- of no reader nothing is read
pub reads_nothing : {X : Type 0} (c : Bool) (items : List X) (f : X → Option (List ℕ)) (taken : List Entry) (rows : List Segment) (found : Option TailFault) → items ≡ [] → taken ≡ [] → rows ≡ [] → found ≡ None → ReadsNamed c (map f items) taken rows found
unfolding reading segment_in
reads_nothing {X} false items f taken rows found none t r e =
    rw (none, t, r, e) record {
      texts = [];
      read = record { read = tt; whole = λ is. refl };
      are = record { rows_are = tt; all = refl; fault_is = refl };
    }
reads_nothing {X} true items f taken rows found none t r e =
    rw (none, t, r, e) record {
      texts = [];
      read = record { read = tt; whole = λ is. refl };
      are = record { rows_are = tt; all = refl; fault_is = refl };
    }

-- two pieces of bytes are read as one
cuts : (ps : List Piece) (text more : List ℕ) → reading page_size (ps ++ bytes text ∷ (bytes more ∷ [])) ≡ reading page_size (ps ++ bytes (text ++ more) ∷ [])
unfolding reading
cuts ps text more = cuts_after false page_size [] ps text more []

-- a fault stays, whatever follows
pub fault_stays : (c : Bool) (texts : List (List ℕ)) (text more : List ℕ) (f : TailFault) → fault (log_in c (texts ++ text ∷ [])) ≡ Some f → fault (log_in c (texts ++ (text ++ more) ∷ [])) ≡ Some f
fault_stays c texts text more f e =
    let ps = begun (none_yet texts) (log_in c texts) in
    let cut : reading page_size ((ps ++ bytes text ∷ []) ++ bytes more ∷ []) ≡ reading page_size (log_in c (texts ++ (text ++ more) ∷ [])) =
    ap (reading page_size) (append_assoc ps (bytes text ∷ []) (bytes more ∷ [])) ∙ cuts ps text more ∙ ap (reading page_size) (sym (log_in-push c texts (text ++ more))) in
    let one : fault (ps ++ bytes text ∷ []) ≡ Some f = ap fault (sym (log_in-push c texts text)) ∙ e in
    fault_kept (reading page_size (ps ++ bytes text ∷ [])) (reading page_size (log_in c (texts ++ (text ++ more) ∷ []))) (subst (Extends (reading page_size (ps ++ bytes text ∷ []))) cut (reading-append page_size (ps ++ bytes text ∷ []) (bytes more ∷ []) (omega arith))) one
  where
    fault_kept : (r s : Reading) → Extends r s → fault_at r.stop ≡ Some f → fault_at s.stop ≡ Some f
    fault_kept r s x at = ap (λ (t : Reading). fault_at t.stop) (x.stays f (stop_is r.stop at)) ∙ at
      where
        stop_is : (p : Stop) → fault_at p ≡ Some f → p ≡ at_fault f
        stop_is between h = absurd cc
        stop_is inside h = absurd cc
        stop_is (at_fault g) h = let same : g ≡ f = cc in ap at_fault same
