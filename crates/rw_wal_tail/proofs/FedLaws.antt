-- A reader that is fed more, and one that answers.
use Rattle.std.proofs.Common.{◌≡◌, ℕ, ◌≤◌, List, [], ◌∷◌, ◌++◌, length, Option, Some, None, Result, Ok, Err, Bool, true, false, nat_lt, ltb, refl, sym, ap, ◌∙◌, arith, append_assoc, append-nil, length-append, lt-ltb, le-ltb, subst}
use Rattle.std.specs.Prelude.{slice_get, if◌then◌else◌}
use Rattle.rw_types.specs.declared.entry.Entry.{Entry}
use Rattle.rw_wal_format.specs.declared.skipped_type.SkippedType.{SkippedType}
use Rattle.rw_wal_format.specs.declared.tail_fault.TailFault.{TailFault}
use Rattle.rw_wal_format.specs.declared.tail_fault.TailFault.TheVariants.{OutOfMemory, BadType, BadLength, BadCrc, Compressed, NonzeroPadding, Sequence, BadRecord, TornSegment}
use Rattle.rw_wal_format.specs.Segments.{Reading, Record, Stop, between, inside, at_fault, stopped}
use Rattle.rw_wal_format.specs.Pieces.{Piece, bytes, next_segment, may_compress, page_size, reading, reading_in, entries, skipped, fault, fault_at}
use Rattle.rw_wal_format.proofs.shared.Growing.{reading-append, reading-cut}
use Rattle.rw_wal_format.specs.Laws.{Extends}
use Rattle.rw_wal_format.proofs.shared.Tailing.{unmarked, read_on, read_on-start}
use Rattle.rw_wal_tail.specs.declared.reader.Reader.{Reader}
use Rattle.rw_wal_tail.specs.inner.Held.{Held, waiting}
use Rattle.rw_wal_tail.specs.inner.Still.{after, still, from_here}
use Rattle.rw_wal_tail.specs.inner.Steps.{compresses, open_of, still_read, still_place, waiting_of, IsOfLog, IsReader, IsUnfed, Same, Takes, Ends}
use Rattle.rw_wal_tail.specs.Places.{stop_in, stop_after, place_of, fault_place}
use Rattle.rw_wal_tail.specs.inner.Placed.{ends_with, ends_after, front_of, place_from}
use Rattle.rw_wal_tail.proofs.shared.PlaceLaws.{place_start}
use Rattle.rw_wal_tail.specs.Fed.{Fed, CutsDoNotMatter, next_of, after_answer, answer_at_end}
use Rattle.rw_wal_tail.specs.inner.Fed.{Follows, IsStuck}
use Rattle.rw_wal_tail.proofs.StepLaws.{known_as}
use Rattle.rw_wal_tail.proofs.StillLaws.{NoFault, still_fields, still_waits}
use Rattle.rw_wal_tail.proofs.WaitingLaws.{none_waiting}

after_none : (r : Reading) → r ≡ after [] [] r
after_none r = refl

still_start : (c : Bool) (later : List Piece) → read_on c page_size page_size None [] later ≡ after [] [] (still [] [] None c page_size None [] [] later)
unfolding still
still_start c later = after_none (read_on c page_size page_size None [] later) ∙ after_none _

-- the pieces at the start of a log that may have Snappy blocks, or of one that has none
abbrev pub at_start : Bool → List Piece
at_start true = may_compress ∷ []
at_start false = []

start_reads : (c : Bool) (later : List Piece) → reading page_size (at_start c ++ unmarked later) ≡ reading_in c page_size [] (unmarked later)
unfolding reading
start_reads true later = refl
start_reads false later = refl

start_stops : (c : Bool) (later : List Piece) → stop_after page_size 0 [] (at_start c ++ unmarked later) ≡ stop_in c page_size 0 [] (unmarked later)
start_stops true later = refl
start_stops false later = refl

start_ends : (c : Bool) → ends_after 0 (at_start c) ≡ 0
start_ends true = refl
start_ends false = refl

place_fields : (f f' : Option TailFault) (c c' : Bool) (left left' : ℕ) (o o' : Option Record) (h h' : Held) (n n' : ℕ) (later : List Piece)
    → f ≡ f' → c ≡ c' → left ≡ left' → o ≡ o' → h ≡ h' → n ≡ n' → place_from f c left o h n later ≡ place_from f' c' left' o' h' n' later
place_fields f f' c c' left left' o o' h h' n n' later a b d e g i = rw (a, b, d, e, g, i) refl

pub follows_start : (c : Bool) (r : Reader) → IsReader r → IsUnfed c r → Follows (at_start c) [] r
follows_start c r i u =
    let rest : r.input.rest ≡ [] = ap (λ (h : Held). h.rest) u.input in
    let w : waiting_of r ≡ [] = ap (λ (h : Held). waiting h.later h.ended) u.input in
    let none : open_of r ≡ None = rw u.is_open refl in
    let n = start_ends c in
    record {
      reader = i;
      reads = λ later.
          start_reads c later ∙ read_on-start c page_size [] later ∙ still_start c later
          ∙ ap (after [] []) (still_fields _ _ _ _ _ _ _ _ _ _ _ _ _ _ _ _ later (sym u.ready) (sym u.passed) (sym u.fault) (sym u.compresses_is) (sym u.left) (sym none) (sym rest) (sym w));
      counts = λ s. ap (λ (h : Held). h.ends) u.input ∙ sym n;
      stops = λ later.
          start_stops c later ∙ place_start c 0 [] later
          ∙ place_fields _ _ _ _ _ _ _ _ _ _ _ _ later (sym u.fault) (sym u.compresses_is) (sym u.left) (sym none) (sym u.input) (sym n);
    }

give_one : (given es : List Entry) (e : Entry) (n : List SkippedType) (f : Option TailFault) (c : Bool) (left : ℕ) (o : Option Record) (rest : List ℕ) (w later : List Piece)
    → after given [] (still (e ∷ es) n f c left o rest w later) ≡ after (given ++ e ∷ []) [] (still es n f c left o rest w later)
unfolding still
give_one given es e n f c left o rest w later =
    let x = from_here f c left o rest (w ++ later) in
    ap (λ (l : List Entry). record { entries = l; skipped = n ++ x.skipped; stop = x.stop }) (sym (append_assoc given (e ∷ []) (es ++ x.entries)))

-- a piece that is bytes or the end of a segment
abbrev pub IsUnmarked : Piece → Type 0
IsUnmarked may_compress = ⊥
IsUnmarked _ = Unit {0}

unmarked-cons : (ps : List Piece) (p : Piece) (later : List Piece) → IsUnmarked p → (ps ++ p ∷ []) ++ unmarked later ≡ ps ++ unmarked (p ∷ later)
unmarked-cons ps (bytes b) later u = append_assoc ps (bytes b ∷ []) (unmarked later)
unmarked-cons ps next_segment later u = append_assoc ps (next_segment ∷ []) (unmarked later)
unmarked-cons ps may_compress later u = absurd u

unmarked-none : (ps : List Piece) → ps ++ unmarked [] ≡ ps
unmarked-none ps = append-nil ps

ends_more : (n : ℕ) (ps : List Piece) (p : Piece) → ends_after n (ps ++ p ∷ []) ≡ ends_with (ends_after n ps) p
ends_more n [] p = refl
ends_more n (q ∷ ps) p = ends_more (ends_with n q) ps p

module _ (ps : List Piece) (given : List Entry) (old new : Reader) (f : Follows ps given old) where
  pub follows_same : Same old new → Follows ps given new
  follows_same s = record {
    reader = s.reader;
    reads = λ later. f.reads later ∙ ap (after given []) (s.still_same later);
    counts = λ b. s.place.counts ∙ f.counts (omega (arith, b, s.place.counts));
    stops = λ later. f.stops later ∙ s.place.still_there (ends_after 0 ps) f.counts later;
  }

  pub follows_taken : (p : Piece) → IsUnmarked p → Takes p old new → Follows (ps ++ p ∷ []) given new
  follows_taken p u t =
      let e : ends_after 0 (ps ++ p ∷ []) ≡ ends_with (ends_after 0 ps) p = ends_more 0 ps p in
      record {
        reader = t.reader;
        reads = λ later. ap (reading page_size) (unmarked-cons ps p later u) ∙ f.reads (p ∷ later) ∙ ap (after given []) (t.still_more later);
        counts = λ b. t.place.counts (ends_after 0 ps) f.counts b ∙ sym e;
        stops = λ later.
            ap (stop_after page_size 0 []) (unmarked-cons ps p later u) ∙ f.stops (p ∷ later) ∙ t.place.still_there (ends_after 0 ps) f.counts later
            ∙ ap (λ (n : ℕ). still_place new n later) (sym e);
      }

  pub follows_given : (e : Entry) → old.ready.items ≡ e ∷ new.ready.items → new ≡ record old { ready = new.ready } → Follows ps (given ++ e ∷ []) new
  follows_given e r q =
      let i : new.input ≡ old.input = ap (λ (x : Reader). x.input) q in
      let l : new.left ≡ old.left = ap (λ (x : Reader). x.left) q in
      let z : new.zeros ≡ old.zeros = ap (λ (x : Reader). x.zeros) q in
      let o : open_of new ≡ open_of old = ap (λ (x : Reader). open_of x) q in
      let m : compresses new ≡ compresses old = ap (λ (x : Reader). compresses x) q in
      let p : new.passed ≡ old.passed = ap (λ (x : Reader). x.passed) q in
      let t : new.fault ≡ old.fault = ap (λ (x : Reader). x.fault) q in
      record {
        reader = record { page = omega (arith, l, f.reader.page); count = omega (arith, ap length p, f.reader.count); fault = subst IsOfLog (sym t) f.reader.fault; zeros = known_as old new l z (ap (λ (h : Held). h.rest) i) f.reader.zeros };
        reads = λ later.
            let g = give_one given new.ready.items e old.passed old.fault (compresses old) old.left (open_of old) old.input.rest (waiting_of old) later in
            let rest : new.input.rest ≡ old.input.rest = ap (λ (h : Held). h.rest) i in
            let w : waiting_of new ≡ waiting_of old = ap (λ (h : Held). waiting h.later h.ended) i in
            let a = f.reads later in
            a
            ∙ ap (after given []) (still_fields _ _ _ _ _ _ _ _ _ _ _ _ _ _ _ _ later r refl refl refl refl refl refl refl)
            ∙ g
            ∙ ap (after (given ++ e ∷ []) []) (still_fields _ _ _ _ _ _ _ _ _ _ _ _ _ _ _ _ later refl (sym p) (sym t) (sym m) (sym l) (sym o) (sym rest) (sym w));
        counts = λ b. ap (λ (h : Held). h.ends) i ∙ f.counts (omega (arith, b, ap (λ (h : Held). h.ends) i));
        stops = λ later. f.stops later ∙ place_fields _ _ _ _ _ _ _ _ _ _ (ends_after 0 ps) (ends_after 0 ps) later (sym t) (sym m) (sym l) (sym o) (sym i) refl;
      }

-- ---- the answers

got_after : (given more : List Entry) (e : Entry) → slice_get (given ++ e ∷ more) (length given) ≡ Some e
got_after [] more e = refl
got_after (x ∷ xs) more e = got_after xs more e

next_front : (given more xs : List Entry) (e : Entry) (z : Result (Option Entry) TailFault) → xs ≡ given ++ e ∷ more
    → (if nat_lt (length given) (length xs) then Ok (slice_get xs (length given)) else z) ≡ Ok (Some e)
next_front given more xs e z q =
    let t : ltb (length given) (length (given ++ e ∷ more)) ≡ true = lt-ltb (length given) (length (given ++ e ∷ more)) (omega (arith, length-append given (e ∷ more))) in
    rw (q, t) (ap Ok (got_after given more e))

next_end : (given xs : List Entry) (z : Result (Option Entry) TailFault) → xs ≡ given → (if nat_lt (length given) (length xs) then Ok (slice_get xs (length given)) else z) ≡ z
next_end given xs z q =
    let t : ltb (length given) (length given) ≡ false = le-ltb (length given) (length given) (omega arith) in
    rw (q, t) refl

module _ (ps : List Piece) (given : List Entry) where
  end_entries : (n : List SkippedType) (s : Stop) → reading page_size ps ≡ after given [] (after [] n (stopped s)) → next_of ps (length given) ≡ answer_at_end (fault_at s)
  unfolding next_of
  end_entries n s q =
      let e : entries ps ≡ given = ap (λ (r : Reading). r.entries) q ∙ append-nil given in
      next_end given (entries ps) (answer_at_end (fault ps)) e ∙ ap (λ (r : Reading). answer_at_end (fault_at r.stop)) q

  end_skipped : (n : List SkippedType) (s : Stop) → reading page_size ps ≡ after given [] (after [] n (stopped s)) → skipped ps ≡ n
  end_skipped n s q = ap (λ (r : Reading). r.skipped) q ∙ append-nil n

no_fault_at : (s : Stop) → NoFault s → fault_at s ≡ None
no_fault_at between n = refl
no_fault_at inside n = refl
no_fault_at (at_fault f) n = absurd n

still_failed : (n : List SkippedType) (c : Bool) (left : ℕ) (o : Option Record) (rest : List ℕ) (w : List Piece) (x : TailFault) → still [] n (Some x) c left o rest w [] ≡ after [] n (stopped (at_fault x))
unfolding still
still_failed n c left o rest w x = refl

module _ (ps : List Piece) (given : List Entry) (r : Reader) (f : Follows ps given r) where
  pub all_read : reading page_size ps ≡ after given [] (still_read r [])
  all_read = ap (reading page_size) (sym (unmarked-none ps)) ∙ f.reads []

  pub given_within : length given ≤ length (entries ps)
  given_within =
      let e : entries ps ≡ given ++ (still_read r []).entries = ap (λ (x : Reading). x.entries) all_read in
      omega (arith, ap length e, length-append given (still_read r []).entries)

  pub gives_entry : (e : Entry) (es : List Entry) → r.ready.items ≡ e ∷ es → next_of ps (length given) ≡ Ok (Some e)
  unfolding next_of still
  gives_entry e es q =
      let x = from_here r.fault (compresses r) r.left (open_of r) r.input.rest (waiting_of r ++ []) in
      let a : entries ps ≡ given ++ (e ∷ (es ++ x.entries)) = ap (λ (y : Reading). y.entries) all_read ∙ ap (λ (l : List Entry). given ++ (l ++ x.entries)) q in
      next_front given (es ++ x.entries) (entries ps) e (answer_at_end (fault ps)) a

  ends_at : Ends r → (s : Stop) × (reading page_size ps ≡ after given [] (after [] r.passed (stopped s))) × NoFault s
  ends_at e =
      let w : waiting_of r ≡ [] = none_waiting r.input.later r.input.ended e.none_waits in
      let none : r.ready.items ≡ [] = e.can_step.none_ready in
      let z = still_waits (compresses r) r.left e.can_step.reader.page r.input.rest r.ready.items r.passed (open_of r) e.ends in
      let q : r.fault ≡ None = e.can_step.no_fault in
      let b : still_read r [] ≡ after [] r.passed (stopped z.0) = still_fields _ _ _ _ _ _ _ _ _ _ _ _ _ _ _ _ [] refl refl q refl refl refl refl w ∙ z.1 ∙ ap (λ (es : List Entry). after es r.passed (stopped z.0)) none in
      (z.0, all_read ∙ ap (after given []) b, z.2)

  fails_at : (x : TailFault) → r.fault ≡ Some x → r.ready.items ≡ [] → reading page_size ps ≡ after given [] (after [] r.passed (stopped (at_fault x)))
  fails_at x e n =
      let z = still_failed r.passed (compresses r) r.left (open_of r) r.input.rest (waiting_of r) x in
      let b : still_read r [] ≡ after [] r.passed (stopped (at_fault x)) = still_fields _ _ _ _ _ _ _ _ _ _ _ _ _ _ _ _ [] n refl e refl refl refl refl refl ∙ z in
      all_read ∙ ap (after given []) b

  pub gives_none : Ends r → next_of ps (length given) ≡ Ok None
  gives_none e = let x = ends_at e in end_entries ps given r.passed x.0 x.1 ∙ ap answer_at_end (no_fault_at x.0 x.2)

  pub passes_none : Ends r → skipped ps ≡ r.passed
  passes_none e = let x = ends_at e in end_skipped ps given r.passed x.0 x.1

  pub gives_fault : (x : TailFault) → r.fault ≡ Some x → r.ready.items ≡ [] → next_of ps (length given) ≡ Err x
  gives_fault x e n = end_entries ps given r.passed (at_fault x) (fails_at x e n)

  pub passes_fault : (x : TailFault) → r.fault ≡ Some x → r.ready.items ≡ [] → skipped ps ≡ r.passed
  passes_fault x e n = end_skipped ps given r.passed (at_fault x) (fails_at x e n)

  pub has_fault : (x : TailFault) → r.fault ≡ Some x → r.ready.items ≡ [] → fault ps ≡ Some x
  has_fault x e n = ap (λ (y : Reading). fault_at y.stop) (fails_at x e n)

  -- the place of the fault is that of what comes at the reader's front
  pub places_fault : (x : TailFault) → r.fault ≡ Some x → r.ready.items ≡ [] → fault_place ps ≡ Some (front_of r.input)
  unfolding fault_place
  places_fault x e n =
      let s : stop_after page_size 0 [] ps ≡ front_of r.input =
      ap (stop_after page_size 0 []) (sym (unmarked-none ps)) ∙ f.stops [] ∙ ap (λ (o : Option TailFault). place_from o (compresses r) r.left (open_of r) r.input (ends_after 0 ps) []) e in
      ap (λ (o : Option TailFault). place_of o ps) (has_fault x e n) ∙ ap Some s

-- what a reader is after a fault
answered_fault : (t : Fed) (f : TailFault) → IsOfLog (Some f) → after_answer t (Err f) ≡ record t { skipped = skipped t.pieces; fault = Some f }
unfolding after_answer
answered_fault t OutOfMemory h = absurd h
answered_fault t BadType h = refl
answered_fault t BadLength h = refl
answered_fault t BadCrc h = refl
answered_fault t Compressed h = refl
answered_fault t NonzeroPadding h = refl
answered_fault t Sequence h = refl
answered_fault t BadRecord h = refl
answered_fault t TornSegment h = refl

module _ (ps : List Piece) (t : Fed) (count : ℕ) (told : Option TailFault) where
  -- what is asked of a reader, in the words of its fields
  pub asked : (given : List Entry) (n : List SkippedType) → record { pieces = ps; given = count; skipped = n; fault = told } ≡ t → count ≡ length given → next_of t.pieces t.given ≡ next_of ps (length given)
  asked given n v c = sym (ap (λ (x : Fed). next_of x.pieces x.given) v) ∙ ap (next_of ps) c

  counted_as : (n m : List SkippedType) → record { pieces = ps; given = count; skipped = n; fault = told } ≡ t → skipped ps ≡ m → record { pieces = ps; given = count; skipped = m; fault = told } ≡ record t { skipped = skipped t.pieces }
  counted_as n m v s = ap (λ (k : List SkippedType). record { pieces = ps; given = count; skipped = k; fault = told }) (sym s) ∙ ap (λ (x : Fed). record x { skipped = skipped x.pieces }) v

  pub counted_none : (n m : List SkippedType) → record { pieces = ps; given = count; skipped = n; fault = told } ≡ t → skipped ps ≡ m → record { pieces = ps; given = count; skipped = m; fault = told } ≡ after_answer t (Ok None)
  unfolding after_answer
  counted_none n m v s = counted_as n m v s

  pub counted_fault : (n m : List SkippedType) (f : TailFault) → IsOfLog (Some f) → record { pieces = ps; given = count; skipped = n; fault = told } ≡ t → skipped ps ≡ m → record { pieces = ps; given = count; skipped = m; fault = Some f } ≡ after_answer t (Err f)
  counted_fault n m f l v s = ap (λ (x : Fed). record x { fault = Some f }) (counted_as n m v s) ∙ sym (answered_fault t f l)

-- ---- more pieces

-- what was reported does not change
pub still_stuck : (old new : Reader) (told : Option TailFault) → new.fault ≡ old.fault → new.ready ≡ old.ready → IsStuck old told → IsStuck new told
still_stuck old new None f r s = tt
still_stuck old new (Some x) f r s = (f ∙ s.0, ap (λ q. q.items) r ∙ s.1)

pub goes_on : (ps all more : List Piece) → all ≡ ps ++ more → Extends (reading page_size ps) (reading page_size all)
goes_on ps all more e = subst (λ (l : List Piece). Extends (reading page_size ps) (reading page_size l)) (sym e) (reading-append page_size ps more (omega arith))

pub cuts_do_not_matter : (ps all : List Piece) (b : List ℕ) → all ≡ ps ++ bytes b ∷ [] → CutsDoNotMatter ps all b
cuts_do_not_matter ps all b e front a q =
    ap (reading page_size) (e ∙ ap (λ (l : List Piece). l ++ bytes b ∷ []) q ∙ append_assoc front (bytes a ∷ []) (bytes b ∷ [])) ∙ reading-cut page_size front a b []
