-- A log is read as its segments are laid out, one after the other.
use Rattle.std.proofs.Common.{◌≡◌, ◌↔◌, ℕ, ◌+◌, ◌<◌, false, Option, Some, List, [], ◌∷◌, ◌++◌, length, refl, sym, ap, ◌∙◌, subst, arith, append_assoc, flat_map}
use Rattle.std.proofs.lemmas.List.Concat.{flat_map-cons}
use Rattle.rw_types.specs.declared.entry.Entry.{Entry}
use Rattle.rw_wal_format.specs.Segments.{Stop, between, inside, at_fault, Reading, stopped, segment_in}
use Rattle.rw_wal_format.specs.Pieces.{Piece, bytes, next_segment, may_compress, then_after, then_next, compresses_after, reading_in, reading_after, reading, fault_at, page_size, fault}
use Rattle.rw_wal_format.specs.declared.skipped_type.SkippedType.{SkippedType}
use Rattle.rw_wal_format.specs.declared.tail_fault.TailFault.{TailFault}
use Rattle.rw_wal_format.specs.declared.tail_fault.TailFault.TheVariants.{TornSegment}
use Rattle.rw_wal_tail.specs.Places.{stop_offset_in, place_then, stop_in, stop_after, place_of, fault_place}
use Rattle.rw_wal_tail.specs.declared.place.FaultPlace.{FaultPlace}
use Rattle.rw_wal_tail.specs.LayoutSegment.{IsSegment}
use Rattle.rw_wal_tail.specs.LayoutLog.{SegmentText, segments_after, AllEndBetween, LogStops, IsLog, HasFirstFault}
use Rattle.rw_wal_tail.proofs.LayoutReading.{segment_read}
use Rattle.rw_wal_tail.proofs.LayoutWriting.{IsLaidOut, segment_is_laid_out}

-- ---- the reader's definitions over the texts of segments

log_reading : ℕ → List SegmentText → Reading
log_reading page [] = stopped between
log_reading page (t ∷ []) = segment_in t.0 page t.1
log_reading page (t ∷ u ∷ ts) = then_next (segment_in t.0 page t.1) (log_reading page (u ∷ ts))

log_stop : ℕ → ℕ → List SegmentText → FaultPlace
log_stop page n [] = record { segment = n; offset = 0 }
log_stop page n (t ∷ []) = record { segment = n; offset = stop_offset_in t.0 page t.1 }
log_stop page n (t ∷ u ∷ ts) = place_then (segment_in t.0 page t.1).stop n (stop_offset_in t.0 page t.1) (log_stop page (n + 1) (u ∷ ts))

-- there is a first one
abbrev IsCons : List SegmentText → Type 0
IsCons l = (u : SegmentText) × (us : List SegmentText) × (l ≡ u ∷ us)

after_cons : (text : SegmentText) (ps : List Piece) → IsCons (segments_after text ps)
after_cons text [] = (text, [], refl)
after_cons text (bytes b ∷ ps) = after_cons (text.0, text.1 ++ b) ps
after_cons text (next_segment ∷ ps) = (text, segments_after (text.0, []) ps, refl)
after_cons text (may_compress ∷ ps) = after_cons (compresses_after text.0 text.1, text.1) ps

append_cons : (ws : List SegmentText) (t : SegmentText) (ts : List SegmentText) → IsCons (ws ++ t ∷ ts)
append_cons [] t ts = (t, ts, refl)
append_cons (w ∷ ws) t ts = (w, ws ++ t ∷ ts, refl)

module _ (page : ℕ) where
  next_reads : (t : SegmentText) (l : List SegmentText) → IsCons l
      → log_reading page (t ∷ l) ≡ then_next (segment_in t.0 page t.1) (log_reading page l)
  unfolding log_reading
  next_reads t l c = ap (λ (x : List SegmentText). log_reading page (t ∷ x)) c.2
      ∙ ap (λ (x : List SegmentText). then_next (segment_in t.0 page t.1) (log_reading page x)) (sym c.2)

  next_stops : (n : ℕ) (t : SegmentText) (l : List SegmentText) → IsCons l
      → log_stop page n (t ∷ l) ≡ place_then (segment_in t.0 page t.1).stop n (stop_offset_in t.0 page t.1) (log_stop page (n + 1) l)
  unfolding log_stop
  next_stops n t l c = ap (λ (x : List SegmentText). log_stop page n (t ∷ x)) c.2
      ∙ ap (λ (x : List SegmentText). place_then (segment_in t.0 page t.1).stop n (stop_offset_in t.0 page t.1) (log_stop page (n + 1) x)) (sym c.2)

  after_reads : (text : SegmentText) (ps : List Piece)
      → reading_in text.0 page text.1 ps ≡ log_reading page (segments_after text ps)
  unfolding log_reading
  after_reads text [] = refl
  after_reads text (bytes b ∷ ps) = after_reads (text.0, text.1 ++ b) ps
  after_reads text (next_segment ∷ ps) = ap (then_next (segment_in text.0 page text.1)) (after_reads (text.0, []) ps)
      ∙ sym (next_reads text (segments_after (text.0, []) ps) (after_cons (text.0, []) ps))
  after_reads text (may_compress ∷ ps) = after_reads (compresses_after text.0 text.1, text.1) ps

  after_stops : (n : ℕ) (text : SegmentText) (ps : List Piece)
      → stop_in text.0 page n text.1 ps ≡ log_stop page n (segments_after text ps)
  unfolding log_stop
  after_stops n text [] = refl
  after_stops n text (bytes b ∷ ps) = after_stops n (text.0, text.1 ++ b) ps
  after_stops n text (next_segment ∷ ps) = ap (place_then (segment_in text.0 page text.1).stop n (stop_offset_in text.0 page text.1)) (after_stops (n + 1) (text.0, []) ps) ∙ sym (next_stops n text (segments_after (text.0, []) ps) (after_cons (text.0, []) ps))
  after_stops n text (may_compress ∷ ps) = after_stops n (compresses_after text.0 text.1, text.1) ps

-- ---- what is laid out is read

abbrev after_whole : List Entry → List SkippedType → Reading → Reading
after_whole es n r = record { entries = es ++ r.entries; skipped = n ++ r.skipped; stop = r.stop }

after_whole-add : (es fs : List Entry) (a b : List SkippedType) (r : Reading)
    → after_whole es a (after_whole fs b r) ≡ after_whole (es ++ fs) (a ++ b) r
after_whole-add es fs a b r =
    ap (λ (l : List Entry). record { entries = l; skipped = a ++ (b ++ r.skipped); stop = r.stop }) (sym (append_assoc es fs r.entries))
    ∙ ap (λ (k : List SkippedType). record { entries = (es ++ fs) ++ r.entries; skipped = k; stop = r.stop }) (sym (append_assoc a b r.skipped))

-- first the readings of whole segments, and then this one
abbrev after_all : List Reading → Reading → Reading
after_all rs r = after_whole (flat_map (λ x. x.entries) rs) (flat_map (λ x. x.skipped) rs) r

after_all-cons : (x : Reading) (rs : List Reading) (r : Reading)
    → after_whole x.entries x.skipped (after_all rs r) ≡ after_all (x ∷ rs) r
after_all-cons x rs r =
    let a =
    after_whole-add x.entries (flat_map (λ y. y.entries) rs) x.skipped (flat_map (λ y. y.skipped) rs) r in
    let b =
    ap (λ (l : List Entry). after_whole l (x.skipped ++ flat_map (λ y. y.skipped) rs) r) (sym (flat_map-cons (λ y. y.entries) x rs)) in
    let c =
    ap (λ (k : List SkippedType). after_whole (flat_map (λ y. y.entries) (x ∷ rs)) k r) (sym (flat_map-cons (λ y. y.skipped) x rs)) in
    a ∙ b ∙ c

-- the reader's definitions give this reading and this place, from segment n on
record AreReadAs (page n : ℕ) (texts : List SegmentText) (r : Reading) (place : FaultPlace)
    : Type 0 where
  reads : log_reading page texts ≡ r
  stops_at : log_stop page n texts ≡ place

module _ (page : ℕ) (p : 0 < page) where
  -- a segment that ends between records, and then others
  whole_read : (n : ℕ) (t : SegmentText) (l : List SegmentText) (own r : Reading) (offset : ℕ)
      (place : FaultPlace) → IsCons l → IsSegment t.0 page t.1 own offset → own.stop ≡ between
      → AreReadAs page (n + 1) l r place
      → AreReadAs page n (t ∷ l) (after_whole own.entries own.skipped r) place
  whole_read n t l own r offset place c is ends later =
      let own_read = segment_read t.0 page t.1 own offset p is in
      let s : (segment_in t.0 page t.1).stop ≡ between =
      ap (λ (x : Reading). x.stop) own_read.reads ∙ ends in
      record {
        reads = next_reads page t l c
            ∙ ap (λ (x : Reading). then_next x (log_reading page l)) own_read.reads
            ∙ ap (λ (x : Stop). then_after x own (log_reading page l)) ends
            ∙ ap (after_whole own.entries own.skipped) later.reads;
        stops_at = next_stops page n t l c
            ∙ ap (λ (x : Stop). place_then x n (stop_offset_in t.0 page t.1) (log_stop page (n + 1) l)) s
            ∙ later.stops_at;
      }

  -- the segment in which the reading stops
  last_read : (n : ℕ) (t : SegmentText) (later : List SegmentText) (own : Reading) (offset : ℕ)
      (own_stop stop : Stop) → own.stop ≡ own_stop → IsSegment t.0 page t.1 own offset
      → LogStops later own_stop stop
      → AreReadAs page n (t ∷ later) (record { entries = own.entries; skipped = own.skipped; stop = stop }) (record { segment = n; offset = offset })
  unfolding log_reading log_stop
  last_read n t [] own offset own_stop stop e is h =
      let own_read = segment_read t.0 page t.1 own offset p is in
      record {
        reads = own_read.reads
            ∙ ap (λ (s : Stop). record { entries = own.entries; skipped = own.skipped; stop = s }) (e ∙ sym h);
        stops_at = ap (λ (k : ℕ). record { segment = n; offset = k }) own_read.stops_at;
      }
  last_read n t (u ∷ us) own offset between stop e is h = absurd h
  last_read n t (u ∷ us) own offset inside stop e is h =
      let own_read = segment_read t.0 page t.1 own offset p is in
      let s : (segment_in t.0 page t.1).stop ≡ inside = ap (λ (x : Reading). x.stop) own_read.reads ∙ e in
      record {
        reads =
            ap (λ (x : Reading). then_next x (log_reading page (u ∷ us))) own_read.reads
            ∙ ap (λ (x : Stop). then_after x own (log_reading page (u ∷ us))) e
            ∙ ap (λ (x : Stop). record { entries = own.entries; skipped = own.skipped; stop = x }) (sym h);
        stops_at =
            ap (λ (x : Stop). place_then x n (stop_offset_in t.0 page t.1) (log_stop page (n + 1) (u ∷ us))) s
            ∙ ap (λ (k : ℕ). record { segment = n; offset = k }) own_read.stops_at;
      }
  last_read n t (u ∷ us) own offset (at_fault f) stop e is h =
      let own_read = segment_read t.0 page t.1 own offset p is in
      let s : (segment_in t.0 page t.1).stop ≡ at_fault f =
      ap (λ (x : Reading). x.stop) own_read.reads ∙ e in
      record {
        reads =
            ap (λ (x : Reading). then_next x (log_reading page (u ∷ us))) own_read.reads
            ∙ ap (λ (x : Stop). then_after x own (log_reading page (u ∷ us))) e
            ∙ ap (λ (x : Stop). record { entries = own.entries; skipped = own.skipped; stop = x }) (e ∙ sym h);
        stops_at =
            ap (λ (x : Stop). place_then x n (stop_offset_in t.0 page t.1) (log_stop page (n + 1) (u ∷ us))) s
            ∙ ap (λ (k : ℕ). record { segment = n; offset = k }) own_read.stops_at;
      }

  wholes_read : (n : ℕ) (whole : List SegmentText) (rs : List Reading) (t : SegmentText)
      (later : List SegmentText) (r : Reading) (offset : ℕ) → AllEndBetween page whole rs
      → AreReadAs page (n + length whole) (t ∷ later) r (record { segment = n + length whole; offset = offset })
      → AreReadAs page n (whole ++ t ∷ later) (after_all rs r) (record { segment = n + length whole; offset = offset })
  wholes_read n [] [] t later r offset is h =
      let z : n + 0 ≡ n = omega arith in
      let h1 =
      subst (λ (m : ℕ). AreReadAs page m (t ∷ later) r (record { segment = n + 0; offset = offset })) z h in
      h1
  wholes_read n [] (x ∷ rs) t later r offset is h = absurd is
  wholes_read n (w ∷ ws) [] t later r offset is h = absurd is
  wholes_read n (w ∷ ws) (x ∷ rs) t later r offset is h =
      let m : n + length (w ∷ ws) ≡ (n + 1) + length ws = omega arith in
      let h1 =
      subst (λ (k : ℕ). AreReadAs page k (t ∷ later) r (record { segment = k; offset = offset })) m h in
      let ih = wholes_read (n + 1) ws rs t later r offset is.1 h1 in
      let y =
      whole_read n w (ws ++ t ∷ later) x (after_all rs r) is.0.0 (record { segment = (n + 1) + length ws; offset = offset }) (append_cons ws t later) is.0.1 is.0.2 ih in
      let z =
      subst (λ (q : Reading). AreReadAs page n (w ∷ (ws ++ t ∷ later)) q (record { segment = (n + 1) + length ws; offset = offset })) (after_all-cons x rs r) y in
      subst (λ (k : ℕ). AreReadAs page n (w ∷ (ws ++ t ∷ later)) (after_all (x ∷ rs) r) (record { segment = k; offset = offset })) (sym m) z

  texts_read : (texts : List SegmentText) (r : Reading) (place : FaultPlace)
      → IsLog page texts r place → AreReadAs page 0 texts r place
  texts_read texts r place is =
      let n : 0 + length is.whole ≡ place.segment = omega (arith, is.number) in
      let own =
      last_read (0 + length is.whole) is.text is.later is.own place.offset is.own.stop r.stop refl is.is_segment is.stops in
      let all =
      wholes_read 0 is.whole is.readings is.text is.later (record { entries = is.own.entries; skipped = is.own.skipped; stop = r.stop }) place.offset is.are_whole own in
      let e : after_all is.readings (record { entries = is.own.entries; skipped = is.own.skipped; stop = r.stop }) ≡ r =
      ap (λ (l : List Entry). record { entries = l; skipped = flat_map (λ x. x.skipped) is.readings ++ is.own.skipped; stop = r.stop }) (sym is.entries)
      ∙ ap (λ (k : List SkippedType). record { entries = r.entries; skipped = k; stop = r.stop }) (sym is.skipped) in
      record {
        reads = ap (log_reading page) is.parts ∙ all.reads ∙ e;
        stops_at = ap (log_stop page 0) is.parts ∙ all.stops_at
            ∙ ap (λ (k : ℕ). record { segment = k; offset = place.offset }) n;
      }

  -- ---- each log is laid out

  record LogIsLaidOut (texts : List SegmentText) : Type 0 where
    reading : Reading
    place : FaultPlace
    is : IsLog page texts reading place

  stops_in : (t : SegmentText) (later : List SegmentText) (own : IsLaidOut t.0 page t.1) (stop : Stop)
      → LogStops later own.reading.stop stop → LogIsLaidOut (t ∷ later)
  stops_in t later own stop h = record {
    reading = record { entries = own.reading.entries; skipped = own.reading.skipped; stop = stop };
    place = record { segment = 0; offset = own.offset };
    is = record {
      whole = [];
      text = t;
      later = later;
      parts = refl;
      number = refl;
      readings = [];
      are_whole = tt;
      own = own.reading;
      is_segment = own.is;
      entries = refl;
      skipped = refl;
      stops = h;
    };
  }

  goes_on : (t : SegmentText) (l : List SegmentText) (own : IsLaidOut t.0 page t.1) → own.reading.stop ≡ between
      → LogIsLaidOut l → LogIsLaidOut (t ∷ l)
  goes_on t l own e rest = record {
    reading = after_whole own.reading.entries own.reading.skipped rest.reading;
    place = record { segment = rest.place.segment + 1; offset = rest.place.offset };
    is = record {
      whole = t ∷ rest.is.whole;
      text = rest.is.text;
      later = rest.is.later;
      parts = ap (λ (x : List SegmentText). t ∷ x) rest.is.parts;
      number = omega (arith, rest.is.number);
      readings = own.reading ∷ rest.is.readings;
      are_whole = ((own.offset, own.is, e), rest.is.are_whole);
      own = rest.is.own;
      is_segment = rest.is.is_segment;
      entries =
          ap (λ (x : List Entry). own.reading.entries ++ x) rest.is.entries
          ∙ sym (append_assoc own.reading.entries (flat_map (λ x. x.entries) rest.is.readings) rest.is.own.entries)
          ∙ ap (λ (l : List Entry). l ++ rest.is.own.entries) (sym (flat_map-cons (λ x. x.entries) own.reading rest.is.readings));
      skipped =
          ap (λ (x : List SkippedType). own.reading.skipped ++ x) rest.is.skipped
          ∙ sym (append_assoc own.reading.skipped (flat_map (λ x. x.skipped) rest.is.readings) rest.is.own.skipped)
          ∙ ap (λ (l : List SkippedType). l ++ rest.is.own.skipped) (sym (flat_map-cons (λ x. x.skipped) own.reading rest.is.readings));
      stops = rest.is.stops;
    };
  }

  by_stop : (t u : SegmentText) (us : List SegmentText) (own : IsLaidOut t.0 page t.1) (stop : Stop)
      → own.reading.stop ≡ stop → LogIsLaidOut (u ∷ us) → LogIsLaidOut (t ∷ u ∷ us)
  by_stop t u us own between e rest = goes_on t (u ∷ us) own e rest
  by_stop t u us own inside e rest = stops_in t (u ∷ us) own (at_fault TornSegment) (subst (λ (s : Stop). LogStops (u ∷ us) s (at_fault TornSegment)) (sym e) refl)
  by_stop t u us own (at_fault f) e rest = stops_in t (u ∷ us) own (at_fault f) (subst (λ (s : Stop). LogStops (u ∷ us) s (at_fault f)) (sym e) refl)

  texts_are_laid_out : (t : SegmentText) (ts : List SegmentText) → LogIsLaidOut (t ∷ ts)
  texts_are_laid_out t [] = let own = segment_is_laid_out t.0 page t.1 p in stops_in t [] own own.reading.stop refl
  texts_are_laid_out t (u ∷ us) = let own = segment_is_laid_out t.0 page t.1 p in by_stop t u us own own.reading.stop refl (texts_are_laid_out u us)

-- ---- both ways

-- the reader's definitions give this reading and this place
abbrev pub LogReads : ℕ → List Piece → Reading → FaultPlace → Type 0
LogReads page ps r place = (reading_after page [] ps ≡ r) × (stop_after page 0 [] ps ≡ place)

pub log_read : (page : ℕ) (ps : List Piece) (r : Reading) (place : FaultPlace) → 0 < page
    → IsLog page (segments_after (false, []) ps) r place → LogReads page ps r place
log_read page ps r place p is =
    let x = texts_read page p (segments_after (false, []) ps) r place is in
    (after_reads page (false, []) ps ∙ x.reads, after_stops page 0 (false, []) ps ∙ x.stops_at)

pub log_laid_out : (page : ℕ) (ps : List Piece) (r : Reading) (place : FaultPlace) → 0 < page
    → LogReads page ps r place → IsLog page (segments_after (false, []) ps) r place
log_laid_out page ps r place p h =
    let c = after_cons (false, []) ps in
    let x = texts_are_laid_out page p c.0 c.1 in
    let is = subst (λ (l : List SegmentText). IsLog page l x.reading x.place) (sym c.2) x.is in
    let read = log_read page ps x.reading x.place p is in
    let same : x.reading ≡ r = sym read.0 ∙ h.0 in
    let there : x.place ≡ place = sym read.1 ∙ h.1 in
    subst (λ (z : FaultPlace). IsLog page (segments_after (false, []) ps) r z) there (subst (λ (z : Reading). IsLog page (segments_after (false, []) ps) z x.place) same is)

-- ---- the first fault

-- a fault where reading stops
fault_stop : (s : Stop) (f : TailFault) → fault_at s ≡ Some f → s ≡ at_fault f
fault_stop between f e = absurd cc
fault_stop inside f e = absurd cc
fault_stop (at_fault g) f e = let h : g ≡ f = cc in ap at_fault h

pub first_fault : (ps : List Piece) (f : TailFault) (place : FaultPlace)
    → ((fault ps ≡ Some f) × (fault_place ps ≡ Some place)) ↔ HasFirstFault ps f place
unfolding reading fault_place
first_fault ps f place = (there, back)
  where
    there : (fault ps ≡ Some f) × (fault_place ps ≡ Some place) → HasFirstFault ps f place
    there h =
        let at : Some (stop_after page_size 0 [] ps) ≡ Some place =
        ap (λ (o : Option TailFault). place_of o ps) (sym h.0) ∙ h.1 in
        let at' : stop_after page_size 0 [] ps ≡ place = cc in
        (reading_after page_size [] ps, log_laid_out page_size ps (reading_after page_size [] ps) place (omega arith) (refl, at'), fault_stop (reading_after page_size [] ps).stop f h.0)

    back : HasFirstFault ps f place → (fault ps ≡ Some f) × (fault_place ps ≡ Some place)
    back h =
        let read = log_read page_size ps h.0 place (omega arith) h.1 in
        let e : fault ps ≡ Some f =
        ap (λ (r : Reading). fault_at r.stop) read.0 ∙ ap fault_at h.2 in
        (e, ap (λ (o : Option TailFault). place_of o ps) e ∙ ap Some read.1)
