-- What was passed over of a segment.
use Rattle.std.proofs.Common.{◌≡◌, ◌≢◌, ℕ, zero, suc, ◌+◌, ◌<◌, List, [], ◌∷◌, ◌++◌, length, take, flat_map, Bool, true, false, Option, None, Some, refl, sym, ap, ◌∙◌, subst, append_assoc, append-nil, length-append, inl, arith}
use Rattle.std.specs.Prelude.{◌↔◌, Result, Ok, Err, IfOk, is_none, is_some, nat_lt, ◌==◌, ◌||◌, if◌then◌else◌}
use Rattle.std.proofs.Math.Seq.{take-append_seam}
use Rattle.rw_follow.specs.Meals.{Meal, no_meal}
use Rattle.rw_types.specs.declared.entry.Entry.{Entry}
use Rattle.rw_wal_format.specs.Laws.{entries_of_records}
use Rattle.rw_wal_format.specs.Pieces.{Piece, bytes, next_segment, may_compress, page_size, reading, fault, fault_at, then_after, then_next}
use Rattle.rw_wal_format.specs.Segments.{Item, wrong, zeros_at, item_at, item_in, from_item, layout_of, reading_of, Reading, Record, Stop, between, inside, at_fault, stopped, segment_in}
use Rattle.rw_wal_format.specs.Skipped.{skips_of}
use Rattle.rw_wal_format.specs.declared.tail_fault.TailFault.{TailFault}
use Rattle.rw_wal_format.specs.declared.tail_fault.TailFault.TheVariants.{BadType, NonzeroPadding}
use Rattle.rw_wal_format.proofs.shared.Growing.{segment_grows}
use Rattle.rw_wal_tail.specs.Fed.{Fed}
use Rattle.rw_wal_tail.specs.LayoutSegment.{IsSegment, IsFront}
use Rattle.rw_wal_tail.specs.Places.{stop_after, stop_offset_in, place_of, fault_place, told_place}
use Rattle.rw_wal_tail.specs.Taking.{HasTaken, TakesAll}
use Rattle.rw_wal_tail.specs.declared.place.FaultPlace.{FaultPlace}
use Rattle.rw_wal_tail.proofs.shared.PlaceLaws.{count_item}
use Rattle.rw_kept_log.specs.Torn.{left_at}
use Rattle.rw_kept_log.proofs.shared.PageLemmas.{left_pos}
use Rattle.rw_resume.specs.Goings.{EndsRecord}
use Rattle.rw_resume.specs.Midway.{HasPassed, HasReadBytes, IsWithin}
use Rattle.rw_resume.specs.inner.Passing.{AreText, FeedsMore, IsDrained, IsFed, PassesTo}
use Rattle.rw_resume.proofs.GoingLemmas.{count_at, reading_at, segment_goes_on}

-- ---- the pieces of a text

plain_none : AreText false [] []
unfolding reading
plain_none = record { read = λ later. refl; stop = λ later. refl }

compressed_none : AreText true [] (may_compress ∷ [])
unfolding reading
compressed_none = record { read = λ later. refl; stop = λ later. refl }

pub plain_text : (c : Bool) (t : Fed) → c ≡ false → t.pieces ≡ [] → AreText c [] t.pieces
plain_text c t plain e = subst (λ (k : Bool). AreText k [] t.pieces) (sym plain) (subst (AreText false []) (sym e) plain_none)

pub compressed_text : {E : Type 0} (c : Bool) (found : Result Fed E) → c ≡ true → IfOk found (λ t. t ≡ record { pieces = may_compress ∷ []; given = 0; skipped = []; fault = None }) → IfOk found (λ t. AreText c [] t.pieces)
compressed_text {E} c (Ok t) may e = subst (λ (k : Bool). AreText k [] t.pieces) (sym may) (subst (λ (x : Fed). AreText true [] x.pieces) (sym e) compressed_none)
compressed_text {E} c (Err f) may e = tt

pub text_more : (c : Bool) (text b : List ℕ) (ps : List Piece) → AreText c text ps → AreText c (text ++ b) (ps ++ bytes b ∷ [])
text_more c text b ps h = record {
  read = λ later. rw (append_assoc ps (bytes b ∷ []) later) (h.read (bytes b ∷ later));
  stop = λ later. rw (append_assoc ps (bytes b ∷ []) later) (h.stop (bytes b ∷ later));
}

pub reads_text : (c : Bool) (text : List ℕ) (ps : List Piece) → AreText c text ps → reading page_size ps ≡ segment_in c page_size text
reads_text c text ps h = ap (reading page_size) (sym (append-nil ps)) ∙ h.read []

-- nothing is read of a segment of which nothing has come
empty_reading : (c : Bool) → segment_in c page_size [] ≡ stopped between
unfolding segment_in
empty_reading c = refl

-- ---- one read more

drained_none : (c : Bool) (t : Fed) → AreText c [] t.pieces → HasTaken t [] → IsDrained c [] t
drained_none c t fed h = record {
  fed = fed;
  taken = subst (λ (r : Reading). HasTaken t r.entries) (sym (empty_reading c)) h;
  sound = ap (λ (r : Reading). fault_at r.stop) (empty_reading c);
}

-- before the first
pub passes_none : {Start : Type 0} (gave : Start → Meal → Type 0) (c : Bool) (t : Fed) (es : List Entry) → AreText c [] t.pieces → HasTaken t [] → PassesTo gave gave 0 c t es es
passes_none {Start} gave c t es fed h = record {
  is = record { text = []; len = refl; read = λ start given. given; fed = fed };
  drained = drained_none c t fed h;
  grows = sym (append-nil es) ∙ ap (λ (r : Reading). es ++ r.entries) (sym (empty_reading c));
}

module _ {Start : Type 0} (a b d : Start → Meal → Type 0) (count n sum : ℕ) (c : Bool) (t u v : Fed) (h : IsFed a b count c t) (f : FeedsMore b d t u n) (same : v.pieces ≡ u.pieces) (up : sum ≡ count + n) where
  pub fed_more : IsFed a d sum c v
  fed_more =
      let len = length-append h.text f.text in
      let pieces : v.pieces ≡ t.pieces ++ bytes f.text ∷ [] = same ∙ ap (λ (x : Fed). x.pieces) f.fed in
      record {
        text = h.text ++ f.text;
        len = let a = h.len in let b = f.len in omega (arith, len, a, b, up);
        read = λ start given. f.read start (record { whole = []; begun = h.text }) (h.read start given);
        fed = subst (AreText c (h.text ++ f.text)) (sym pieces) (text_more c h.text f.text t.pieces h.fed);
      }

pub passes_more : {Start : Type 0} (a b d : Start → Meal → Type 0) (count n sum : ℕ) (c : Bool) (t u v : Fed) (before mid after : List Entry) → PassesTo a b count c t before mid → FeedsMore b d t u n
    → TakesAll u v mid after None → v.pieces ≡ u.pieces → sum ≡ count + n → PassesTo a d sum c v before after
passes_more {Start} a b d count n sum c t u v before mid after h f all same up =
    let is = fed_more a b d count n sum c t u v h.is f same up in
    let old = (segment_in c page_size h.is.text).entries in
    let took = all.all old (f.still old h.drained.taken) in
    let read = reads_text c is.text v.pieces is.fed in
    let es : old ++ all.more ≡ (segment_in c page_size is.text).entries = took.read.all ∙ ap (λ (r : Reading). r.entries) read in
    record {
      is = is;
      drained = record {
        fed = is.fed;
        taken = subst (HasTaken v) es took.taken_all;
        sound = ap (λ (r : Reading). fault_at r.stop) (sym read) ∙ took.read.fault_is;
      };
      grows = all.grows
          ∙ ap (λ (xs : List Entry). xs ++ all.more) h.grows
          ∙ append_assoc before old all.more
          ∙ ap (λ (xs : List Entry). before ++ xs) es;
    }

pub takes_no_fault : (old new : Fed) (before after : List Entry) (found : Option TailFault) → TakesAll old new before after found → is_some found ≡ false → TakesAll old new before after None
takes_no_fault old new before after None all none = all
takes_no_fault old new before after (Some f) all none = absurd cc

-- ---- a fault

faulty : (s : Stop) (f : TailFault) → fault_at s ≡ Some f → s ≡ at_fault f
faulty between f e = absurd cc
faulty inside f e = absurd cc
faulty (at_fault g) f e = cc

-- a text with a fault begins none that ends with a record
none_ends : (c : Bool) (text more : List ℕ) (f : TailFault) → fault_at (segment_in c page_size text).stop ≡ Some f → EndsRecord c page_size (text ++ more) → ⊥
none_ends c text more f e ends =
    let stop = faulty (segment_in c page_size text).stop f e in
    let grows = segment_grows c page_size text more (omega arith) in
    let clash : between ≡ at_fault f = sym ends.stop ∙ ap (λ (r : Reading). r.stop) (grows.stays f stop) ∙ stop in
    absurd cc

is_faulty : (found : Option TailFault) → is_some found ≡ true → (f : TailFault) × (found ≡ Some f)
is_faulty None e = let clash : false ≡ true = e in absurd cc
is_faulty (Some f) e = (f, refl)

pub within_more : {Start : Type 0} (a b d : Start → Meal → Type 0) (count n wanted : ℕ) (c : Bool) (t u v : Fed) (before mid after : List Entry) (found : Option TailFault) (start : Start) → PassesTo a b count c t before mid → FeedsMore b d t u n
    → TakesAll u v mid after found → v.pieces ≡ u.pieces → is_some found ≡ true → a start no_meal → IsWithin c wanted (d start)
within_more {Start} a b d count n wanted c t u v before mid after found start h f all same faulty given =
    let is = fed_more a b d count n (count + n) c t u v h.is f same refl in
    let old = (segment_in c page_size h.is.text).entries in
    let took = all.all old (f.still old h.drained.taken) in
    let read = reads_text c is.text v.pieces is.fed in
    let some = is_faulty found faulty in
    record {
      bytes = is.text;
      given = is.read start given;
      none = λ more len ends. none_ends c is.text more some.0 (ap (λ (r : Reading). fault_at r.stop) (sym read) ∙ took.read.fault_is ∙ some.1) ends;
    }

-- ---- where an item ends

placed : (found : Option TailFault) (ps : List Piece) (place : FaultPlace) → place_of found ps ≡ Some place → stop_after page_size 0 [] ps ≡ place
placed None ps place e = absurd cc
placed (Some f) ps place e = cc

told : (answered : Option TailFault) (ps : List Piece) (place : FaultPlace) → told_place answered ps ≡ Some place → stop_after page_size 0 [] ps ≡ place
unfolding fault_place
told None ps place e = absurd cc
told (Some f) ps place e = placed (fault ps) ps place e

pub stops_at : (c : Bool) (text b : List ℕ) (ps all : List Piece) (answered : Option TailFault) (place : FaultPlace) → AreText c text ps → all ≡ ps ++ bytes b ∷ [] → told_place answered all ≡ Some place → stop_offset_in c page_size (text ++ b) ≡ place.offset
stops_at c text b ps all answered place h e is =
    let at : stop_after page_size 0 [] (ps ++ bytes b ∷ []) ≡ place = subst (λ (l : List Piece). stop_after page_size 0 [] l ≡ place) e (told answered all place is) in
    ap (λ (p : FaultPlace). p.offset) (sym (h.stop (bytes b ∷ [])) ∙ at)

-- ---- where a record ends

-- the law of layouts, for segments in pages of the log
abbrev pub AreLaidOut : Type 0
AreLaidOut = (c : Bool) (page : ℕ) (text : List ℕ) (outcome : Reading) (offset : ℕ) → 0 < page → ((segment_in c page text ≡ outcome) × (stop_offset_in c page text ≡ offset)) ↔ IsSegment c page text outcome offset

-- a text that a front of the same length begins
same_front : (text front rest b : List ℕ) → text ++ b ≡ front ++ rest → length front ≡ length text → front ≡ text
same_front text front rest b e n =
    sym (take-append_seam front rest)
    ∙ ap (take (length front)) (sym e)
    ∙ ap (λ (k : ℕ). take k (text ++ b)) n
    ∙ take-append_seam text b

module _ (laws : AreLaidOut) (c : Bool) (text : List ℕ) (front : List ℕ) (left : ℕ) (records : List (List ℕ)) (es : List Entry) (room : 0 < left) (is : entries_of_records records ≡ Some es) where
  -- if the text is the front of a segment, reading stops at its end
  front_ends : (so_far : Option Record) → IsFront c page_size text left records so_far → stop_offset_in c page_size text ≡ length text
  front_ends None f =
      ((laws c page_size text (record { entries = es; skipped = flat_map skips_of records; stop = between }) (length text) (omega arith)).1 (record {
        front = text;
        rest = [];
        parts = sym (append-nil text);
        place = refl;
        left = left;
        records = records;
        so_far = None;
        is_front = f;
        entries = is;
        skipped = refl;
        stops = ((0, room, refl), refl);
      })).1
  front_ends (Some r) f =
      ((laws c page_size text (record { entries = es; skipped = flat_map skips_of records; stop = inside }) (length text) (omega arith)).1 (record {
        front = text;
        rest = [];
        parts = sym (append-nil text);
        place = refl;
        left = left;
        records = records;
        so_far = Some r;
        is_front = f;
        entries = is;
        skipped = refl;
        stops = inl ((0, room, refl), (r, refl));
      })).1

-- if a segment stops at the end of a text of it, so does the text
all_read : (laws : AreLaidOut) (c : Bool) (text b : List ℕ) → stop_offset_in c page_size (text ++ b) ≡ length text → stop_offset_in c page_size text ≡ length text
all_read laws c text b e =
    let s = (laws c page_size (text ++ b) (segment_in c page_size (text ++ b)) (length text) (omega arith)).0 (refl, e) in
    let same = same_front text s.front s.rest b s.parts s.place in
    let f : IsFront c page_size text s.left s.records s.so_far = subst (λ (t : List ℕ). IsFront c page_size t s.left s.records s.so_far) same s.is_front in
    front_ends laws c text s.front s.left s.records (segment_in c page_size (text ++ b)).entries s.is_front.paged.room s.entries s.so_far f

then_stops : (s : Stop) (r : Reading) → r.stop ≡ s → fault_at (then_after s r (stopped between)).stop ≡ None → s ≡ between
then_stops between r e h = refl
then_stops inside r e h = absurd cc
then_stops (at_fault f) r e h = let no : Some f ≡ None = sym (ap fault_at e) ∙ h in absurd cc

-- a segment that ends there
ended : (c : Bool) (text : List ℕ) (ps all : List Piece) → AreText c text ps → all ≡ ps ++ next_segment ∷ [] → reading page_size all ≡ then_next (segment_in c page_size text) (stopped between)
ended c text ps all h e = ap (reading page_size) e ∙ h.read (next_segment ∷ []) ∙ ap (then_next (segment_in c page_size text)) (empty_reading c)

no_fault : (found : Option TailFault) → is_none found ≡ true → found ≡ None
no_fault None e = refl
no_fault (Some f) e = let clash : false ≡ true = e in absurd cc

-- The reader of this text goes to the next segment, and all that is left is taken.
module _ (c : Bool) (text : List ℕ) (t u v : Fed) (before after : List Entry) (found : Option TailFault) (h : IsDrained c text t) (is : HasTaken u (segment_in c page_size text).entries) (next : u.pieces ≡ t.pieces ++ next_segment ∷ []) (same : v.pieces ≡ u.pieces)
    (all : TakesAll u v before after found) where
  found_is : fault_at (then_next (segment_in c page_size text) (stopped between)).stop ≡ found
  found_is = ap (λ (r : Reading). fault_at r.stop) (sym (ended c text t.pieces v.pieces h.fed (same ∙ next))) ∙ (all.all _ is).read.fault_is

  pub none_open : is_none found ≡ true → (segment_in c page_size text).stop ≡ between
  none_open none = then_stops (segment_in c page_size text).stop (segment_in c page_size text) refl (found_is ∙ no_fault found none)

  pub one_open : is_none found ≡ false → (segment_in c page_size text).stop ≢ between
  one_open some e =
      let none : None ≡ found = ap (λ (s : Stop). fault_at (then_after s (segment_in c page_size text) (stopped between)).stop) (sym e) ∙ found_is in
      let clash : true ≡ false = ap is_none none ∙ some in
      absurd cc

pub ends_record : AreLaidOut → (c : Bool) (text b : List ℕ) (count : ℕ) → length text ≡ count → stop_offset_in c page_size (text ++ b) ≡ count → (segment_in c page_size text).stop ≡ between → EndsRecord c page_size text
ends_record laws c text b count len at stop = record { stop = stop; all = all_read laws c text b (at ∙ sym len) }

-- ---- the byte that begins no item

at_wrong : (b : Bool) (k : ℕ) → (f : TailFault) × ((if b then zeros_at (suc k) (255 ∷ []) else wrong BadType) ≡ wrong f)
at_wrong true k = (NonzeroPadding, refl)
at_wrong false k = (BadType, refl)

plain_item : (left : ℕ) → 0 < left → (f : TailFault) × (item_at left (255 ∷ []) ≡ wrong f)
unfolding item_at
plain_item zero p = absurd (omega (arith, p))
plain_item (suc k) p = at_wrong (nat_lt (suc k) 7 || 255 == 0) k

either_way : (b : Bool) (x : Item) → (if b then x else x) ≡ x
either_way true x = refl
either_way false x = refl

no_item : (c : Bool) (left : ℕ) → 0 < left → (f : TailFault) × (item_in c left (255 ∷ []) ≡ wrong f)
no_item false left p = plain_item left p
no_item true left p = let w = plain_item left p in (w.0, either_way (nat_lt left 7) (item_at left (255 ∷ [])) ∙ w.1)

module _ (c : Bool) (text : List ℕ) (ends : EndsRecord c page_size text) where
  probe_stop : (f : TailFault) × ((segment_in c page_size (text ++ 255 ∷ [])).stop ≡ at_fault f)
  probe_stop =
      let r = segment_in c page_size text in
      let left = left_at page_size (length text) in
      let w = no_item c left (left_pos page_size (length text) (omega arith)) in
      let more : (reading_at c page_size (length text) (255 ∷ [])).stop ≡ at_fault w.0 = ap (λ (x : Item). let l = from_item page_size left (255 ∷ []) (λ k rest. layout_of c page_size zero k rest) x in (reading_of None l.fragments l.stop).stop) w.1 in (
        w.0,
        ap (λ (x : Reading). x.stop) (segment_goes_on c page_size text (255 ∷ []) (omega arith) ends).0
            ∙ ap (λ (s : Stop). (then_after s r (reading_at c page_size (length text) (255 ∷ []))).stop) ends.stop
            ∙ more,
      )

  probe_offset : stop_offset_in c page_size (text ++ 255 ∷ []) ≡ length text
  probe_offset =
      let left = left_at page_size (length text) in
      let l = left_pos page_size (length text) (omega arith) in
      let w = no_item c left l in
      let none : count_at c page_size (length text) (255 ∷ []) ≡ 0 = count_item c page_size left None (255 ∷ []) (wrong w.0) (omega arith) l w.1 in
      let on = (segment_goes_on c page_size text (255 ∷ []) (omega arith) ends).1 in
      omega (arith, none, on)

pub no_item_ends : (c : Bool) (text : List ℕ) (count : ℕ) (t u v : Fed) (before after : List Entry) (found : Option TailFault) (place : Option FaultPlace) → IsDrained c text t → length text ≡ count → HasTaken u (segment_in c page_size text).entries
    → u.pieces ≡ t.pieces ++ bytes (255 ∷ []) ∷ [] → v.pieces ≡ u.pieces → TakesAll u v before after found → ((f : TailFault) → found ≡ Some f → v.fault ≡ Some f) → place ≡ told_place v.fault v.pieces
    → ((at : FaultPlace) → place ≡ Some at → at.offset ≢ count) → EndsRecord c page_size text → ⊥
unfolding fault_place
no_item_ends c text count t u v before after found place h len is next same all told at no_place ends =
    let all_fed = same ∙ next in
    let stop = probe_stop c text ends in
    let read : reading page_size v.pieces ≡ segment_in c page_size (text ++ 255 ∷ []) = ap (reading page_size) all_fed ∙ h.fed.read (bytes (255 ∷ []) ∷ []) in
    let is_fault : fault v.pieces ≡ Some stop.0 = ap (λ (r : Reading). fault_at r.stop) read ∙ ap fault_at stop.1 in
    let same_fault : found ≡ Some stop.0 = sym (all.all _ is).read.fault_is ∙ is_fault in
    let where_is : stop_after page_size 0 [] v.pieces ≡ record { segment = 0; offset = stop_offset_in c page_size (text ++ 255 ∷ []) } =
    ap (λ (l : List Piece). stop_after page_size 0 [] l) all_fed ∙ h.fed.stop (bytes (255 ∷ []) ∷ []) in
    no_place (stop_after page_size 0 [] v.pieces)
    (at
    ∙ ap (λ (o : Option TailFault). told_place o v.pieces) (told stop.0 same_fault)
    ∙ ap (λ (o : Option TailFault). place_of o v.pieces) is_fault)
    (ap (λ (p : FaultPlace). p.offset) where_is ∙ probe_offset c text ends ∙ len)

-- ---- what is said of it

-- a record ends with what was passed over
pub has_passed : {Start : Type 0} (gave given : Start → Meal → Type 0) (c : Bool) (count : ℕ) (t : Fed) (before after : List Entry) (start : Start) (p : PassesTo gave given count c t before after)
    → EndsRecord c page_size p.is.text → gave start no_meal → HasPassed c count (given start) before after
has_passed {Start} gave given c count t before after start p ends h = record {
  read = record { bytes = p.is.text; len = p.is.len; given = p.is.read start h };
  ends = ends;
  taken = p.grows;
}

-- none does
pub is_within : {Start : Type 0} (gave given : Start → Meal → Type 0) (c : Bool) (count : ℕ) (t : Fed) (start : Start) (p : IsFed gave given count c t)
    → (EndsRecord c page_size p.text → ⊥) → gave start no_meal → IsWithin c count (given start)
is_within {Start} gave given c count t start p none h = record {
  bytes = p.text;
  given = p.read start h;
  none = λ more len ends.
      let sum = length-append p.text more in
      let is = p.len in
      let nil = empty more (omega (arith, sum, len, is)) in
      none (subst (EndsRecord c page_size) (ap (λ (xs : List ℕ). p.text ++ xs) nil ∙ append-nil p.text) ends);
}
  where
    empty : (xs : List ℕ) → length xs ≡ 0 → xs ≡ []
    empty [] e = refl
    empty (x ∷ xs) e = absurd (omega (arith, e))

-- these bytes were read
pub has_read : {Start : Type 0} (gave given : Start → Meal → Type 0) (c : Bool) (count : ℕ) (t : Fed) (start : Start) → IsFed gave given count c t → gave start no_meal → HasReadBytes (given start) count
has_read {Start} gave given c count t start p h = record { bytes = p.text; len = p.len; given = p.read start h }
