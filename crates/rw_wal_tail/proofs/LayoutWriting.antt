-- Each text is laid out as a segment.
use Rattle.std.proofs.Common.{◌≡◌, ◌≢◌, ◌↔◌, ◌⊎◌, ℕ, zero, suc, ◌+◌, ◌-◌, ◌<◌, ◌≤◌, List, [], ◌∷◌, ◌++◌, length, replicate, flat_map, Option, Some, None, Bool, true, false, ltb, refl, sym, ap, ◌∙◌, subst, inl, inr, arith, lt-ltb, le-ltb, append_assoc, append-nil, length-append, le_refl}
use Rattle.std.proofs.lemmas.Bool.{cases_lt}
use Rattle.std.proofs.lemmas.List.{length-replicate, map-append}
use Rattle.std.proofs.lemmas.List.Folds.{concat-append}
use Rattle.std.proofs.lemmas.Grind.{flat_map-append}
use Rattle.std.specs.List.{concat}
use Rattle.rw_types.specs.declared.entry.Entry.{Entry}
use Rattle.rw_wal_format.specs.Records.{◌then◌, record_entries}
use Rattle.rw_wal_format.specs.Skipped.{skips_of}
use Rattle.rw_wal_format.specs.Segments.{Kind, full, first, middle, last, snappy, flagged, Item, nothing, begun, zeros, fragment, wrong, item_in, Stop, between, inside, at_fault, left_after, Reading, Record, text_of, entries_in, segment_in}
use Rattle.rw_wal_format.specs.Laws.{entries_of_records}
use Rattle.rw_wal_format.specs.declared.tail_fault.TailFault.TheVariants.{Sequence, BadRecord}
use Rattle.rw_wal_tail.specs.LayoutItems.{Fragment, IsFragment, StartsWithFragment, IsItem}
use Rattle.rw_wal_tail.specs.LayoutFragments.{InTurn, IsOpenRecord, IsStored, IsRecord, MayBeOpen, IsOutOfSequence, Completes, FragmentFault}
use Rattle.rw_wal_tail.specs.LayoutSegment.{IsPage, IsPaged, IsFront, StopsFor, IsSegment}
use Rattle.rw_wal_tail.proofs.LayoutItems.{item_is, length_fragment}
use Rattle.rw_wal_tail.proofs.LayoutReading.{entries_first, segment_read}
use Rattle.rw_wal_tail.specs.Places.{stop_offset_in}

-- one more part at the end
in_turn_push : {A X : Type 0} (Is : List A → X
    → Type 0) (all : List A) (xs : List X) (b : List A) (x : X) → InTurn Is all xs → Is b x
    → InTurn Is (all ++ b) (xs ++ x ∷ [])
in_turn_push Is all [] b x h is = (
  b,
  [],
  ap (λ (l : List _). l ++ b) h
      ∙ sym (append-nil b),
  is,
  refl,
)
in_turn_push Is all (y ∷ ys) b x h is = (
  h.0,
  h.1 ++ b,
  ap (λ (l : List _). l ++ b) h.2
      ∙ append_assoc h.0 h.1 b,
  h.3,
  in_turn_push Is h.1 ys b x h.4 is,
)

-- ---- one more item in pages

-- what is begun of a page is whole
page_whole : (c : Bool) (page : ℕ) (bs : List ℕ) (left : ℕ) (fs : List Fragment) (end : List ℕ) (empty : ℕ)
    (more : List Fragment) (is : IsPaged c page bs left fs) → 0 < page
    → InTurn (IsFragment c) (is.begun ++ end) (is.after_pages ++ more) → length end + empty ≡ left
    → IsPaged c page (bs ++ (end ++ replicate empty 0)) page (fs ++ more)
page_whole c page bs left fs end empty more is p are size = record {
  whole = is.whole ++ ((is.begun ++ end) ++ replicate empty 0);
  begun = [];
  parts =
      ap (λ (l : List ℕ). l ++ (end ++ replicate empty 0)) is.parts
      ∙ append_assoc is.whole is.begun (end ++ replicate empty 0)
      ∙ ap (λ (l : List ℕ). is.whole ++ l) (sym (append_assoc is.begun end (replicate empty 0)))
      ∙ sym (append-nil (is.whole ++ ((is.begun ++ end) ++ replicate empty 0)));
  in_pages = is.in_pages ++ (is.after_pages ++ more) ∷ [];
  after_pages = [];
  all =
      ap (λ (l : List Fragment). l ++ more) is.all
      ∙ append_assoc (flat_map (λ fs. fs) is.in_pages) is.after_pages more
      ∙ ap (λ (l : List Fragment). flat_map (λ fs. fs) is.in_pages ++ l) (sym (append-nil (is.after_pages ++ more)))
      ∙ sym (flat_map-append (λ fs. fs) is.in_pages ((is.after_pages ++ more) ∷ []))
      ∙ sym (append-nil (flat_map (λ fs. fs) (is.in_pages ++ (is.after_pages ++ more) ∷ [])));
  pages = in_turn_push (IsPage c page) is.whole is.in_pages ((is.begun ++ end) ++ replicate empty 0) (is.after_pages ++ more) is.pages
      (record { used = is.begun ++ end; empty = empty; parts = refl; size = omega (arith, length-append is.begun end, is.size, size); are = are });
  are = refl;
  size = omega arith;
  room = p;
}

-- the zeros to the page's end
paged_zeros : (c : Bool) (page : ℕ) (bs : List ℕ) (left : ℕ) (fs : List Fragment) → 0 < page
    → IsPaged c page bs left fs → IsPaged c page (bs ++ replicate left 0) page fs
paged_zeros c page bs left fs p is =
    let are =
    subst (λ (l : List Fragment). InTurn (IsFragment c) (is.begun ++ []) l) (sym (append-nil is.after_pages)) (subst (λ (l : List ℕ). InTurn (IsFragment c) l is.after_pages) (sym (append-nil is.begun)) is.are) in
    let x = page_whole c page bs left fs [] left [] is p are (omega arith) in
    subst (λ (l : List Fragment). IsPaged c page (bs ++ replicate left 0) page l) (append-nil fs) x

-- a fragment
paged_fragment : (c : Bool) (page : ℕ) (bs : List ℕ) (left : ℕ) (fs : List Fragment) (b : List ℕ)
    (f : Fragment) → 0 < page → IsPaged c page bs left fs → IsFragment c b f → length b ≤ left
    → IsPaged c page (bs ++ b) (left_after page left (length b)) (fs ++ f ∷ [])
paged_fragment c page bs left fs b f p is frag within =
    let are = in_turn_push (IsFragment c) is.begun is.after_pages b f is.are frag in
    elim (cases_lt (length b) left) [
      | inl l ↦
          (let t : ltb (length b) left ≡ true = lt-ltb (length b) left l in
          let n : left_after page left (length b) ≡ left - length b = rw t refl in
          let x : IsPaged c page (bs ++ b) (left - length b) (fs ++ f ∷ []) = record {
            whole = is.whole;
            begun = is.begun ++ b;
            parts = ap (λ (l : List ℕ). l ++ b) is.parts ∙ append_assoc is.whole is.begun b;
            in_pages = is.in_pages;
            after_pages = is.after_pages ++ f ∷ [];
            all = ap (λ (l : List Fragment). l ++ f ∷ []) is.all
                ∙ append_assoc (flat_map (λ fs. fs) is.in_pages) is.after_pages (f ∷ []);
            pages = is.pages;
            are = are;
            size = omega (arith, length-append is.begun b, is.size, l);
            room = omega arith;
          } in
          subst (λ (m : ℕ). IsPaged c page (bs ++ b) m (fs ++ f ∷ [])) (sym n) x)
      | inr g ↦
          (let t : ltb (length b) left ≡ false = le-ltb (length b) left g in
          let n : left_after page left (length b) ≡ page = rw t refl in
          let x : IsPaged c page (bs ++ (b ++ [])) page (fs ++ f ∷ []) =
          page_whole c page bs left fs b 0 (f ∷ []) is p are (omega arith) in
          let y =
          subst (λ (l : List ℕ). IsPaged c page (bs ++ l) page (fs ++ f ∷ [])) (append-nil b) x in
          subst (λ (m : ℕ). IsPaged c page (bs ++ b) m (fs ++ f ∷ [])) (sym n) y)
    ]

-- ---- one more fragment of a record

open_middle : (fs : List Fragment) (b : Bool) (o d : List ℕ) → IsOpenRecord fs (b, o)
    → IsOpenRecord (fs ++ (flagged b middle, d) ∷ []) (b, o ++ d)
open_middle fs b o d h = record {
  start = h.start;
  middles = h.middles ++ d ∷ [];
  parts =
      ap (λ (l : List Fragment). l ++ (flagged b middle, d) ∷ []) h.parts
      ∙ ap (λ (l : List Fragment). (flagged b first, h.start) ∷ l) (sym (map-append (λ x. (flagged b middle, x)) h.middles (d ∷ [])));
  together =
      ap (λ (l : List ℕ). l ++ d) h.together
      ∙ append_assoc h.start (concat h.middles) d
      ∙ ap (λ (l : List ℕ). h.start ++ (concat h.middles ++ l)) (sym (append-nil d))
      ∙ ap (λ (l : List ℕ). h.start ++ l) (sym (concat-append h.middles (d ∷ [])));
}

module _ (c : Bool) (page left : ℕ) (bs b : List ℕ) (records : List (List ℕ)) (d : List ℕ) (p : 0 < page) (within : length b ≤ left) where
  -- an open record goes on
  front_opens : (o : Option Record) (kind : Kind) (o' : Record)
      (is : IsFront c page bs left records o) → IsFragment c b (kind, d) → IsOpenRecord
      (is.opened ++ (kind, d) ∷ []) o'
      → IsFront c page (bs ++ b) (left_after page left (length b)) records (Some o')
  front_opens o kind o' is frag opened =
      let paged =
      paged_fragment c page bs left (is.closed ++ is.opened) b (kind, d) p is.paged frag within in
      record {
        closed = is.closed;
        opened = is.opened ++ (kind, d) ∷ [];
        paged = subst (λ (l : List Fragment). IsPaged c page (bs ++ b) (left_after page left (length b)) l) (append_assoc is.closed is.opened ((kind, d) ∷ [])) paged;
        are = is.are;
        may_be_open = opened;
      }

  -- a record is whole
  front_closes : (o : Option Record) (kind : Kind) (r : List ℕ)
      (is : IsFront c page bs left records o) → IsFragment c b (kind, d) → IsRecord
      (is.opened ++ (kind, d) ∷ []) r
      → IsFront c page (bs ++ b) (left_after page left (length b)) (records ++ r ∷ []) None
  front_closes o kind r is frag whole =
      let paged =
      paged_fragment c page bs left (is.closed ++ is.opened) b (kind, d) p is.paged frag within in
      record {
        closed = is.closed ++ (is.opened ++ (kind, d) ∷ []);
        opened = [];
        paged = subst (λ (l : List Fragment). IsPaged c page (bs ++ b) (left_after page left (length b)) l) (append_assoc is.closed is.opened ((kind, d) ∷ []) ∙ sym (append-nil (is.closed ++ (is.opened ++ (kind, d) ∷ [])))) paged;
        are = in_turn_push IsRecord is.closed records (is.opened ++ (kind, d) ∷ []) r is.are whole;
        may_be_open = refl;
      }

front_zeros : (c : Bool) (page left : ℕ) (bs : List ℕ) (records : List (List ℕ)) (o : Option Record)
    → 0 < page → IsFront c page bs left records o
    → IsFront c page (bs ++ replicate left 0) page records o
front_zeros c page left bs records o p is = record { closed = is.closed; opened = is.opened; paged = paged_zeros c page bs left (is.closed ++ is.opened) p is.paged; are = is.are; may_be_open = is.may_be_open }

-- one more record's entries
entries_push : (ds : List (List ℕ)) (d : List ℕ) (es e : List Entry)
    → entries_of_records ds ≡ Some es → record_entries d ≡ Some e
    → entries_of_records (ds ++ d ∷ []) ≡ Some (es ++ e)
entries_push [] d es e h g =
    let n : [] ≡ es = cc in
    ap (λ (o : Option (List Entry)). o then λ own. Some (own ++ [])) g ∙ ap Some (append-nil e)
    ∙ ap (λ (l : List Entry). Some (l ++ e)) n
entries_push (x ∷ ds) d es e h g =
    let f = entries_first x ds es h in
    let ih = entries_push ds d f.more e f.rest_is g in
    ap (λ (o : Option (List Entry)). o then λ own. entries_of_records (ds ++ d ∷ []) then λ more. Some (own ++ more)) f.first_is
    ∙ ap (λ (o : Option (List Entry)). o then λ more. Some (f.own ++ more)) ih
    ∙ ap Some (sym (append_assoc f.own f.more e))
    ∙ ap (λ (l : List Entry). Some (l ++ e)) (sym f.all)

-- ---- fragments that begin no record

-- types that differ without the flag of Snappy differ with it
snappy_other : (a b : Kind) → a ≢ b → snappy a ≢ snappy b
snappy_other a b n e = n (let same : a ≡ b = cc in same)

none_middle : IsOutOfSequence None middle
none_middle true = (λ e. cc, λ e. cc)
none_middle false = (λ e. cc, λ e. cc)

none_last : IsOutOfSequence None last
none_last true = (λ e. cc, λ e. cc)
none_last false = (λ e. cc, λ e. cc)

none_snappy_middle : IsOutOfSequence None (snappy middle)
none_snappy_middle true = (snappy_other middle full (λ e. cc), snappy_other middle first (λ e. cc))
none_snappy_middle false = (λ e. cc, λ e. cc)

none_snappy_last : IsOutOfSequence None (snappy last)
none_snappy_last true = (snappy_other last full (λ e. cc), snappy_other last first (λ e. cc))
none_snappy_last false = (λ e. cc, λ e. cc)

none_nested : (kind : Kind) → IsOutOfSequence None (snappy (snappy kind))
none_nested kind true = (snappy_other (snappy kind) full (λ e. cc), snappy_other (snappy kind) first (λ e. cc))
none_nested kind false = (λ e. cc, λ e. cc)

-- ---- from the front on

-- some layout of the text
pub record IsLaidOut (c : Bool) (page : ℕ) (text : List ℕ) : Type 0 where
  pub reading : Reading
  pub offset : ℕ
  pub is : IsSegment c page text reading offset

-- a front of the text with its records and their entries, and the rest
pub record Cut (c : Bool) (page : ℕ) (text rest : List ℕ) : Type 0 where
  pub front : List ℕ
  pub parts : text ≡ front ++ rest
  pub left : ℕ
  pub records : List (List ℕ)
  pub so_far : Option Record
  pub is_front : IsFront c page front left records so_far
  pub entries : List Entry
  pub are : entries_of_records records ≡ Some entries

module _ (c : Bool) (page : ℕ) (text : List ℕ) (p : 0 < page) where
  stops_with : (rest : List ℕ) (cut : Cut c page text rest) (s : Stop)
      → StopsFor c cut.left cut.so_far rest s → IsLaidOut c page text
  stops_with rest cut s h = record {
    reading = record { entries = cut.entries; skipped = flat_map skips_of cut.records; stop = s };
    offset = length cut.front;
    is = record {
      front = cut.front;
      rest = rest;
      parts = cut.parts;
      place = refl;
      left = cut.left;
      records = cut.records;
      so_far = cut.so_far;
      is_front = cut.is_front;
      entries = cut.are;
      skipped = refl;
      stops = h;
    };
  }

  -- the text ends
  ends_with : (rest : List ℕ) (cut : Cut c page text rest) (o : Option Record) → cut.so_far ≡ o
      → IsItem c cut.left rest nothing → IsLaidOut c page text
  ends_with rest cut None e h = stops_with rest cut between (h, e)
  ends_with rest cut (Some d) e h = stops_with rest cut inside (inl (h, (d, e)))

  -- the parts after one more item
  moved : (rest b after : List ℕ) (cut : Cut c page text rest) → rest ≡ b ++ after
      → text ≡ (cut.front ++ b) ++ after
  moved rest b after cut e = cut.parts ∙ ap (λ (l : List ℕ). cut.front ++ l) e
      ∙ sym (append_assoc cut.front b after)

  cut_zeros : (rest after : List ℕ) (cut : Cut c page text rest) → rest ≡ replicate cut.left 0 ++ after
      → Cut c page text after
  cut_zeros rest after cut e = record {
    front = cut.front ++ replicate cut.left 0;
    parts = moved rest (replicate cut.left 0) after cut e;
    left = page;
    records = cut.records;
    so_far = cut.so_far;
    is_front = front_zeros c page cut.left cut.front cut.records cut.so_far p cut.is_front;
    entries = cut.entries;
    are = cut.are;
  }

  module _ (rest : List ℕ) (next : (after : List ℕ) → length after < length rest
      → Cut c page text after → IsLaidOut c page text) where
    short : (b after : List ℕ) → rest ≡ b ++ after → 0 < length b → length after < length rest
    short b after e n = let l : length rest ≡ length b + length after = ap length e
        ∙ length-append b after in omega (arith, l, n)

    short_fragment : (left : ℕ) (f : Fragment) (s : StartsWithFragment c left rest f)
        → length s.after < length rest
    short_fragment left f s = short s.bytes s.after s.parts (omega (arith, length_fragment c s.bytes f s.is))

    module _ (cut : Cut c page text rest) where
      -- a fragment by which a record is open
      goes_on : (kind : Kind) (d : List ℕ) (o' : Record) → StartsWithFragment c cut.left rest (kind, d)
          → IsOpenRecord (cut.is_front.opened ++ (kind, d) ∷ []) o' → IsLaidOut c page text
      goes_on kind d o' s opened = next s.after (short_fragment cut.left (kind, d) s) (record {
        front = cut.front ++ s.bytes;
        parts = moved rest s.bytes s.after cut s.parts;
        left = left_after page cut.left (length s.bytes);
        records = cut.records;
        so_far = Some o';
        is_front = front_opens c page cut.left cut.front s.bytes cut.records d p s.within cut.so_far kind o' cut.is_front s.is opened;
        entries = cut.entries;
        are = cut.are;
      })

      -- a fragment that completes a record
      completes : (kind : Kind) (d : List ℕ) (r : Record) (text' : List ℕ) (found : Option (List Entry))
          → text_of r ≡ Some text' → record_entries text' ≡ found → StartsWithFragment c cut.left rest (kind, d)
          → IsStored (cut.is_front.opened ++ (kind, d) ∷ []) r → Completes cut.so_far (kind, d) r
          → IsLaidOut c page text
      completes kind d r text' None t e s whole by =
          let none : entries_in r ≡ None = ap (λ (f : Option (List ℕ)). f then λ x. record_entries x) t ∙ e in
          stops_with rest cut (at_fault BadRecord) (inr ((kind, d), s, (r, by, none)))
      completes kind d r text' (Some es) t e s whole by = next s.after (short_fragment cut.left (kind, d) s) (record {
        front = cut.front ++ s.bytes;
        parts = moved rest s.bytes s.after cut s.parts;
        left = left_after page cut.left (length s.bytes);
        records = cut.records ++ text' ∷ [];
        so_far = None;
        is_front = front_closes c page cut.left cut.front s.bytes cut.records d p s.within cut.so_far kind text' cut.is_front s.is (r, whole, t);
        entries = cut.entries ++ es;
        are = entries_push cut.records text' cut.entries es cut.are e;
      })

      -- the same of a record that may be a block which cannot be decoded
      closes_with : (kind : Kind) (d : List ℕ) (r : Record) (found : Option (List ℕ))
          → text_of r ≡ found → StartsWithFragment c cut.left rest (kind, d)
          → IsStored (cut.is_front.opened ++ (kind, d) ∷ []) r → Completes cut.so_far (kind, d) r
          → IsLaidOut c page text
      closes_with kind d r None t s whole by =
          let none : entries_in r ≡ None = ap (λ (f : Option (List ℕ)). f then λ x. record_entries x) t in
          stops_with rest cut (at_fault BadRecord) (inr ((kind, d), s, (r, by, none)))
      closes_with kind d r (Some text') t s whole by = completes kind d r text' (record_entries text') t refl s whole by

      out : (kind : Kind) (d : List ℕ) → StartsWithFragment c cut.left rest (kind, d)
          → FragmentFault cut.so_far (kind, d) Sequence → IsLaidOut c page text
      out kind d s h = stops_with rest cut (at_fault Sequence) (inr ((kind, d), s, h))

      -- a whole fragment after none of an open record
      begins : (b : Bool) (kind : Kind) (d : List ℕ) → cut.so_far ≡ None → cut.is_front.opened ≡ [] → StartsWithFragment c cut.left rest (flagged b kind, d)
          → (kind ≡ full) ⊎ (kind ≡ first) → IsLaidOut c page text
      begins b kind d e m s (inl is) =
          let s' = subst (λ (k : Kind). StartsWithFragment c cut.left rest (flagged b k, d)) is s in
          closes_with (flagged b full) d (b, d) (text_of (b, d)) refl s' (inl (ap (λ (l : List Fragment). l ++ (flagged b full, d) ∷ []) m))
          (subst (λ (x : Option Record). Completes x (flagged b full, d) (b, d)) (sym e) refl)
      begins b kind d e m s (inr is) =
          let s' = subst (λ (k : Kind). StartsWithFragment c cut.left rest (flagged b k, d)) is s in
          goes_on (flagged b first) d (b, d) s' (record { start = d; middles = []; parts = ap (λ (l : List Fragment). l ++ (flagged b first, d) ∷ []) m; together = sym (append-nil d) })

      -- a whole fragment after those of an open record
      continues : (b : Bool) (o : List ℕ) (kind : Kind) (d : List ℕ) → cut.so_far ≡ Some (b, o) → IsOpenRecord cut.is_front.opened (b, o) → StartsWithFragment c cut.left rest (flagged b kind, d)
          → (kind ≡ middle) ⊎ (kind ≡ last) → IsLaidOut c page text
      continues b o kind d e m s (inl is) =
          let s' = subst (λ (k : Kind). StartsWithFragment c cut.left rest (flagged b k, d)) is s in
          goes_on (flagged b middle) d (b, o ++ d) s' (open_middle cut.is_front.opened b o d m)
      continues b o kind d e m s (inr is) =
          let s' = subst (λ (k : Kind). StartsWithFragment c cut.left rest (flagged b k, d)) is s in
          closes_with (flagged b last) d (b, o ++ d) (text_of (b, o ++ d)) refl s' (inr (record { front = cut.is_front.opened; so_far = o; end = d; parts = refl; is_open = m; together = refl }))
          (subst (λ (x : Option Record). Completes x (flagged b last, d) (b, o ++ d)) (sym e) (refl, refl))

      out_none : (kind : Kind) (d : List ℕ) → cut.so_far ≡ None → StartsWithFragment c cut.left rest (kind, d) → IsOutOfSequence None kind → IsLaidOut c page text
      out_none kind d e s h = out kind d s (subst (λ (x : Option Record). IsOutOfSequence x kind) (sym e) h)

      out_some : (r : Record) (kind : Kind) (d : List ℕ) → cut.so_far ≡ Some r → StartsWithFragment c cut.left rest (kind, d) → IsOutOfSequence (Some r) kind → IsLaidOut c page text
      out_some r kind d e s h = out kind d s (subst (λ (x : Option Record). IsOutOfSequence x kind) (sym e) h)

      by_none : (kind : Kind) (d : List ℕ) → cut.so_far ≡ None → cut.is_front.opened ≡ [] → StartsWithFragment c cut.left rest (kind, d) → IsLaidOut c page text
      by_none full d e m s = begins false full d e m s (inl refl)
      by_none first d e m s = begins false first d e m s (inr refl)
      by_none (snappy full) d e m s = begins true full d e m s (inl refl)
      by_none (snappy first) d e m s = begins true first d e m s (inr refl)
      by_none middle d e m s = out_none middle d e s none_middle
      by_none last d e m s = out_none last d e s none_last
      by_none (snappy middle) d e m s = out_none (snappy middle) d e s none_snappy_middle
      by_none (snappy last) d e m s = out_none (snappy last) d e s none_snappy_last
      by_none (snappy (snappy kind)) d e m s = out_none (snappy (snappy kind)) d e s (none_nested kind)

      by_plain : (o : List ℕ) (kind : Kind) (d : List ℕ) → cut.so_far ≡ Some (false, o) → IsOpenRecord cut.is_front.opened (false, o) → StartsWithFragment c cut.left rest (kind, d) → IsLaidOut c page text
      by_plain o middle d e m s = continues false o middle d e m s (inl refl)
      by_plain o last d e m s = continues false o last d e m s (inr refl)
      by_plain o full d e m s = out_some (false, o) full d e s (λ q. cc, λ q. cc)
      by_plain o first d e m s = out_some (false, o) first d e s (λ q. cc, λ q. cc)
      by_plain o (snappy kind) d e m s = out_some (false, o) (snappy kind) d e s (λ q. cc, λ q. cc)

      by_block : (o : List ℕ) (kind : Kind) (d : List ℕ) → cut.so_far ≡ Some (true, o) → IsOpenRecord cut.is_front.opened (true, o) → StartsWithFragment c cut.left rest (kind, d) → IsLaidOut c page text
      by_block o (snappy middle) d e m s = continues true o middle d e m s (inl refl)
      by_block o (snappy last) d e m s = continues true o last d e m s (inr refl)
      by_block o full d e m s = out_some (true, o) full d e s (λ q. cc, λ q. cc)
      by_block o first d e m s = out_some (true, o) first d e s (λ q. cc, λ q. cc)
      by_block o middle d e m s = out_some (true, o) middle d e s (λ q. cc, λ q. cc)
      by_block o last d e m s = out_some (true, o) last d e s (λ q. cc, λ q. cc)
      by_block o (snappy full) d e m s = out_some (true, o) (snappy full) d e s (λ q. cc, λ q. cc)
      by_block o (snappy first) d e m s = out_some (true, o) (snappy first) d e s (λ q. cc, λ q. cc)
      by_block o (snappy (snappy kind)) d e m s = out_some (true, o) (snappy (snappy kind)) d e s (λ q. cc, λ q. cc)

      -- a whole fragment after these fragments of an open record, or none
      by_fragment : (o : Option Record) (kind : Kind) (d : List ℕ) → cut.so_far ≡ o
          → MayBeOpen cut.is_front.opened o → StartsWithFragment c cut.left rest (kind, d)
          → IsLaidOut c page text
      by_fragment None kind d e m s = by_none kind d e m s
      by_fragment (Some (false, o)) kind d e m s = by_plain o kind d e m s
      by_fragment (Some (true, o)) kind d e m s = by_block o kind d e m s

      by_item : (x : Item) → IsItem c cut.left rest x → IsLaidOut c page text
      by_item nothing h = ends_with rest cut cut.so_far refl h
      by_item begun h = stops_with rest cut inside (inr h)
      by_item zeros h =
          let room : 0 < cut.left = cut.is_front.paged.room in
          next h.0 (short (replicate cut.left 0) h.0 h.1 (omega (arith, length-replicate {A = ℕ} cut.left 0, room))) (cut_zeros rest h.0 cut h.1)
      by_item (fragment kind d) h = by_fragment cut.so_far kind d refl cut.is_front.may_be_open h
      by_item (wrong f) h = stops_with rest cut (at_fault f) (inl h)

  lay_out : (k : ℕ) (rest : List ℕ) → length rest ≤ k → Cut c page text rest → IsLaidOut c page text
  lay_out zero rest n cut = by_item rest (λ after l x. absurd (omega arith)) cut (item_in c cut.left rest) (item_is c cut.left rest cut.is_front.paged.room)
  lay_out (suc k) rest n cut = by_item rest (λ after l x. lay_out k after (omega arith) x) cut (item_in c cut.left rest) (item_is c cut.left rest cut.is_front.paged.room)

-- each text is laid out as a segment
pub segment_is_laid_out : (c : Bool) (page : ℕ) (text : List ℕ) → 0 < page → IsLaidOut c page text
segment_is_laid_out c page text p =
    lay_out c page text p (length text) text (le_refl (length text)) (record {
      front = [];
      parts = refl;
      left = page;
      records = [];
      so_far = None;
      is_front = record {
        closed = [];
        opened = [];
        paged = record { whole = []; begun = []; parts = refl; in_pages = []; after_pages = []; all = refl; pages = refl; are = refl; size = omega arith; room = p };
        are = refl;
        may_be_open = refl;
      };
      entries = [];
      are = refl;
    })

-- the reader's definitions give the layout, and no other one
pub segment_both_ways : (c : Bool) (page : ℕ) (text : List ℕ) (r : Reading) (offset : ℕ) → 0 < page
    → ((segment_in c page text ≡ r) × (stop_offset_in c page text ≡ offset)) ↔ IsSegment c page text r offset
segment_both_ways c page text r offset p = (there, back)
  where
    there : (segment_in c page text ≡ r) × (stop_offset_in c page text ≡ offset)
        → IsSegment c page text r offset
    there h =
        let x = segment_is_laid_out c page text p in
        let read = segment_read c page text x.reading x.offset p x.is in
        let same : x.reading ≡ r = sym read.reads ∙ h.0 in
        let at : x.offset ≡ offset = sym read.stops_at ∙ h.1 in
        subst (λ (n : ℕ). IsSegment c page text r n) at (subst (λ (y : Reading). IsSegment c page text y x.offset) same x.is)

    back : IsSegment c page text r offset → (segment_in c page text ≡ r) × (stop_offset_in c page text ≡ offset)
    back is = let read = segment_read c page text r offset p is in (read.reads, read.stops_at)
