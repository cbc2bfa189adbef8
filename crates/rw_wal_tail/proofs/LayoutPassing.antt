-- What a reader passes over, an item at a time: its reading and the number of its bytes.
use Rattle.std.proofs.Common.{◌≡◌, ℕ, zero, suc, ◌+◌, ◌-◌, ◌<◌, ◌≤◌, List, [], ◌∷◌, ◌++◌, length, drop, replicate, map, flat_map, Option, Some, None, Bool, true, false, ltb, refl, sym, ap, ◌∙◌, subst, inl, inr, arith, lt-ltb, le-ltb, append_assoc, append-nil, length-append}
use Rattle.std.proofs.lemmas.Bool.{cases_lt}
use Rattle.std.proofs.lemmas.List.{length-replicate}
use Rattle.std.proofs.Math.Seq.{drop-append_seam}
use Rattle.std.specs.List.{concat}
use Rattle.rw_types.specs.declared.entry.Entry.{Entry}
use Rattle.rw_wal_format.specs.Records.{◌then◌, record_entries}
use Rattle.rw_wal_format.specs.Segments.{Kind, full, first, middle, last, flagged, zeros, fragment, item_in, left_after, Reading, Record, text_of, with_text, with_entries, Joined, still_open, complete, out_of_sequence, joined, from_joined, read_from}
use Rattle.rw_wal_format.proofs.shared.Growing.{left_after_pos}
use Rattle.rw_wal_format.proofs.shared.Items.{read_zeros, read_fragment}
use Rattle.rw_wal_tail.specs.Places.{closes, open_after, count_after, read_count}
use Rattle.rw_wal_tail.proofs.StepLaws.{joined_full, joined_first, joined_middle, joined_last}
use Rattle.rw_wal_tail.proofs.shared.PlaceLaws.{count_item}
use Rattle.rw_wal_tail.specs.LayoutItems.{Fragment, IsFragment}
use Rattle.rw_wal_tail.specs.LayoutFragments.{InTurn, IsOpenRecord, IsStored, IsRecord, MayBeOpen}
use Rattle.rw_wal_tail.specs.LayoutSegment.{IsPage, IsPaged, IsFront}
use Rattle.rw_wal_tail.proofs.LayoutItems.{length_fragment, fragment_read, zeros_read}

-- ---- how many bytes are read, an item at a time

-- ---- what one fragment adds

-- it completes this record, which holds a text of its type's form
abbrev pub Closes : Record → List (List ℕ) → Option Record → Type 0
Closes r own next = (next ≡ None) × ((d : List ℕ) × (own ≡ d ∷ []) × (text_of r ≡ Some d)
    × ((es : List Entry) × (record_entries d ≡ Some es)))

-- what is joined so adds these records, by what they hold, and leaves this one open
abbrev pub AddsJoined : Joined → List (List ℕ) → Option Record → Type 0
AddsJoined (still_open r) own next = (own ≡ []) × (next ≡ Some r)
AddsJoined (complete r) own next = Closes r own next
AddsJoined out_of_sequence own next = ⊥

-- after an open record or none: what the records hold that a fragment completes, and the record
-- that is open after it
abbrev pub Adds : Option Record → Kind → List ℕ → List (List ℕ) → Option Record → Type 0
Adds o kind d own next = AddsJoined (joined o kind d) own next

-- the same of fragments one after the other
abbrev pub Gathers : Option Record → List Fragment → List (List ℕ) → Option Record → Type 0
Gathers o [] ds o' = (ds ≡ []) × (o ≡ o')
Gathers o (f ∷ fs) ds o' =
    (own : List (List ℕ)) × (next : Option Record) × (more : List (List ℕ))
    × Adds o f.0 f.1 own next × Gathers next fs more o' × (ds ≡ own ++ more)

-- what the fragments of a list and then those of another one add
pub record Joins (o : Option Record) (fs gs : List Fragment) (ds : List (List ℕ))
    (o' : Option Record) : Type 0 where
  pub between : Option Record
  pub front : List (List ℕ)
  pub back : List (List ℕ)
  pub fronts : Gathers o fs front between
  pub backs : Gathers between gs back o'
  pub all : ds ≡ front ++ back

pub gathers_split : (o : Option Record) (fs gs : List Fragment) (ds : List (List ℕ))
    (o' : Option Record) → Gathers o (fs ++ gs) ds o' → Joins o fs gs ds o'
gathers_split o [] gs ds o' h = record { between = o; front = []; back = ds; fronts = (refl, refl); backs = h; all = refl }
gathers_split o (f ∷ fs) gs ds o' h =
    let ih = gathers_split h.1 fs gs h.2 o' h.4 in
    record {
      between = ih.between;
      front = h.0 ++ ih.front;
      back = ih.back;
      fronts = (h.0, h.1, ih.front, h.3, ih.fronts, refl);
      backs = ih.backs;
      all = h.5 ∙ ap (λ (l : List (List ℕ)). h.0 ++ l) ih.all
          ∙ sym (append_assoc h.0 ih.front ih.back);
    }

pub gathers_join : (o : Option Record) (fs gs : List Fragment) (front : List (List ℕ))
    (between : Option Record) (back : List (List ℕ)) (o' : Option Record)
    → Gathers o fs front between → Gathers between gs back o'
    → Gathers o (fs ++ gs) (front ++ back) o'
gathers_join o [] gs front between back o' f b =
    let g : Gathers o gs back o' =
    subst (λ (x : Option Record). Gathers x gs back o') (sym f.1) b in
    subst (λ (l : List (List ℕ)). Gathers o gs (l ++ back) o') (sym f.0) g
gathers_join o (x ∷ fs) gs front between back o' f b =
    (f.0, f.1, f.2 ++ back, f.3, gathers_join f.1 fs gs f.2 between back o' f.4 b, ap (λ (l : List (List ℕ)). l ++ back) f.5 ∙ append_assoc f.0 f.2 back)

-- ---- records and their fragments

middles_gather : (b : Bool) (o : List ℕ) (ms : List (List ℕ))
    → Gathers (Some (b, o)) (map (λ d. (flagged b middle, d)) ms) [] (Some (b, o ++ concat ms))
middles_gather b o [] = (refl, ap (λ (l : List ℕ). Some (b, l)) (sym (append-nil o)))
middles_gather b o (m ∷ ms) =
    let adds : Adds (Some (b, o)) (flagged b middle) m [] (Some (b, o ++ m)) =
    subst (λ (j : Joined). AddsJoined j [] (Some (b, o ++ m))) (sym (joined_middle b o m)) (refl, refl) in
    ([], Some (b, o ++ m), [], adds, subst (λ (l : List ℕ). Gathers (Some (b, o ++ m)) (map (λ d. (flagged b middle, d)) ms) [] (Some (b, l))) (append_assoc o m (concat ms)) (middles_gather b (o ++ m) ms), refl)

open_gathers : (fs : List Fragment) (r : Record) → IsOpenRecord fs r → Gathers None fs [] (Some r)
open_gathers fs r h =
    let adds : Adds None (flagged r.0 first) h.start [] (Some (r.0, h.start)) =
    subst (λ (j : Joined). AddsJoined j [] (Some (r.0, h.start))) (sym (joined_first r.0 h.start)) (refl, refl) in
    let g : Gathers None ((flagged r.0 first, h.start) ∷ map (λ m. (flagged r.0 middle, m)) h.middles) [] (Some (r.0, h.start ++ concat h.middles)) =
    ([], Some (r.0, h.start), [], adds, middles_gather r.0 h.start h.middles, refl) in
    let g' =
    subst (λ (l : List Fragment). Gathers None l [] (Some (r.0, h.start ++ concat h.middles))) (sym h.parts) g in
    subst (λ (l : List ℕ). Gathers None fs [] (Some (r.0, l))) (sym h.together) g'

pub may_be_open_gathers : (fs : List Fragment) (o : Option Record) → MayBeOpen fs o
    → Gathers None fs [] o
may_be_open_gathers fs None h = subst (λ (l : List Fragment). Gathers None l [] None) (sym h) (refl, refl)
may_be_open_gathers fs (Some r) h = open_gathers fs r h

-- a fragment that completes this record
closing_adds : (o : Option Record) (kind : Kind) (x : List ℕ) (r : Record) (d : List ℕ) (es : List Entry) → joined o kind x ≡ complete r → text_of r ≡ Some d → record_entries d ≡ Some es
    → Adds o kind x (d ∷ []) None
closing_adds o kind x r d es j t e = subst (λ (y : Joined). AddsJoined y (d ∷ []) None) (sym j) (refl, (d, refl, t, (es, e)))

stored_gathers : (fs : List Fragment) (r : Record) (d : List ℕ) (es : List Entry) → text_of r ≡ Some d → record_entries d ≡ Some es
    → IsStored fs r → Gathers None fs (d ∷ []) None
stored_gathers fs r d es t e (inl h) =
    let g : Gathers None ((flagged r.0 full, r.1) ∷ []) (d ∷ []) None =
    (d ∷ [], None, [], closing_adds None (flagged r.0 full) r.1 r d es (joined_full r.0 r.1) t e, (refl, refl), refl) in
    subst (λ (l : List Fragment). Gathers None l (d ∷ []) None) (sym h) g
stored_gathers fs r d es t e (inr h) =
    let j : joined (Some (r.0, h.so_far)) (flagged r.0 last) h.end ≡ complete r =
    joined_last r.0 h.so_far h.end ∙ ap (λ (l : List ℕ). complete (r.0, l)) (sym h.together) in
    let g : Gathers (Some (r.0, h.so_far)) ((flagged r.0 last, h.end) ∷ []) (d ∷ []) None =
    (d ∷ [], None, [], closing_adds (Some (r.0, h.so_far)) (flagged r.0 last) h.end r d es j t e, (refl, refl), refl) in
    let g' : Gathers None (h.front ++ (flagged r.0 last, h.end) ∷ []) (d ∷ []) None =
    gathers_join None h.front ((flagged r.0 last, h.end) ∷ []) [] (Some (r.0, h.so_far)) (d ∷ []) None (open_gathers h.front (r.0, h.so_far) h.is_open) g in
    subst (λ (l : List Fragment). Gathers None l (d ∷ []) None) (sym h.parts) g'

record_gathers : (fs : List Fragment) (d : List ℕ) (es : List Entry) → record_entries d ≡ Some es
    → IsRecord fs d → Gathers None fs (d ∷ []) None
record_gathers fs d es e h = stored_gathers fs h.0 d es h.2 e h.1

-- each is of its type's form
abbrev pub HaveForms : List (List ℕ) → Type 0
HaveForms [] = Unit {0}
HaveForms (d ∷ ds) = ((es : List Entry) × (record_entries d ≡ Some es)) × HaveForms ds

pub records_gather : (fs : List Fragment) (ds : List (List ℕ)) → HaveForms ds
    → InTurn IsRecord fs ds → Gathers None fs ds None
records_gather fs [] forms h = subst (λ (l : List Fragment). Gathers None l [] None) (sym h) (refl, refl)
records_gather fs (d ∷ ds) forms h =
    let a = record_gathers h.0 d forms.0.0 forms.0.1 h.3 in
    let b = records_gather h.1 ds forms.1 h.4 in
    subst (λ (l : List Fragment). Gathers None l (d ∷ ds) None) (sym h.2) (gathers_join None h.0 h.1 (d ∷ []) None ds None a b)

-- ---- what the reader passes over

-- first records that hold this, and then a reading
abbrev pub with_records : List (List ℕ) → Reading → Reading
with_records [] r = r
with_records (d ∷ ds) r = with_entries d (record_entries d) (with_records ds r)

with_records-append : (ds es : List (List ℕ)) (r : Reading)
    → with_records (ds ++ es) r ≡ with_records ds (with_records es r)
with_records-append [] es r = refl
with_records-append (d ∷ ds) es r = ap (with_entries d (record_entries d)) (with_records-append ds es r)

-- from a place with `left` bytes of its page the reader comes over these bytes to one with left',
-- and meets these records
pub record Passes (c : Bool) (page left : ℕ) (o : Option Record) (bs : List ℕ) (left' : ℕ)
    (o' : Option Record) (ds : List (List ℕ)) : Type 0 where
  pub reads : (rest : List ℕ)
      → read_from c page left o (bs ++ rest) ≡ with_records ds (read_from c page left' o' rest)
  pub counts : (rest : List ℕ)
      → read_count c page left o (bs ++ rest) ≡ length bs + read_count c page left' o' rest

passes_none : (c : Bool) (page left : ℕ) (o : Option Record) → Passes c page left o [] left o []
passes_none c page left o = record { reads = λ rest. refl; counts = λ rest. omega arith }

passes_on : (c : Bool) (page l l' l'' : ℕ) (o o' o'' : Option Record) (a b : List ℕ)
    (ds es : List (List ℕ)) → Passes c page l o a l' o' ds → Passes c page l' o' b l'' o'' es
    → Passes c page l o (a ++ b) l'' o'' (ds ++ es)
passes_on c page l l' l'' o o' o'' a b ds es x y = record {
  reads = λ rest. ap (read_from c page l o) (append_assoc a b rest) ∙ x.reads (b ++ rest)
      ∙ ap (with_records ds) (y.reads rest)
      ∙ sym (with_records-append ds es (read_from c page l'' o'' rest));
  counts = λ rest.
      let e : read_count c page l o ((a ++ b) ++ rest) ≡ length a + (length b + read_count c page l'' o'' rest) =
      ap (λ (t : List ℕ). read_count c page l o t) (append_assoc a b rest) ∙ x.counts (b ++ rest)
      ∙ ap (λ (n : ℕ). length a + n) (y.counts rest) in
      let s : length a + (length b + read_count c page l'' o'' rest) ≡ length (a ++ b) + read_count c page l'' o'' rest = omega (arith, length-append a b) in
      e ∙ s;
}

joined_adds : (next : Option Record → Reading) (j : Joined) (own : List (List ℕ)) (o : Option Record) → AddsJoined j own o → from_joined next j ≡ with_records own (next o)
joined_adds next (still_open r) own o h =
    ap next (sym h.1) ∙ ap (λ (ds : List (List ℕ)). with_records ds (next o)) (sym h.0)
joined_adds next (complete r) own o h =
    ap (λ (f : Option (List ℕ)). with_text f (next None)) h.1.2
    ∙ ap (λ (x : Option Record). with_records (h.1.0 ∷ []) (next x)) (sym h.0)
    ∙ ap (λ (ds : List (List ℕ)). with_records ds (next o)) (sym h.1.1)
joined_adds next out_of_sequence own o h = absurd h

adds_reads : (c : Bool) (page left : ℕ) (bs : List ℕ) → 0 < page → 0 < left → (o : Option Record) (kind : Kind) (d : List ℕ) (own : List (List ℕ))
    (next : Option Record) → Adds o kind d own next → item_in c left bs ≡ fragment kind d
    → read_from c page left o bs ≡ with_records own (read_from c page (left_after page left (7 + length d)) next (drop (7 + length d) bs))
adds_reads c page left bs p l o kind d own next h e =
    read_fragment c page left bs p l o kind d e
    ∙ joined_adds (λ x. read_from c page (left_after page left (7 + length d)) x (drop (7 + length d) bs)) (joined o kind d) own next h

adds_opens : (j : Joined) (own : List (List ℕ)) (next : Option Record) → AddsJoined j own next → open_after j ≡ Some next
adds_opens (still_open r) own next h = ap Some (sym h.1)
adds_opens (complete r) own next h =
    ap (λ (f : Option (List ℕ)). closes (f then λ d. record_entries d)) h.1.2 ∙ ap closes h.1.3.1 ∙ ap Some (sym h.0)
adds_opens out_of_sequence own next h = absurd h

passes_fragment : (c : Bool) (page left : ℕ) (o : Option Record) (b : List ℕ) (f : Fragment)
    (own : List (List ℕ)) (next : Option Record) → 0 < page → 0 < left → IsFragment c b f
    → length b ≤ left
    → Adds o f.0 f.1 own next → Passes c page left o b (left_after page left (length b)) next own
passes_fragment c page left o b f own next p l is within adds =
    let size : 7 + length f.1 ≡ length b = sym (length_fragment c b f is) in
    let seam : (rest : List ℕ) → drop (length b) (b ++ rest) ≡ rest =
    λ rest. drop-append_seam b rest in
    record {
      reads = λ rest.
          adds_reads c page left (b ++ rest) p l o f.0 f.1 own next adds (fragment_read c left b rest f is within)
          ∙ ap (λ (n : ℕ). with_records own (read_from c page (left_after page left n) next (drop n (b ++ rest)))) size
          ∙ ap (λ (t : List ℕ). with_records own (read_from c page (left_after page left (length b)) next t)) (seam rest);
      counts = λ rest.
          count_item c page left o (b ++ rest) (fragment f.0 f.1) p l (fragment_read c left b rest f is within)
          ∙ ap (count_after page left (7 + length f.1) (b ++ rest) (λ m r t. read_count c page m r t)) (adds_opens (joined o f.0 f.1) own next adds)
          ∙ ap (λ (n : ℕ). n + read_count c page (left_after page left n) next (drop n (b ++ rest))) size
          ∙ ap (λ (t : List ℕ). length b + read_count c page (left_after page left (length b)) next t) (seam rest);
    }

left_after-zero : (page left : ℕ) → 0 < left → left_after page left 0 ≡ left
left_after-zero page left l = let t : ltb 0 left ≡ true = lt-ltb 0 left l in rw t (omega arith)

left_after-add : (page left a b : ℕ) → 0 < page → a + b ≤ left
    → left_after page (left_after page left a) b ≡ left_after page left (a + b)
left_after-add page left a b p h = elim (cases_lt a left) [
  | inl l ↦
      (let t : ltb a left ≡ true = lt-ltb a left l in
      elim (cases_lt (a + b) left) [
        | inl m ↦
            (let u : ltb (a + b) left ≡ true = lt-ltb (a + b) left m in
            let v : ltb b (left - a) ≡ true = lt-ltb b (left - a) (omega arith) in
            rw (t, u, v) (omega arith))
        | inr m ↦
            (let u : ltb (a + b) left ≡ false = le-ltb (a + b) left m in
            let v : ltb b (left - a) ≡ false = le-ltb b (left - a) (omega arith) in
            rw (t, u, v) refl)
      ])
  | inr g ↦
      (let z : b ≡ 0 = omega arith in
      let t : ltb a left ≡ false = le-ltb a left g in
      let u : ltb (a + b) left ≡ false = le-ltb (a + b) left (omega arith) in
      rw (t, u) (ap (left_after page page) z ∙ left_after-zero page page p))
]

passes_fragments : (c : Bool) (page left : ℕ) (o : Option Record) (bs : List ℕ) (fs : List Fragment)
    (ds : List (List ℕ)) (o' : Option Record) → 0 < page → 0 < left → InTurn (IsFragment c) bs fs
    → length bs ≤ left
    → Gathers o fs ds o' → Passes c page left o bs (left_after page left (length bs)) o' ds
passes_fragments c page left o bs [] ds o' p l is within g =
    let none = passes_none c page left o in
    let a = subst (λ (x : Option Record). Passes c page left o [] left x []) g.1 none in
    let b = subst (λ (x : List (List ℕ)). Passes c page left o [] left o' x) (sym g.0) a in
    let w =
    subst (λ (n : ℕ). Passes c page left o [] n o' ds) (sym (left_after-zero page left l)) b in
    subst (λ (t : List ℕ). Passes c page left o t (left_after page left (length t)) o' ds) (sym is) w
passes_fragments c page left o bs (f ∷ fs) ds o' p l is within g =
    let size : length bs ≡ length is.0 + length is.1 = ap length is.2 ∙ length-append is.0 is.1 in
    let a = passes_fragment c page left o is.0 f g.0 g.1 p l is.3 (omega (arith, size)) g.3 in
    let pos : 0 < left_after page left (length is.0) = left_after_pos page left (length is.0) p in
    let fits : length is.1 ≤ left_after page left (length is.0) =
    fitting page left (length is.0) (length is.1) (omega (arith, size)) in
    let b =
    passes_fragments c page (left_after page left (length is.0)) g.1 is.1 fs g.2 o' p pos is.4 fits g.4 in
    let w =
    passes_on c page left (left_after page left (length is.0)) (left_after page (left_after page left (length is.0)) (length is.1)) o g.1 o' is.0 is.1 g.0 g.2 a b in
    let n : left_after page (left_after page left (length is.0)) (length is.1) ≡ left_after page left (length bs) =
    left_after-add page left (length is.0) (length is.1) p (omega (arith, size))
    ∙ ap (left_after page left) (sym size) in
    let c1 = subst (λ (m : ℕ). Passes c page left o (is.0 ++ is.1) m o' (g.0 ++ g.2)) n w in
    let c2 =
    subst (λ (t : List ℕ). Passes c page left o t (left_after page left (length bs)) o' (g.0 ++ g.2)) (sym is.2) c1 in
    subst (λ (x : List (List ℕ)). Passes c page left o bs (left_after page left (length bs)) o' x) (sym g.5) c2
  where
    fitting : (page left a b : ℕ) → a + b ≤ left → b ≤ left_after page left a
    fitting page left a b h = elim (cases_lt a left) [
      | inl m ↦ (let t : ltb a left ≡ true = lt-ltb a left m in rw t (omega arith))
      | inr m ↦ (let t : ltb a left ≡ false = le-ltb a left m in rw t (omega arith))
    ]

-- zeros to the page's end
passes_zeros : (c : Bool) (page left : ℕ) (o : Option Record) → 0 < page → 0 < left
    → Passes c page left o (replicate left 0) page o []
passes_zeros c page left o p l =
    let size : length (replicate left 0) ≡ left = length-replicate {A = ℕ} left 0 in
    let seam : (rest : List ℕ) → drop left (replicate left 0 ++ rest) ≡ rest =
    λ rest. subst (λ (n : ℕ). drop n (replicate left 0 ++ rest) ≡ rest) size (drop-append_seam (replicate left 0) rest) in
    record {
      reads = λ rest. read_zeros c page left (replicate left 0 ++ rest) p l o (zeros_read c left rest l) ∙ ap (read_from c page page o) (seam rest);
      counts = λ rest. count_item c page left o (replicate left 0 ++ rest) zeros p l (zeros_read c left rest l) ∙ ap (λ (t : List ℕ). left + read_count c page page o t) (seam rest)
          ∙ ap (λ (n : ℕ). n + read_count c page page o rest) (sym size);
    }

-- a page
page_end : (c : Bool) (page used empty : ℕ) (o : Option Record) → 0 < page → used + empty ≡ page
    → Passes c page (left_after page page used) o (replicate empty 0) page o []
page_end c page used zero o p e =
    let t : ltb used page ≡ false = le-ltb used page (omega arith) in
    let n : left_after page page used ≡ page = rw t refl in
    subst (λ (m : ℕ). Passes c page m o [] page o []) (sym n) (passes_none c page page o)
page_end c page used (suc k) o p e =
    let t : ltb used page ≡ true = lt-ltb used page (omega arith) in
    let n : left_after page page used ≡ suc k = rw t (omega arith) in
    subst (λ (m : ℕ). Passes c page m o (replicate (suc k) 0) page o []) (sym n) (passes_zeros c page (suc k) o p (omega arith))

passes_page : (c : Bool) (page : ℕ) (o : Option Record) (bs : List ℕ) (fs : List Fragment)
    (ds : List (List ℕ)) (o' : Option Record) → 0 < page → IsPage c page bs fs
    → Gathers o fs ds o' → Passes c page page o bs page o' ds
passes_page c page o bs fs ds o' p is g =
    let a = passes_fragments c page page o is.used fs ds o' p p is.are (omega (arith, is.size)) g in
    let b = page_end c page (length is.used) is.empty o' p is.size in
    let w =
    passes_on c page page (left_after page page (length is.used)) page o o' o' is.used (replicate is.empty 0) ds [] a b in
    let c1 = subst (λ (t : List ℕ). Passes c page page o t page o' (ds ++ [])) (sym is.parts) w in
    subst (λ (x : List (List ℕ)). Passes c page page o bs page o' x) (append-nil ds) c1

passes_pages : (c : Bool) (page : ℕ) (o : Option Record) (bs : List ℕ) (pages : List (List Fragment))
    (ds : List (List ℕ)) (o' : Option Record) → 0 < page → InTurn (IsPage c page) bs pages
    → Gathers o (flat_map (λ fs. fs) pages) ds o' → Passes c page page o bs page o' ds
passes_pages c page o bs [] ds o' p is g =
    let a =
    subst (λ (x : Option Record). Passes c page page o [] page x []) g.1 (passes_none c page page o) in
    let b = subst (λ (x : List (List ℕ)). Passes c page page o [] page o' x) (sym g.0) a in
    subst (λ (t : List ℕ). Passes c page page o t page o' ds) (sym is) b
passes_pages c page o bs (fs ∷ pages) ds o' p is g =
    let j = gathers_split o fs (flat_map (λ fs. fs) pages) ds o' g in
    let a = passes_page c page o is.0 fs j.front j.between p is.3 j.fronts in
    let b = passes_pages c page j.between is.1 pages j.back o' p is.4 j.backs in
    let w = passes_on c page page page page o j.between o' is.0 is.1 j.front j.back a b in
    let c1 =
    subst (λ (t : List ℕ). Passes c page page o t page o' (j.front ++ j.back)) (sym is.2) w in
    subst (λ (x : List (List ℕ)). Passes c page page o bs page o' x) (sym j.all) c1

passes_paged : (c : Bool) (page left : ℕ) (o : Option Record) (bs : List ℕ) (fs : List Fragment)
    (ds : List (List ℕ)) (o' : Option Record) → 0 < page → IsPaged c page bs left fs
    → Gathers o fs ds o' → Passes c page page o bs left o' ds
passes_paged c page left o bs fs ds o' p is g =
    let g' = subst (λ (l : List Fragment). Gathers o l ds o') is.all g in
    let j = gathers_split o (flat_map (λ fs. fs) is.in_pages) is.after_pages ds o' g' in
    let a = passes_pages c page o is.whole is.in_pages j.front j.between p is.pages j.fronts in
    let b =
    passes_fragments c page page j.between is.begun is.after_pages j.back o' p p is.are (omega (arith, is.size)) j.backs in
    let t : ltb (length is.begun) page ≡ true =
    lt-ltb (length is.begun) page (omega (arith, is.size, is.room)) in
    let n : left_after page page (length is.begun) ≡ left = rw t (omega (arith, is.size)) in
    let b' = subst (λ (m : ℕ). Passes c page page j.between is.begun m o' j.back) n b in
    let w = passes_on c page page page left o j.between o' is.whole is.begun j.front j.back a b' in
    let c1 =
    subst (λ (t : List ℕ). Passes c page page o t left o' (j.front ++ j.back)) (sym is.parts) w in
    subst (λ (x : List (List ℕ)). Passes c page page o bs left o' x) (sym j.all) c1

-- the front of a segment is passed over, with its records
pub passes_front : (c : Bool) (page left : ℕ) (bs : List ℕ) (ds : List (List ℕ)) (o : Option Record)
    → 0 < page → HaveForms ds → IsFront c page bs left ds o → Passes c page page None bs left o ds
passes_front c page left bs ds o p forms is =
    let a = records_gather is.closed ds forms is.are in
    let b = may_be_open_gathers is.opened o is.may_be_open in
    let g = gathers_join None is.closed is.opened ds None [] o a b in
    let g' =
    subst (λ (x : List (List ℕ)). Gathers None (is.closed ++ is.opened) x o) (append-nil ds) g in
    passes_paged c page left None bs (is.closed ++ is.opened) ds o p is.paged g'
