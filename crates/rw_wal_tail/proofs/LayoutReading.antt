-- What is laid out as a segment is read so, up to the same place.
use Rattle.std.proofs.Common.{◌≡◌, ℕ, ◌+◌, ◌<◌, List, [], ◌∷◌, ◌++◌, length, drop, Bool, true, false, Option, Some, None, refl, sym, ap, ◌∙◌, inl, inr, arith}
use Rattle.std.specs.List.{flat_map}
use Rattle.std.proofs.lemmas.List.Concat.{flat_map-cons}
use Rattle.rw_types.specs.declared.entry.Entry.{Entry}
use Rattle.rw_wal_format.specs.Records.{◌then◌, record_entries}
use Rattle.rw_wal_format.specs.Skipped.{skips_of}
use Rattle.rw_wal_format.specs.declared.skipped_type.SkippedType.{SkippedType}
use Rattle.rw_wal_format.specs.Segments.{Kind, full, first, middle, last, snappy, flagged, nothing, begun, fragment, wrong, item_in, Stop, between, inside, at_fault, left_after, Reading, Record, text_of, stopped, with_entries, Joined, complete, out_of_sequence, joined, from_joined, end_of, read_from, segment_in}
use Rattle.rw_wal_format.specs.Laws.{entries_of_records}
use Rattle.rw_wal_format.specs.declared.tail_fault.TailFault.{TailFault}
use Rattle.rw_wal_format.specs.declared.tail_fault.TailFault.TheVariants.{OutOfMemory, BadType, BadLength, BadCrc, Compressed, NonzeroPadding, Sequence, BadRecord, TornSegment}
use Rattle.rw_wal_format.proofs.shared.Items.{read_nothing, read_begun, read_wrong, read_fragment}
use Rattle.rw_wal_tail.specs.Places.{closes, open_after, count_after, read_count, stop_offset_in}
use Rattle.rw_wal_tail.proofs.StillLaws.{bad_record}
use Rattle.rw_wal_tail.proofs.StepLaws.{joined_full, joined_last}
use Rattle.rw_wal_tail.proofs.shared.PlaceLaws.{count_item}
use Rattle.rw_wal_tail.specs.LayoutItems.{Fragment, StartsWithFragment}
use Rattle.rw_wal_tail.specs.LayoutFragments.{IsOutOfSequence, FragmentFault, Completes}
use Rattle.rw_wal_tail.specs.LayoutSegment.{StopsFor, IsSegment}
use Rattle.rw_wal_tail.proofs.LayoutItems.{item_read, fragment_read}
use Rattle.rw_wal_tail.proofs.LayoutPassing.{with_records, HaveForms, passes_front}

-- ---- the entries of records

-- the first record's entries, and those of the others
pub record FirstEntries (d : List ℕ) (ds : List (List ℕ)) (es : List Entry) : Type 0 where
  pub own : List Entry
  pub more : List Entry
  pub first_is : record_entries d ≡ Some own
  pub rest_is : entries_of_records ds ≡ Some more
  pub all : es ≡ own ++ more

first_entries : (d : List ℕ) (ds : List (List ℕ)) (es : List Entry) (found : Option (List Entry))
    (others : Option (List Entry)) → record_entries d ≡ found → entries_of_records ds ≡ others
    → (found then λ own. others then λ more. Some (own ++ more)) ≡ Some es → FirstEntries d ds es
first_entries d ds es None others a b h = absurd cc
first_entries d ds es (Some own) None a b h = absurd cc
first_entries d ds es (Some own) (Some more) a b h = record { own = own; more = more; first_is = a; rest_is = b; all = cc }

pub entries_first : (d : List ℕ) (ds : List (List ℕ)) (es : List Entry)
    → entries_of_records (d ∷ ds) ≡ Some es → FirstEntries d ds es
entries_first d ds es h = first_entries d ds es (record_entries d) (entries_of_records ds) refl refl h

pub have_forms : (ds : List (List ℕ)) (es : List Entry) → entries_of_records ds ≡ Some es
    → HaveForms ds
have_forms [] es h = tt
have_forms (d ∷ ds) es h = let x = entries_first d ds es h in ((x.own, x.first_is), have_forms ds x.more x.rest_is)

-- records, and then a stop
pub records_read : (ds : List (List ℕ)) (es : List Entry) (s : Stop)
    → entries_of_records ds ≡ Some es
    → with_records ds (stopped s) ≡ record { entries = es; skipped = flat_map skips_of ds; stop = s }
records_read [] es s h = let e : [] ≡ es = cc in ap (λ (l : List Entry). record { entries = l; skipped = []; stop = s }) e
records_read (d ∷ ds) es s h =
    let x = entries_first d ds es h in
    let ih = records_read ds x.more s x.rest_is in
    let n : skips_of d ++ flat_map skips_of ds ≡ flat_map skips_of (d ∷ ds) = sym (flat_map-cons skips_of d ds) in
    ap (with_entries d (record_entries d)) ih
    ∙ ap (λ (o : Option (List Entry)). with_entries d o (record { entries = x.more; skipped = flat_map skips_of ds; stop = s })) x.first_is
    ∙ ap (λ (l : List Entry). record { entries = l; skipped = skips_of d ++ flat_map skips_of ds; stop = s }) (sym x.all)
    ∙ ap (λ (k : List SkippedType). record { entries = es; skipped = k; stop = s }) n

-- ---- where reading stops

end_inside : (o : Option Record) → end_of o inside ≡ inside
end_inside None = refl
end_inside (Some d) = refl

end_fault : (o : Option Record) (f : TailFault) → end_of o (at_fault f) ≡ at_fault f
end_fault None f = refl
end_fault (Some d) f = refl

-- reading stops so at the item in front
pub record StopsHere (c : Bool) (page left : ℕ) (o : Option Record) (bs : List ℕ) (s : Stop) : Type 0 where
  pub reads : read_from c page left o bs ≡ stopped s
  pub counts : read_count c page left o bs ≡ 0

-- ---- a fragment that is out of sequence

none_out : (kind : Kind) (d : List ℕ) → IsOutOfSequence None kind → joined None kind d ≡ out_of_sequence
none_out full d h = absurd ((h false).0 refl)
none_out first d h = absurd ((h false).1 refl)
none_out middle d h = refl
none_out last d h = refl
none_out (snappy full) d h = absurd ((h true).0 refl)
none_out (snappy first) d h = absurd ((h true).1 refl)
none_out (snappy middle) d h = refl
none_out (snappy last) d h = refl
none_out (snappy (snappy kind)) d h = refl

some_out : (b : Bool) (o : List ℕ) (kind : Kind) (d : List ℕ) → IsOutOfSequence (Some (b, o)) kind → joined (Some (b, o)) kind d ≡ out_of_sequence
some_out false o full d h = refl
some_out false o first d h = refl
some_out false o middle d h = absurd (h.0 refl)
some_out false o last d h = absurd (h.1 refl)
some_out false o (snappy kind) d h = refl
some_out true o full d h = refl
some_out true o first d h = refl
some_out true o middle d h = refl
some_out true o last d h = refl
some_out true o (snappy full) d h = refl
some_out true o (snappy first) d h = refl
some_out true o (snappy middle) d h = absurd (h.0 refl)
some_out true o (snappy last) d h = absurd (h.1 refl)
some_out true o (snappy (snappy kind)) d h = refl

pub out_is : (o : Option Record) (kind : Kind) (d : List ℕ) → IsOutOfSequence o kind → joined o kind d ≡ out_of_sequence
out_is None kind d h = none_out kind d h
out_is (Some r) kind d h = some_out r.0 r.1 kind d h

-- a fragment that completes a record
completes_as : (o : Option Record) (kind : Kind) (d : List ℕ) (r : Record) → Completes o (kind, d) r → joined o kind d ≡ complete r
completes_as None kind d r h =
    let k : kind ≡ flagged r.0 full = ap (λ (f : Fragment). f.0) h in
    let e : d ≡ r.1 = ap (λ (f : Fragment). f.1) h in
    ap (λ (x : Kind). joined None x d) k ∙ joined_full r.0 d ∙ ap (λ (l : List ℕ). complete (r.0, l)) e
completes_as (Some o) kind d r h =
    ap (λ (x : Kind). joined (Some o) x d) h.0 ∙ joined_last o.0 o.1 d ∙ ap complete (sym h.1)

module _ (c : Bool) (page left : ℕ) (bs : List ℕ) (p : 0 < page) (l : 0 < left) where
  stops_joined : (o : Option Record) (kind : Kind) (d : List ℕ) (j : Joined) (f : TailFault) → item_in c left bs ≡ fragment kind d → joined o kind d ≡ j
      → from_joined (λ x. read_from c page (left_after page left (7 + length d)) x (drop (7 + length d) bs)) j ≡ stopped (at_fault f) → open_after j ≡ None
      → StopsHere c page left o bs (at_fault f)
  stops_joined o kind d j f e q r n = record {
    reads = read_fragment c page left bs p l o kind d e
        ∙ ap (from_joined (λ x. read_from c page (left_after page left (7 + length d)) x (drop (7 + length d) bs))) q ∙ r;
    counts = count_item c page left o bs (fragment kind d) p l e
        ∙ ap (λ (x : Joined). count_after page left (7 + length d) bs (λ m y t. read_count c page m y t) (open_after x)) q
        ∙ ap (count_after page left (7 + length d) bs (λ m y t. read_count c page m y t)) n;
  }

  stops_fragment : (o : Option Record) (next : Fragment) (f : TailFault)
      → StartsWithFragment c left bs next → FragmentFault o next f
      → StopsHere c page left o bs (at_fault f)
  stops_fragment o next f s h = by_fault f h
    where
      found : item_in c left bs ≡ fragment next.0 next.1
      found = ap (item_in c left) s.parts ∙ fragment_read c left s.bytes s.after next s.is s.within

      by_fault : (g : TailFault) → FragmentFault o next g → StopsHere c page left o bs (at_fault g)
      by_fault Sequence x = stops_joined o next.0 next.1 out_of_sequence Sequence found (out_is o next.0 next.1 x) refl refl
      by_fault BadRecord x =
          stops_joined o next.0 next.1 (complete x.0) BadRecord found (completes_as o next.0 next.1 x.0 x.1)
          (bad_record (text_of x.0) (read_from c page (left_after page left (7 + length next.1)) None (drop (7 + length next.1) bs)) x.2) (ap closes x.2)
      by_fault OutOfMemory x = absurd x
      by_fault BadType x = absurd x
      by_fault BadLength x = absurd x
      by_fault BadCrc x = absurd x
      by_fault Compressed x = absurd x
      by_fault NonzeroPadding x = absurd x
      by_fault TornSegment x = absurd x

  stops_here : (o : Option Record) (s : Stop) → StopsFor c left o bs s → StopsHere c page left o bs s
  stops_here o between h =
      let e = item_read c left bs nothing l h.0 in
      record {
        reads = read_nothing c page left bs p l o e
            ∙ ap (λ (x : Option Record). stopped (end_of x between)) h.1;
        counts = count_item c page left o bs nothing p l e;
      }
  stops_here o inside (inl h) =
      let e = item_read c left bs nothing l h.0 in
      record {
        reads = read_nothing c page left bs p l o e
            ∙ ap (λ (x : Option Record). stopped (end_of x between)) h.1.1;
        counts = count_item c page left o bs nothing p l e;
      }
  stops_here o inside (inr h) =
      let e = item_read c left bs begun l h in
      record {
        reads = read_begun c page left bs p l o e ∙ ap stopped (end_inside o);
        counts = count_item c page left o bs begun p l e;
      }
  stops_here o (at_fault f) (inl h) =
      let e = item_read c left bs (wrong f) l h in
      record {
        reads = read_wrong c page left bs p l o f e ∙ ap stopped (end_fault o f);
        counts = count_item c page left o bs (wrong f) p l e;
      }
  stops_here o (at_fault f) (inr h) = stops_fragment o h.0 f h.1 h.2

-- ---- a segment

-- the reader's definitions give this reading, and this offset
pub record IsReadAs (c : Bool) (page : ℕ) (text : List ℕ) (r : Reading) (offset : ℕ) : Type 0 where
  pub reads : segment_in c page text ≡ r
  pub stops_at : stop_offset_in c page text ≡ offset

pub segment_read : (c : Bool) (page : ℕ) (text : List ℕ) (r : Reading) (offset : ℕ) → 0 < page
    → IsSegment c page text r offset → IsReadAs c page text r offset
unfolding segment_in stop_offset_in
segment_read c page text r offset p is =
    let forms = have_forms is.records r.entries is.entries in
    let front = passes_front c page is.left is.front is.records is.so_far p forms is.is_front in
    let here = stops_here c page is.left is.rest p is.is_front.paged.room is.so_far r.stop is.stops in
    record {
      reads =
          ap (read_from c page page None) is.parts
          ∙ front.reads is.rest
          ∙ ap (with_records is.records) here.reads
          ∙ records_read is.records r.entries r.stop is.entries
          ∙ ap (λ (ts : List SkippedType). record { entries = r.entries; skipped = ts; stop = r.stop }) is.skipped;
      stops_at =
          ap (read_count c page page None) is.parts
          ∙ front.counts is.rest
          ∙ ap (λ (n : ℕ). length is.front + n) here.counts
          ∙ omega (arith, is.place);
    }
