-- The steps of a reader leave what it still reads as it is.
use Rattle.std.proofs.Common.{◌≡◌, ℕ, ◌+◌, ◌<◌, List, [], ◌∷◌, ◌++◌, length, drop, Option, Some, None, Bool, true, false, sym, ap, ◌∙◌, subst, append_assoc, append-nil, refl, arith, inl, inr, ◌⊎◌}
use Rattle.rw_types.specs.declared.entry.Entry.{Entry}
use Rattle.rw_wal_format.specs.Records.{◌then◌, record_entries}
use Rattle.rw_wal_format.specs.Segments.{Kind, Item, nothing, begun, zeros, fragment, wrong, item_in, Stop, between, inside, at_fault, Reading, Record, text_of, entries_in, stopped, with_entries, with_text, with_record, still_open, complete, out_of_sequence, joined, from_joined, left_after, end_of, read_from}
use Rattle.rw_wal_format.specs.Skipped.{skips_of}
use Rattle.rw_wal_format.specs.declared.skipped_type.SkippedType.{SkippedType}
use Rattle.rw_wal_format.specs.Pieces.{Piece, bytes, next_segment, may_compress, then_next, page_size}
use Rattle.rw_wal_format.specs.declared.tail_fault.TailFault.{TailFault}
use Rattle.rw_wal_format.specs.declared.tail_fault.TailFault.TheVariants.{Sequence, BadRecord, TornSegment}
use Rattle.rw_wal_format.proofs.shared.Growing.{Stays, item_in-stays}
use Rattle.rw_wal_format.proofs.shared.Items.{read_zeros, read_nothing, read_begun, read_wrong, read_fragment}
use Rattle.rw_wal_format.proofs.shared.Tailing.{read_on, read_on-step, read_on-record, fragment_stays_at, zeros_stay_at}
use Rattle.rw_wal_tail.specs.inner.Still.{after, open_data, still}

abbrev pub NoFault : Stop → Type 0
NoFault between = Unit {0}
NoFault inside = Unit {0}
NoFault (at_fault f) = ⊥

-- a fault, whatever comes later
fault_on : (c : Bool) (left : ℕ) (o : Option Record) (rest : List ℕ) (f : TailFault) → ((more : List ℕ) → read_from c page_size left o (rest ++ more) ≡ stopped (at_fault f))
    → (later : List Piece) → read_on c page_size left o rest later ≡ stopped (at_fault f)
fault_on c left o rest f h [] = ap (read_from c page_size left o) (sym (append-nil rest)) ∙ h []
fault_on c left o rest f h (bytes b ∷ later) = fault_on c left o (rest ++ b) f (λ more. ap (read_from c page_size left o) (append_assoc rest b more) ∙ h (b ++ more)) later
fault_on c left o rest f h (next_segment ∷ later) =
    ap (λ (r : Reading). then_next r (read_on c page_size page_size None [] later)) (ap (read_from c page_size left o) (sym (append-nil rest)) ∙ h [])
fault_on c left o rest f h (may_compress ∷ later) = fault_on c left o rest f h later

pub wrong_stays_at : (c : Bool) (left : ℕ) (rest more : List ℕ) (f : TailFault) → item_in c left rest ≡ wrong f → item_in c left (rest ++ more) ≡ wrong f
unfolding Stays
wrong_stays_at c left rest more f e =
    subst (λ (x : Item). Stays left (length rest) x (item_in c left (rest ++ more))) e (item_in-stays c left rest more)

after_record : (n : List SkippedType) (r : Record) (d : List ℕ) (es : List Entry) (next : Reading) → text_of r ≡ Some d → record_entries d ≡ Some es → after [] n (with_record r next) ≡ after es (n ++ skips_of d) next
after_record n r d es next t e =
    ap (λ (o : Option (List ℕ)). after [] n (with_text o next)) t
    ∙ ap (λ (o : Option (List Entry)). after [] n (with_entries d o next)) e
    ∙ ap (λ (m : List SkippedType). record { entries = es ++ next.entries; skipped = m; stop = next.stop }) (sym (append_assoc n (skips_of d) next.skipped))

-- a record that cannot be decoded or is not of its form, whatever is read after it
pub bad_record : (found : Option (List ℕ)) (next : Reading) → (found then λ d. record_entries d) ≡ None → with_text found next ≡ stopped (at_fault BadRecord)
bad_record None next e = refl
bad_record (Some d) next e = ap (λ (o : Option (List Entry)). with_entries d o next) e

ends_faulty : (o : Option Record) (f : TailFault) → stopped (end_of o (at_fault f)) ≡ stopped (at_fault f)
ends_faulty None f = refl
ends_faulty (Some r) f = refl

-- what is still read, in equal fields
pub still_fields : (es es' : List Entry) (n n' : List SkippedType) (f f' : Option TailFault) (c c' : Bool) (left left' : ℕ) (o o' : Option Record) (rest rest' : List ℕ) (w w' later : List Piece)
    → es ≡ es' → n ≡ n' → f ≡ f' → c ≡ c' → left ≡ left' → o ≡ o' → rest ≡ rest' → w ≡ w'
    → still es n f c left o rest w later ≡ still es' n' f' c' left' o' rest' w' later
still_fields es es' n n' f f' c c' left left' o o' rest rest' w w' later e1 e2 e3 e4 e5 e6 e7 e8 = rw (e1, e2, e3, e4, e5, e6, e7, e8) refl

-- after a fault nothing else matters
pub still_any : (es : List Entry) (n : List SkippedType) (f : TailFault) (c c' : Bool) (left left' : ℕ) (o o' : Option Record) (rest rest' : List ℕ) (w w' later : List Piece)
    → still es n (Some f) c left o rest w later ≡ still es n (Some f) c' left' o' rest' w' later
unfolding still
still_any es n f c c' left left' o o' rest rest' w w' later = refl

pub none_first : (r : Reading) → then_next (stopped between) r ≡ r
none_first r = refl

module _ (c : Bool) (left : ℕ) (l : 0 < left) (rest : List ℕ) where
  p : 0 < page_size
  p = omega arith

  module _ (es : List Entry) (n : List SkippedType) (w later : List Piece) (o : Option Record) where
    pub still_zeros : item_in c left rest ≡ zeros
        → still es n None c left o rest w later ≡ still es n None c page_size o (drop left rest) w later
    unfolding still
    still_zeros e =
        ap (after es n) (read_on-step c page_size left page_size o o rest (drop left rest)
        (λ more. let z = zeros_stay_at c left rest more e in
        read_zeros c page_size left (rest ++ more) p l o z.0 ∙ ap (read_from c page_size page_size o) z.1) (w ++ later))

    -- a fragment by which a record is open
    pub still_goes_on : (kind : Kind) (x : List ℕ) (r : Record) → item_in c left rest ≡ fragment kind x → joined o kind x ≡ still_open r
        → still es n None c left o rest w later ≡ still es n None c (left_after page_size left (7 + length x)) (Some r) (drop (7 + length x) rest) w later
    unfolding still
    still_goes_on kind x r e j =
        ap (after es n) (read_on-step c page_size left (left_after page_size left (7 + length x)) o (Some r) rest (drop (7 + length x) rest)
        (λ more. let z = fragment_stays_at c left rest more kind x e in
        read_fragment c page_size left (rest ++ more) p l o kind x z.0
        ∙ ap (from_joined (λ y. read_from c page_size (left_after page_size left (7 + length x)) y (drop (7 + length x) (rest ++ more)))) j
        ∙ ap (read_from c page_size (left_after page_size left (7 + length x)) (Some r)) z.1) (w ++ later))

    pub still_wrong : (f : TailFault) → item_in c left rest ≡ wrong f
        → still es n None c left o rest w later ≡ still es n (Some f) c left o rest w later
    unfolding still
    still_wrong f e = ap (after es n) (fault_on c left o rest f (λ more. read_wrong c page_size left (rest ++ more) p l o f (wrong_stays_at c left rest more f e) ∙ ends_faulty o f) (w ++ later))

    -- a fragment that is out of sequence
    pub still_sequence : (kind : Kind) (x : List ℕ) → item_in c left rest ≡ fragment kind x → joined o kind x ≡ out_of_sequence
        → still es n None c left o rest w later ≡ still es n (Some Sequence) c left o rest w later
    unfolding still
    still_sequence kind x e j =
        ap (after es n) (fault_on c left o rest Sequence
        (λ more. read_fragment c page_size left (rest ++ more) p l o kind x (fragment_stays_at c left rest more kind x e).0
        ∙ ap (from_joined (λ y. read_from c page_size (left_after page_size left (7 + length x)) y (drop (7 + length x) (rest ++ more)))) j) (w ++ later))

  module _ (n : List SkippedType) (w later : List Piece) (o : Option Record) (kind : Kind) (x : List ℕ) (r : Record) (e : item_in c left rest ≡ fragment kind x) (j : joined o kind x ≡ complete r) where
    -- a fragment that completes a record
    whole_record : read_on c page_size left o rest (w ++ later) ≡ with_record r (read_on c page_size (left_after page_size left (7 + length x)) None (drop (7 + length x) rest) (w ++ later))
    whole_record =
        read_on-record c page_size left (left_after page_size left (7 + length x)) o None r rest (drop (7 + length x) rest)
        (λ more. let z = fragment_stays_at c left rest more kind x e in
        read_fragment c page_size left (rest ++ more) p l o kind x z.0
        ∙ ap (from_joined (λ y. read_from c page_size (left_after page_size left (7 + length x)) y (drop (7 + length x) (rest ++ more)))) j
        ∙ ap (λ (y : List ℕ). with_record r (read_from c page_size (left_after page_size left (7 + length x)) None y)) z.1) (w ++ later)

    pub still_whole : (d : List ℕ) (es : List Entry) → text_of r ≡ Some d → record_entries d ≡ Some es
        → still [] n None c left o rest w later ≡ still es (n ++ skips_of d) None c (left_after page_size left (7 + length x)) None (drop (7 + length x) rest) w later
    unfolding still
    still_whole d es t q = ap (after [] n) whole_record ∙ after_record n r d es _ t q

    pub still_bad : entries_in r ≡ None
        → still [] n None c left o rest w later ≡ still [] n (Some BadRecord) c left o rest w later
    unfolding still
    still_bad q = ap (after [] n) (whole_record ∙ bad_record (text_of r) (read_on c page_size (left_after page_size left (7 + length x)) None (drop (7 + length x) rest) (w ++ later)) q)

  module _ (es : List Entry) (n : List SkippedType) where
    -- the next segment after the end of a record
    pub still_next : (w later : List Piece) → item_in c left rest ≡ nothing
        → still es n None c left None rest (next_segment ∷ w) later ≡ still es n None c page_size None [] w later
    unfolding still
    still_next w later e =
        ap (after es n) (ap (λ (r : Reading). then_next r (read_on c page_size page_size None [] (w ++ later))) (read_nothing c page_size left rest p l None e)
        ∙ none_first (read_on c page_size page_size None [] (w ++ later)))

    inside_read : (o b : Bool) (d : List ℕ) → (item_in c left rest ≡ begun) ⊎ ((o ≡ true) × (item_in c left rest ≡ nothing)) → read_from c page_size left (open_data o b d) rest ≡ stopped inside
    inside_read true b d (inl e) = read_begun c page_size left rest p l (Some (b, d)) e
    inside_read false b d (inl e) = read_begun c page_size left rest p l None e
    inside_read true b d (inr e) = read_nothing c page_size left rest p l (Some (b, d)) e.1
    inside_read false b d (inr e) = absurd (let f : false ≡ true = e.0 in cc)

    -- the next segment inside a record
    pub still_torn : (o b : Bool) (d : List ℕ) (w later : List Piece) → (item_in c left rest ≡ begun) ⊎ ((o ≡ true) × (item_in c left rest ≡ nothing))
        → still es n None c left (open_data o b d) rest (next_segment ∷ w) later ≡ still es n (Some TornSegment) c left (open_data o b d) rest (next_segment ∷ w) later
    unfolding still
    still_torn o b d w later t = ap (after es n) (ap (λ (r : Reading). then_next r (read_on c page_size page_size None [] (w ++ later))) (inside_read o b d t))

    -- what is read if nothing more has come
    pub still_waits : (o : Option Record) → (item_in c left rest ≡ nothing) ⊎ (item_in c left rest ≡ begun)
        → (s : Stop) × (still es n None c left o rest [] [] ≡ after es n (stopped s)) × NoFault s
    unfolding still
    still_waits None (inl e) = (between, ap (after es n) (read_nothing c page_size left rest p l None e), tt)
    still_waits (Some r) (inl e) = (inside, ap (after es n) (read_nothing c page_size left rest p l (Some r) e), tt)
    still_waits None (inr e) = (inside, ap (after es n) (read_begun c page_size left rest p l None e), tt)
    still_waits (Some r) (inr e) = (inside, ap (after es n) (read_begun c page_size left rest p l (Some r) e), tt)
