-- The steps of a reader, on its fields.
use Rattle.std.proofs.Common.{◌≡◌, ℕ, ◌+◌, ◌<◌, ◌≤◌, ◌^◌, List, [], ◌∷◌, ◌++◌, length, take, drop, Option, Some, None, Bool, true, false, not, refl, sym, ap, ◌∙◌, arith, subst, length-take, length-drop, length-append, inl, inr, ◌⊎◌}
use Rattle.std.proofs.lemmas.List.{take-append-le}
use Rattle.std.proofs.Math.Bool.{beq}
use Rattle.rw_types.specs.declared.entry.Entry.{Entry}
use Rattle.rw_wal_format.specs.Segments as grammar
use Rattle.rw_wal_format.specs.Segments.{Kind, full, first, middle, last, snappy, IsPlain, flagged, Record, text_of, entries_in, still_open, complete, out_of_sequence, joined, left_after}
use Rattle.rw_wal_format.specs.Records.{◌then◌, record_entries}
use Rattle.rw_wal_format.specs.Types.{kind_of}
use Rattle.rw_wal_format.specs.declared.fragment_type.FragmentType.{FragmentType}
use Rattle.rw_wal_format.specs.declared.fragment_type.FragmentType.TheVariants.{Full, First, Middle, Last}
use Rattle.rw_wal_format.specs.declared.tail_fault.TailFault.{TailFault}
use Rattle.rw_wal_format.specs.declared.tail_fault.TailFault.TheVariants.{BadRecord, Sequence, TornSegment}
use Rattle.rw_wal_format.specs.Pieces.{Piece, next_segment, bytes, page_size}
use Rattle.rw_wal_format.proofs.shared.Growing.{left_after_pos}
use Rattle.rw_wal_tail.specs.declared.reader.Reader.{Reader}
use Rattle.rw_wal_tail.specs.inner.Found.{KnownZeros}
use Rattle.rw_wal_tail.specs.inner.Held.{Held, waiting, has_ended, begun_with, fed_with, fed, passed, marked, can_count}
use Rattle.rw_wal_tail.specs.inner.Still.{still}
use Rattle.rw_wal_format.specs.Skipped.{skips_of}
use Rattle.rw_wal_format.specs.declared.skipped_type.SkippedType.{SkippedType}
use Rattle.rw_wal_tail.specs.inner.Steps.{IsRead, IsTextRead, waiting_of, compresses, open_of, item_of, data_at_front, IsOfLog, IsReader, Same, SamePlace, Takes, CanStep, FoundAt, FoundFragment, PausesAt, goes_on}
use Rattle.rw_wal_tail.proofs.StillLaws.{still_fields, still_any, still_goes_on, still_whole, still_bad, still_sequence, still_zeros, still_wrong}
use Rattle.rw_wal_tail.specs.Places.{closes, open_after}
use Rattle.rw_wal_tail.proofs.shared.PlaceLaws.{held_bad, held_wrong}
use Rattle.rw_wal_tail.proofs.PlaceSteps.{place_advanced, place_zeros, place_failed, place_begun, place_torn, place_same, place_fed, place_marked}
use Rattle.rw_wal_tail.proofs.WaitingLaws.{still_begun, still_torn_here, still_fed, still_marked, still_faulted}

-- ---- what a fragment makes of the record that is open

pub joined_full : (b : Bool) (d : List ℕ) → joined None (flagged b full) d ≡ complete (b, d)
joined_full true d = refl
joined_full false d = refl

pub joined_first : (b : Bool) (d : List ℕ) → joined None (flagged b first) d ≡ still_open (b, d)
joined_first true d = refl
joined_first false d = refl

pub joined_middle : (b : Bool) (o d : List ℕ) → joined (Some (b, o)) (flagged b middle) d ≡ still_open (b, o ++ d)
joined_middle true o d = refl
joined_middle false o d = refl

pub joined_last : (b : Bool) (o d : List ℕ) → joined (Some (b, o)) (flagged b last) d ≡ complete (b, o ++ d)
joined_last true o d = refl
joined_last false o d = refl

-- a fragment that goes on with a record, and one that begins a record
abbrev pub IsInner : Kind → Type 0
IsInner middle = Unit {0}
IsInner last = Unit {0}
IsInner _ = ⊥

abbrev pub IsBegin : Kind → Type 0
IsBegin full = Unit {0}
IsBegin first = Unit {0}
IsBegin _ = ⊥

pub inner_out : (b : Bool) (kind : Kind) (d : List ℕ) → IsInner kind → joined None (flagged b kind) d ≡ out_of_sequence
inner_out true middle d i = refl
inner_out true last d i = refl
inner_out false middle d i = refl
inner_out false last d i = refl
inner_out b full d i = absurd i
inner_out b first d i = absurd i
inner_out b (snappy kind) d i = absurd i

pub begin_out : (b is_block : Bool) (kind : Kind) (o d : List ℕ) → IsBegin kind → joined (Some (b, o)) (flagged is_block kind) d ≡ out_of_sequence
begin_out true true full o d i = refl
begin_out true true first o d i = refl
begin_out true false full o d i = refl
begin_out true false first o d i = refl
begin_out false true full o d i = refl
begin_out false true first o d i = refl
begin_out false false full o d i = refl
begin_out false false first o d i = refl
begin_out b is_block middle o d i = absurd i
begin_out b is_block last o d i = absurd i
begin_out b is_block (snappy kind) o d i = absurd i

pub plain_kind : (kind : FragmentType) → IsPlain (kind_of kind)
plain_kind Full = tt
plain_kind First = tt
plain_kind Middle = tt
plain_kind Last = tt

-- a fragment of a Snappy block while the record that is open is not one, or the other way round
pub other_out : (a b : Bool) (kind : Kind) (o d : List ℕ) → IsPlain kind → not (beq a b) ≡ true → joined (Some (a, o)) (flagged b kind) d ≡ out_of_sequence
other_out true true kind o d i h = absurd (let f : false ≡ true = h in cc)
other_out false false kind o d i h = absurd (let f : false ≡ true = h in cc)
other_out true false full o d i h = refl
other_out true false first o d i h = refl
other_out true false middle o d i h = refl
other_out true false last o d i h = refl
other_out false true full o d i h = refl
other_out false true first o d i h = refl
other_out false true middle o d i h = refl
other_out false true last o d i h = refl
other_out true false (snappy kind) o d i h = absurd i
other_out false true (snappy kind) o d i h = absurd i

-- ---- the zeros that are known

known_none : (left n : ℕ) (bs : List ℕ) → n ≡ 0 → KnownZeros left n bs
known_none left n bs e = rw e (omega arith, omega arith, refl)

pub known_as : (old new : Reader) → new.left ≡ old.left → new.zeros ≡ old.zeros → new.input.rest ≡ old.input.rest → KnownZeros old.left old.zeros old.input.rest → KnownZeros new.left new.zeros new.input.rest
known_as old new l z r k = rw (l, z, r) k

rest_fed : (b : List ℕ) (h : Held) (later : List (ℕ × List ℕ)) (ended : Bool) → ((fed_with b h later ended).rest ≡ h.rest) ⊎ ((fed_with b h later ended).rest ≡ h.rest ++ b)
rest_fed b h later true = inl refl
rest_fed b h [] false = inr refl
rest_fed b h (s ∷ ss) false = inl refl

known_more : (left n : ℕ) (bs more : List ℕ) → KnownZeros left n bs → KnownZeros left n (bs ++ more)
known_more left n bs more k =
    let l : n ≤ length bs = k.1 in
    let t : take n (bs ++ more) ≡ take n bs = take-append-le n bs more l in
    (k.0, omega (arith, l, length-append bs more), rw t k.2)

known_fed : (old new : Reader) (b : List ℕ) → new.left ≡ old.left → new.zeros ≡ old.zeros → new.input.rest ≡ (fed b old.input).rest → KnownZeros old.left old.zeros old.input.rest → KnownZeros new.left new.zeros new.input.rest
unfolding fed
known_fed old new b l z r k = rw (l, z, r) (elim (rest_fed b old.input old.input.later old.input.ended) [
  | inl e ↦ subst (KnownZeros old.left old.zeros) (sym e) k
  | inr e ↦ subst (KnownZeros old.left old.zeros) (sym e) (known_more old.left old.zeros old.input.rest b k)
])

-- new is old after a fragment of n bytes
pub record Advanced (old new : Reader) (n : ℕ) : Type 0 where
  pub input : new.input ≡ passed (7 + n) old.input
  pub left : new.left ≡ left_after page_size old.left (7 + n)
  pub zeros : new.zeros ≡ 0
  pub fault : new.fault ≡ old.fault
  pub mode : compresses new ≡ compresses old

pub data_length : (n : ℕ) (rest : List ℕ) → 7 + n ≤ length rest → length (take n (drop 7 rest)) ≡ n
data_length n rest h = omega (arith, length-take n (drop 7 rest), length-drop 7 rest)

module _ (old new : Reader) (n : ℕ) (a : Advanced old new n) where
  rest_advanced : new.input.rest ≡ drop (7 + n) old.input.rest
  rest_advanced = ap (λ (h : Held). h.rest) a.input

  waiting_advanced : waiting_of new ≡ waiting_of old
  waiting_advanced = ap (λ (h : Held). waiting h.later h.ended) a.input

  reader_advanced : length new.passed < 2 ^ 60 → old.fault ≡ None → IsReader new
  reader_advanced c none =
      let l : 0 < left_after page_size old.left (7 + n) = left_after_pos page_size old.left (7 + n) (omega arith) in
      record { page = omega (arith, l, a.left); count = c; fault = subst IsOfLog (sym (a.fault ∙ none)) tt; zeros = known_none new.left new.zeros new.input.rest a.zeros }

-- what is still read, in the fields of a reader that has gone on
module _ (old new : Reader) (n : ℕ) (a : Advanced old new n) (can : CanStep old) (len : length (data_at_front n old) ≡ n) where
  still_as : (ready : List Entry) (skipped : List SkippedType) (o : Option Record) (later : List Piece) → new.ready.items ≡ ready → new.passed ≡ skipped → open_of new ≡ o
      → still ready skipped None (compresses old) (left_after page_size old.left (7 + length (data_at_front n old))) o (drop (7 + length (data_at_front n old)) old.input.rest) (waiting_of old) later
      ≡ still new.ready.items new.passed new.fault (compresses new) new.left (open_of new) new.input.rest (waiting_of new) later
  still_as ready skipped o later r p q =
      let at : left_after page_size old.left (7 + length (data_at_front n old)) ≡ new.left =
      ap (λ (m : ℕ). left_after page_size old.left (7 + m)) len ∙ sym a.left in
      let rest : drop (7 + length (data_at_front n old)) old.input.rest ≡ new.input.rest =
      ap (λ (m : ℕ). drop (7 + m) old.input.rest) len ∙ sym (rest_advanced old new n a) in
      still_fields _ _ _ _ _ _ _ _ _ _ _ _ _ _ _ _ later (sym r) (sym p) (sym (a.fault ∙ can.no_fault)) (sym a.mode) at (sym q) rest (sym (waiting_advanced old new n a))

  still_was : (later : List Piece) → still old.ready.items old.passed old.fault (compresses old) old.left (open_of old) old.input.rest (waiting_of old) later
      ≡ still [] old.passed None (compresses old) old.left (open_of old) old.input.rest (waiting_of old) later
  still_was later = still_fields _ _ _ _ _ _ _ _ _ _ _ _ _ _ _ _ later can.none_ready refl can.no_fault refl refl refl refl refl

module _ (old new : Reader) (n : ℕ) (a : Advanced old new n) (kind : Kind) (can : CanStep old) (whole : 7 + n ≤ length old.input.rest) (found : item_of old ≡ grammar.fragment kind (data_at_front n old)) where
  -- after a fragment a record is open
  pub same_goes_on : (r : Record) → joined (open_of old) kind (data_at_front n old) ≡ still_open r → open_of new ≡ Some r → new.ready.items ≡ old.ready.items → new.passed ≡ old.passed → Same old new
  same_goes_on r j o ready passed =
      let len : length (data_at_front n old) ≡ n = data_length n old.input.rest whole in
      record {
        reader = reader_advanced old new n a (omega (arith, ap length passed, can.reader.count)) can.no_fault;
        place = place_advanced old new can a.mode n kind (data_at_front n old) a.input a.left a.fault len found (ap open_after j ∙ ap Some (sym o));
        still_same = λ later.
            still_was old new n a can len later
            ∙ still_goes_on (compresses old) old.left can.reader.page old.input.rest [] old.passed (waiting_of old) later (open_of old) kind (data_at_front n old) r found j
            ∙ still_as old new n a can len [] old.passed (Some r) later (ready ∙ can.none_ready) passed o;
      }

  -- a fragment completes a record that is read
  pub same_whole : (r : Record) → joined (open_of old) kind (data_at_front n old) ≡ complete r → open_of new ≡ None → length new.passed < 2 ^ 60 → IsRead r old.passed new.ready.items new.passed true → Same old new
  same_whole r j o count d =
      let len : length (data_at_front n old) ≡ n = data_length n old.input.rest whole in
      let es : entries_in r ≡ Some new.ready.items = ap (λ (t : Option (List ℕ)). t then λ x. record_entries x) d.1 ∙ d.2 in
      record {
        reader = reader_advanced old new n a count can.no_fault;
        place = place_advanced old new can a.mode n kind (data_at_front n old) a.input a.left a.fault len found (ap open_after j ∙ ap closes es ∙ ap Some (sym o));
        still_same = λ later.
            still_was old new n a can len later
            ∙ still_whole (compresses old) old.left can.reader.page old.input.rest old.passed (waiting_of old) later (open_of old) kind (data_at_front n old) r found j d.0 new.ready.items d.1 d.2
            ∙ still_as old new n a can len new.ready.items (old.passed ++ skips_of d.0) None later refl d.3 o;
      }

-- the data of an open record don't matter while none is open
pub same_closed : (old new : Reader) → IsReader old → compresses new ≡ compresses old → old.is_open ≡ false → new.is_open ≡ false → new.input ≡ old.input → new.left ≡ old.left → new.zeros ≡ old.zeros → new.ready.items ≡ old.ready.items
    → new.passed ≡ old.passed → new.fault ≡ old.fault → Same old new
same_closed old new r m o o' i l z e p f =
    let none : open_of old ≡ None = rw o refl in
    let none' : open_of new ≡ None = rw o' refl in
    record {
      reader = record { page = omega (arith, l, r.page); count = omega (arith, ap length p, r.count); fault = subst IsOfLog (sym f) r.fault; zeros = known_as old new l z (ap (λ (h : Held). h.rest) i) r.zeros };
      place = place_same old new m (none' ∙ sym none) i l f;
      still_same = λ later.
          still_fields _ _ _ _ _ _ _ _ _ _ _ _ _ _ _ _ later (sym e) (sym p) (sym f) (sym m) (sym l) (none ∙ sym none') (sym (ap (λ (h : Held). h.rest) i)) (sym (ap (λ (h : Held). waiting h.later h.ended) i));
    }

pub appended : (xs ys zs d : List ℕ) → zs ≡ xs ++ ys → xs ≡ [] → ys ≡ d → zs ≡ d
appended xs ys zs d e x y = e ∙ ap (λ (l : List ℕ). l ++ ys) x ∙ y

-- the data of a fragment, as a slice has them
pub data_of : (n : ℕ) (xs ys zs : List ℕ) → zs ≡ take n (drop 7 ys) → ys ≡ xs → zs ≡ take n (drop 7 xs)
data_of n xs ys zs e f = e ∙ ap (λ (l : List ℕ). take n (drop 7 l)) f

-- new is old, which has failed; only the data of a record may be others
pub record Failing (old new : Reader) (f : TailFault) : Type 0 where
  pub input : new.input ≡ old.input
  pub left : new.left ≡ old.left
  pub zeros : new.zeros ≡ old.zeros
  pub ready : new.ready.items ≡ []
  pub passed : new.passed ≡ old.passed
  pub fault : new.fault ≡ Some f
  pub of_log : IsOfLog (Some f)
  pub mode : compresses new ≡ compresses old

module _ (old new : Reader) (fault : TailFault) (can : CanStep old) (a : Failing old new fault) where
  pub same_failed : SamePlace old new → ((later : List Piece) → still [] old.passed None (compresses old) old.left (open_of old) old.input.rest (waiting_of old) later ≡ still [] old.passed (Some fault) (compresses old) old.left (open_of old) old.input.rest (waiting_of old) later) → Same old new
  same_failed x h =
      record {
        reader = record { page = omega (arith, a.left, can.reader.page); count = omega (arith, ap length a.passed, can.reader.count); fault = subst IsOfLog (sym a.fault) a.of_log; zeros = known_as old new a.left a.zeros (ap (λ (h : Held). h.rest) a.input) can.reader.zeros };
        place = x;
        still_same = λ later.
            still_fields _ _ _ _ _ _ _ _ _ _ _ _ _ _ _ _ later can.none_ready refl can.no_fault refl refl refl refl refl
            ∙ h later
            ∙ still_any _ _ _ _ _ _ _ _ _ _ _ _ _ later
            ∙ still_fields _ _ _ _ _ _ _ _ _ _ _ _ _ _ _ _ later (sym a.ready) (sym a.passed) (sym a.fault) refl refl refl refl refl;
      }

-- what was read, of the bytes as the grammar has them
pub read_as : (r r' : Record) (p : List SkippedType) (es : List Entry) (p' : List SkippedType) (b b' : Bool) → r ≡ r' → b ≡ b' → IsRead r p es p' b → IsRead r' p es p' b'
read_as r r' p es p' b b' e q h = subst (λ (x : Record). IsRead x p es p' b') e (subst (λ (y : Bool). IsRead r p es p' y) q h)

-- what was read of a record's text is read of the record
pub read_of_text : (r : Record) (d : List ℕ) (p : List SkippedType) (es : List Entry) (p' : List SkippedType) (b : Bool) → text_of r ≡ Some d → IsTextRead d p es p' b → IsRead r p es p' b
read_of_text r d p es p' true t h = (d, t, h.0, h.1)
read_of_text r d p es p' false t h = (ap (λ (o : Option (List ℕ)). o then λ x. record_entries x) t ∙ h.0, h.1, h.2)

module _ (old new : Reader) (n : ℕ) (kind : Kind) (can : CanStep old) (found : item_of old ≡ grammar.fragment kind (data_at_front n old)) where
  -- a fragment completes a record that cannot be decoded or is not of its form
  pub bad_whole : (r : Record) → joined (open_of old) kind (data_at_front n old) ≡ complete r → entries_in r ≡ None → Failing old new BadRecord → Same old new
  bad_whole r j e a =
      same_failed old new BadRecord can a
      (place_failed old new can a.mode BadRecord a.input a.fault (λ ends later. held_bad (compresses old) old.left old.input.rest can.reader.page old.input.segment old.input.offset old.input.later old.input.ended ends later (open_of old) kind (data_at_front n old) (ap open_after j ∙ ap closes e) found))
      (λ later. still_bad (compresses old) old.left can.reader.page old.input.rest old.passed (waiting_of old) later (open_of old) kind (data_at_front n old) r found j e)

  -- a fragment is out of sequence
  pub bad_sequence : joined (open_of old) kind (data_at_front n old) ≡ out_of_sequence → Failing old new Sequence → Same old new
  bad_sequence j a =
      same_failed old new Sequence can a
      (place_failed old new can a.mode Sequence a.input a.fault (λ ends later. held_bad (compresses old) old.left old.input.rest can.reader.page old.input.segment old.input.offset old.input.later old.input.ended ends later (open_of old) kind (data_at_front n old) (ap open_after j) found))
      (λ later. still_sequence (compresses old) old.left can.reader.page old.input.rest [] old.passed (waiting_of old) later (open_of old) kind (data_at_front n old) found j)

-- the record that is open, if one is or none
pub open_none : (r : Reader) → r.is_open ≡ false → open_of r ≡ None
open_none r e = rw e refl

pub open_some : (r : Reader) → r.is_open ≡ true → open_of r ≡ Some (r.is_block, r.begun.items)
open_some r e = rw e refl

-- a fragment that goes on with what is open
pub found_at : (r : Reader) (b b' : Bool) (k k' : Kind) (n : ℕ) → FoundFragment b k n r → b ≡ b' → k ≡ k' → r.is_open ≡ goes_on k' → FoundAt b' k' n r
found_at r b b' k k' n f e q o = record {
  can_step = f.can_step;
  whole = f.whole;
  in_page = f.in_page;
  found = f.found ∙ ap (λ (x : Bool). grammar.fragment (flagged x k) (data_at_front n r)) e ∙ ap (λ (x : Kind). grammar.fragment (flagged b' x) (data_at_front n r)) q;
  may_be = λ h. f.may_be (e ∙ h);
  in_order = o;
}

-- a fragment by which a record is open, or that completes it, at its place
module _ (r : Reader) (is_block : Bool) (n : ℕ) where
  pub joins_first : FoundAt is_block first n r → joined (open_of r) (flagged is_block first) (data_at_front n r) ≡ still_open (is_block, data_at_front n r)
  joins_first f = ap (λ (o : Option Record). joined o (flagged is_block first) (data_at_front n r)) (open_none r f.in_order) ∙ joined_first is_block (data_at_front n r)

  pub joins_full : FoundAt is_block full n r → joined (open_of r) (flagged is_block full) (data_at_front n r) ≡ complete (is_block, data_at_front n r)
  joins_full f = ap (λ (o : Option Record). joined o (flagged is_block full) (data_at_front n r)) (open_none r f.in_order) ∙ joined_full is_block (data_at_front n r)

module _ (r : Reader) (n : ℕ) where
  pub joins_middle : FoundAt r.is_block middle n r → joined (open_of r) (flagged r.is_block middle) (data_at_front n r) ≡ still_open (r.is_block, r.begun.items ++ data_at_front n r)
  joins_middle f = ap (λ (o : Option Record). joined o (flagged r.is_block middle) (data_at_front n r)) (open_some r f.in_order) ∙ joined_middle r.is_block r.begun.items (data_at_front n r)

  pub joins_last : FoundAt r.is_block last n r → joined (open_of r) (flagged r.is_block last) (data_at_front n r) ≡ complete (r.is_block, r.begun.items ++ data_at_front n r)
  joins_last f = ap (λ (o : Option Record). joined o (flagged r.is_block last) (data_at_front n r)) (open_some r f.in_order) ∙ joined_last r.is_block r.begun.items (data_at_front n r)

pub bad_closed : (old new : Reader) (is_block : Bool) (n : ℕ) (kind : Kind) → FoundFragment is_block kind n old → IsInner kind → old.is_open ≡ false → Failing old new Sequence → Same old new
bad_closed old new is_block n kind f i o a =
    bad_sequence old new n (flagged is_block kind) f.can_step f.found
    (ap (λ (x : Option Record). joined x (flagged is_block kind) (data_at_front n old)) (open_none old o) ∙ inner_out is_block kind (data_at_front n old) i) a

pub bad_open : (old new : Reader) (is_block : Bool) (n : ℕ) (kind : Kind) → FoundFragment is_block kind n old → IsBegin kind → old.is_open ≡ true → Failing old new Sequence → Same old new
bad_open old new is_block n kind f i o a =
    bad_sequence old new n (flagged is_block kind) f.can_step f.found
    (ap (λ (x : Option Record). joined x (flagged is_block kind) (data_at_front n old)) (open_some old o) ∙ begin_out old.is_block is_block kind old.begun.items (data_at_front n old) i) a

pub bad_sort : (old new : Reader) (is_block : Bool) (n : ℕ) (kind : Kind) → FoundFragment is_block kind n old → IsPlain kind → old.is_open ≡ true → not (beq old.is_block is_block) ≡ true → Failing old new Sequence → Same old new
bad_sort old new is_block n kind f i o b a =
    bad_sequence old new n (flagged is_block kind) f.can_step f.found
    (ap (λ (x : Option Record). joined x (flagged is_block kind) (data_at_front n old)) (open_some old o) ∙ other_out old.is_block is_block kind old.begun.items (data_at_front n old) i b) a

pub bad_item : (old new : Reader) (fault : TailFault) → CanStep old → item_of old ≡ grammar.wrong fault → Failing old new fault → Same old new
bad_item old new fault can e a =
    same_failed old new fault can a
    (place_failed old new can a.mode fault a.input a.fault (λ ends later. held_wrong (compresses old) old.left old.input.rest can.reader.page old.input.segment old.input.offset old.input.later old.input.ended ends later (open_of old) fault e))
    (λ later. still_wrong (compresses old) old.left can.reader.page old.input.rest [] old.passed (waiting_of old) later (open_of old) fault e)

-- what was found, of the bytes as the grammar has them
pub found_item : (b c : Bool) (left : ℕ) (xs ys : List ℕ) (x : grammar.Item) → b ≡ c → xs ≡ ys → grammar.item_in b left xs ≡ x → grammar.item_in c left ys ≡ x
found_item b c left xs ys x q e h = sym (ap (λ (y : Bool). grammar.item_in y left xs) q ∙ ap (grammar.item_in c left) e) ∙ h

pub same_zeros : (old new : Reader) → CanStep old → item_of old ≡ grammar.zeros
    → new.input ≡ passed old.left old.input → new.left ≡ page_size → new.zeros ≡ 0 → new.ready.items ≡ old.ready.items
    → new.passed ≡ old.passed → new.fault ≡ old.fault → open_of new ≡ open_of old → compresses new ≡ compresses old → Same old new
same_zeros old new can z i left k e p f o m =
    let r : new.input.rest ≡ drop old.left old.input.rest = ap (λ (h : Held). h.rest) i in
    let w : waiting_of new ≡ waiting_of old = ap (λ (h : Held). waiting h.later h.ended) i in
    record {
      reader = record { page = omega (arith, left); count = omega (arith, ap length p, can.reader.count); fault = subst IsOfLog (sym f) can.reader.fault; zeros = known_none new.left new.zeros new.input.rest k };
      place = place_zeros old new can m z i left f o;
      still_same = λ later.
          let s = still_zeros (compresses old) old.left can.reader.page old.input.rest old.ready.items old.passed (waiting_of old) later (open_of old) z in
          still_fields _ _ _ _ _ _ _ _ _ _ _ _ _ _ _ _ later refl refl can.no_fault refl refl refl refl refl ∙ s
          ∙ still_fields _ _ _ _ _ _ _ _ _ _ _ _ _ _ _ _ later (sym e) (sym p) (sym (f ∙ can.no_fault)) (sym m) (sym left) (sym o) (sym r) (sym w);
    }

pub same_begun : (old new : Reader) → PausesAt false old → has_ended old.input.later old.input.ended ≡ true → new.input ≡ begun_with old.input.later old.input.ended old.input.ends
    → new.left ≡ page_size → new.zeros ≡ 0 → new.ready.items ≡ old.ready.items → new.passed ≡ old.passed → new.fault ≡ old.fault → open_of new ≡ open_of old → compresses new ≡ compresses old → Same old new
same_begun old new pa h i l k e p f o m =
    let can = pa.can_step in
    let r : new.input.rest ≡ (begun_with old.input.later old.input.ended old.input.ends).rest = ap (λ (h : Held). h.rest) i in
    let w : waiting_of new ≡ waiting (begun_with old.input.later old.input.ended old.input.ends).later (begun_with old.input.later old.input.ended old.input.ends).ended = ap (λ (h : Held). waiting h.later h.ended) i in
    let n : (item_of old ≡ grammar.nothing) × (false ≡ old.is_open) = elim pa.ends [ inl x ↦ absurd (let z : false ≡ true = x.1 in cc) | inr x ↦ x ] in
    let none : open_of old ≡ None = open_none old (sym n.1) in
    record {
      reader = record { page = omega (arith, l); count = omega (arith, ap length p, can.reader.count); fault = subst IsOfLog (sym f) can.reader.fault; zeros = known_none new.left new.zeros new.input.rest k };
      place = place_begun old new can m n.0 none h i l f (o ∙ none);
      still_same = λ later.
          let s = still_begun (compresses old) old.left can.reader.page old.input.rest old.ready.items old.passed old.input.later old.input.ended old.input.ends later h n.0 in
          still_fields _ _ _ _ _ _ _ _ _ _ _ _ _ _ _ _ later refl refl can.no_fault refl refl none refl refl ∙ s
          ∙ still_fields _ _ _ _ _ _ _ _ _ _ _ _ _ _ _ _ later (sym e) (sym p) (sym (f ∙ can.no_fault)) (sym m) (sym l) (sym (o ∙ none)) (sym r) (sym w);
    }

pub same_torn : (old new : Reader) → PausesAt true old → has_ended old.input.later old.input.ended ≡ true → Failing old new TornSegment → Same old new
same_torn old new pa h a =
    let t : (item_of old ≡ grammar.begun) ⊎ ((old.is_open ≡ true) × (item_of old ≡ grammar.nothing)) = elim pa.ends [ inl x ↦ inl x.0 | inr x ↦ inr (sym x.1, x.0) ] in
    same_failed old new TornSegment pa.can_step a (place_torn old new pa.can_step a.mode TornSegment t h a.input a.fault) (λ later. still_torn_here (compresses old) old.left pa.can_step.reader.page old.input.rest [] old.passed old.is_open old.is_block old.begun.items old.input.later old.input.ended later h t)

pub takes_bytes : (old new : Reader) (b : List ℕ) → IsReader old → can_count old.input ≡ true → new.input ≡ fed b old.input → new.left ≡ old.left → new.zeros ≡ old.zeros → new.ready.items ≡ old.ready.items
    → new.passed ≡ old.passed → new.fault ≡ old.fault → open_of new ≡ open_of old → compresses new ≡ compresses old → Takes (bytes b) old new
takes_bytes old new b r can i l k e p f o m =
    let q : new.input.rest ≡ (fed b old.input).rest = ap (λ (h : Held). h.rest) i in
    let w : waiting_of new ≡ waiting (fed b old.input).later (fed b old.input).ended = ap (λ (h : Held). waiting h.later h.ended) i in
    record {
      reader = record { page = omega (arith, l, r.page); count = omega (arith, ap length p, r.count); fault = subst IsOfLog (sym f) r.fault; zeros = known_fed old new b l k q r.zeros };
      place = place_fed old new m o b can i l f;
      still_more = λ later. let s = still_fed (compresses old) old.ready.items old.passed old.fault old.left (open_of old) old.input b later in s ∙ still_fields _ _ _ _ _ _ _ _ _ _ _ _ _ _ _ _ later (sym e) (sym p) (sym f) (sym m) (sym l) (sym o) (sym q) (sym w);
    }

pub takes_mark : (old new : Reader) → IsReader old → new.input ≡ marked old.input → new.left ≡ old.left → new.zeros ≡ old.zeros → new.ready.items ≡ old.ready.items
    → new.passed ≡ old.passed → new.fault ≡ old.fault → open_of new ≡ open_of old → compresses new ≡ compresses old → Takes next_segment old new
takes_mark old new r i l k e p f o m =
    let q : new.input.rest ≡ old.input.rest = ap (λ (h : Held). h.rest) i in
    let w : waiting_of new ≡ waiting old.input.later true = ap (λ (h : Held). waiting h.later h.ended) i in
    record {
      reader = record { page = omega (arith, l, r.page); count = omega (arith, ap length p, r.count); fault = subst IsOfLog (sym f) r.fault; zeros = known_as old new l k (ap (λ (h : Held). h.rest) i) r.zeros };
      place = place_marked old new m o i l f;
      still_more = λ later. let s = still_marked (compresses old) old.ready.items old.passed old.fault old.left (open_of old) old.input.rest old.input.later old.input.ended later in s ∙ still_fields _ _ _ _ _ _ _ _ _ _ _ _ _ _ _ _ later (sym e) (sym p) (sym f) (sym m) (sym l) (sym o) (sym q) (sym w);
    }

pub takes_nothing : (r : Reader) (b : List ℕ) (f : TailFault) → IsReader r → r.fault ≡ Some f → Takes (bytes b) r r
takes_nothing r b f i e = record {
  reader = i;
  place = record { counts = λ ends c. c; still_there = λ ends c later. rw e refl };
  still_more = λ later. rw e (still_faulted (compresses r) r.ready.items r.passed f r.left (open_of r) r.input.rest (waiting_of r) (bytes b) later);
}
