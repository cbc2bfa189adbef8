-- The steps of a reader leave the place where its reading stops as it is.
use Rattle.std.proofs.Common.{◌≡◌, ℕ, ◌+◌, ◌<◌, ◌^◌, List, [], ◌∷◌, length, Option, Some, None, Bool, true, false, refl, sym, ap, ◌∙◌, arith, subst, ltb, lt-ltb, le-ltb, nat_lt, inl, inr, ◌⊎◌}
use Rattle.std.proofs.lemmas.Bool.{cases_lt, and_parts}
use borrow.Author.Tests.{ltb-true}
use Rattle.rw_wal_format.specs.Segments as grammar
use Rattle.rw_wal_format.specs.Segments.{Kind, fragment, left_after, inside, Record}
use Rattle.rw_wal_format.specs.Pieces.{Piece, next_segment, bytes, page_size}
use Rattle.rw_wal_format.specs.declared.tail_fault.TailFault.{TailFault}
use Rattle.rw_wal_tail.specs.declared.reader.Reader.{Reader}
use Rattle.rw_wal_tail.specs.inner.Held.{Held, has_ended, begun_with, fed_with, fed, passed, one_more, marked, can_count}
use Rattle.rw_wal_tail.specs.inner.Still.{open_data}
use Rattle.rw_wal_tail.specs.Places.{opens}
use Rattle.rw_wal_tail.specs.inner.Placed.{stop_at, place_held, front_of, place_from}
use Rattle.rw_wal_tail.specs.inner.Steps.{compresses, open_of, item_of, still_place, SamePlace, TakesPlace, CanStep}
use Rattle.rw_wal_tail.proofs.shared.PlaceLaws.{held_zeros, held_fragment, held_torn, held_begun, held_marked, held_fed, at_nothing, at_begun}

-- what can be counted is small
pub small : (h : Held) → can_count h ≡ true → (h.offset < 2 ^ 60) × (h.ends < 2 ^ 60)
small h e = let b = and_parts (nat_lt h.offset (2 ^ 60)) (nat_lt h.ends (2 ^ 60)) e in (ltb-true h.offset (2 ^ 60) b.0, ltb-true h.ends (2 ^ 60) b.1)

place_is : (r : Reader) (ends : ℕ) (later : List Piece) → r.fault ≡ None
    → still_place r ends later ≡ place_from None (compresses r) r.left (open_of r) r.input ends later
place_is r ends later q = ap (λ (f : Option TailFault). place_from f (compresses r) r.left (open_of r) r.input ends later) q

-- a reader without a fault that holds this
place_with : (r : Reader) (c : Bool) (left : ℕ) (o : Option Record) (h : Held) (ends : ℕ) (later : List Piece) → r.fault ≡ None → compresses r ≡ c → r.left ≡ left → open_of r ≡ o → r.input ≡ h
    → place_from None c left o h ends later ≡ still_place r ends later
place_with r c left o h ends later q m l d i =
    ap (λ (b : Bool). place_from None b left o h ends later) (sym m)
    ∙ ap (λ (m : ℕ). place_from None (compresses r) m o h ends later) (sym l)
    ∙ ap (λ (x : Option Record). place_from None (compresses r) r.left x h ends later) (sym d)
    ∙ ap (λ (x : Held). place_from None (compresses r) r.left (open_of r) x ends later) (sym i)
    ∙ sym (place_is r ends later q)

begun_ends : (w : List (ℕ × List ℕ)) (ended : Bool) (t : ℕ) → (begun_with w ended t).ends ≡ t
begun_ends [] ended t = refl
begun_ends (s ∷ ss) ended t = refl

module _ (old new : Reader) (can : CanStep old) (mode : compresses new ≡ compresses old) where
  pub place_advanced : (n : ℕ) (kind : Kind) (d : List ℕ) → new.input ≡ passed (7 + n) old.input → new.left ≡ left_after page_size old.left (7 + n) → new.fault ≡ old.fault → length d ≡ n
      → item_of old ≡ fragment kind d → opens (open_of old) kind d ≡ Some (open_of new) → SamePlace old new
  place_advanced n kind d i l f len e o = record {
    counts = ap (λ (h : Held). h.ends) i;
    still_there = λ ends c later.
        place_is old ends later can.no_fault
        ∙ held_fragment (compresses old) old.left old.input.rest can.reader.page old.input.segment old.input.offset old.input.later old.input.ended ends later (open_of old) (open_of new) kind d o e
        ∙ ap (λ (m : ℕ). place_from None (compresses old) (left_after page_size old.left (7 + m)) (open_of new) (passed (7 + m) old.input) ends later) len
        ∙ place_with new _ _ _ _ ends later (f ∙ can.no_fault) mode l refl i;
  }

  pub place_zeros : item_of old ≡ grammar.zeros → new.input ≡ passed old.left old.input → new.left ≡ page_size → new.fault ≡ old.fault
      → open_of new ≡ open_of old → SamePlace old new
  place_zeros e i l f o = record {
    counts = ap (λ (h : Held). h.ends) i;
    still_there = λ ends c later.
        place_is old ends later can.no_fault
        ∙ held_zeros (compresses old) old.left old.input.rest can.reader.page old.input.segment old.input.offset old.input.later old.input.ended ends later (open_of old) e
        ∙ place_with new (compresses old) page_size (open_of old) (passed old.left old.input) ends later (f ∙ can.no_fault) mode l o i;
  }

  -- a fault at what comes in front
  pub place_failed : (f : TailFault) → new.input ≡ old.input → new.fault ≡ Some f
      → ((ends : ℕ) (later : List Piece) → place_held (compresses old) old.input.segment old.input.offset old.left (open_of old) old.input.rest old.input.later old.input.ended ends later
      ≡ front_of old.input)
      → SamePlace old new
  place_failed f i q h = record {
    counts = ap (λ (h : Held). h.ends) i;
    still_there = λ ends c later.
        place_is old ends later can.no_fault ∙ h ends later
        ∙ ap front_of (sym i)
        ∙ sym (ap (λ (x : Option TailFault). place_from x (compresses new) new.left (open_of new) new.input ends later) q);
  }

  pub place_begun : item_of old ≡ grammar.nothing → open_of old ≡ None → has_ended old.input.later old.input.ended ≡ true
      → new.input ≡ begun_with old.input.later old.input.ended old.input.ends → new.left ≡ page_size → new.fault ≡ old.fault → open_of new ≡ None → SamePlace old new
  place_begun e closed h i l f o = record {
    counts = ap (λ (x : Held). x.ends) i ∙ begun_ends old.input.later old.input.ended old.input.ends;
    still_there = λ ends c later.
        let stops : stop_at (compresses old) old.input.offset old.left (open_of old) old.input.rest ≡ (grammar.between, old.input.offset) =
        at_nothing (compresses old) old.left old.input.rest can.reader.page old.input.offset (open_of old) e ∙ ap (λ (x : Option Record). (grammar.end_of x grammar.between, old.input.offset)) closed in
        place_is old ends later can.no_fault
        ∙ held_begun (compresses old) old.input.segment old.input.offset old.left (open_of old) old.input.rest stops old.input.later old.input.ended ends old.input.ends later h (c (small old.input can.counted).1)
        ∙ place_with new (compresses old) page_size None (begun_with old.input.later old.input.ended old.input.ends) ends later (f ∙ can.no_fault) mode l o i;
  }

  torn_stops : (o b : Bool) (d : List ℕ) → (item_of old ≡ grammar.begun) ⊎ ((o ≡ true) × (item_of old ≡ grammar.nothing))
      → stop_at (compresses old) old.input.offset old.left (open_data o b d) old.input.rest ≡ (inside, old.input.offset)
  torn_stops true b d (inl e) = at_begun (compresses old) old.left old.input.rest can.reader.page old.input.offset (Some (b, d)) e
  torn_stops false b d (inl e) = at_begun (compresses old) old.left old.input.rest can.reader.page old.input.offset None e
  torn_stops true b d (inr e) = at_nothing (compresses old) old.left old.input.rest can.reader.page old.input.offset (Some (b, d)) e.1
  torn_stops false b d (inr e) = absurd (let f : false ≡ true = e.0 in cc)

  pub place_torn : (f : TailFault) → (item_of old ≡ grammar.begun) ⊎ ((old.is_open ≡ true) × (item_of old ≡ grammar.nothing))
      → has_ended old.input.later old.input.ended ≡ true → new.input ≡ old.input → new.fault ≡ Some f → SamePlace old new
  place_torn f t h i q =
      place_failed f i q (λ ends later. held_torn (compresses old) old.input.segment old.input.offset old.left (open_of old) old.input.rest (torn_stops old.is_open old.is_block old.begun.items t) old.input.later old.input.ended ends later h)

-- nothing that the place depends on changes
pub place_same : (old new : Reader) → compresses new ≡ compresses old → open_of new ≡ open_of old → new.input ≡ old.input → new.left ≡ old.left → new.fault ≡ old.fault → SamePlace old new
place_same old new m o i l f = record {
  counts = ap (λ (h : Held). h.ends) i;
  still_there = λ ends c later. rw (m, o, i, l, f) refl;
}

-- ---- more pieces

fed_ends : (b : List ℕ) (h : Held) (later : List (ℕ × List ℕ)) (ended : Bool) → (fed_with b h later ended).ends ≡ h.ends
fed_ends b h later true = refl
fed_ends b h [] false = refl
fed_ends b h (s ∷ ss) false = refl

fed_at : (b : List ℕ) (h : Held) (later : List (ℕ × List ℕ)) (ended : Bool) → front_of h ≡ front_of (fed_with b h later ended)
fed_at b h later true = refl
fed_at b h [] false = refl
fed_at b h (s ∷ ss) false = refl

fed_place : (f : Option TailFault) (c : Bool) (left : ℕ) (o : Option Record) (b : List ℕ) (h : Held) (ends : ℕ) (later : List Piece) → h.ends ≡ ends
    → place_from f c left o h ends (bytes b ∷ later) ≡ place_from f c left o (fed_with b h h.later h.ended) ends later
fed_place None c left o b h ends later q = held_fed c left o b h h.later h.ended ends later q
fed_place (Some f) c left o b h ends later q = fed_at b h h.later h.ended

marked_place : (f : Option TailFault) (c : Bool) (left : ℕ) (o : Option Record) (h : Held) (ends : ℕ) (later : List Piece) → place_from f c left o h ends (next_segment ∷ later) ≡ place_from f c left o (marked h) (ends + 1) later
marked_place None c left o h ends later = held_marked c h.segment h.offset left o h.rest h.later h.ended ends later
marked_place (Some f) c left o h ends later = refl

more_counted : (n ends : ℕ) → (n < 2 ^ 60 → n ≡ ends) → one_more n < 2 ^ 60 → one_more n ≡ ends + 1
more_counted n ends c s = elim (cases_lt n (2 ^ 60)) [
  | inl l ↦ (let t : ltb n (2 ^ 60) ≡ true = lt-ltb n (2 ^ 60) l in rw t (omega (arith, c l)))
  | inr g ↦ (let t : ltb n (2 ^ 60) ≡ false = le-ltb n (2 ^ 60) g in absurd (let x : n < 2 ^ 60 = (rw t at s) in omega (arith, x, g)))
]

module _ (old new : Reader) (mode : compresses new ≡ compresses old) (open_same : open_of new ≡ open_of old) where
  pub place_fed : (b : List ℕ) → can_count old.input ≡ true → new.input ≡ fed b old.input → new.left ≡ old.left → new.fault ≡ old.fault → TakesPlace (bytes b) old new
  unfolding fed
  place_fed b can i l f =
      let e : new.input.ends ≡ old.input.ends = ap (λ (h : Held). h.ends) i ∙ fed_ends b old.input old.input.later old.input.ended in
      record {
        counts = λ ends c s. e ∙ c (omega (arith, e, s));
        still_there = λ ends c later. rw (f, mode, open_same, l, i) (fed_place old.fault (compresses old) old.left (open_of old) b old.input ends later (c (small old.input can).1));
      }

  pub place_marked : new.input ≡ marked old.input → new.left ≡ old.left → new.fault ≡ old.fault → TakesPlace next_segment old new
  place_marked i l f = record {
    counts = λ ends c s. ap (λ (h : Held). h.ends) i ∙ more_counted old.input.ends ends c (subst (λ (m : ℕ). m < 2 ^ 60) (ap (λ (h : Held). h.ends) i) s);
    still_there = λ ends c later. rw (f, mode, open_same, l, i) (marked_place old.fault (compresses old) old.left (open_of old) old.input ends later);
  }
