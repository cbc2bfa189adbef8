-- What waits after the current segment.
use Rattle.std.proofs.Common.{◌≡◌, ℕ, ◌<◌, List, [], ◌∷◌, ◌++◌, Option, Some, None, Bool, true, false, refl, ap, ◌⊎◌}
use Rattle.rw_types.specs.declared.entry.Entry.{Entry}
use Rattle.rw_wal_format.specs.Segments.{nothing, begun, Record, item_in, read_from}
use Rattle.rw_wal_format.specs.Pieces.{Piece, bytes, next_segment, then_next, page_size}
use Rattle.rw_wal_format.specs.declared.skipped_type.SkippedType.{SkippedType}
use Rattle.rw_wal_format.specs.declared.tail_fault.TailFault.{TailFault}
use Rattle.rw_wal_format.specs.declared.tail_fault.TailFault.TheVariants.{TornSegment}
use Rattle.rw_wal_format.proofs.shared.Tailing.{read_on}
use Rattle.rw_wal_tail.specs.inner.Held.{Held, waiting, has_ended, begun_with, extend_last, fed_with, fed}
use Rattle.rw_wal_tail.specs.inner.Still.{after, open_data, still}
use Rattle.rw_wal_tail.proofs.StillLaws.{none_first, still_next, still_torn}

-- if the current segment has ended, the next one is the first that waits
next_waits : (later : List (ℕ × List ℕ)) (ended : Bool) → has_ended later ended ≡ true → (w : List Piece) × (waiting later ended ≡ next_segment ∷ w)
next_waits [] true h = ([], refl)
next_waits [] false h = absurd cc
next_waits (s ∷ ss) ended h = (bytes s.1 ∷ waiting ss ended, refl)

pub none_waiting : (later : List (ℕ × List ℕ)) (ended : Bool) → has_ended later ended ≡ false → waiting later ended ≡ []
none_waiting [] true h = absurd cc
none_waiting [] false h = refl
none_waiting (s ∷ ss) ended h = absurd cc

module _ (c : Bool) (left : ℕ) (l : 0 < left) (rest : List ℕ) (es : List Entry) (n : List SkippedType) where
  pub still_begun : (later : List (ℕ × List ℕ)) (ended : Bool) (ends : ℕ) (more : List Piece) → has_ended later ended ≡ true → item_in c left rest ≡ nothing
      → still es n None c left None rest (waiting later ended) more
      ≡ still es n None c page_size None (begun_with later ended ends).rest (waiting (begun_with later ended ends).later (begun_with later ended ends).ended) more
  unfolding still
  still_begun [] true ends more h e = still_next c left l rest es n [] more e
  still_begun [] false ends more h e = absurd cc
  still_begun (s ∷ ss) ended ends more h e = still_next c left l rest es n (bytes s.1 ∷ waiting ss ended) more e

  pub still_torn_here : (o b : Bool) (d : List ℕ) (later : List (ℕ × List ℕ)) (ended : Bool) (more : List Piece) → has_ended later ended ≡ true → (item_in c left rest ≡ begun) ⊎ ((o ≡ true) × (item_in c left rest ≡ nothing))
      → still es n None c left (open_data o b d) rest (waiting later ended) more ≡ still es n (Some TornSegment) c left (open_data o b d) rest (waiting later ended) more
  still_torn_here o b d later ended more h t =
      let w = next_waits later ended h in
      rw w.1 (still_torn c left l rest es n o b d w.0 more t)

module _ (c : Bool) where
  -- a segment without a byte
  empty_segment : (more : List Piece) → read_on c page_size page_size None [] (next_segment ∷ more) ≡ read_on c page_size page_size None [] more
  empty_segment more = none_first (read_on c page_size page_size None [] more)

  -- two ends of a segment are as one
  read_marked : (left : ℕ) (o : Option Record) (rest : List ℕ) (later : List (ℕ × List ℕ)) (ended : Bool) (more : List Piece)
      → read_on c page_size left o rest (waiting later ended ++ next_segment ∷ more) ≡ read_on c page_size left o rest (waiting later true ++ more)
  read_marked left o rest [] false more = refl
  read_marked left o rest [] true more = ap (then_next (read_from c page_size left o rest)) (empty_segment more)
  read_marked left o rest (s ∷ ss) ended more = ap (then_next (read_from c page_size left o rest)) (read_marked page_size None s.1 ss ended more)

  -- bytes after the last segment that waits
  read_extended : (left : ℕ) (o : Option Record) (rest b : List ℕ) (s : ℕ × List ℕ) (ss : List (ℕ × List ℕ)) (more : List Piece)
      → read_on c page_size left o rest (waiting (s ∷ ss) false ++ bytes b ∷ more) ≡ read_on c page_size left o rest (waiting (extend_last b (s ∷ ss)) false ++ more)
  read_extended left o rest b s [] more = refl
  read_extended left o rest b s (t ∷ ss) more = ap (then_next (read_from c page_size left o rest)) (read_extended page_size None s.1 b t ss more)

  -- bytes of a segment that has not begun
  read_new : (left : ℕ) (o : Option Record) (rest b : List ℕ) (later : List (ℕ × List ℕ)) (ends : ℕ) (more : List Piece)
      → read_on c page_size left o rest (waiting later true ++ bytes b ∷ more) ≡ read_on c page_size left o rest (waiting (later ++ (ends, b) ∷ []) false ++ more)
  read_new left o rest b [] ends more = refl
  read_new left o rest b (s ∷ ss) ends more = ap (then_next (read_from c page_size left o rest)) (read_new page_size None s.1 b ss ends more)

  read_fed : (left : ℕ) (o : Option Record) (b : List ℕ) (h : Held) (later : List (ℕ × List ℕ)) (ended : Bool) (more : List Piece)
      → read_on c page_size left o h.rest (waiting later ended ++ bytes b ∷ more)
      ≡ read_on c page_size left o (fed_with b h later ended).rest (waiting (fed_with b h later ended).later (fed_with b h later ended).ended ++ more)
  read_fed left o b h later true more = read_new left o h.rest b later h.ends more
  read_fed left o b h [] false more = refl
  read_fed left o b h (s ∷ ss) false more = read_extended left o h.rest b s ss more

  module _ (es : List Entry) (n : List SkippedType) where
    pub still_fed : (f : Option TailFault) (left : ℕ) (o : Option Record) (h : Held) (b : List ℕ) (more : List Piece)
        → still es n f c left o h.rest (waiting h.later h.ended) (bytes b ∷ more) ≡ still es n f c left o (fed b h).rest (waiting (fed b h).later (fed b h).ended) more
    unfolding still fed
    still_fed None left o h b more = ap (after es n) (read_fed left o b h h.later h.ended more)
    still_fed (Some f) left o h b more = refl

    pub still_marked : (f : Option TailFault) (left : ℕ) (o : Option Record) (rest : List ℕ) (later : List (ℕ × List ℕ)) (ended : Bool) (more : List Piece)
        → still es n f c left o rest (waiting later ended) (next_segment ∷ more) ≡ still es n f c left o rest (waiting later true) more
    unfolding still
    still_marked None left o rest later ended more = ap (after es n) (read_marked left o rest later ended more)
    still_marked (Some f) left o rest later ended more = refl

    -- after a fault nothing more is read
    pub still_faulted : (f : TailFault) (left : ℕ) (o : Option Record) (rest : List ℕ) (w : List Piece) (x : Piece) (more : List Piece)
        → still es n (Some f) c left o rest w (x ∷ more) ≡ still es n (Some f) c left o rest w more
    unfolding still
    still_faulted f left o rest w x more = refl
