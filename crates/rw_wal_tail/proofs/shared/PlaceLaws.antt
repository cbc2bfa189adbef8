-- The place where the reading of a segment stops, an item at a time.
use Rattle.std.proofs.Common.{◌≡◌, ℕ, zero, suc, ◌+◌, ◌<◌, ◌≤◌, List, [], ◌∷◌, ◌++◌, length, drop, Option, Some, None, Bool, true, false, refl, sym, ap, ◌∙◌, arith, length-drop, le_refl, add_assoc, append_assoc, append-nil}
use Rattle.rw_types.specs.declared.entry.Entry.{Entry}
use Rattle.rw_wal_format.specs.Segments.{Kind, Item, nothing, begun, zeros, fragment, wrong, item_at, item_in, Stop, between, inside, at_fault, left_after, Reading, Record, text_of, with_text, with_entries, Joined, still_open, complete, out_of_sequence, joined, from_joined, end_of, read_from, segment_in}
use Rattle.rw_wal_format.specs.Records.{◌then◌, record_entries}
use Rattle.rw_wal_format.specs.Pieces.{Piece, bytes, next_segment, may_compress, page_size}
use Rattle.rw_wal_format.specs.declared.tail_fault.TailFault.{TailFault}
use Rattle.rw_wal_format.specs.declared.tail_fault.TailFault.TheVariants.{Sequence, BadRecord}
use Rattle.rw_wal_format.proofs.shared.Growing.{left_after_pos}
use Rattle.rw_wal_format.proofs.shared.Items.{read_zeros, read_nothing, read_begun, read_wrong, read_fragment}
use Rattle.rw_wal_format.proofs.shared.Tailing.{unmarked, fragment_stays_at, zeros_stay_at}
use Rattle.rw_wal_tail.specs.Places.{closes, open_after, opens, count_after, count_from, counted_items, read_count, stop_offset_in, stop_in}
use Rattle.rw_wal_tail.specs.inner.Held.{Held, has_ended, begun_with, extend_last, fed_with}
use Rattle.rw_wal_tail.specs.inner.Placed.{stop_at, place_at, place_on, place_held, place_from}
use Rattle.rw_wal_tail.proofs.StillLaws.{wrong_stays_at}

-- ---- how many bytes are read, an item at a time

pub same_after : (page left n : ℕ) (bs : List ℕ) (next next' : ℕ → Option Record → List ℕ → ℕ) (opened : Option (Option Record))
    → ((o : Option Record) → next (left_after page left n) o (drop n bs) ≡ next' (left_after page left n) o (drop n bs))
    → count_after page left n bs next opened ≡ count_after page left n bs next' opened
same_after page left n bs next next' None ih = refl
same_after page left n bs next next' (Some o) ih = ap (λ (m : ℕ). n + m) (ih o)

pub same_count : (page left : ℕ) (o : Option Record) (bs : List ℕ) (next next' : ℕ → Option Record → List ℕ → ℕ) (x : Item) → 0 < page → 0 < left → 0 < length bs
    → ((l : ℕ) (o : Option Record) (rest : List ℕ) → 0 < l → length rest < length bs → next l o rest ≡ next' l o rest)
    → count_from page left o bs next x ≡ count_from page left o bs next' x
same_count page left o bs next next' nothing p l n ih = refl
same_count page left o bs next next' begun p l n ih = refl
same_count page left o bs next next' zeros p l n ih = ap (λ (m : ℕ). left + m) (ih page o (drop left bs) p (omega (arith, length-drop left bs)))
same_count page left o bs next next' (fragment kind d) p l n ih =
    same_after page left (7 + length d) bs next next' (opens o kind d)
    (λ o'. ih (left_after page left (7 + length d)) o' (drop (7 + length d) bs) (left_after_pos page left (7 + length d) p) (omega (arith, length-drop (7 + length d) bs)))
same_count page left o bs next next' (wrong f) p l n ih = refl

pub empty_count : (c : Bool) (page k left : ℕ) (o : Option Record) → counted_items c page k left o [] ≡ 0
unfolding item_at
empty_count c page zero left o = refl
empty_count false page (suc k) left o = refl
empty_count true page (suc k) left o = refl

-- it doesn't matter how many items are allowed, if these are enough
pub count_enough : (c : Bool) (page k k' left : ℕ) (o : Option Record) (bs : List ℕ) → 0 < page → 0 < left → length bs ≤ k → length bs ≤ k' → counted_items c page k left o bs ≡ counted_items c page k' left o bs
count_enough c page k k' left o [] p l h h' = empty_count c page k left o ∙ sym (empty_count c page k' left o)
count_enough c page zero k' left o (b ∷ bs) p l h h' = absurd (omega arith)
count_enough c page (suc k) zero left o (b ∷ bs) p l h h' = absurd (omega arith)
count_enough c page (suc k) (suc k') left o (b ∷ bs) p l h h' =
    same_count page left o (b ∷ bs) (λ m r rest. counted_items c page k m r rest) (λ m r rest. counted_items c page k' m r rest) (item_in c left (b ∷ bs)) p l (omega arith)
    (λ m r rest pos short. count_enough c page k k' m r rest p pos (omega arith) (omega arith))

pub count_step : (c : Bool) (page left : ℕ) (o : Option Record) (bs : List ℕ) → 0 < page → 0 < left
    → read_count c page left o bs ≡ count_from page left o bs (λ m r rest. read_count c page m r rest) (item_in c left bs)
unfolding item_at
count_step false page left o [] p l = refl
count_step true page left o [] p l = refl
count_step c page left o (b ∷ bs) p l =
    same_count page left o (b ∷ bs) (λ m r rest. counted_items c page (length bs) m r rest) (λ m r rest. read_count c page m r rest) (item_in c left (b ∷ bs)) p l (omega arith)
    (λ m r rest pos short. count_enough c page (length bs) (length rest) m r rest p pos (omega arith) (le_refl (length rest)))

pub count_item : (c : Bool) (page left : ℕ) (o : Option Record) (bs : List ℕ) (x : Item) → 0 < page → 0 < left → item_in c left bs ≡ x
    → read_count c page left o bs ≡ count_from page left o bs (λ m r rest. read_count c page m r rest) x
count_item c page left o bs x p l e = count_step c page left o bs p l ∙ ap (count_from page left o bs (λ m r rest. read_count c page m r rest)) e

-- ---- how a fragment's reading stops

closes_text : (d : List ℕ) (found : Option (List Entry)) (o : Option Record) (r : Reading) → closes found ≡ Some o → (None ≡ o) × ((with_entries d found r).stop ≡ r.stop)
closes_text d None o r e = absurd cc
closes_text d (Some es) o r e = (cc, refl)

closes_some : (found : Option (List ℕ)) (o : Option Record) (r : Reading) → closes (found then λ d. record_entries d) ≡ Some o → (None ≡ o) × ((with_text found r).stop ≡ r.stop)
closes_some None o r e = absurd cc
closes_some (Some d) o r e = closes_text d (record_entries d) o r e

bad_text : (d : List ℕ) (found : Option (List Entry)) (r : Reading) → closes found ≡ None → (with_entries d found r).stop ≡ at_fault BadRecord
bad_text d None r e = refl
bad_text d (Some es) r e = absurd cc

closes_none : (found : Option (List ℕ)) (r : Reading) → closes (found then λ d. record_entries d) ≡ None → (with_text found r).stop ≡ at_fault BadRecord
closes_none None r e = refl
closes_none (Some d) r e = bad_text d (record_entries d) r e

joined_on : (next : Option Record → Reading) (j : Joined) (o' : Option Record) → open_after j ≡ Some o' → (from_joined next j).stop ≡ (next o').stop
joined_on next (still_open d) o' h = ap (λ (o : Option Record). (next o).stop) (let q : Some d ≡ o' = cc in q)
joined_on next (complete d) o' h = let z = closes_some (text_of d) o' (next None) h in z.1 ∙ ap (λ (o : Option Record). (next o).stop) z.0
joined_on next out_of_sequence o' h = absurd cc

joined_here : (next : Option Record → Reading) (j : Joined) → open_after j ≡ None → (f : TailFault) × ((from_joined next j).stop ≡ at_fault f)
joined_here next (still_open d) h = absurd cc
joined_here next (complete d) h = (BadRecord, closes_none (text_of d) (next None) h)
joined_here next out_of_sequence h = (Sequence, refl)

module _ (c : Bool) (left : ℕ) (bs : List ℕ) (l : 0 < left) where
  p : 0 < page_size
  p = omega arith

  stop_on : (o o' : Option Record) (kind : Kind) (d : List ℕ) → opens o kind d ≡ Some o' → item_in c left bs ≡ fragment kind d
      → (read_from c page_size left o bs).stop ≡ (read_from c page_size (left_after page_size left (7 + length d)) o' (drop (7 + length d) bs)).stop
  stop_on o o' kind d h e =
      ap (λ (y : Reading). y.stop) (read_fragment c page_size left bs p l o kind d e)
      ∙ joined_on (λ x. read_from c page_size (left_after page_size left (7 + length d)) x (drop (7 + length d) bs)) (joined o kind d) o' h

  stop_here : (o : Option Record) (kind : Kind) (d : List ℕ) → opens o kind d ≡ None → item_in c left bs ≡ fragment kind d
      → (f : TailFault) × ((read_from c page_size left o bs).stop ≡ at_fault f)
  stop_here o kind d h e =
      let z = joined_here (λ x. read_from c page_size (left_after page_size left (7 + length d)) x (drop (7 + length d) bs)) (joined o kind d) h in
      (z.0, ap (λ (y : Reading). y.stop) (read_fragment c page_size left bs p l o kind d e) ∙ z.1)

  -- ---- where what is left of a segment stops, by the item in front
  module _ (at : ℕ) (o : Option Record) where
    at_zeros : item_in c left bs ≡ zeros → stop_at c at left o bs ≡ stop_at c (at + left) page_size o (drop left bs)
    at_zeros e =
        let s : (read_from c page_size left o bs).stop ≡ (read_from c page_size page_size o (drop left bs)).stop = ap (λ (y : Reading). y.stop) (read_zeros c page_size left bs p l o e) in
        let c : at + read_count c page_size left o bs ≡ at + left + read_count c page_size page_size o (drop left bs) = ap (λ (n : ℕ). at + n) (count_item c page_size left o bs zeros p l e) ∙ sym (add_assoc at left (read_count c page_size page_size o (drop left bs))) in
        rw (s, c) refl

    at_fragment : (o' : Option Record) (kind : Kind) (d : List ℕ) → opens o kind d ≡ Some o' → item_in c left bs ≡ fragment kind d
        → stop_at c at left o bs ≡ stop_at c (at + (7 + length d)) (left_after page_size left (7 + length d)) o' (drop (7 + length d) bs)
    at_fragment o' kind d h e =
        let s = stop_on o o' kind d h e in
        let n = read_count c page_size (left_after page_size left (7 + length d)) o' (drop (7 + length d) bs) in
        let c : at + read_count c page_size left o bs ≡ at + (7 + length d) + n =
        ap (λ (m : ℕ). at + m) (count_item c page_size left o bs (fragment kind d) p l e ∙ ap (count_after page_size left (7 + length d) bs (λ m r rest. read_count c page_size m r rest)) h) ∙ sym (add_assoc at (7 + length d) n) in
        rw (s, c) refl

    at_bad : (kind : Kind) (d : List ℕ) → opens o kind d ≡ None → item_in c left bs ≡ fragment kind d → (f : TailFault) × (stop_at c at left o bs ≡ (at_fault f, at))
    at_bad kind d h e =
        let s = stop_here o kind d h e in
        let c : at + read_count c page_size left o bs ≡ at + 0 = ap (λ (m : ℕ). at + m) (count_item c page_size left o bs (fragment kind d) p l e ∙ ap (count_after page_size left (7 + length d) bs (λ m r rest. read_count c page_size m r rest)) h) in
        let z : at + 0 ≡ at = omega arith in
        (s.0, rw (s.1, c, z) refl)

    at_wrong : (f : TailFault) → item_in c left bs ≡ wrong f → stop_at c at left o bs ≡ (end_of o (at_fault f), at)
    at_wrong f e =
        let s : (read_from c page_size left o bs).stop ≡ end_of o (at_fault f) = ap (λ (y : Reading). y.stop) (read_wrong c page_size left bs p l o f e) in
        let c : at + read_count c page_size left o bs ≡ at + 0 = ap (λ (m : ℕ). at + m) (count_item c page_size left o bs (wrong f) p l e) in
        let z : at + 0 ≡ at = omega arith in
        rw (s, c, z) refl

    pub at_nothing : item_in c left bs ≡ nothing → stop_at c at left o bs ≡ (end_of o between, at)
    at_nothing e =
        let s : (read_from c page_size left o bs).stop ≡ end_of o between = ap (λ (y : Reading). y.stop) (read_nothing c page_size left bs p l o e) in
        let c : at + read_count c page_size left o bs ≡ at + 0 = ap (λ (m : ℕ). at + m) (count_item c page_size left o bs nothing p l e) in
        let z : at + 0 ≡ at = omega arith in
        rw (s, c, z) refl

    pub at_begun : item_in c left bs ≡ begun → stop_at c at left o bs ≡ (end_of o inside, at)
    at_begun e =
        let s : (read_from c page_size left o bs).stop ≡ end_of o inside = ap (λ (y : Reading). y.stop) (read_begun c page_size left bs p l o e) in
        let c : at + read_count c page_size left o bs ≡ at + 0 = ap (λ (m : ℕ). at + m) (count_item c page_size left o bs begun p l e) in
        let z : at + 0 ≡ at = omega arith in
        rw (s, c, z) refl

-- ---- whatever comes later

module _ (c : Bool) (n at at' left left' : ℕ) (o o' : Option Record) where
  on_step : (rest rest' : List ℕ) (ends : ℕ) → ((more : List ℕ) → stop_at c at left o (rest ++ more) ≡ stop_at c at' left' o' (rest' ++ more))
      → (later : List Piece) → place_on c n at left o rest ends later ≡ place_on c n at' left' o' rest' ends later
  on_step rest rest' ends h [] =
      let e : stop_at c at left o rest ≡ stop_at c at' left' o' rest' = ap (stop_at c at left o) (sym (append-nil rest)) ∙ h [] ∙ ap (stop_at c at' left' o') (append-nil rest') in
      ap (λ (s : Stop × ℕ). record { segment = n; offset = s.1 }) e
  on_step rest rest' ends h (bytes b ∷ later) =
      on_step (rest ++ b) (rest' ++ b) ends (λ more. ap (stop_at c at left o) (append_assoc rest b more) ∙ h (b ++ more) ∙ ap (stop_at c at' left' o') (sym (append_assoc rest' b more))) later
  on_step rest rest' ends h (next_segment ∷ later) =
      let e : stop_at c at left o rest ≡ stop_at c at' left' o' rest' = ap (stop_at c at left o) (sym (append-nil rest)) ∙ h [] ∙ ap (stop_at c at' left' o') (append-nil rest') in
      ap (λ (s : Stop × ℕ). place_at n s (place_on c (ends + 1) 0 page_size None [] (ends + 1) later)) e
  on_step rest rest' ends h (may_compress ∷ later) = on_step rest rest' ends h later

  held_step : (rest rest' : List ℕ) → ((more : List ℕ) → stop_at c at left o (rest ++ more) ≡ stop_at c at' left' o' (rest' ++ more))
      → (w : List (ℕ × List ℕ)) (ended : Bool) (ends : ℕ) (later : List Piece) → place_held c n at left o rest w ended ends later ≡ place_held c n at' left' o' rest' w ended ends later
  held_step rest rest' h [] false ends later = on_step rest rest' ends h later
  held_step rest rest' h [] true ends later =
      let e : stop_at c at left o rest ≡ stop_at c at' left' o' rest' = ap (stop_at c at left o) (sym (append-nil rest)) ∙ h [] ∙ ap (stop_at c at' left' o') (append-nil rest') in
      ap (λ (s : Stop × ℕ). place_at n s (place_on c ends 0 page_size None [] ends later)) e
  held_step rest rest' h (w ∷ ws) ended ends later =
      let e : stop_at c at left o rest ≡ stop_at c at' left' o' rest' = ap (stop_at c at left o) (sym (append-nil rest)) ∙ h [] ∙ ap (stop_at c at' left' o') (append-nil rest') in
      ap (λ (s : Stop × ℕ). place_at n s (place_held c w.0 0 page_size None w.1 ws ended ends later)) e

module _ (c : Bool) (n at left : ℕ) (o : Option Record) where
  on_fault : (rest : List ℕ) (ends : ℕ) → ((more : List ℕ) → (f : TailFault) × (stop_at c at left o (rest ++ more) ≡ (at_fault f, at)))
      → (later : List Piece) → place_on c n at left o rest ends later ≡ record { segment = n; offset = at }
  on_fault rest ends h [] =
      let e = ap (stop_at c at left o) (sym (append-nil rest)) ∙ (h []).1 in
      ap (λ (s : Stop × ℕ). record { segment = n; offset = s.1 }) e
  on_fault rest ends h (bytes b ∷ later) =
      on_fault (rest ++ b) ends (λ more. ((h (b ++ more)).0, ap (stop_at c at left o) (append_assoc rest b more) ∙ (h (b ++ more)).1)) later
  on_fault rest ends h (next_segment ∷ later) =
      let e = ap (stop_at c at left o) (sym (append-nil rest)) ∙ (h []).1 in
      ap (λ (s : Stop × ℕ). place_at n s (place_on c (ends + 1) 0 page_size None [] (ends + 1) later)) e
  on_fault rest ends h (may_compress ∷ later) = on_fault rest ends h later

  held_fault : (rest : List ℕ) → ((more : List ℕ) → (f : TailFault) × (stop_at c at left o (rest ++ more) ≡ (at_fault f, at)))
      → (w : List (ℕ × List ℕ)) (ended : Bool) (ends : ℕ) (later : List Piece) → place_held c n at left o rest w ended ends later ≡ record { segment = n; offset = at }
  held_fault rest h [] false ends later = on_fault rest ends h later
  held_fault rest h [] true ends later =
      let e = ap (stop_at c at left o) (sym (append-nil rest)) ∙ (h []).1 in
      ap (λ (s : Stop × ℕ). place_at n s (place_on c ends 0 page_size None [] ends later)) e
  held_fault rest h (w ∷ ws) ended ends later =
      let e = ap (stop_at c at left o) (sym (append-nil rest)) ∙ (h []).1 in
      ap (λ (s : Stop × ℕ). place_at n s (place_held c w.0 0 page_size None w.1 ws ended ends later)) e

  -- a segment that has ended inside a record
  pub held_torn : (rest : List ℕ) → stop_at c at left o rest ≡ (inside, at) → (w : List (ℕ × List ℕ)) (ended : Bool) (ends : ℕ) (later : List Piece) → has_ended w ended ≡ true
      → place_held c n at left o rest w ended ends later ≡ record { segment = n; offset = at }
  held_torn rest e [] false ends later h = absurd cc
  held_torn rest e [] true ends later h = ap (λ (s : Stop × ℕ). place_at n s (place_on c ends 0 page_size None [] ends later)) e
  held_torn rest e (w ∷ ws) ended ends later h = ap (λ (s : Stop × ℕ). place_at n s (place_held c w.0 0 page_size None w.1 ws ended ends later)) e

none_before : (m : ℕ) → m ≡ 0 + m
none_before m = omega arith

-- a segment without a byte stops between records
none_held : (c : Bool) (n ends : ℕ) (later : List Piece) → place_on c n 0 page_size None [] ends (next_segment ∷ later) ≡ place_on c (ends + 1) 0 page_size None [] (ends + 1) later
unfolding item_at
none_held false n ends later = refl
none_held true n ends later = refl

-- at the start of a segment
pub place_start : (c : Bool) (n : ℕ) (text : List ℕ) (later : List Piece) → stop_in c page_size n text (unmarked later) ≡ place_on c n 0 page_size None text n later
unfolding segment_in stop_offset_in
place_start c n text [] = ap (λ (m : ℕ). record { segment = n; offset = m }) (none_before (read_count c page_size page_size None text))
place_start c n text (bytes b ∷ later) = place_start c n (text ++ b) later
place_start c n text (next_segment ∷ later) =
    ap (λ (m : ℕ). place_at n ((segment_in c page_size text).stop, m) (stop_in c page_size (n + 1) [] (unmarked later))) (none_before (read_count c page_size page_size None text))
    ∙ ap (place_at n (stop_at c 0 page_size None text)) (place_start c (n + 1) [] later)
place_start c n text (may_compress ∷ later) = place_start c n text later

-- the next segment begins
pub held_begun : (c : Bool) (n at left : ℕ) (o : Option Record) (rest : List ℕ) → stop_at c at left o rest ≡ (between, at)
    → (w : List (ℕ × List ℕ)) (ended : Bool) (ends t : ℕ) (later : List Piece) → has_ended w ended ≡ true → t ≡ ends
    → place_held c n at left o rest w ended ends later
    ≡ place_held c (begun_with w ended t).segment (begun_with w ended t).offset page_size None (begun_with w ended t).rest (begun_with w ended t).later (begun_with w ended t).ended ends later
held_begun c n at left o rest e [] false ends t later h q = absurd cc
held_begun c n at left o rest e [] true ends t later h q = ap (λ (s : Stop × ℕ). place_at n s (place_on c ends 0 page_size None [] ends later)) e ∙ ap (λ (m : ℕ). place_on c m 0 page_size None [] ends later) (sym q)
held_begun c n at left o rest e (w ∷ ws) ended ends t later h q = ap (λ (s : Stop × ℕ). place_at n s (place_held c w.0 0 page_size None w.1 ws ended ends later)) e

module _ (c : Bool) (left : ℕ) (rest : List ℕ) (l : 0 < left) (n at : ℕ) (w : List (ℕ × List ℕ)) (ended : Bool) (ends : ℕ) (later : List Piece) where
  pub held_zeros : (o : Option Record) → item_in c left rest ≡ zeros → place_held c n at left o rest w ended ends later ≡ place_held c n (at + left) page_size o (drop left rest) w ended ends later
  held_zeros o e =
      held_step c n at (at + left) left page_size o o rest (drop left rest)
      (λ more. let z = zeros_stay_at c left rest more e in at_zeros c left (rest ++ more) l at o z.0 ∙ ap (stop_at c (at + left) page_size o) z.1) w ended ends later

  pub held_fragment : (o o' : Option Record) (kind : Kind) (d : List ℕ) → opens o kind d ≡ Some o' → item_in c left rest ≡ fragment kind d
      → place_held c n at left o rest w ended ends later ≡ place_held c n (at + (7 + length d)) (left_after page_size left (7 + length d)) o' (drop (7 + length d) rest) w ended ends later
  held_fragment o o' kind d h e =
      held_step c n at (at + (7 + length d)) left (left_after page_size left (7 + length d)) o o' rest (drop (7 + length d) rest)
      (λ more. let z = fragment_stays_at c left rest more kind d e in at_fragment c left (rest ++ more) l at o o' kind d h z.0 ∙ ap (stop_at c (at + (7 + length d)) (left_after page_size left (7 + length d)) o') z.1) w ended ends later

  pub held_bad : (o : Option Record) (kind : Kind) (d : List ℕ) → opens o kind d ≡ None → item_in c left rest ≡ fragment kind d → place_held c n at left o rest w ended ends later ≡ record { segment = n; offset = at }
  held_bad o kind d h e = held_fault c n at left o rest (λ more. at_bad c left (rest ++ more) l at o kind d h (fragment_stays_at c left rest more kind d e).0) w ended ends later

  pub held_wrong : (o : Option Record) (f : TailFault) → item_in c left rest ≡ wrong f → place_held c n at left o rest w ended ends later ≡ record { segment = n; offset = at }
  held_wrong None f e = held_fault c n at left None rest (λ more. (f, at_wrong c left (rest ++ more) l at None f (wrong_stays_at c left rest more f e))) w ended ends later
  held_wrong (Some d) f e = held_fault c n at left (Some d) rest (λ more. (f, at_wrong c left (rest ++ more) l at (Some d) f (wrong_stays_at c left rest more f e))) w ended ends later

-- ---- more pieces

pub held_marked : (c : Bool) (n at left : ℕ) (o : Option Record) (rest : List ℕ) (w : List (ℕ × List ℕ)) (ended : Bool) (ends : ℕ) (later : List Piece)
    → place_held c n at left o rest w ended ends (next_segment ∷ later) ≡ place_held c n at left o rest w true (ends + 1) later
held_marked c n at left o rest [] false ends later = refl
held_marked c n at left o rest [] true ends later = ap (place_at n (stop_at c at left o rest)) (none_held c ends ends later)
held_marked c n at left o rest (w ∷ ws) ended ends later = ap (place_at n (stop_at c at left o rest)) (held_marked c w.0 0 page_size None w.1 ws ended ends later)

held_new : (c : Bool) (n at left : ℕ) (o : Option Record) (rest b : List ℕ) (w : List (ℕ × List ℕ)) (ends t : ℕ) (later : List Piece) → t ≡ ends
    → place_held c n at left o rest w true ends (bytes b ∷ later) ≡ place_held c n at left o rest (w ++ (t, b) ∷ []) false ends later
held_new c n at left o rest b [] ends t later q = ap (place_at n (stop_at c at left o rest)) (ap (λ (m : ℕ). place_on c m 0 page_size None b ends later) (sym q))
held_new c n at left o rest b (w ∷ ws) ends t later q = ap (place_at n (stop_at c at left o rest)) (held_new c w.0 0 page_size None w.1 b ws ends t later q)

held_extended : (c : Bool) (n at left : ℕ) (o : Option Record) (rest b : List ℕ) (w : ℕ × List ℕ) (ws : List (ℕ × List ℕ)) (ends : ℕ) (later : List Piece)
    → place_held c n at left o rest (w ∷ ws) false ends (bytes b ∷ later) ≡ place_held c n at left o rest (extend_last b (w ∷ ws)) false ends later
held_extended c n at left o rest b w [] ends later = refl
held_extended c n at left o rest b w (v ∷ vs) ends later = ap (place_at n (stop_at c at left o rest)) (held_extended c w.0 0 page_size None w.1 b v vs ends later)

pub held_fed : (c : Bool) (left : ℕ) (o : Option Record) (b : List ℕ) (h : Held) (later : List (ℕ × List ℕ)) (ended : Bool) (ends : ℕ) (more : List Piece) → h.ends ≡ ends
    → place_held c h.segment h.offset left o h.rest later ended ends (bytes b ∷ more) ≡ place_from None c left o (fed_with b h later ended) ends more
held_fed c left o b h later true ends more q = held_new c h.segment h.offset left o h.rest b later ends h.ends more q
held_fed c left o b h [] false ends more q = refl
held_fed c left o b h (s ∷ ss) false ends more q = held_extended c h.segment h.offset left o h.rest b s ss ends more
