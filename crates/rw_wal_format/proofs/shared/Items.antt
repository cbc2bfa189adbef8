-- What is read of a segment, an item at a time: the steps of a reader.
use Rattle.std.proofs.Common.{◌≡◌, ℕ, zero, suc, ◌+◌, ◌<◌, ◌≤◌, List, [], ◌∷◌, ◌++◌, length, drop, Bool, true, false, Option, refl, sym, ap, ◌∙◌, arith, length-drop, le_refl}
use Rattle.rw_wal_format.specs.Segments.{Kind, Item, nothing, begun, zeros, fragment, wrong, item_at, item_in, between, inside, at_fault, Layout, with_fragment, left_after, from_item, layout_of, Reading, Record, stopped, joined, from_joined, end_of, reading_of, read_from}
use Rattle.rw_wal_format.proofs.shared.Growing.{Stays, item_in-stays, left_after_pos}
use Rattle.rw_wal_format.specs.declared.tail_fault.TailFault.{TailFault}

same_from : (page left : ℕ) (bs : List ℕ) (next next' : ℕ → List ℕ → Layout) (x y : Item) → Stays left (length bs) x y → 0 < page → 0 < left → 0 < length bs
    → ((l : ℕ) (rest : List ℕ) → 0 < l → length rest < length bs → next l rest ≡ next' l rest)
    → from_item page left bs next x ≡ from_item page left bs next' x
unfolding Stays
same_from page left bs next next' nothing y s p l n ih = refl
same_from page left bs next next' begun y s p l n ih = refl
same_from page left bs next next' zeros y s p l n ih = ih page (drop left bs) p (omega (arith, length-drop left bs))
same_from page left bs next next' (fragment kind d) y s p l n ih =
    ap (with_fragment kind d) (ih (left_after page left (7 + length d)) (drop (7 + length d) bs) (left_after_pos page left (7 + length d) p) (omega (arith, length-drop (7 + length d) bs)))
same_from page left bs next next' (wrong f) y s p l n ih = refl

empty_layout : (c : Bool) (page k left : ℕ) → layout_of c page k left [] ≡ record { fragments = []; stop = between }
unfolding item_at
empty_layout c page zero left = refl
empty_layout false page (suc k) left = refl
empty_layout true page (suc k) left = refl

-- it doesn't matter how many items are allowed, if these are enough
pub layout_enough : (c : Bool) (page k k' left : ℕ) (bs : List ℕ) → 0 < page → 0 < left → length bs ≤ k → length bs ≤ k'
    → layout_of c page k left bs ≡ layout_of c page k' left bs
layout_enough c page k k' left [] p l h h' = empty_layout c page k left ∙ sym (empty_layout c page k' left)
layout_enough c page zero k' left (b ∷ bs) p l h h' = absurd (omega arith)
layout_enough c page (suc k) zero left (b ∷ bs) p l h h' = absurd (omega arith)
layout_enough c page (suc k) (suc k') left (b ∷ bs) p l h h' =
    same_from page left (b ∷ bs) (λ m rest. layout_of c page k m rest) (λ m rest. layout_of c page k' m rest) (item_in c left (b ∷ bs)) (item_in c left ((b ∷ bs) ++ []))
    (item_in-stays c left (b ∷ bs) []) p l (omega arith)
    (λ m rest pos short. layout_enough c page k k' m rest p pos (omega arith) (omega arith))

-- the layout of what is left of a segment
pub layout_from : Bool → ℕ → ℕ → List ℕ → Layout
layout_from c page left rest = layout_of c page (length rest) left rest

pub layout_step : (c : Bool) (page left : ℕ) (bs : List ℕ) → 0 < page → 0 < left → layout_from c page left bs ≡ from_item page left bs (layout_from c page) (item_in c left bs)
unfolding layout_from item_at
layout_step false page left [] p l = refl
layout_step true page left [] p l = refl
layout_step c page left (b ∷ bs) p l =
    same_from page left (b ∷ bs) (λ m rest. layout_of c page (length bs) m rest) (layout_from c page) (item_in c left (b ∷ bs)) (item_in c left ((b ∷ bs) ++ []))
    (item_in-stays c left (b ∷ bs) []) p l (omega arith)
    (λ m rest pos short. layout_enough c page (length bs) (length rest) m rest p pos (omega arith) (le_refl (length rest)))

abbrev pub of_layout : Option Record → Layout → Reading
of_layout so_far l = reading_of so_far l.fragments l.stop

-- what is read, by the item that is in front
abbrev pub read_item : Bool → ℕ → ℕ → Option Record → List ℕ → Item → Reading
read_item c page left so_far bs x = of_layout so_far (from_item page left bs (layout_from c page) x)

pub read_step : (c : Bool) (page left : ℕ) (so_far : Option Record) (bs : List ℕ) (x : Item) → 0 < page → 0 < left → item_in c left bs ≡ x
    → read_from c page left so_far bs ≡ read_item c page left so_far bs x
unfolding layout_from
read_step c page left so_far bs x p l e = ap (of_layout so_far) (layout_step c page left bs p l ∙ ap (from_item page left bs (layout_from c page)) e)

module _ (c : Bool) (page left : ℕ) (bs : List ℕ) (p : 0 < page) (l : 0 < left) where
  -- zeros to the page's end are passed over
  pub read_zeros : (so_far : Option Record) → item_in c left bs ≡ zeros → read_from c page left so_far bs ≡ read_from c page page so_far (drop left bs)
  unfolding layout_from
  read_zeros so_far e = read_step c page left so_far bs zeros p l e

  -- the text ends between records, or inside one
  pub read_nothing : (so_far : Option Record) → item_in c left bs ≡ nothing → read_from c page left so_far bs ≡ stopped (end_of so_far between)
  read_nothing so_far e = read_step c page left so_far bs nothing p l e

  pub read_begun : (so_far : Option Record) → item_in c left bs ≡ begun → read_from c page left so_far bs ≡ stopped (end_of so_far inside)
  read_begun so_far e = read_step c page left so_far bs begun p l e

  pub read_wrong : (so_far : Option Record) (f : TailFault) → item_in c left bs ≡ wrong f → read_from c page left so_far bs ≡ stopped (end_of so_far (at_fault f))
  read_wrong so_far f e = read_step c page left so_far bs (wrong f) p l e

  -- a fragment goes on with the record that is open, or begins one
  pub read_fragment : (so_far : Option Record) (kind : Kind) (d : List ℕ) → item_in c left bs ≡ fragment kind d
      → read_from c page left so_far bs ≡ from_joined (λ o. read_from c page (left_after page left (7 + length d)) o (drop (7 + length d) bs)) (joined so_far kind d)
  unfolding layout_from
  read_fragment so_far kind d e = read_step c page left so_far bs (fragment kind d) p l e
