-- Feeding more only extends what is read: the entries stay, and so does a fault.
use Rattle.std.proofs.Common.{◌≡◌, ℕ, zero, suc, ◌+◌, ◌-◌, ◌<◌, ◌≤◌, List, [], ◌∷◌, ◌++◌, length, take, drop, Option, Some, None, Bool, true, false, not, cond, ltb, eqb, refl, sym, ap, ◌∙◌, subst, inl, inr, ◌⊎◌, arith, lt-ltb, le-ltb, append_assoc, append-nil, length-append, length-drop, length-take, nat_lt, nat_le, ◌||◌, take_all, le_refl}
use Rattle.std.proofs.lemmas.Bool.{cases_lt}
use Rattle.std.proofs.lemmas.List.{take-append-le, drop-append-le}
use Rattle.std.proofs.lemmas.List.Folds.{list_all-append}
use Rattle.std.proofs.Math.Seq.{take-append-add}
use Rattle.std.specs.List.{list_all}
use Rattle.byteorder.specs.Endian.{big_number}
use Rattle.byteorder.specs.Numbers.{big_from-append}
use Rattle.rw_codes.specs.Crc.{crc32c_of}
use Rattle.rw_wal_format.specs.Records.{record_entries}
use Rattle.rw_wal_format.specs.Skipped.{skips_of}
use Rattle.rw_wal_format.specs.declared.skipped_type.SkippedType.{SkippedType}
use Rattle.rw_types.specs.declared.entry.Entry.{Entry}
use Rattle.rw_wal_format.specs.Segments.{Kind, full, first, middle, last, snappy, IsPlain, Item, nothing, begun, zeros, fragment, wrong, zeros_at, data_at, fragment_at, item_at, item_in, Stop, between, inside, at_fault, Layout, with_fragment, left_after, from_item, layout_of, Reading, Record, stopped, with_entries, text_of, with_text, with_record, Joined, still_open, complete, out_of_sequence, joined, from_joined, end_of, reading_of, segment_in}
use Rattle.rw_wal_format.specs.Laws.{Extends}
use Rattle.rw_wal_format.specs.Pieces.{Piece, bytes, next_segment, may_compress, then_next, then_after, compresses_after, reading_in, reading}
use Rattle.rw_wal_format.specs.declared.tail_fault.TailFault.{TailFault}
use Rattle.rw_wal_format.specs.declared.tail_fault.TailFault.TheVariants.{BadType, BadCrc, Compressed, NonzeroPadding}

bool_cases : (b : Bool) → (b ≡ true) ⊎ (b ≡ false)
bool_cases true = inl refl
bool_cases false = inr refl

-- ---- an item that is whole, or a fault, stays

-- x is at the front of len bytes with `left` bytes of the page, and y there when more has come
unfoldable pub Stays : ℕ → ℕ → Item → Item → Type 0
Stays left len nothing y = Unit {0}
Stays left len begun y = Unit {0}
Stays left len zeros y = (left ≤ len) × (y ≡ zeros)
Stays left len (fragment k d) y = (7 + length d ≤ len) × (7 + length d ≤ left) × (y ≡ fragment k d)
Stays left len (wrong f) y = y ≡ wrong f

module _ (left len : ℕ) where
  begun_stays : (y : Item) → Stays left len begun y
  unfolding Stays
  begun_stays y = tt

  nothing_stays : (y : Item) → Stays left len nothing y
  unfolding Stays
  nothing_stays y = tt

  wrong_stays : (f : TailFault) → Stays left len (wrong f) (wrong f)
  unfolding Stays
  wrong_stays f = refl

  cond_stays : (b : Bool) (x x' y y' : Item) → Stays left len x y → Stays left len x' y' → Stays left len (cond b x x') (cond b y y')
  cond_stays true x x' y y' s t = s
  cond_stays false x x' y y' s t = t

zeros_stay : (left : ℕ) (bs more : List ℕ) → Stays left (length bs) (zeros_at left bs) (zeros_at left (bs ++ more))
unfolding Stays
zeros_stay left bs more = elim (cases_lt (length bs) left) [
  | inl l ↦
      (let a : take left bs ≡ bs = take_all left bs (omega arith) in
      let e : length bs + (left - length bs) ≡ left = omega arith in
      let b : take left (bs ++ more) ≡ bs ++ take (left - length bs) more = subst (λ (n : ℕ). take n (bs ++ more) ≡ bs ++ take (left - length bs) more) e (take-append-add bs more (left - length bs)) in
      elim (bool_cases (list_all (λ b. eqb b 0) bs)) [
        | inl t ↦ (let s : ltb (length bs) left ≡ true = lt-ltb (length bs) left l in rw (a, t, s) tt)
        | inr f ↦ (rw (a, f, b, list_all-append (λ b. eqb b 0) bs (take (left - length bs) more), f) refl)
      ])
  | inr g ↦
      (let a : take left (bs ++ more) ≡ take left bs = take-append-le left bs more g in
      let t : ltb (length bs) left ≡ false = le-ltb (length bs) left g in
      let g' : left ≤ length (bs ++ more) = omega (arith, length-append bs more) in
      let t' : ltb (length (bs ++ more)) left ≡ false = le-ltb (length (bs ++ more)) left g' in
      rw (a, t, t') (cond_stays left (length bs) (not (list_all (λ b. eqb b 0) (take left bs))) (wrong NonzeroPadding) zeros (wrong NonzeroPadding) zeros refl (g, refl)))
]

data_stays : (kind : Kind) (left n crc : ℕ) (rest more : List ℕ) → Stays left (7 + length rest) (data_at kind left n crc rest) (data_at kind left n crc (rest ++ more))
unfolding Stays
data_stays kind left n crc rest more = elim (cases_lt left (7 + n)) [
  | inl l ↦ (let t : ltb left (7 + n) ≡ true = lt-ltb left (7 + n) l in rw t refl)
  | inr g ↦
      (let t : ltb left (7 + n) ≡ false = le-ltb left (7 + n) g in
      elim (cases_lt (length rest) n) [
        | inl l ↦ (let u : ltb (length rest) n ≡ true = lt-ltb (length rest) n l in rw (t, u) tt)
        | inr h ↦
            (let u : ltb (length rest) n ≡ false = le-ltb (length rest) n h in
            let u' : ltb (length (rest ++ more)) n ≡ false = le-ltb (length (rest ++ more)) n (omega (arith, length-append rest more)) in
            let a : take n (rest ++ more) ≡ take n rest = take-append-le n rest more h in
            let whole : 7 + length (take n rest) ≤ 7 + length rest = omega (arith, length-take n rest) in
            let fits : 7 + length (take n rest) ≤ left = omega (arith, length-take n rest) in
            rw (t, u, u', a) (cond_stays left (7 + length rest) (eqb (crc32c_of (take n rest)) crc) (fragment kind (take n rest)) (wrong BadCrc) (fragment kind (take n rest)) (wrong BadCrc) (whole, fits, refl) refl))
      ])
]

fragment_more : (kind : Kind) (left : ℕ) (bs more : List ℕ) → 6 ≤ length bs
    → fragment_at kind left (bs ++ more) ≡ data_at kind left (big_number 2 bs) (big_number 4 (drop 2 bs)) (drop 6 bs ++ more)
fragment_more kind left bs more g =
    let t' : ltb (length (bs ++ more)) 6 ≡ false = le-ltb (length (bs ++ more)) 6 (omega (arith, length-append bs more)) in
    let n : big_number 2 (bs ++ more) ≡ big_number 2 bs = big_from-append 2 bs more (omega arith) in
    let r : drop 6 (bs ++ more) ≡ drop 6 bs ++ more = drop-append-le 6 bs more g in
    let r2 : drop 2 (bs ++ more) ≡ drop 2 bs ++ more = drop-append-le 2 bs more (omega arith) in
    let c : big_number 4 (drop 2 bs ++ more) ≡ big_number 4 (drop 2 bs) = big_from-append 4 (drop 2 bs) more (omega (arith, length-drop 2 bs)) in
    rw t' (ap (λ (m : ℕ). data_at kind left m (big_number 4 (drop 2 (bs ++ more))) (drop 6 (bs ++ more))) n
    ∙ ap (λ (x : List ℕ). data_at kind left (big_number 2 bs) (big_number 4 x) (drop 6 (bs ++ more))) r2
    ∙ ap (λ (m : ℕ). data_at kind left (big_number 2 bs) m (drop 6 (bs ++ more))) c
    ∙ ap (λ (x : List ℕ). data_at kind left (big_number 2 bs) (big_number 4 (drop 2 bs)) x) r)

fragment_stays : (kind : Kind) (left : ℕ) (bs more : List ℕ) → Stays left (suc (length bs)) (fragment_at kind left bs) (fragment_at kind left (bs ++ more))
fragment_stays kind left bs more = elim (cases_lt (length bs) 6) [
  | inl l ↦ (let t : ltb (length bs) 6 ≡ true = lt-ltb (length bs) 6 l in rw t (begun_stays left (suc (length bs)) _))
  | inr g ↦
      (let t : ltb (length bs) 6 ≡ false = le-ltb (length bs) 6 g in
      let e : fragment_at kind left bs ≡ data_at kind left (big_number 2 bs) (big_number 4 (drop 2 bs)) (drop 6 bs) = rw t refl in
      let len : 7 + length (drop 6 bs) ≡ suc (length bs) = omega (arith, length-drop 6 bs) in
      let s : Stays left (7 + length (drop 6 bs)) (data_at kind left (big_number 2 bs) (big_number 4 (drop 2 bs)) (drop 6 bs)) (data_at kind left (big_number 2 bs) (big_number 4 (drop 2 bs)) (drop 6 bs ++ more)) =
      data_stays kind left (big_number 2 bs) (big_number 4 (drop 2 bs)) (drop 6 bs) more in
      let s1 = subst (λ (k : ℕ). Stays left k (data_at kind left (big_number 2 bs) (big_number 4 (drop 2 bs)) (drop 6 bs)) (data_at kind left (big_number 2 bs) (big_number 4 (drop 2 bs)) (drop 6 bs ++ more))) len s in
      let s2 = subst (λ (x : Item). Stays left (suc (length bs)) x (data_at kind left (big_number 2 bs) (big_number 4 (drop 2 bs)) (drop 6 bs ++ more))) (sym e) s1 in
      subst (λ (y : Item). Stays left (suc (length bs)) (fragment_at kind left bs) y) (sym (fragment_more kind left bs more g)) s2)
]

-- what has come of an item: as more comes, a whole one and a fault stay
pub item_stays : (left : ℕ) (bs more : List ℕ) → Stays left (length bs) (item_at left bs) (item_at left (bs ++ more))
unfolding item_at Stays
item_stays left [] more = tt
item_stays left (b ∷ bs) more =
    let n = suc (length bs) in
    let f = λ (k : Kind). fragment_at k left bs in
    let g = λ (k : Kind). fragment_at k left (bs ++ more) in
    cond_stays left n (nat_lt left 7 || eqb b 0) _ _ _ _ (zeros_stay left (b ∷ bs) more)
    (cond_stays left n (eqb b 1) _ _ _ _ (fragment_stays full left bs more)
    (cond_stays left n (eqb b 2) _ _ _ _ (fragment_stays first left bs more)
    (cond_stays left n (eqb b 3) _ _ _ _ (fragment_stays middle left bs more)
    (cond_stays left n (eqb b 4) _ _ _ _ (fragment_stays last left bs more)
    (cond_stays left n (nat_le 8 b) _ _ _ _ (cond_stays left n (nat_lt b 32) _ _ _ _ (wrong_stays left n Compressed) (wrong_stays left n BadType)) (wrong_stays left n BadType))))))

-- without the flag of Snappy, a fragment is of a type without it
abbrev IsPlainItem : Item → Type 0
IsPlainItem (fragment kind d) = IsPlain kind
IsPlainItem _ = Unit {0}

cond_plain : (b : Bool) (x y : Item) → IsPlainItem x → IsPlainItem y → IsPlainItem (cond b x y)
cond_plain true x y p q = p
cond_plain false x y p q = q

fragment_plain : (kind : Kind) (left : ℕ) (bs : List ℕ) → IsPlain kind → IsPlainItem (fragment_at kind left bs)
fragment_plain kind left bs plain =
    cond_plain (nat_lt (length bs) 6) _ _ tt
    (cond_plain (nat_lt left (7 + big_number 2 bs)) _ _ tt
    (cond_plain (nat_lt (length (drop 6 bs)) (big_number 2 bs)) _ _ tt
    (cond_plain (eqb (crc32c_of (take (big_number 2 bs) (drop 6 bs))) (big_number 4 (drop 2 bs))) _ _ plain tt)))

item_plain : (left : ℕ) (bs : List ℕ) → IsPlainItem (item_at left bs)
unfolding item_at
item_plain left [] = tt
item_plain left (b ∷ bs) =
    cond_plain (nat_lt left 7 || eqb b 0) _ _
    (cond_plain (not (list_all (λ x. eqb x 0) (take left (b ∷ bs)))) _ _ tt (cond_plain (nat_lt (length (b ∷ bs)) left) _ _ tt tt))
    (cond_plain (eqb b 1) _ _ (fragment_plain full left bs tt)
    (cond_plain (eqb b 2) _ _ (fragment_plain first left bs tt)
    (cond_plain (eqb b 3) _ _ (fragment_plain middle left bs tt)
    (cond_plain (eqb b 4) _ _ (fragment_plain last left bs tt)
    (cond_plain (nat_le 8 b) _ _ (cond_plain (nat_lt b 32) _ _ tt tt) tt)))))

pub kind_plain : (left : ℕ) (bs : List ℕ) (kind : Kind) (d : List ℕ) → item_at left bs ≡ fragment kind d → IsPlain kind
kind_plain left bs kind d e = subst IsPlainItem e (item_plain left bs)

-- the same in a log that may have Snappy blocks
pub item_in-stays : (c : Bool) (left : ℕ) (bs more : List ℕ) → Stays left (length bs) (item_in c left bs) (item_in c left (bs ++ more))
item_in-stays false left bs more = item_stays left bs more
item_in-stays true left [] more = nothing_stays left 0 _
item_in-stays true left (b ∷ bs) more =
    let n = suc (length bs) in
    let plain = item_stays left (b ∷ bs) more in
    cond_stays left n (nat_lt left 7) _ _ _ _ plain
    (cond_stays left n (eqb b 9) _ _ _ _ (fragment_stays (snappy full) left bs more)
    (cond_stays left n (eqb b 10) _ _ _ _ (fragment_stays (snappy first) left bs more)
    (cond_stays left n (eqb b 11) _ _ _ _ (fragment_stays (snappy middle) left bs more)
    (cond_stays left n (eqb b 12) _ _ _ _ (fragment_stays (snappy last) left bs more) plain))))

-- ---- the fragments stay

-- b has the fragments of a, and more; if a has a fault, b is a
pub record Continues (a b : Layout) : Type 0 where
  pub more : List (Kind × List ℕ)
  pub fragments : b.fragments ≡ a.fragments ++ more
  pub stays : (f : TailFault) → a.stop ≡ at_fault f → b ≡ a

continues_none : (s : Stop) (b : Layout) → ((f : TailFault) → s ≡ at_fault f → ⊥) → Continues (record { fragments = []; stop = s }) b
continues_none s b open_end = record { more = b.fragments; fragments = refl; stays = λ f e. absurd (open_end f e) }

between_open : (f : TailFault) → between ≡ at_fault f → ⊥
between_open f e = cc

inside_open : (f : TailFault) → inside ≡ at_fault f → ⊥
inside_open f e = cc

continues_same : (a : Layout) → Continues a a
continues_same a = record { more = []; fragments = sym (append-nil a.fragments); stays = λ f e. refl }

continues_with : (kind : Kind) (d : List ℕ) (a b : Layout) → Continues a b → Continues (with_fragment kind d a) (with_fragment kind d b)
continues_with kind d a b c = record {
  more = c.more;
  fragments = ap (λ (fs : List (Kind × List ℕ)). (kind, d) ∷ fs) c.fragments;
  stays = λ f e. ap (with_fragment kind d) (c.stays f e);
}

pub left_after_pos : (page left n : ℕ) → 0 < page → 0 < left_after page left n
left_after_pos page left n h = elim (cases_lt n left) [
  | inl l ↦ (let t : ltb n left ≡ true = lt-ltb n left l in rw t (omega arith))
  | inr g ↦ (let t : ltb n left ≡ false = le-ltb n left g in rw t h)
]

step_continues : (page left : ℕ) (bs more : List ℕ) (next next' : ℕ → List ℕ → Layout) (x y : Item) → Stays left (length bs) x y → 0 < page → 0 < left → 0 < length bs
    → ((l : ℕ) (rest : List ℕ) → 0 < l → length rest < length bs → Continues (next l rest) (next' l (rest ++ more)))
    → Continues (from_item page left bs next x) (from_item page left (bs ++ more) next' y)
unfolding Stays
step_continues page left bs more next next' nothing y s p l n ih = continues_none between _ between_open
step_continues page left bs more next next' begun y s p l n ih = continues_none inside _ inside_open
step_continues page left bs more next next' zeros y s p l n ih =
    let d : drop left (bs ++ more) ≡ drop left bs ++ more = drop-append-le left bs more s.0 in
    rw (s.1, d) (ih page (drop left bs) p (omega (arith, length-drop left bs)))
step_continues page left bs more next next' (fragment kind data_) y s p l n ih =
    let d : drop (7 + length data_) (bs ++ more) ≡ drop (7 + length data_) bs ++ more = drop-append-le (7 + length data_) bs more s.0 in
    rw (s.2, d) (continues_with kind data_ _ _ (ih (left_after page left (7 + length data_)) (drop (7 + length data_) bs) (left_after_pos page left (7 + length data_) p) (omega (arith, length-drop (7 + length data_) bs))))
step_continues page left bs more next next' (wrong f) y s p l n ih = rw s (continues_same _)

empty_continues : (c : Bool) (page k k' left : ℕ) (more : List ℕ) → Continues (layout_of c page (suc k) left []) (layout_of c page k' left more)
unfolding item_at
empty_continues false page k k' left more = continues_none between _ between_open
empty_continues true page k k' left more = continues_none between _ between_open

pub layout_grows : (c : Bool) (page k k' left : ℕ) (bs more : List ℕ) → 0 < page → 0 < left → length bs ≤ k → length (bs ++ more) ≤ k'
    → Continues (layout_of c page k left bs) (layout_of c page k' left (bs ++ more))
layout_grows c page zero k' left bs more p l h h' = continues_none between _ between_open
layout_grows c page (suc k) k' left [] more p l h h' = empty_continues c page k k' left more
layout_grows c page (suc k) zero left (b ∷ bs) more p l h h' = absurd (omega arith)
layout_grows c page (suc k) (suc k') left (b ∷ bs) more p l h h' =
    step_continues page left (b ∷ bs) more (λ m rest. layout_of c page k m rest) (λ m rest. layout_of c page k' m rest) (item_in c left (b ∷ bs)) (item_in c left (b ∷ (bs ++ more)))
    (item_in-stays c left (b ∷ bs) more) p l (omega arith)
    (λ m rest pos short. layout_grows c page k k' m rest more p pos (omega arith) (omega (arith, length-append rest more, length-append bs more)))

-- ---- the entries stay

pub extends_same : (r : Reading) → Extends r r
extends_same r = record { more = []; entries = sym (append-nil r.entries); more_skipped = []; skipped = sym (append-nil r.skipped); stays = λ f e. refl }

pub extends_trans : (r s t : Reading) → Extends r s → Extends s t → Extends r t
extends_trans r s t a b = record {
  more = a.more ++ b.more;
  entries = b.entries ∙ ap (λ (es : List Entry). es ++ b.more) a.entries ∙ append_assoc r.entries a.more b.more;
  more_skipped = a.more_skipped ++ b.more_skipped;
  skipped = b.skipped ∙ ap (λ (ts : List SkippedType). ts ++ b.more_skipped) a.skipped ∙ append_assoc r.skipped a.more_skipped b.more_skipped;
  stays = λ f e. let q : s ≡ r = a.stays f e in let e' : s.stop ≡ at_fault f = ap (λ (x : Reading). x.stop) q ∙ e in b.stays f e' ∙ q;
}

extends_none : (st : Stop) (s : Reading) → ((f : TailFault) → st ≡ at_fault f → ⊥) → Extends (stopped st) s
extends_none st s open_end = record { more = s.entries; entries = refl; more_skipped = s.skipped; skipped = refl; stays = λ f e. absurd (open_end f e) }

end_open : (so_far : Option Record) (st : Stop) → ((f : TailFault) → st ≡ at_fault f → ⊥) → (f : TailFault) → end_of so_far st ≡ at_fault f → ⊥
end_open None st h = h
end_open (Some d) between h = inside_open
end_open (Some d) inside h = inside_open
end_open (Some d) (at_fault g) h = h

with_entries_extends : (d : List ℕ) (found : Option (List Entry)) (r s : Reading) → Extends r s → Extends (with_entries d found r) (with_entries d found s)
with_entries_extends d None r s x = extends_same _
with_entries_extends d (Some es) r s x = record {
  more = x.more;
  entries = ap (λ (l : List Entry). es ++ l) x.entries ∙ sym (append_assoc es r.entries x.more);
  more_skipped = x.more_skipped;
  skipped = ap (λ (l : List SkippedType). skips_of d ++ l) x.skipped ∙ sym (append_assoc (skips_of d) r.skipped x.more_skipped);
  stays = λ f e. ap (with_entries d (Some es)) (x.stays f e);
}

with_text-extends : (found : Option (List ℕ)) (r s : Reading) → Extends r s → Extends (with_text found r) (with_text found s)
with_text-extends None r s x = extends_same _
with_text-extends (Some d) r s x = with_entries_extends d (record_entries d) r s x

with_extends : (d : Record) (r s : Reading) → Extends r s → Extends (with_record d r) (with_record d s)
with_extends d r s x = with_text-extends (text_of d) r s x

joined_extends : (next next' : Option Record → Reading) (j : Joined) → ((o : Option Record) → Extends (next o) (next' o)) → Extends (from_joined next j) (from_joined next' j)
joined_extends next next' (still_open d) h = h (Some d)
joined_extends next next' (complete d) h = with_extends d _ _ (h None)
joined_extends next next' out_of_sequence h = extends_same _

pub reading_grows : (so_far : Option Record) (fs gs : List (Kind × List ℕ)) (s s' : Stop) → ((f : TailFault) → s ≡ at_fault f → ⊥)
    → Extends (reading_of so_far fs s) (reading_of so_far (fs ++ gs) s')
reading_grows so_far [] gs s s' h = extends_none (end_of so_far s) _ (end_open so_far s h)
reading_grows so_far ((kind, d) ∷ fs) gs s s' h = joined_extends _ _ (joined so_far kind d) (λ o. reading_grows o fs gs s s' h)

-- a fault, or none
stop_cases : (s : Stop) → ((f : TailFault) × (s ≡ at_fault f)) ⊎ ((f : TailFault) → s ≡ at_fault f → ⊥)
stop_cases between = inr between_open
stop_cases inside = inr inside_open
stop_cases (at_fault f) = inl (f, refl)

read_all : Layout → Reading
read_all l = reading_of None l.fragments l.stop

all_extends : (a b : Layout) → Continues a b → Extends (read_all a) (read_all b)
unfolding read_all
all_extends a b c = elim (stop_cases a.stop) [
  | inl x ↦ subst (λ (l : Layout). Extends (read_all a) (read_all l)) (sym (c.stays x.0 x.1)) (extends_same _)
  | inr h ↦ subst (λ (fs : List (Kind × List ℕ)). Extends (read_all a) (reading_of None fs b.stop)) (sym c.fragments) (reading_grows None a.fragments c.more a.stop b.stop h)
]

-- what is read of a segment only grows as more of it comes
pub segment_grows : (c : Bool) (page : ℕ) (text more : List ℕ) → 0 < page → Extends (segment_in c page text) (segment_in c page (text ++ more))
unfolding segment_in read_all
segment_grows c page text more p =
    all_extends _ _ (layout_grows c page (length text) (length (text ++ more)) page text more p p (le_refl (length text)) (le_refl (length (text ++ more))))

then_front : (s : Stop) (r next : Reading) → r.stop ≡ s → Extends r (then_after s r next)
then_front between r next e = record { more = next.entries; entries = refl; more_skipped = next.skipped; skipped = refl; stays = λ f e'. absurd (between_open f (sym e ∙ e')) }
then_front inside r next e = record { more = []; entries = sym (append-nil r.entries); more_skipped = []; skipped = sym (append-nil r.skipped); stays = λ f e'. absurd (inside_open f (sym e ∙ e')) }
then_front (at_fault f) r next e = extends_same r

then_back : (s : Stop) (r a b : Reading) → Extends a b → Extends (then_after s r a) (then_after s r b)
then_back between r a b x = record {
  more = x.more;
  entries = ap (λ (l : List Entry). r.entries ++ l) x.entries ∙ sym (append_assoc r.entries a.entries x.more);
  more_skipped = x.more_skipped;
  skipped = ap (λ (l : List SkippedType). r.skipped ++ l) x.skipped ∙ sym (append_assoc r.skipped a.skipped x.more_skipped);
  stays = λ f e. ap (then_after between r) (x.stays f e);
}
then_back inside r a b x = extends_same _
then_back (at_fault f) r a b x = extends_same _

-- of a segment without a byte nothing is read
empty_segment : (c : Bool) (page : ℕ) → segment_in c page [] ≡ stopped between
unfolding segment_in
empty_segment c page = refl

-- it makes no difference to what has come of a segment that it may have Snappy blocks
marked_same : (c : Bool) (page : ℕ) (text : List ℕ) → segment_in c page text ≡ segment_in (compresses_after c text) page text
marked_same c page [] = empty_segment c page ∙ sym (empty_segment true page)
marked_same c page (b ∷ text) = refl

after_grows : (c : Bool) (page : ℕ) (text : List ℕ) (more : List Piece) → 0 < page → Extends (segment_in c page text) (reading_in c page text more)
after_grows c page text [] p = extends_same _
after_grows c page text (bytes b ∷ more) p = extends_trans _ (segment_in c page (text ++ b)) _ (segment_grows c page text b p) (after_grows c page (text ++ b) more p)
after_grows c page text (next_segment ∷ more) p = then_front (segment_in c page text).stop (segment_in c page text) _ refl
after_grows c page text (may_compress ∷ more) p =
    subst (λ (r : Reading). Extends r (reading_in (compresses_after c text) page text more)) (sym (marked_same c page text)) (after_grows (compresses_after c text) page text more p)

pieces_grow : (c : Bool) (page : ℕ) (text : List ℕ) (ps more : List Piece) → 0 < page → Extends (reading_in c page text ps) (reading_in c page text (ps ++ more))
pieces_grow c page text [] more p = after_grows c page text more p
pieces_grow c page text (bytes b ∷ ps) more p = pieces_grow c page (text ++ b) ps more p
pieces_grow c page text (next_segment ∷ ps) more p = then_back (segment_in c page text).stop (segment_in c page text) _ _ (pieces_grow c page [] ps more p)
pieces_grow c page text (may_compress ∷ ps) more p = pieces_grow (compresses_after c text) page text ps more p

-- what was read stays as more pieces come
pub reading-append : (page : ℕ) (ps more : List Piece) → 0 < page → Extends (reading page ps) (reading page (ps ++ more))
unfolding reading
reading-append page ps more p = pieces_grow false page [] ps more p

-- how the bytes of a segment were cut makes no difference
cut_after : (c : Bool) (page : ℕ) (text a b : List ℕ) (ps : List Piece) → reading_in c page text (bytes a ∷ bytes b ∷ ps) ≡ reading_in c page text (bytes (a ++ b) ∷ ps)
cut_after c page text a b ps = ap (λ (t : List ℕ). reading_in c page t ps) (append_assoc text a b)

pub cuts_after : (c : Bool) (page : ℕ) (text : List ℕ) (front : List Piece) (a b : List ℕ) (ps : List Piece)
    → reading_in c page text (front ++ bytes a ∷ bytes b ∷ ps) ≡ reading_in c page text (front ++ bytes (a ++ b) ∷ ps)
cuts_after c page text [] a b ps = cut_after c page text a b ps
cuts_after c page text (bytes t ∷ front) a b ps = cuts_after c page (text ++ t) front a b ps
cuts_after c page text (next_segment ∷ front) a b ps = ap (then_next (segment_in c page text)) (cuts_after c page [] front a b ps)
cuts_after c page text (may_compress ∷ front) a b ps = cuts_after (compresses_after c text) page text front a b ps

pub reading-cut : (page : ℕ) (front : List Piece) (a b : List ℕ) (ps : List Piece) → reading page (front ++ bytes a ∷ bytes b ∷ ps) ≡ reading page (front ++ bytes (a ++ b) ∷ ps)
unfolding reading
reading-cut page front a b ps = cuts_after false page [] front a b ps

-- a piece without bytes makes no difference either
empty_after : (c : Bool) (page : ℕ) (text : List ℕ) (front ps : List Piece) → reading_in c page text (front ++ bytes [] ∷ ps) ≡ reading_in c page text (front ++ ps)
empty_after c page text [] ps = ap (λ (t : List ℕ). reading_in c page t ps) (append-nil text)
empty_after c page text (bytes t ∷ front) ps = empty_after c page (text ++ t) front ps
empty_after c page text (next_segment ∷ front) ps = ap (then_next (segment_in c page text)) (empty_after c page [] front ps)
empty_after c page text (may_compress ∷ front) ps = empty_after (compresses_after c text) page text front ps

pub reading-empty : (page : ℕ) (front ps : List Piece) → reading page (front ++ bytes [] ∷ ps) ≡ reading page (front ++ ps)
unfolding reading
reading-empty page front ps = empty_after false page [] front ps
