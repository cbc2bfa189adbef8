-- What is read at a fragment's place: how long it is, and that zeros are read by their bytes alone.
use Rattle.std.proofs.Common.{◌≡◌, ℕ, zero, suc, ◌+◌, ◌<◌, ◌≤◌, List, [], ◌∷◌, ◌++◌, length, take, Bool, true, false, cond, eqb, refl, sym, ap, ◌∙◌, subst, inl, inr, arith, le-ltb, nat_lt, nat_le, ◌||◌}
use Rattle.std.proofs.lemmas.Bool.{cases_Bool}
use Rattle.std.specs.List.{list_all}
use Rattle.rw_wal_format.specs.Segments.{Kind, full, first, middle, last, Item, nothing, begun, zeros, fragment, wrong, zeros_at, data_at, fragment_at, item_at}
use Rattle.rw_wal_format.specs.declared.tail_fault.TailFault.{TailFault}
use Rattle.rw_wal_format.specs.declared.tail_fault.TailFault.TheVariants.{BadType, BadLength, BadCrc, Compressed, NonzeroPadding}
use Rattle.rw_wal_format.proofs.shared.Growing.{Stays, item_stays}

pub fragment_fits : (left : ℕ) (bs : List ℕ) (kind : Kind) (d : List ℕ) → item_at left bs ≡ fragment kind d → (7 + length d ≤ length bs) × (7 + length d ≤ left)
unfolding Stays
fragment_fits left bs kind d e =
    let s : Stays left (length bs) (fragment kind d) (item_at left (bs ++ [])) = subst (λ (x : Item). Stays left (length bs) x (item_at left (bs ++ []))) e (item_stays left bs []) in
    (s.0, s.1)

pub zeros_fit : (left : ℕ) (bs : List ℕ) → item_at left bs ≡ zeros → left ≤ length bs
unfolding Stays
zeros_fit left bs e =
    let s : Stays left (length bs) zeros (item_at left (bs ++ [])) = subst (λ (x : Item). Stays left (length bs) x (item_at left (bs ++ []))) e (item_stays left bs []) in
    s.0

-- ---- only zeros are read as zeros

is_zeros : Item → Bool
is_zeros nothing = false
is_zeros begun = false
is_zeros zeros = true
is_zeros (fragment kind d) = false
is_zeros (wrong f) = false

cond_no : (b : Bool) (x y : Item) → is_zeros x ≡ false → is_zeros y ≡ false → is_zeros (cond b x y) ≡ false
cond_no true x y h g = h
cond_no false x y h g = g

begun_no : is_zeros begun ≡ false
unfolding is_zeros
begun_no = refl

fragment_kind_no : (kind : Kind) (d : List ℕ) → is_zeros (fragment kind d) ≡ false
unfolding is_zeros
fragment_kind_no kind d = refl

wrong_no : (f : TailFault) → is_zeros (wrong f) ≡ false
unfolding is_zeros
wrong_no f = refl

data_no : (kind : Kind) (left n crc : ℕ) (rest : List ℕ) → is_zeros (data_at kind left n crc rest) ≡ false
data_no kind left n crc rest = cond_no _ _ _ (wrong_no BadLength) (cond_no _ _ _ begun_no (cond_no _ _ _ (fragment_kind_no kind _) (wrong_no BadCrc)))

fragment_no : (kind : Kind) (left : ℕ) (bs : List ℕ) → is_zeros (fragment_at kind left bs) ≡ false
fragment_no kind left bs = cond_no _ _ _ begun_no (data_no kind left _ _ _)

all_zero : List ℕ → Bool
all_zero bs = list_all (λ b. eqb b 0) bs

zeros_are : (n : ℕ) (bs : List ℕ) → zeros_at n bs ≡ zeros → all_zero (take n bs) ≡ true
unfolding all_zero
zeros_are n bs e = elim (cases_Bool (list_all (λ b. eqb b 0) (take n bs))) [
  | inl t ↦ t
  | inr f ↦ (let g : zeros_at n bs ≡ wrong NonzeroPadding = rw f refl in absurd (cc))
]

are_zeros : (n : ℕ) (bs : List ℕ) → all_zero (take n bs) ≡ true → n ≤ length bs → zeros_at n bs ≡ zeros
unfolding all_zero
are_zeros n bs a h = let t = le-ltb (length bs) n h in rw (a, t) refl

-- whether zeros may be at a place whose first byte is this
may_be : ℕ → ℕ → Bool
may_be left b = nat_lt left 7 || eqb b 0

item_zeros : (left b : ℕ) (bs : List ℕ) → may_be left b ≡ true → item_at left (b ∷ bs) ≡ zeros_at left (b ∷ bs)
unfolding item_at may_be
item_zeros left b bs t = rw t refl

item_other : (left b : ℕ) (bs : List ℕ) → may_be left b ≡ false → is_zeros (item_at left (b ∷ bs)) ≡ false
unfolding item_at may_be
item_other left b bs f = rw f (cond_no (eqb b 1) _ _ (fragment_no full left bs) (cond_no (eqb b 2) _ _ (fragment_no first left bs) (cond_no (eqb b 3) _ _ (fragment_no middle left bs) (cond_no (eqb b 4) _ _ (fragment_no last left bs)
    (cond_no (nat_le 8 b) _ _ (cond_no (nat_lt b 32) _ _ (wrong_no Compressed) (wrong_no BadType)) (wrong_no BadType))))))

is_not : (x : Item) → is_zeros x ≡ false → x ≡ zeros → ⊥
unfolding is_zeros
is_not x f e = let t : is_zeros x ≡ true = ap is_zeros e in cc

-- zeros to a page's end are read wherever the same bytes are
pub zeros_same : (left : ℕ) (c w : List ℕ) → item_at left c ≡ zeros → take left c ≡ take left w → left ≤ length w → 0 < left → item_at left w ≡ zeros
unfolding item_at
zeros_same zero c w e t g p = absurd (omega arith)
zeros_same (suc l) [] w e t g p = absurd (cc)
zeros_same (suc l) (b ∷ cs) [] e t g p = absurd (omega arith)
zeros_same (suc l) (b ∷ cs) (v ∷ ws) e t g p =
    let same : b ≡ v = cc in
    elim (cases_Bool (may_be (suc l) b)) [
      | inl may ↦
          (let z : zeros_at (suc l) (b ∷ cs) ≡ zeros = sym (item_zeros (suc l) b cs may) ∙ e in
          let a : all_zero (take (suc l) (v ∷ ws)) ≡ true = subst (λ (x : List ℕ). all_zero x ≡ true) t (zeros_are (suc l) (b ∷ cs) z) in
          item_zeros (suc l) v ws (subst (λ (x : ℕ). may_be (suc l) x ≡ true) same may) ∙ are_zeros (suc l) (v ∷ ws) a g)
      | inr other ↦ absurd (is_not (item_at (suc l) (b ∷ cs)) (item_other (suc l) b cs other) e)
    ]
