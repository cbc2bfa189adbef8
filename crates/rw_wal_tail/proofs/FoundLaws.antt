-- What comes at a fragment's place, by its first byte.
use Rattle.std.proofs.Common.{◌≡◌, ℕ, ◌<◌, ◌≤◌, List, [], ◌∷◌, length, take, drop, ◌+◌, ◌-◌, ◌++◌, subst, inl, inr, min, get_or, Bool, true, false, ltb, eqb, cond, refl, sym, ap, ◌∙◌, arith, lt-ltb, le-ltb, take_all, length-take, length-drop}
use Rattle.std.proofs.lemmas.Bool.{ne_eqb}
use Rattle.std.specs.List.{list_all}
use borrow.Author.Tests.{ltb-true}
use Rattle.std.proofs.lemmas.Bool.{cases_lt}
use Rattle.std.proofs.lemmas.List.Folds.{list_all-append}
use Rattle.std.proofs.Math.Seq.{take-add}
use Rattle.std.specs.Prelude.{◌&&◌, ◌==◌, ◌||◌, not, nat_le, nat_lt, Some}
use Rattle.byteorder.specs.Endian.{big_number}
use Rattle.rw_codes.specs.Crc.{crc32c_of}
use Rattle.rw_wal_format.specs.declared.tail_fault.TailFault.{TailFault}
use Rattle.rw_wal_tail.specs.inner.Steps.{IsOfLog}
use Rattle.rw_wal_format.specs.Segments.{Kind, full, first, middle, last, snappy, flagged, Item, nothing, begun, zeros, fragment, wrong, zeros_at, data_at, fragment_at, item_at, item_in}
use Rattle.rw_wal_format.specs.Writing.{type_byte}
use Rattle.rw_wal_format.specs.Types.{kind_of}
use Rattle.rw_wal_format.specs.declared.fragment_type.FragmentType.{FragmentType}
use Rattle.rw_wal_format.specs.declared.fragment_type.FragmentType.TheVariants.{Full, First, Middle, Last}
use Rattle.rw_wal_format.specs.declared.tail_fault.TailFault.TheVariants.{NonzeroPadding, BadLength, BadCrc, Compressed, BadType}
use Rattle.rw_wal_tail.specs.LayoutItems.{MayBe}
use Rattle.rw_wal_tail.specs.inner.Found.{wrong_type_of, item_of, Fits, FragmentFits, KnownZeros}
use Rattle.rw_wal_tail.specs.declared.item.Found.{Found}
use Rattle.rw_wal_tail.specs.declared.item.Found.TheVariants as found
use Rattle.rw_wal_tail.proofs.ItemLaws.{after_first}

-- the zeros that are known need not be looked at again
pub known_zeros : (left known end : ℕ) (bs : List ℕ) → KnownZeros left known bs → end ≡ min (length bs) left
    → list_all (λ x. x == 0) (take left bs) ≡ list_all (λ x. x == 0) (take (end - known) (drop known bs))
known_zeros left known end bs k e =
    let kl : known ≤ left = k.0 in
    let kb : known ≤ length bs = k.1 in
    let s : known + (end - known) ≡ end = omega arith in
    let t : take left bs ≡ take end bs = elim (cases_lt (length bs) left) [
      | inl l ↦ (let q : end ≡ length bs = omega arith in take_all left bs (omega arith) ∙ sym (take_all end bs (omega arith)))
      | inr g ↦ (let q : left ≡ end = omega arith in ap (λ (n : ℕ). take n bs) q)
    ] in
    let a : take end bs ≡ take known bs ++ take (end - known) (drop known bs) = ap (λ (n : ℕ). take n bs) (sym s) ∙ take-add known (end - known) bs in
    ap (list_all (λ x. x == 0)) (t ∙ a) ∙ list_all-append (λ x. x == 0) (take known bs) (take (end - known) (drop known bs)) ∙ ap (λ (b : Bool). b && list_all (λ x. x == 0) (take (end - known) (drop known bs))) k.2

module _ (left : ℕ) (bs : List ℕ) (b : Bool) (e : list_all (λ x. x == 0) (take left bs) ≡ b) where
  pub zeros_wrong : b ≡ false → zeros_at left bs ≡ wrong NonzeroPadding
  zeros_wrong h = let z : list_all (λ x. x == 0) (take left bs) ≡ false = e ∙ h in rw z refl

  pub zeros_begun : b ≡ true → length bs < left → zeros_at left bs ≡ nothing
  zeros_begun h l =
      let z : list_all (λ x. x == 0) (take left bs) ≡ true = e ∙ h in
      let s : ltb (length bs) left ≡ true = lt-ltb (length bs) left l in
      rw (z, s) refl

  pub zeros_whole : b ≡ true → left ≤ length bs → zeros_at left bs ≡ zeros
  zeros_whole h l =
      let z : list_all (λ x. x == 0) (take left bs) ≡ true = e ∙ h in
      let s : ltb (length bs) left ≡ false = le-ltb (length bs) left l in
      rw (z, s) refl

pub item_none : (c : Bool) (left : ℕ) (bs : List ℕ) → length bs ≡ 0 → item_in c left bs ≡ nothing
unfolding item_at
item_none false left [] e = refl
item_none true left [] e = refl
item_none c left (b ∷ bs) e = absurd (omega arith)

pub item_little : (c : Bool) (left : ℕ) (bs : List ℕ) → 0 < length bs → left < 7 → item_in c left bs ≡ zeros_at left bs
unfolding item_at
item_little c left [] h l = absurd (omega arith)
item_little false left (b ∷ bs) h l = let s : ltb left 7 ≡ true = lt-ltb left 7 l in rw s refl
item_little true left (b ∷ bs) h l = let s : ltb left 7 ≡ true = lt-ltb left 7 l in rw s refl

pub item_zero : (c : Bool) (left : ℕ) (bs : List ℕ) → 0 < length bs → 7 ≤ left → get_or bs 0 0 ≡ 0 → item_in c left bs ≡ zeros_at left bs
unfolding item_at
item_zero c left [] h l e = absurd (omega arith)
item_zero false left (b ∷ bs) h l e = let s : ltb left 7 ≡ false = le-ltb left 7 l in rw (s, e) refl
item_zero true left (b ∷ bs) h l e = let s : ltb left 7 ≡ false = le-ltb left 7 l in rw (s, e) refl

drop_header : (bs : List ℕ) → 0 < length bs → drop 6 (drop 1 bs) ≡ drop 7 bs
drop_header [] h = absurd (omega arith)
drop_header (b ∷ bs) h = refl

pub item_kind : (c : Bool) (kind : Kind) (left : ℕ) (bs : List ℕ) → MayBe c kind → 0 < length bs → 7 ≤ left → get_or bs 0 0 ≡ type_byte kind → item_in c left bs ≡ fragment_at kind left (drop 1 bs)
unfolding item_at
item_kind c kind left [] m h l e = absurd (omega arith)
item_kind false full left (b ∷ bs) m h l e = let s : ltb left 7 ≡ false = le-ltb left 7 l in rw (s, e) refl
item_kind false first left (b ∷ bs) m h l e = let s : ltb left 7 ≡ false = le-ltb left 7 l in rw (s, e) refl
item_kind false middle left (b ∷ bs) m h l e = let s : ltb left 7 ≡ false = le-ltb left 7 l in rw (s, e) refl
item_kind false last left (b ∷ bs) m h l e = let s : ltb left 7 ≡ false = le-ltb left 7 l in rw (s, e) refl
item_kind false (snappy kind) left (b ∷ bs) m h l e = absurd (let x : false ≡ true = m.0 in cc)
item_kind true full left (b ∷ bs) m h l e = let s : ltb left 7 ≡ false = le-ltb left 7 l in rw (s, e) refl
item_kind true first left (b ∷ bs) m h l e = let s : ltb left 7 ≡ false = le-ltb left 7 l in rw (s, e) refl
item_kind true middle left (b ∷ bs) m h l e = let s : ltb left 7 ≡ false = le-ltb left 7 l in rw (s, e) refl
item_kind true last left (b ∷ bs) m h l e = let s : ltb left 7 ≡ false = le-ltb left 7 l in rw (s, e) refl
item_kind true (snappy full) left (b ∷ bs) m h l e = let s : ltb left 7 ≡ false = le-ltb left 7 l in rw (s, e) refl
item_kind true (snappy first) left (b ∷ bs) m h l e = let s : ltb left 7 ≡ false = le-ltb left 7 l in rw (s, e) refl
item_kind true (snappy middle) left (b ∷ bs) m h l e = let s : ltb left 7 ≡ false = le-ltb left 7 l in rw (s, e) refl
item_kind true (snappy last) left (b ∷ bs) m h l e = let s : ltb left 7 ≡ false = le-ltb left 7 l in rw (s, e) refl
item_kind true (snappy (snappy kind)) left (b ∷ bs) m h l e = absurd m.1

-- the fragment of the bytes after the type byte, as a slice has them
pub item_fragment : (c : Bool) (kind : Kind) (left : ℕ) (bs : List ℕ) (r : Found) → MayBe c kind → 0 < length bs → 7 ≤ left → get_or bs 0 0 ≡ type_byte kind
    → fragment_at kind left (take (length bs - 1) (drop 1 bs)) ≡ item_of (drop 6 (take (length bs - 1) (drop 1 bs))) r → item_in c left bs ≡ item_of (drop 7 bs) r
item_fragment c kind left bs r m h l e f =
    let t : take (length bs - 1) (drop 1 bs) ≡ drop 1 bs = after_first bs in
    let g : fragment_at kind left (drop 1 bs) ≡ item_of (drop 6 (drop 1 bs)) r =
    sym (ap (fragment_at kind left) t) ∙ f ∙ ap (λ (x : List ℕ). item_of (drop 6 x) r) t in
    item_kind c kind left bs m h l e ∙ g ∙ ap (λ (x : List ℕ). item_of x r) (drop_header bs h)

-- the types of fragments of the program, with the flag of Snappy or without
pub may_be_kind : (c b : Bool) (kind : FragmentType) → (b ≡ true → c ≡ true) → MayBe c (flagged b (kind_of kind))
may_be_kind c false Full h = tt
may_be_kind c false First h = tt
may_be_kind c false Middle h = tt
may_be_kind c false Last h = tt
may_be_kind c true Full h = (h refl, tt)
may_be_kind c true First h = (h refl, tt)
may_be_kind c true Middle h = (h refl, tt)
may_be_kind c true Last h = (h refl, tt)

-- what was found after the type byte is within the bytes
pub fits_after : (c b : Bool) (left : ℕ) (bs : List ℕ) (r : Found) → (b ≡ true → c ≡ true) → 0 < length bs → FragmentFits b left (take (length bs - 1) (drop 1 bs)) r → Fits c left bs r
fits_after c b left bs found.Nothing h l f = tt
fits_after c b left bs found.Begun h l f = tt
fits_after c b left bs found.Zeros h l f = absurd f
fits_after c b left bs (found.Fragment kind is_block n) h l f = (omega (arith, f.0, l, length-take (length bs - 1) (drop 1 bs), length-drop 1 bs), f.1, λ e. h (sym f.2 ∙ e))
fits_after c b left bs (found.Wrong w) h l f = tt

-- a number other than 0 to 4
pub record NoType (b : ℕ) : Type 0 where
  pub zero : b ≡ 0 → ⊥
  pub one : b ≡ 1 → ⊥
  pub two : b ≡ 2 → ⊥
  pub three : b ≡ 3 → ⊥
  pub four : b ≡ 4 → ⊥

-- a number other than the types with the flag of Snappy
pub record NoSnappyType (b : ℕ) : Type 0 where
  pub nine : b ≡ 9 → ⊥
  pub ten : b ≡ 10 → ⊥
  pub eleven : b ≡ 11 → ⊥
  pub twelve : b ≡ 12 → ⊥

plain_wrong : (left : ℕ) (bs : List ℕ) → 0 < length bs → 7 ≤ left → NoType (get_or bs 0 0) → item_at left bs ≡ wrong (wrong_type_of (get_or bs 0 0))
unfolding item_at
plain_wrong left [] h l n = absurd (omega arith)
plain_wrong left (b ∷ bs) h l n =
    let s : ltb left 7 ≡ false = le-ltb left 7 l in
    let e0 : eqb b 0 ≡ false = ne_eqb b 0 n.zero in
    let e1 : eqb b 1 ≡ false = ne_eqb b 1 n.one in
    let e2 : eqb b 2 ≡ false = ne_eqb b 2 n.two in
    let e3 : eqb b 3 ≡ false = ne_eqb b 3 n.three in
    let e4 : eqb b 4 ≡ false = ne_eqb b 4 n.four in
    rw (s, e0, e1, e2, e3, e4) (elim (nat_le 8 b) as (λ x. cond x (cond (nat_lt b 32) (wrong Compressed) (wrong BadType)) (wrong BadType) ≡ wrong (cond x (cond (nat_lt b 32) Compressed BadType) BadType)) [
      | true ↦ (elim (nat_lt b 32) as (λ y. cond y (wrong Compressed) (wrong BadType) ≡ wrong (cond y Compressed BadType)) [ true ↦ refl | false ↦ refl ])
      | false ↦ refl
    ])

pub item_wrong : (c : Bool) (left : ℕ) (bs : List ℕ) → 0 < length bs → 7 ≤ left → NoType (get_or bs 0 0) → (c ≡ true → NoSnappyType (get_or bs 0 0)) → item_in c left bs ≡ wrong (wrong_type_of (get_or bs 0 0))
item_wrong false left bs h l n m = plain_wrong left bs h l n
item_wrong true left [] h l n m = absurd (omega arith)
item_wrong true left (b ∷ bs) h l n m =
    let s : ltb left 7 ≡ false = le-ltb left 7 l in
    let e9 : eqb b 9 ≡ false = ne_eqb b 9 (m refl).nine in
    let e10 : eqb b 10 ≡ false = ne_eqb b 10 (m refl).ten in
    let e11 : eqb b 11 ≡ false = ne_eqb b 11 (m refl).eleven in
    let e12 : eqb b 12 ≡ false = ne_eqb b 12 (m refl).twelve in
    let p : item_in true left (b ∷ bs) ≡ item_at left (b ∷ bs) = rw (s, e9, e10, e11, e12) refl in
    p ∙ plain_wrong left (b ∷ bs) h l n

-- ---- what holds of whatever comes there

either : (P : Item → Type 0) (b : Bool) (x y : Item) → P x → P y → P (cond b x y)
either P true x y p q = p
either P false x y p q = q

module _ (P : Item → Type 0) (at_begun : P begun) (at_fragment : (k : Kind) (d : List ℕ) → P (fragment k d)) (at_length : P (wrong BadLength)) (at_crc : P (wrong BadCrc)) (at_compressed : P (wrong Compressed)) (at_type : P (wrong BadType)) (left : ℕ) where
  holds_of_data : (kind : Kind) (n crc : ℕ) (rest : List ℕ) → P (data_at kind left n crc rest)
  holds_of_data kind n crc rest =
      either P (nat_lt left (7 + n)) _ _ at_length (either P (nat_lt (length rest) n) _ _ at_begun (either P (crc32c_of (take n rest) == crc) _ _ (at_fragment kind (take n rest)) at_crc))

  holds_of_fragment : (kind : Kind) (bs : List ℕ) → P (fragment_at kind left bs)
  holds_of_fragment kind bs = either P (nat_lt (length bs) 6) _ _ at_begun (holds_of_data kind (big_number 2 bs) (big_number 4 (drop 2 bs)) (drop 6 bs))

  holds_of_item : (b : ℕ) (bs : List ℕ) → P (zeros_at left (b ∷ bs)) → P (item_at left (b ∷ bs))
  unfolding item_at
  holds_of_item b bs z =
      either P (nat_lt left 7 || b == 0) _ _ z
      (either P (b == 1) _ _ (holds_of_fragment full bs)
      (either P (b == 2) _ _ (holds_of_fragment first bs)
      (either P (b == 3) _ _ (holds_of_fragment middle bs)
      (either P (b == 4) _ _ (holds_of_fragment last bs)
      (either P (nat_le 8 b) _ _ (either P (nat_lt b 32) _ _ at_compressed at_type) at_type)))))

  holds_of_item_in : (c : Bool) (b : ℕ) (bs : List ℕ) → P (zeros_at left (b ∷ bs)) → P (item_in c left (b ∷ bs))
  holds_of_item_in false b bs z = holds_of_item b bs z
  holds_of_item_in true b bs z =
      let plain = holds_of_item b bs z in
      either P (nat_lt left 7) _ _ plain
      (either P (b == 9) _ _ (holds_of_fragment (snappy full) bs)
      (either P (b == 10) _ _ (holds_of_fragment (snappy first) bs)
      (either P (b == 11) _ _ (holds_of_fragment (snappy middle) bs)
      (either P (b == 12) _ _ (holds_of_fragment (snappy last) bs) plain))))

-- ---- it is never out of memory

IsItemOfLog : Item → Type 0
IsItemOfLog (wrong f) = IsOfLog (Some f)
IsItemOfLog _ = Unit {0}

item_of_log : (c : Bool) (left : ℕ) (bs : List ℕ) → IsItemOfLog (item_in c left bs)
unfolding IsItemOfLog item_at
item_of_log false left [] = tt
item_of_log true left [] = tt
item_of_log c left (b ∷ bs) =
    holds_of_item_in IsItemOfLog tt (λ k d. tt) tt tt tt tt left c b bs
    (either IsItemOfLog (not (list_all (λ x. x == 0) (take left (b ∷ bs)))) _ _ tt (either IsItemOfLog (nat_lt (length (b ∷ bs)) left) nothing zeros tt tt))

pub wrong_of_log : (c : Bool) (left : ℕ) (bs : List ℕ) (f : TailFault) → item_in c left bs ≡ wrong f → IsOfLog (Some f)
unfolding IsItemOfLog
wrong_of_log c left bs f e = subst IsItemOfLog e (item_of_log c left bs)

-- ---- if nothing comes there, the bytes are zeros

NothingIsZeros : ℕ → List ℕ → Item → Type 0
NothingIsZeros left bs nothing = KnownZeros left (length bs) bs
NothingIsZeros left bs _ = Unit {0}

zeros_known : (left : ℕ) (bs : List ℕ) (z s : Bool) → list_all (λ x. x == 0) (take left bs) ≡ z → ltb (length bs) left ≡ s
    → NothingIsZeros left bs (cond (not z) (wrong NonzeroPadding) (cond s nothing zeros))
unfolding NothingIsZeros
zeros_known left bs false s e f = tt
zeros_known left bs true false e f = tt
zeros_known left bs true true e f =
    let l : length bs < left = ltb-true (length bs) left f in
    let a : take (length bs) bs ≡ take left bs = take_all (length bs) bs (omega arith) ∙ sym (take_all left bs (omega arith)) in
    (omega arith, omega arith, ap (list_all (λ x. x == 0)) a ∙ e)

item_known : (c : Bool) (left : ℕ) (bs : List ℕ) → NothingIsZeros left bs (item_in c left bs)
unfolding NothingIsZeros item_at
item_known false left [] = (omega arith, omega arith, refl)
item_known true left [] = (omega arith, omega arith, refl)
item_known c left (b ∷ bs) =
    holds_of_item_in (NothingIsZeros left (b ∷ bs)) tt (λ k d. tt) tt tt tt tt left c b bs
    (zeros_known left (b ∷ bs) (list_all (λ x. x == 0) (take left (b ∷ bs))) (ltb (length (b ∷ bs)) left) refl refl)

pub nothing_known : (c : Bool) (left : ℕ) (bs : List ℕ) → item_in c left bs ≡ nothing → KnownZeros left (length bs) bs
unfolding NothingIsZeros
nothing_known c left bs e = subst (NothingIsZeros left bs) e (item_known c left bs)
