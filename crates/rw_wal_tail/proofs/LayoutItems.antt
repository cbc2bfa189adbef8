-- The item at a place is the one that the reader finds.
use Rattle.std.proofs.Common.{◌≡◌, ◌≢◌, ℕ, zero, suc, ◌+◌, ◌<◌, ◌≤◌, List, [], ◌∷◌, ◌++◌, length, take, drop, replicate, Bool, true, false, not, cond, ltb, leb, eqb, ◌||◌, refl, sym, ap, ◌∙◌, subst, inl, inr, arith, lt-ltb, le-ltb, eq-eqb, append_assoc, length-append, length-take, take-append-drop, get_or, take_all, nat_lt, nat_le}
use Rattle.std.proofs.lemmas.Bool.{cases_lt, ltb-true, ltb-false, leb-true, leb-false, lt-leb, le-leb, eqb-true, eqb-false, ne_eqb, not-true, not-false, or_parts, false≢true, true≢false}
use Rattle.std.proofs.lemmas.Bool.Decides.{eqb_tells}
use Rattle.std.proofs.lemmas.List.{length-replicate}
use Rattle.std.proofs.Math.Seq.{take-append_seam, drop-append_seam}
use Rattle.std.specs.List.{list_all}
use Rattle.byteorder.specs.Endian.{big_number}
use Rattle.byteorder.specs.Numbers.{big_from-append}
use Rattle.rw_codes.specs.Crc.{crc32c_of}
use Rattle.rw_wal_format.specs.Segments.{Kind, full, first, middle, last, snappy, Item, nothing, begun, zeros, fragment, wrong, zeros_at, data_at, fragment_at, item_at, item_in}
use Rattle.rw_wal_format.specs.Writing.{type_byte}
use Rattle.rw_wal_format.specs.declared.tail_fault.TailFault.{TailFault}
use Rattle.rw_wal_format.specs.declared.tail_fault.TailFault.TheVariants.{BadType, BadLength, BadCrc, Compressed, NonzeroPadding, OutOfMemory, Sequence, BadRecord, TornSegment}
use Rattle.rw_wal_format.proofs.shared.Written.{empty_item}
use Rattle.rw_wal_tail.specs.LayoutItems.{Fragment, MayBe, HasNoFlag, HasHeader, IsFragment, EndsInHeader, EndsInData, IsWrongType, HasWrongType, HasWrongLength, HasWrongCrc, IsEmptyRest, HasWrongPadding, ItemFault, IsItem}
use Rattle.rw_types.proofs.shared.Booleans.{or_true}

-- ---- what the reader finds is there

cond_is : (c : Bool) (left : ℕ) (bs : List ℕ) (b : Bool) (x y : Item) → (b ≡ true → IsItem c left bs x)
    → (b ≡ false → IsItem c left bs y) → IsItem c left bs (cond b x y)
cond_is c left bs true x y s t = s refl
cond_is c left bs false x y s t = t refl

all_zeros : (xs : List ℕ) → list_all (λ b. eqb b 0) xs ≡ true → xs ≡ replicate (length xs) 0
all_zeros [] h = refl
all_zeros (b ∷ xs) h = elim (eqb_tells b 0) [
  | inl e ↦ (let t : list_all (λ b. eqb b 0) xs ≡ true = rw e.0 at h in
      let ih = all_zeros xs t in
      ap (λ (c : ℕ). c ∷ xs) e.1 ∙ ap (λ (l : List ℕ). 0 ∷ l) ih)
  | inr n ↦ (let t : false ≡ true = rw n.0 at h in absurd (false≢true t))
]

-- a byte among the first n that is not zero
record HasNonzero (n : ℕ) (xs : List ℕ) : Type 0 where
  before : List ℕ
  byte : ℕ
  after : List ℕ
  parts : xs ≡ before ++ byte ∷ after
  within : length before < n
  nonzero : byte ≢ 0

not_zeros : (n : ℕ) (xs : List ℕ) → list_all (λ b. eqb b 0) (take n xs) ≡ false → HasNonzero n xs
not_zeros zero xs h = absurd (true≢false h)
not_zeros (suc n) [] h = absurd (true≢false h)
not_zeros (suc n) (b ∷ xs) h = elim (eqb_tells b 0) [
  | inl e ↦ (let t : list_all (λ b. eqb b 0) (take n xs) ≡ false = rw e.0 at h in
      let ih = not_zeros n xs t in
      record { before = b ∷ ih.before; byte = ih.byte; after = ih.after; parts = ap (λ (l : List ℕ). b ∷ l) ih.parts; within = omega (arith, ih.within); nonzero = ih.nonzero })
  | inr m ↦ (record { before = []; byte = b; after = xs; parts = refl; within = omega arith; nonzero = m.1 })
]

zeros_are : (c : Bool) (left : ℕ) (bs : List ℕ) → IsEmptyRest left bs → IsItem c left bs (zeros_at left bs)
zeros_are c left bs empty =
    cond_is c left bs (not (list_all (λ b. eqb b 0) (take left bs))) _ _
    (λ e. let z = not_zeros left bs (not-true _ e) in
    record { empty = empty; before = z.before; byte = z.byte; after = z.after; parts = z.parts; within = z.within; nonzero = z.nonzero })
    (λ e. let t = not-false (list_all (λ b. eqb b 0) (take left bs)) e in
    cond_is c left bs (nat_lt (length bs) left) _ _
    (λ l. let less = ltb-true (length bs) left l in
    let whole : take left bs ≡ bs = take_all left bs (omega (arith, less)) in
    let t' : list_all (λ b. eqb b 0) bs ≡ true = rw whole at t in
    (length bs, less, all_zeros bs t'))
    (λ g. let more = ltb-false (length bs) left g in
    let n : length (take left bs) ≡ left = omega (arith, length-take left bs, more) in
    let z : take left bs ≡ replicate left 0 =
    all_zeros (take left bs) t ∙ ap (λ (k : ℕ). replicate k 0) n in
    (drop left bs, sym (take-append-drop left bs) ∙ ap (λ (l : List ℕ). l ++ drop left bs) z)))

data_are : (c : Bool) (left : ℕ) (text : List ℕ) (kind : Kind) (n crc : ℕ) (rest : List ℕ) → 7 ≤ left
    → HasHeader c text kind n crc rest → IsItem c left text (data_at kind left n crc rest)
data_are c left text kind n crc rest room h =
    cond_is c left text (nat_lt left (7 + n)) _ _
    (λ e. (room, record { kind = kind; len = n; crc = crc; rest = rest; header = h; beyond = ltb-true left (7 + n) e }))
    (λ e. let within = ltb-false left (7 + n) e in
    cond_is c left text (nat_lt (length rest) n) _ _
    (λ l. (room, inr (record { kind = kind; len = n; crc = crc; data_so_far = rest; header = h; within = within; short = ltb-true (length rest) n l })))
    (λ g. let enough = ltb-false (length rest) n g in
    let size : length (take n rest) ≡ n = omega (arith, length-take n rest, enough) in
    let split : rest ≡ take n rest ++ drop n rest = sym (take-append-drop n rest) in
    cond_is c left text (eqb (crc32c_of (take n rest)) crc) _ _
    (λ same. record {
      bytes = type_byte kind ∷ h.len_bytes ++ h.crc_bytes ++ take n rest;
      after = drop n rest;
      parts = h.parts ∙ ap (λ (l : List ℕ). type_byte kind ∷ h.len_bytes ++ h.crc_bytes ++ l) split
          ∙ sym (append_assoc (type_byte kind ∷ h.len_bytes ++ h.crc_bytes) (take n rest) (drop n rest));
      is = record {
        may_be = h.may_be;
        len_bytes = h.len_bytes;
        crc_bytes = h.crc_bytes;
        parts = refl;
        len_size = h.len_size;
        len_is = h.len_is ∙ sym size;
        crc_size = h.crc_size;
        crc_is = h.crc_is ∙ sym (eqb-true (crc32c_of (take n rest)) crc same);
      };
      within = omega (arith, length-append (h.len_bytes ++ h.crc_bytes) (take n rest), length-append h.len_bytes h.crc_bytes, h.len_size, h.crc_size, size, within);
    })
    (λ other. record {
      kind = kind;
      crc = crc;
      data_of = take n rest;
      after = drop n rest;
      header = record {
        may_be = h.may_be;
        len_bytes = h.len_bytes;
        crc_bytes = h.crc_bytes;
        parts = h.parts
            ∙ ap (λ (l : List ℕ). type_byte kind ∷ h.len_bytes ++ h.crc_bytes ++ l) split;
        len_size = h.len_size;
        len_is = h.len_is ∙ sym size;
        crc_size = h.crc_size;
        crc_is = h.crc_is;
      };
      within = omega (arith, size, within);
      differs = eqb-false (crc32c_of (take n rest)) crc other;
    })))

-- a header that is not whole
in_header : (c : Bool) (left : ℕ) (kind : Kind) (bs : List ℕ) → MayBe c kind → 7 ≤ left → length bs < 6
    → IsItem c left (type_byte kind ∷ bs) (fragment_at kind left bs)
in_header c left kind bs may_be room short =
    let t : ltb (length bs) 6 ≡ true = lt-ltb (length bs) 6 short in
    rw t (room, inl (record { kind = kind; may_be = may_be; more = bs; parts = refl; short = omega arith }))

fragment_are : (c : Bool) (left : ℕ) (kind : Kind) (bs : List ℕ) → MayBe c kind → 7 ≤ left
    → IsItem c left (type_byte kind ∷ bs) (fragment_at kind left bs)
fragment_are c left kind [] may_be room = in_header c left kind [] may_be room (omega arith)
fragment_are c left kind (x1 ∷ []) may_be room = in_header c left kind (x1 ∷ []) may_be room (omega arith)
fragment_are c left kind (x1 ∷ x2 ∷ []) may_be room = in_header c left kind (x1 ∷ x2 ∷ []) may_be room (omega arith)
fragment_are c left kind (x1 ∷ x2 ∷ x3 ∷ []) may_be room = in_header c left kind (x1 ∷ x2 ∷ x3 ∷ []) may_be room (omega arith)
fragment_are c left kind (x1 ∷ x2 ∷ x3 ∷ x4 ∷ []) may_be room = in_header c left kind (x1 ∷ x2 ∷ x3 ∷ x4 ∷ []) may_be room (omega arith)
fragment_are c left kind (x1 ∷ x2 ∷ x3 ∷ x4 ∷ x5 ∷ []) may_be room = in_header c left kind (x1 ∷ x2 ∷ x3 ∷ x4 ∷ x5 ∷ []) may_be room (omega arith)
fragment_are c left kind (x1 ∷ x2 ∷ x3 ∷ x4 ∷ x5 ∷ x6 ∷ rest) may_be room =
    let t : ltb (length (x1 ∷ x2 ∷ x3 ∷ x4 ∷ x5 ∷ x6 ∷ rest)) 6 ≡ false =
    le-ltb (length (x1 ∷ x2 ∷ x3 ∷ x4 ∷ x5 ∷ x6 ∷ rest)) 6 (omega arith) in
    rw t (data_are c left (type_byte kind ∷ x1 ∷ x2 ∷ x3 ∷ x4 ∷ x5 ∷ x6 ∷ rest) kind (big_number 2 (x1 ∷ x2 ∷ x3 ∷ x4 ∷ x5 ∷ x6 ∷ rest)) (big_number 4 (x3 ∷ x4 ∷ x5 ∷ x6 ∷ rest)) rest room
    (record { may_be = may_be; len_bytes = x1 ∷ x2 ∷ []; crc_bytes = x3 ∷ x4 ∷ x5 ∷ x6 ∷ []; parts = refl; len_size = refl; len_is = refl; crc_size = refl; crc_is = refl }))

typed_are : (c : Bool) (left b : ℕ) (kind : Kind) (bs : List ℕ) → MayBe c kind → 7 ≤ left → b ≡ type_byte kind
    → IsItem c left (b ∷ bs) (fragment_at kind left bs)
typed_are c left b kind bs may_be room e = subst (λ (t : ℕ). IsItem c left (t ∷ bs) (fragment_at kind left bs)) (sym e) (fragment_are c left kind bs may_be room)

wrong_are : (c : Bool) (left b : ℕ) (bs : List ℕ) → 7 ≤ left → 4 < b → (c ≡ true → HasNoFlag b)
    → IsItem c left (b ∷ bs) (cond (nat_le 8 b) (cond (nat_lt b 32) (wrong Compressed) (wrong BadType)) (wrong BadType))
wrong_are c left b bs room h n =
    cond_is c left (b ∷ bs) (nat_le 8 b) _ _
    (λ e. cond_is c left (b ∷ bs) (nat_lt b 32) _ _
    (λ f. (room, record { type = b; after = bs; parts = refl; is_wrong = (leb-true 8 b e, ltb-true b 32 f, n) }))
    (λ f. (room, record { type = b; after = bs; parts = refl; is_wrong = inr (ltb-false b 32 f) })))
    (λ e. (room, record { type = b; after = bs; parts = refl; is_wrong = inl (h, leb-false 8 b e) }))

-- a first byte without the flag of Snappy
plain_is : (c : Bool) (left b : ℕ) (bs : List ℕ) → 0 < left → (c ≡ true → 7 ≤ left → HasNoFlag b) → IsItem c left (b ∷ bs) (item_at left (b ∷ bs))
unfolding item_at
plain_is c left b bs l n =
    cond_is c left (b ∷ bs) (nat_lt left 7 || eqb b 0) _ _
    (λ e. zeros_are c left (b ∷ bs) (elim (or_true (ltb left 7) (eqb b 0) e) [
      | inl few ↦ inl (ltb-true left 7 few)
      | inr z ↦ inr (bs, ap (λ (t : ℕ). t ∷ bs) (eqb-true b 0 z))
    ]))
    (λ e. let room : 7 ≤ left = ltb-false left 7 (or_parts (ltb left 7) (eqb b 0) e).0 in
    let n0 : b ≢ 0 = eqb-false b 0 (or_parts (ltb left 7) (eqb b 0) e).1 in
    cond_is c left (b ∷ bs) (eqb b 1) _ _ (λ t. typed_are c left b full bs tt room (eqb-true b 1 t)) (λ f1.
    cond_is c left (b ∷ bs) (eqb b 2) _ _ (λ t. typed_are c left b first bs tt room (eqb-true b 2 t)) (λ f2.
    cond_is c left (b ∷ bs) (eqb b 3) _ _ (λ t. typed_are c left b middle bs tt room (eqb-true b 3 t)) (λ f3.
    cond_is c left (b ∷ bs) (eqb b 4) _ _ (λ t. typed_are c left b last bs tt room (eqb-true b 4 t)) (λ f4.
    let n1 : b ≢ 1 = eqb-false b 1 f1 in
    let n2 : b ≢ 2 = eqb-false b 2 f2 in
    let n3 : b ≢ 3 = eqb-false b 3 f3 in
    let n4 : b ≢ 4 = eqb-false b 4 f4 in
    wrong_are c left b bs room (omega (arith, n0, n1, n2, n3, n4)) (λ m. n m room))))))

-- a number from 9 to 12 is one of them
no_flag : (b : ℕ) → b ≢ 9 → b ≢ 10 → b ≢ 11 → b ≢ 12 → HasNoFlag b
no_flag b n9 n10 n11 n12 = elim (cases_lt b 9) [
  | inl l ↦ inl l
  | inr g ↦ inr (omega (arith, g, n9, n10, n11, n12))
]

pub item_is : (c : Bool) (left : ℕ) (bs : List ℕ) → 0 < left → IsItem c left bs (item_in c left bs)
unfolding item_at
item_is false left [] l = (0, l, refl)
item_is true left [] l = (0, l, refl)
item_is false left (b ∷ bs) l = plain_is false left b bs l (λ m room. absurd (let x : false ≡ true = m in cc))
item_is true left (b ∷ bs) l =
    cond_is true left (b ∷ bs) (nat_lt left 7) _ _
    (λ e. plain_is true left b bs l (λ m room. absurd (omega (arith, room, ltb-true left 7 e))))
    (λ e. let room : 7 ≤ left = ltb-false left 7 e in
    cond_is true left (b ∷ bs) (eqb b 9) _ _ (λ t. typed_are true left b (snappy full) bs (refl, tt) room (eqb-true b 9 t)) (λ f9.
    cond_is true left (b ∷ bs) (eqb b 10) _ _ (λ t. typed_are true left b (snappy first) bs (refl, tt) room (eqb-true b 10 t)) (λ f10.
    cond_is true left (b ∷ bs) (eqb b 11) _ _ (λ t. typed_are true left b (snappy middle) bs (refl, tt) room (eqb-true b 11 t)) (λ f11.
    cond_is true left (b ∷ bs) (eqb b 12) _ _ (λ t. typed_are true left b (snappy last) bs (refl, tt) room (eqb-true b 12 t)) (λ f12.
    plain_is true left b bs l (λ m at. no_flag b (eqb-false b 9 f9) (eqb-false b 10 f10) (eqb-false b 11 f11) (eqb-false b 12 f12)))))))

-- ---- what is there is found by the reader

type_read : (c : Bool) (left : ℕ) (kind : Kind) (bs : List ℕ) → 7 ≤ left → MayBe c kind
    → item_in c left (type_byte kind ∷ bs) ≡ fragment_at kind left bs
unfolding item_at
type_read false left full bs room m = let t : ltb left 7 ≡ false = le-ltb left 7 room in rw t refl
type_read false left first bs room m = let t : ltb left 7 ≡ false = le-ltb left 7 room in rw t refl
type_read false left middle bs room m = let t : ltb left 7 ≡ false = le-ltb left 7 room in rw t refl
type_read false left last bs room m = let t : ltb left 7 ≡ false = le-ltb left 7 room in rw t refl
type_read false left (snappy kind) bs room m = absurd (let x : false ≡ true = m.0 in cc)
type_read true left full bs room m = let t : ltb left 7 ≡ false = le-ltb left 7 room in rw t refl
type_read true left first bs room m = let t : ltb left 7 ≡ false = le-ltb left 7 room in rw t refl
type_read true left middle bs room m = let t : ltb left 7 ≡ false = le-ltb left 7 room in rw t refl
type_read true left last bs room m = let t : ltb left 7 ≡ false = le-ltb left 7 room in rw t refl
type_read true left (snappy full) bs room m = let t : ltb left 7 ≡ false = le-ltb left 7 room in rw t refl
type_read true left (snappy first) bs room m = let t : ltb left 7 ≡ false = le-ltb left 7 room in rw t refl
type_read true left (snappy middle) bs room m = let t : ltb left 7 ≡ false = le-ltb left 7 room in rw t refl
type_read true left (snappy last) bs room m = let t : ltb left 7 ≡ false = le-ltb left 7 room in rw t refl
type_read true left (snappy (snappy kind)) bs room m = absurd m.1

-- a type byte that no fragment has
plain_unknown : (left b : ℕ) (bs : List ℕ) → 7 ≤ left → 4 < b
    → item_at left (b ∷ bs) ≡ cond (nat_le 8 b) (cond (nat_lt b 32) (wrong Compressed) (wrong BadType)) (wrong BadType)
unfolding item_at
plain_unknown left b bs room h =
    let t : ltb left 7 ≡ false = le-ltb left 7 room in
    let e0 : eqb b 0 ≡ false = ne_eqb b 0 (omega (arith, h)) in
    let e1 : eqb b 1 ≡ false = ne_eqb b 1 (omega (arith, h)) in
    let e2 : eqb b 2 ≡ false = ne_eqb b 2 (omega (arith, h)) in
    let e3 : eqb b 3 ≡ false = ne_eqb b 3 (omega (arith, h)) in
    let e4 : eqb b 4 ≡ false = ne_eqb b 4 (omega (arith, h)) in
    rw (t, e0, e1, e2, e3, e4) refl

-- a number is not one of those from 9 to 12
other_than : (b : ℕ) → HasNoFlag b → (b ≢ 9) × (b ≢ 10) × (b ≢ 11) × (b ≢ 12)
other_than b (inl l) = (omega (arith, l), omega (arith, l), omega (arith, l), omega (arith, l))
other_than b (inr g) = (omega (arith, g), omega (arith, g), omega (arith, g), omega (arith, g))

unknown_type : (c : Bool) (left b : ℕ) (bs : List ℕ) → 7 ≤ left → 4 < b → (c ≡ true → HasNoFlag b)
    → item_in c left (b ∷ bs) ≡ cond (nat_le 8 b) (cond (nat_lt b 32) (wrong Compressed) (wrong BadType)) (wrong BadType)
unknown_type false left b bs room h n = plain_unknown left b bs room h
unknown_type true left b bs room h n =
    let o = other_than b (n refl) in
    let t : ltb left 7 ≡ false = le-ltb left 7 room in
    let e9 : eqb b 9 ≡ false = ne_eqb b 9 o.0 in
    let e10 : eqb b 10 ≡ false = ne_eqb b 10 o.1 in
    let e11 : eqb b 11 ≡ false = ne_eqb b 11 o.2 in
    let e12 : eqb b 12 ≡ false = ne_eqb b 12 o.3 in
    let p : item_in true left (b ∷ bs) ≡ item_at left (b ∷ bs) = rw (t, e9, e10, e11, e12) refl in
    p ∙ plain_unknown left b bs room h

module _ (c : Bool) (left : ℕ) (room : 7 ≤ left) where
  header_read : (text : List ℕ) (kind : Kind) (n crc : ℕ) (rest : List ℕ)
      → HasHeader c text kind n crc rest → item_in c left text ≡ data_at kind left n crc rest
  header_read text kind n crc rest h =
      let bs = h.len_bytes ++ (h.crc_bytes ++ rest) in
      let whole : text ≡ type_byte kind ∷ bs =
      h.parts
      ∙ ap (λ (l : List ℕ). type_byte kind ∷ l) (append_assoc h.len_bytes h.crc_bytes rest) in
      let six : ltb (length bs) 6 ≡ false =
      le-ltb (length bs) 6 (omega (arith, length-append h.len_bytes (h.crc_bytes ++ rest), length-append h.crc_bytes rest, h.len_size, h.crc_size)) in
      let d2 : drop 2 bs ≡ h.crc_bytes ++ rest =
      subst (λ (k : ℕ). drop k bs ≡ h.crc_bytes ++ rest) h.len_size (drop-append_seam h.len_bytes (h.crc_bytes ++ rest)) in
      let size6 : length (h.len_bytes ++ h.crc_bytes) ≡ 6 =
      omega (arith, length-append h.len_bytes h.crc_bytes, h.len_size, h.crc_size) in
      let d6' : drop (length (h.len_bytes ++ h.crc_bytes)) ((h.len_bytes ++ h.crc_bytes) ++ rest) ≡ rest = drop-append_seam (h.len_bytes ++ h.crc_bytes) rest in
      let d6 : drop 6 bs ≡ rest =
      ap (drop 6) (sym (append_assoc h.len_bytes h.crc_bytes rest))
      ∙ subst (λ (k : ℕ). drop k ((h.len_bytes ++ h.crc_bytes) ++ rest) ≡ rest) size6 d6' in
      let n2 : big_number 2 bs ≡ n =
      big_from-append 2 h.len_bytes (h.crc_bytes ++ rest) (omega (arith, h.len_size))
      ∙ h.len_is in
      let n4 : big_number 4 (h.crc_bytes ++ rest) ≡ crc =
      big_from-append 4 h.crc_bytes rest (omega (arith, h.crc_size)) ∙ h.crc_is in
      let f : fragment_at kind left bs ≡ data_at kind left (big_number 2 bs) (big_number 4 (drop 2 bs)) (drop 6 bs) = rw six refl in
      ap (item_in c left) whole ∙ type_read c left kind bs room h.may_be ∙ f
      ∙ ap (λ (m : ℕ). data_at kind left m (big_number 4 (drop 2 bs)) (drop 6 bs)) n2
      ∙ ap (λ (l : List ℕ). data_at kind left n (big_number 4 l) (drop 6 bs)) d2
      ∙ ap (λ (m : ℕ). data_at kind left n m (drop 6 bs)) n4
      ∙ ap (λ (l : List ℕ). data_at kind left n crc l) d6

  length_read : (text : List ℕ) → HasWrongLength c left text → item_in c left text ≡ wrong BadLength
  length_read text h =
      let t : ltb left (7 + h.len) ≡ true = lt-ltb left (7 + h.len) h.beyond in
      header_read text h.kind h.len h.crc h.rest h.header ∙ rw t refl

  type_wrong : (b : ℕ) (bs : List ℕ) (f : TailFault) → IsWrongType c b f
      → item_in c left (b ∷ bs) ≡ wrong f
  type_wrong b bs Compressed h =
      let e8 : leb 8 b ≡ true = le-leb 8 b h.0 in
      let e32 : ltb b 32 ≡ true = lt-ltb b 32 h.1 in
      unknown_type c left b bs room (omega (arith, h.0)) h.2 ∙ rw (e8, e32) refl
  type_wrong b bs BadType (inl h) =
      let e8 : leb 8 b ≡ false = lt-leb 8 b h.1 in
      unknown_type c left b bs room h.0 (λ m. inl (omega (arith, h.1))) ∙ rw e8 refl
  type_wrong b bs BadType (inr h) =
      let e8 : leb 8 b ≡ true = le-leb 8 b (omega (arith, h)) in
      let e32 : ltb b 32 ≡ false = le-ltb b 32 h in
      unknown_type c left b bs room (omega (arith, h)) (λ m. inr (omega (arith, h))) ∙ rw (e8, e32) refl
  type_wrong b bs BadLength h = absurd h
  type_wrong b bs BadCrc h = absurd h
  type_wrong b bs NonzeroPadding h = absurd h
  type_wrong b bs Sequence h = absurd h
  type_wrong b bs BadRecord h = absurd h
  type_wrong b bs TornSegment h = absurd h
  type_wrong b bs OutOfMemory h = absurd h

  wrong_type_read : (text : List ℕ) (f : TailFault) → HasWrongType c text f
      → item_in c left text ≡ wrong f
  wrong_type_read text f h = ap (item_in c left) h.parts ∙ type_wrong h.type h.after f h.is_wrong

  header_end_read : (text : List ℕ) → EndsInHeader c text → item_in c left text ≡ begun
  header_end_read text h =
      let l : length text ≡ suc (length h.more) = ap length h.parts in
      let t : ltb (length h.more) 6 ≡ true = lt-ltb (length h.more) 6 (omega (arith, l, h.short)) in
      ap (item_in c left) h.parts ∙ type_read c left h.kind h.more room h.may_be ∙ rw t refl

  data_end_read : (text : List ℕ) → EndsInData c left text → item_in c left text ≡ begun
  data_end_read text h =
      let t : ltb left (7 + h.len) ≡ false = le-ltb left (7 + h.len) h.within in
      let u : ltb (length h.data_so_far) h.len ≡ true =
      lt-ltb (length h.data_so_far) h.len h.short in
      header_read text h.kind h.len h.crc h.data_so_far h.header ∙ rw (t, u) refl

-- the data of a fragment, whole
data_read : (kind : Kind) (left crc : ℕ) (d after : List ℕ) → 7 + length d ≤ left
    → data_at kind left (length d) crc (d ++ after) ≡ (cond (eqb (crc32c_of d) crc) (fragment kind d) (wrong BadCrc))
data_read kind left crc d after within =
    let t : ltb left (7 + length d) ≡ false = le-ltb left (7 + length d) within in
    let u : ltb (length (d ++ after)) (length d) ≡ false =
    le-ltb (length (d ++ after)) (length d) (omega (arith, length-append d after)) in
    let a : take (length d) (d ++ after) ≡ d = take-append_seam d after in
    rw (t, u, a) refl

crc_read : (c : Bool) (left : ℕ) (text : List ℕ) → HasWrongCrc c left text → item_in c left text ≡ wrong BadCrc
crc_read c left text h =
    let t : eqb (crc32c_of h.data_of) h.crc ≡ false =
    ne_eqb (crc32c_of h.data_of) h.crc h.differs in
    header_read c left (omega (arith, h.within)) text h.kind (length h.data_of) h.crc (h.data_of ++ h.after) h.header
    ∙ data_read h.kind left h.crc h.data_of h.after h.within ∙ rw t refl

-- a fragment takes 7 bytes and its data
pub length_fragment : (c : Bool) (bytes : List ℕ) (f : Fragment) → IsFragment c bytes f
    → length bytes ≡ 7 + length f.1
length_fragment c bytes f h =
    ap length h.parts
    ∙ omega (arith, length-append (h.len_bytes ++ h.crc_bytes) f.1, length-append h.len_bytes h.crc_bytes, h.len_size, h.crc_size)

pub fragment_read : (c : Bool) (left : ℕ) (bytes after : List ℕ) (f : Fragment) → IsFragment c bytes f
    → length bytes ≤ left → item_in c left (bytes ++ after) ≡ fragment f.0 f.1
fragment_read c left bytes after f h within =
    let n = length_fragment c bytes f h in
    let longer : HasHeader c (bytes ++ after) f.0 (length f.1) (crc32c_of f.1) (f.1 ++ after) =
    record {
      may_be = h.may_be;
      len_bytes = h.len_bytes;
      crc_bytes = h.crc_bytes;
      parts = ap (λ (l : List ℕ). l ++ after) h.parts
          ∙ append_assoc (type_byte f.0 ∷ h.len_bytes ++ h.crc_bytes) f.1 after;
      len_size = h.len_size;
      len_is = h.len_is;
      crc_size = h.crc_size;
      crc_is = h.crc_is;
    } in
    let t : eqb (crc32c_of f.1) (crc32c_of f.1) ≡ true =
    eq-eqb (crc32c_of f.1) (crc32c_of f.1) refl in
    header_read c left (omega (arith, n, within)) (bytes ++ after) f.0 (length f.1) (crc32c_of f.1) (f.1 ++ after) longer
    ∙ data_read f.0 left (crc32c_of f.1) f.1 after (omega (arith, n, within)) ∙ rw t refl

-- zeros
zeros_pass : (n : ℕ) → list_all (λ b. eqb b 0) (replicate n 0) ≡ true
zeros_pass zero = refl
zeros_pass (suc n) = zeros_pass n

-- if the rest of a page is empty, its zeros are judged
empty_read : (c : Bool) (left b : ℕ) (bs : List ℕ) → IsEmptyRest left (b ∷ bs)
    → item_in c left (b ∷ bs) ≡ zeros_at left (b ∷ bs)
unfolding item_at
empty_read false left b bs (inl few) = let t : ltb left 7 ≡ true = lt-ltb left 7 few in rw t refl
empty_read true left b bs (inl few) = let t : ltb left 7 ≡ true = lt-ltb left 7 few in rw t refl
empty_read false left b bs (inr z) =
    let e : b ≡ 0 = ap (λ (l : List ℕ). get_or l 0 0) z.1 in
    elim (cases_lt left 7) [
      | inl few ↦ (let t : ltb left 7 ≡ true = lt-ltb left 7 few in rw t refl)
      | inr room ↦ (let t : ltb left 7 ≡ false = le-ltb left 7 room in let u : eqb b 0 ≡ true = eq-eqb b 0 e in rw (t, u) refl)
    ]
empty_read true left b bs (inr z) =
    let e : b ≡ 0 = ap (λ (l : List ℕ). get_or l 0 0) z.1 in
    elim (cases_lt left 7) [
      | inl few ↦ (let t : ltb left 7 ≡ true = lt-ltb left 7 few in rw t refl)
      | inr room ↦ (let t : ltb left 7 ≡ false = le-ltb left 7 room in rw (t, e) refl)
    ]

zeros_whole : (n : ℕ) (after : List ℕ) → zeros_at n (replicate n 0 ++ after) ≡ zeros
zeros_whole n after =
    let size : length (replicate n 0) ≡ n = length-replicate {A = ℕ} n 0 in
    let a : take n (replicate n 0 ++ after) ≡ replicate n 0 =
    subst (λ (k : ℕ). take k (replicate n 0 ++ after) ≡ replicate n 0) size (take-append_seam (replicate n 0) after) in
    let t : list_all (λ b. eqb b 0) (replicate n 0) ≡ true = zeros_pass n in
    let u : ltb (length (replicate n 0 ++ after)) n ≡ false =
    le-ltb (length (replicate n 0 ++ after)) n (omega (arith, length-append (replicate n 0) after, size)) in
    rw (a, t, u) refl

zeros_end : (left : ℕ) (bs : List ℕ) → length bs < left → list_all (λ b. eqb b 0) bs ≡ true
    → zeros_at left bs ≡ nothing
zeros_end left bs l t =
    let a : take left bs ≡ bs = take_all left bs (omega (arith, l)) in
    let u : ltb (length bs) left ≡ true = lt-ltb (length bs) left l in
    rw (a, t, u) refl

zeros_short : (left n : ℕ) → n < left → zeros_at left (replicate n 0) ≡ nothing
zeros_short left n l = zeros_end left (replicate n 0) (omega (arith, length-replicate {A = ℕ} n 0, l)) (zeros_pass n)

pub zeros_read : (c : Bool) (left : ℕ) (after : List ℕ) → 0 < left
    → item_in c left (replicate left 0 ++ after) ≡ zeros
zeros_read c zero after l = absurd (omega arith)
zeros_read c (suc n) after l = empty_read c (suc n) 0 (replicate n 0 ++ after) (inr (replicate n 0 ++ after, refl)) ∙ zeros_whole (suc n) after

nothing_read : (c : Bool) (left n : ℕ) → n < left → item_in c left (replicate n 0) ≡ nothing
nothing_read false left zero l = empty_item left
nothing_read true left zero l = refl
nothing_read c left (suc n) l = empty_read c left 0 (replicate n 0) (inr (replicate n 0, refl))
    ∙ zeros_short left (suc n) l

-- a byte that is not zero, among the first n
found_nonzero : (n : ℕ) (before : List ℕ) (byte : ℕ) (after : List ℕ) → length before < n
    → byte ≢ 0 → list_all (λ b. eqb b 0) (take n (before ++ byte ∷ after)) ≡ false
found_nonzero zero before byte after l h = absurd (omega arith)
found_nonzero (suc n) [] byte after l h = let t : eqb byte 0 ≡ false = ne_eqb byte 0 h in rw t refl
found_nonzero (suc n) (b ∷ before) byte after l h = elim (eqb_tells b 0) [
  | inl e ↦ (let ih = found_nonzero n before byte after (omega arith) h in rw (e.0, ih) refl)
  | inr m ↦ (rw m.0 refl)
]

padding_at : (c : Bool) (left : ℕ) (before : List ℕ) (byte : ℕ) (after : List ℕ)
    → IsEmptyRest left (before ++ byte ∷ after)
    → item_in c left (before ++ byte ∷ after) ≡ zeros_at left (before ++ byte ∷ after)
padding_at c left [] byte after e = empty_read c left byte after e
padding_at c left (b ∷ before) byte after e = empty_read c left b (before ++ byte ∷ after) e

padding_read : (c : Bool) (left : ℕ) (text : List ℕ) → HasWrongPadding left text
    → item_in c left text ≡ wrong NonzeroPadding
padding_read c left text h =
    let empty : IsEmptyRest left (h.before ++ h.byte ∷ h.after) =
    subst (λ (l : List ℕ). IsEmptyRest left l) h.parts h.empty in
    let t : list_all (λ b. eqb b 0) (take left (h.before ++ h.byte ∷ h.after)) ≡ false =
    found_nonzero left h.before h.byte h.after h.within h.nonzero in
    let z : zeros_at left (h.before ++ h.byte ∷ h.after) ≡ wrong NonzeroPadding = rw t refl in
    ap (item_in c left) h.parts ∙ padding_at c left h.before h.byte h.after empty ∙ z

fault_read : (c : Bool) (left : ℕ) (text : List ℕ) (f : TailFault) → ItemFault c left text f
    → item_in c left text ≡ wrong f
fault_read c left text BadType h = wrong_type_read c left h.0 text BadType h.1
fault_read c left text Compressed h = wrong_type_read c left h.0 text Compressed h.1
fault_read c left text BadLength h = length_read c left h.0 text h.1
fault_read c left text BadCrc h = crc_read c left text h
fault_read c left text NonzeroPadding h = padding_read c left text h
fault_read c left text OutOfMemory h = absurd h
fault_read c left text Sequence h = absurd h
fault_read c left text BadRecord h = absurd h
fault_read c left text TornSegment h = absurd h

pub item_read : (c : Bool) (left : ℕ) (text : List ℕ) (x : Item) → 0 < left → IsItem c left text x
    → item_in c left text ≡ x
item_read c left text nothing l h = ap (item_in c left) h.2 ∙ nothing_read c left h.0 h.1
item_read c left text begun l (room, inl h) = header_end_read c left room text h
item_read c left text begun l (room, inr h) = data_end_read c left room text h
item_read c left text zeros l h = ap (item_in c left) h.1 ∙ zeros_read c left h.0 l
item_read c left text (fragment kind d) l h = ap (item_in c left) h.parts
    ∙ fragment_read c left h.bytes h.after (kind, d) h.is h.within
item_read c left text (wrong f) l h = fault_read c left text f h
