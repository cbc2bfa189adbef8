-- A record that is written is read again, whatever follows it.
use Rattle.std.proofs.Common.{◌≡◌, ℕ, zero, suc, ◌+◌, ◌-◌, ◌*◌, ◌/◌, ◌%◌, ◌^◌, ◌<◌, ◌≤◌, List, [], ◌∷◌, ◌++◌, length, take, drop, replicate, get_or, Option, Some, None, Bool, true, false, cond, if◌then◌else◌, eqb, ltb, leb, refl, sym, ap, ◌∙◌, subst, inl, inr, arith, lt-ltb, le-ltb, le-leb, eq-eqb, append_assoc, append-nil, length-append, length-drop, length-take, get_or-take, get_or-drop, le_refl, take-append-drop, fold, bit_xor, div-add-mod', mod-lt, mod-eq_of_lt, lit<}
use Rattle.std.proofs.lemmas.Bool.{cases_lt, lt-leb}
use Rattle.std.proofs.lemmas.Nat.{xor_lt}
use Rattle.std.proofs.lemmas.List.{get_or_past}
use Rattle.std.proofs.Math.Nat.{mul-add-mod_self_right, mod_self}
use Rattle.std.proofs.Math.Seq.{take-append_seam, drop-append_seam}
use Rattle.std.specs.List.{list_all}
use Rattle.byteorder.specs.Endian.{big_bytes, big_number}
use Rattle.byteorder.specs.Numbers.{big_number-reads_back}
use Rattle.rw_codes.specs.Crc.{crc_bit, crc_bits, crc_byte, crc32c_of}
use Rattle.rw_wal_format.specs.Segments.{Kind, full, first, middle, last, snappy, IsPlain, nothing, zeros, fragment, data_at, fragment_at, item_at, between, left_after, Reading, Record, with_entries, with_record, read_from, segment, segment_in}
use Rattle.rw_wal_format.specs.Writing.{type_byte, frame, padding, frames, log_bytes}
use Rattle.rw_codes.specs.Varint.{AreBytes}
use Rattle.rw_wal_format.specs.Laws.{AreRecords, log_all, reading_of_records, entries_of_records}
use Rattle.rw_wal_format.specs.Records.{◌then◌, record_entries}
use Rattle.rw_wal_format.specs.Pieces.{bytes, reading, page_size, entries, fault, fault_at}
use Rattle.rw_types.specs.declared.entry.Entry.{Entry}
use Rattle.rw_wal_format.proofs.shared.Items.{read_zeros, read_nothing, read_fragment}

-- ---- the CRC has 32 bits

bit_fits : (c : ℕ) → c < 2 ^ 32 → crc_bit c < 2 ^ 32
bit_fits c h = choose (eqb (c % 2) 0)
  where
    choose : (b : Bool) → cond b (c / 2) (bit_xor 0x82F63B78 (c / 2)) < 2 ^ 32
    choose true = omega arith
    choose false = xor_lt 32 0x82F63B78 (c / 2) (lit< tt) (omega arith)

bits_fit : (k c : ℕ) → c < 2 ^ 32 → crc_bits k c < 2 ^ 32
unfolding crc_bits
bits_fit zero c h = h
bits_fit (suc k) c h = bits_fit k (crc_bit c) (bit_fits c h)

fold_fits : (d : List ℕ) (c : ℕ) → AreBytes d → c < 2 ^ 32 → fold crc_byte c d < 2 ^ 32
fold_fits [] c b h = h
fold_fits (x ∷ d) c b h =
    let x8 : x < 256 = b 0 in
    let x32 : x < 2 ^ 32 = omega arith in
    fold_fits d (crc_byte c x) (λ i. b (suc i)) (bits_fit 8 (bit_xor c x) (xor_lt 32 c x h x32))

pub crc_fits : (d : List ℕ) → AreBytes d → crc32c_of d < 2 ^ 32
crc_fits d b = xor_lt 32 0xFFFFFFFF (fold crc_byte 0xFFFFFFFF d) (lit< tt) (fold_fits d 0xFFFFFFFF b (lit< tt))

-- ---- a frame is read as its fragment

data_whole : (kind : Kind) (left : ℕ) (d rest : List ℕ) → 7 + length d ≤ left → data_at kind left (length d) (crc32c_of d) (d ++ rest) ≡ fragment kind d
data_whole kind left d rest h =
    let t : ltb left (7 + length d) ≡ false = le-ltb left (7 + length d) h in
    let u : ltb (length (d ++ rest)) (length d) ≡ false = le-ltb (length (d ++ rest)) (length d) (omega (arith, length-append d rest)) in
    let a : take (length d) (d ++ rest) ≡ d = take-append_seam d rest in
    let e : eqb (crc32c_of d) (crc32c_of d) ≡ true = eq-eqb (crc32c_of d) (crc32c_of d) refl in
    rw (t, u, a, e) refl

header : ℕ → ℕ → List ℕ → List ℕ
header n crc rest = big_bytes 2 n ++ (big_bytes 4 crc ++ rest)

fragment_whole : (kind : Kind) (left n crc : ℕ) (rest : List ℕ) → n < 2 ^ 16 → crc < 2 ^ 32
    → fragment_at kind left (header n crc rest) ≡ data_at kind left n crc rest
unfolding header
fragment_whole kind left n crc rest h g =
    let t : ltb (length (header n crc rest)) 6 ≡ false = le-ltb (length (header n crc rest)) 6 (omega arith) in
    let a : big_number 2 (header n crc rest) ≡ n = big_number-reads_back 2 n (big_bytes 4 crc ++ rest) h in
    let b : big_number 4 (big_bytes 4 crc ++ rest) ≡ crc = big_number-reads_back 4 crc rest g in
    rw t (ap (λ (x : ℕ). data_at kind left x (big_number 4 (big_bytes 4 crc ++ rest)) rest) a ∙ ap (λ (x : ℕ). data_at kind left n x rest) b)

kind_item : (kind : Kind) (left : ℕ) (bs : List ℕ) → IsPlain kind → 7 ≤ left → item_at left (type_byte kind ∷ bs) ≡ fragment_at kind left bs
unfolding item_at
kind_item (snappy kind) left bs plain h = absurd plain
kind_item full left bs plain h = let t : ltb left 7 ≡ false = le-ltb left 7 h in rw t refl
kind_item first left bs plain h = let t : ltb left 7 ≡ false = le-ltb left 7 h in rw t refl
kind_item middle left bs plain h = let t : ltb left 7 ≡ false = le-ltb left 7 h in rw t refl
kind_item last left bs plain h = let t : ltb left 7 ≡ false = le-ltb left 7 h in rw t refl

frame_is : (kind : Kind) (d rest : List ℕ) → frame kind d ++ rest ≡ type_byte kind ∷ header (length d) (crc32c_of d) (d ++ rest)
unfolding frame header
frame_is kind d rest = refl

pub frame_item : (kind : Kind) (left : ℕ) (d rest : List ℕ) → IsPlain kind → length d < 2 ^ 16 → 7 + length d ≤ left → AreBytes d
    → item_at left (frame kind d ++ rest) ≡ fragment kind d
frame_item kind left d rest plain h g b =
    ap (item_at left) (frame_is kind d rest)
    ∙ kind_item kind left (header (length d) (crc32c_of d) (d ++ rest)) plain (omega arith)
    ∙ fragment_whole kind left (length d) (crc32c_of d) (d ++ rest) h (crc_fits d b)
    ∙ data_whole kind left d rest g

pub length-frame : (kind : Kind) (d : List ℕ) → length (frame kind d) ≡ 7 + length d
unfolding frame
length-frame kind d = omega arith

pub drop-frame : (kind : Kind) (d rest : List ℕ) → drop (7 + length d) (frame kind d ++ rest) ≡ rest
drop-frame kind d rest = subst (λ (n : ℕ). drop n (frame kind d ++ rest) ≡ rest) (length-frame kind d) (drop-append_seam (frame kind d) rest)

-- ---- the place in a page

-- the bytes left in the page at an offset
pub left_at : ℕ → ℕ → ℕ
left_at page offset = page - offset % page

left_le : (page offset : ℕ) → left_at page offset ≤ page
unfolding left_at
left_le page offset = omega arith

left_pos : (page offset : ℕ) → 0 < page → 0 < left_at page offset
unfolding left_at
left_pos page offset p = omega (arith, mod-lt offset p)

-- s bytes further on
left_moves : (page offset s : ℕ) → 0 < page → s ≤ left_at page offset → left_after page (left_at page offset) s ≡ left_at page (offset + s)
unfolding left_at
left_moves page offset s p h =
    let m : offset % page < page = mod-lt offset p in
    let split : offset / page * page + (offset % page + s) ≡ offset + s = omega (arith, div-add-mod' offset page) in
    let e : (offset + s) % page ≡ (offset % page + s) % page = ap (λ (x : ℕ). x % page) (sym split) ∙ mul-add-mod_self_right (offset / page) page (offset % page + s) in
    elim (cases_lt s (page - offset % page)) [
      | inl l ↦
          (let t : ltb s (page - offset % page) ≡ true = lt-ltb s (page - offset % page) l in
          let r : (offset % page + s) % page ≡ offset % page + s = mod-eq_of_lt (omega arith) in
          rw t (omega (arith, e, r)))
      | inr g ↦
          (let t : ltb s (page - offset % page) ≡ false = le-ltb s (page - offset % page) g in
          let f : offset % page + s ≡ page = omega arith in
          let r : (offset % page + s) % page ≡ 0 = ap (λ (x : ℕ). x % page) f ∙ mod_self page in
          rw t (omega (arith, e, r)))
    ]

zeros_all : (n : ℕ) (rest : List ℕ) → list_all (λ b. eqb b 0) (take n (replicate n 0 ++ rest)) ≡ true
zeros_all zero rest = refl
zeros_all (suc n) rest = zeros_all n rest

zeros_of : ℕ → List ℕ
zeros_of n = replicate n 0

length-zeros : (n : ℕ) → length (zeros_of n) ≡ n
unfolding zeros_of
length-zeros zero = refl
length-zeros (suc n) = ap suc (length-zeros n)

zeros_item : (n : ℕ) (rest : List ℕ) → 0 < n → n < 7 → item_at n (replicate n 0 ++ rest) ≡ zeros
unfolding item_at zeros_of
zeros_item zero rest p h = absurd (omega arith)
zeros_item (suc n) rest p h =
    let t : ltb (suc n) 7 ≡ true = lt-ltb (suc n) 7 h in
    let a : list_all (λ b. eqb b 0) (take n (replicate n 0 ++ rest)) ≡ true = zeros_all n rest in
    let u : ltb (suc (length (replicate n 0 ++ rest))) (suc n) ≡ false = le-ltb (suc (length (replicate n 0 ++ rest))) (suc n) (omega (arith, length-append (replicate n 0) rest, length-zeros n)) in
    rw (t, a, u) refl

-- the padding is passed over
-- the left that follows the left bytes of a page is a new page
left_full : (page offset : ℕ) → 0 < page → left_at page (offset + left_at page offset) ≡ page
left_full page offset p =
    let t : ltb (left_at page offset) (left_at page offset) ≡ false = le-ltb (left_at page offset) (left_at page offset) (le_refl (left_at page offset)) in
    sym (left_moves page offset (left_at page offset) p (le_refl (left_at page offset))) ∙ rw t refl

-- the padding is passed over, and what follows has room for a fragment
pub record PaddingRead (page offset : ℕ) (pad rest : List ℕ) : Type 0 where
  pub same : read_from false page (left_at page offset) None (pad ++ rest) ≡ read_from false page (left_at page (offset + length pad)) None rest
  pub room : 7 ≤ left_at page (offset + length pad)

padding_read : (page offset : ℕ) (rest : List ℕ) → 7 < page → PaddingRead page offset (padding (left_at page offset)) rest
unfolding zeros_of
padding_read page offset rest p = elim (cases_lt (left_at page offset) 7) [
  | inl l ↦
      (let n = left_at page offset in
      let p0 : 0 < page = omega arith in
      let t : ltb (left_at page offset) 7 ≡ true = lt-ltb (left_at page offset) 7 l in
      let e : padding (left_at page offset) ≡ zeros_of (left_at page offset) = rw t refl in
      let z : item_at (left_at page offset) (zeros_of (left_at page offset) ++ rest) ≡ zeros = zeros_item (left_at page offset) rest (left_pos page offset p0) l in
      let d : drop (left_at page offset) (zeros_of (left_at page offset) ++ rest) ≡ rest =
      subst (λ (k : ℕ). drop k (zeros_of (left_at page offset) ++ rest) ≡ rest) (length-zeros (left_at page offset)) (drop-append_seam (zeros_of (left_at page offset)) rest) in
      let f : left_at page (offset + length (zeros_of (left_at page offset))) ≡ page = ap (λ (k : ℕ). left_at page (offset + k)) (length-zeros (left_at page offset)) ∙ left_full page offset p0 in
      let r : PaddingRead page offset (zeros_of (left_at page offset)) rest = record {
        same = read_zeros false page (left_at page offset) (zeros_of (left_at page offset) ++ rest) p0 (left_pos page offset p0) None z
            ∙ ap (λ (x : List ℕ). read_from false page page None x) d
            ∙ ap (λ (k : ℕ). read_from false page k None rest) (sym f);
        room = omega (arith, f);
      } in
      subst (λ (x : List ℕ). PaddingRead page offset x rest) (sym e) r)
  | inr g ↦
      (let t : ltb (left_at page offset) 7 ≡ false = le-ltb (left_at page offset) 7 g in
      let e : padding (left_at page offset) ≡ [] = rw t refl in
      let o : offset + 0 ≡ offset = omega arith in
      let r : PaddingRead page offset [] rest = record {
        same = ap (λ (k : ℕ). read_from false page (left_at page k) None rest) (sym o);
        room = subst (λ (k : ℕ). 7 ≤ left_at page k) (sym o) g;
      } in
      subst (λ (x : List ℕ). PaddingRead page offset x rest) (sym e) r)
]

-- ---- a record's fragments are read as the record

pub begun_of : Option (List ℕ) → Bool
begun_of None = false
begun_of (Some o) = true

pub joined : Option (List ℕ) → List ℕ → List ℕ
joined None d = d
joined (Some o) d = o ++ d

-- the record that is open, which is no Snappy block
pub opened : Option (List ℕ) → Option Record
opened None = None
opened (Some o) = Some (false, o)

close : (page left : ℕ) (so_far : Option (List ℕ)) (bs d : List ℕ) → 0 < page → 0 < left → item_at left bs ≡ fragment (if begun_of so_far then last else full) d
    → read_from false page left (opened so_far) bs ≡ with_record (false, joined so_far d) (read_from false page (left_after page left (7 + length d)) None (drop (7 + length d) bs))
unfolding begun_of joined opened
close page left None bs d p l e = read_fragment false page left bs p l None full d e
close page left (Some o) bs d p l e = read_fragment false page left bs p l (Some (false, o)) last d e

go_on : (page left : ℕ) (so_far : Option (List ℕ)) (bs d : List ℕ) → 0 < page → 0 < left → item_at left bs ≡ fragment (if begun_of so_far then middle else first) d
    → read_from false page left (opened so_far) bs ≡ read_from false page (left_after page left (7 + length d)) (opened (Some (joined so_far d))) (drop (7 + length d) bs)
unfolding begun_of joined opened
go_on page left None bs d p l e = read_fragment false page left bs p l None first d e
go_on page left (Some o) bs d p l e = read_fragment false page left bs p l (Some (false, o)) middle d e

-- the text at an offset is read as this record and what follows it
pub record IsRead (page offset : ℕ) (so_far : Option (List ℕ)) (d text rest : List ℕ) : Type 0 where
  pub same : read_from false page (left_at page offset) (opened so_far) (text ++ rest) ≡ with_record (false, joined so_far d) (read_from false page (left_at page (offset + length text)) None rest)
  pub room : 7 ≤ left_at page (offset + length text)

ends_plain : (b : Bool) → IsPlain (if b then last else full)
ends_plain true = tt
ends_plain false = tt

goes_on_plain : (b : Bool) → IsPlain (if b then middle else first)
goes_on_plain true = tt
goes_on_plain false = tt

-- the last fragment and its padding
close_read : (page offset : ℕ) (so_far : Option (List ℕ)) (d rest : List ℕ) → 7 < page → page < 2 ^ 16 → AreBytes d → 7 + length d ≤ left_at page offset
    → IsRead page offset so_far d (frame (if begun_of so_far then last else full) d ++ padding (left_at page (offset + (7 + length d)))) rest
close_read page offset so_far d rest p q b h =
    let p0 : 0 < page = omega arith in
    let kind = if begun_of so_far then last else full in
    let w = padding_read page (offset + (7 + length d)) rest p in
    let pad = padding (left_at page (offset + (7 + length d))) in
    let short : length d < 2 ^ 16 = omega (arith, left_le page offset) in
    let item : item_at (left_at page offset) (frame kind d ++ (pad ++ rest)) ≡ fragment kind d = frame_item kind (left_at page offset) d (pad ++ rest) (ends_plain (begun_of so_far)) short h b in
    let len : length (frame kind d ++ pad) ≡ 7 + length d + length pad = omega (arith, length-append (frame kind d) pad, length-frame kind d) in
    let off : offset + length (frame kind d ++ pad) ≡ offset + (7 + length d) + length pad = omega (arith, len) in
    record {
      same =
          ap (λ (x : List ℕ). read_from false page (left_at page offset) (opened so_far) x) (append_assoc (frame kind d) pad rest)
          ∙ close page (left_at page offset) so_far (frame kind d ++ (pad ++ rest)) d p0 (left_pos page offset p0) item
          ∙ ap (λ (k : ℕ). with_record (false, joined so_far d) (read_from false page k None (drop (7 + length d) (frame kind d ++ (pad ++ rest))))) (left_moves page offset (7 + length d) p0 h)
          ∙ ap (λ (x : List ℕ). with_record (false, joined so_far d) (read_from false page (left_at page (offset + (7 + length d))) None x)) (drop-frame kind d (pad ++ rest))
          ∙ ap (with_record (false, joined so_far d)) w.same
          ∙ ap (λ (k : ℕ). with_record (false, joined so_far d) (read_from false page (left_at page k) None rest)) (sym off);
      room = subst (λ (k : ℕ). 7 ≤ left_at page k) (sym off) w.room;
    }

padding_same : (page offset n : ℕ) → 7 < page → 7 + n ≤ left_at page offset → padding (left_at page offset - 7 - n) ≡ padding (left_at page (offset + (7 + n)))
padding_same page offset n p h =
    let p0 : 0 < page = omega arith in
    let m = left_moves page offset (7 + n) p0 h in
    elim (cases_lt (7 + n) (left_at page offset)) [
      | inl l ↦
          (let t : ltb (7 + n) (left_at page offset) ≡ true = lt-ltb (7 + n) (left_at page offset) l in
          let a : left_after page (left_at page offset) (7 + n) ≡ left_at page offset - (7 + n) = rw t refl in
          let e : left_at page offset - 7 - n ≡ left_at page (offset + (7 + n)) = omega (arith, a, m) in
          ap padding e)
      | inr g ↦
          (let t : ltb (7 + n) (left_at page offset) ≡ false = le-ltb (7 + n) (left_at page offset) g in
          let a : left_after page (left_at page offset) (7 + n) ≡ page = rw t refl in
          let e : left_at page offset - 7 - n ≡ 0 = omega arith in
          let u : ltb page 7 ≡ false = le-ltb page 7 (omega arith) in
          let f : padding page ≡ [] = rw u refl in
          ap padding e ∙ sym f ∙ ap padding (sym a ∙ m))
    ]

bytes_take : (n : ℕ) (d : List ℕ) → AreBytes d → AreBytes (take n d)
bytes_take n d b i = elim (cases_lt i n) [
  | inl l ↦ (let e : get_or (take n d) i 0 ≡ get_or d i 0 = get_or-take n d i 0 l in omega (arith, e, b i))
  | inr g ↦ (let z : get_or (take n d) i 0 ≡ 0 = get_or_past (take n d) i 0 (omega (arith, length-take n d)) in omega (arith, z))
]

bytes_drop : (n : ℕ) (d : List ℕ) → AreBytes d → AreBytes (drop n d)
bytes_drop n d b i = let e : get_or (drop n d) i 0 ≡ get_or d (n + i) 0 = get_or-drop n d i 0 in omega (arith, e, b (n + i))

joined-take : (so_far : Option (List ℕ)) (n : ℕ) (d : List ℕ) → joined (Some (joined so_far (take n d))) (drop n d) ≡ joined so_far d
unfolding joined
joined-take None n d = take-append-drop n d
joined-take (Some o) n d = append_assoc o (take n d) (drop n d) ∙ ap (λ (x : List ℕ). o ++ x) (take-append-drop n d)

-- a fragment that fills its page, and then the rest of the record
more_read : (page offset : ℕ) (so_far : Option (List ℕ)) (d text rest : List ℕ) → 7 < page → page < 2 ^ 16 → AreBytes d → 7 ≤ left_at page offset → left_at page offset - 7 ≤ length d
    → IsRead page (offset + left_at page offset) (Some (joined so_far (take (left_at page offset - 7) d))) (drop (left_at page offset - 7) d) text rest
    → IsRead page offset so_far d (frame (if begun_of so_far then middle else first) (take (left_at page offset - 7) d) ++ text) rest
more_read page offset so_far d text rest p q b h g ih =
    let p0 : 0 < page = omega arith in
    let kind = if begun_of so_far then middle else first in
    let left = left_at page offset in
    let front = take (left_at page offset - 7) d in
    let size : 7 + length front ≡ left_at page offset = omega (arith, length-take (left_at page offset - 7) d) in
    let short : length front < 2 ^ 16 = omega (arith, left_le page offset, size) in
    let fits : 7 + length front ≤ left_at page offset = omega (arith, size) in
    let item : item_at (left_at page offset) (frame kind front ++ (text ++ rest)) ≡ fragment kind front =
    frame_item kind (left_at page offset) front (text ++ rest) (goes_on_plain (begun_of so_far)) short fits (bytes_take (left_at page offset - 7) d b) in
    let len : offset + length (frame kind front ++ text) ≡ offset + left_at page offset + length text = omega (arith, length-append (frame kind front) text, length-frame kind front, size) in
    let after : left_after page (left_at page offset) (7 + length front) ≡ left_at page (offset + left_at page offset) =
    left_moves page offset (7 + length front) p0 fits ∙ ap (λ (k : ℕ). left_at page (offset + k)) size in
    record {
      same =
          ap (λ (x : List ℕ). read_from false page (left_at page offset) (opened so_far) x) (append_assoc (frame kind front) text rest)
          ∙ go_on page (left_at page offset) so_far (frame kind front ++ (text ++ rest)) front p0 (left_pos page offset p0) item
          ∙ ap (λ (k : ℕ). read_from false page k (opened (Some (joined so_far front))) (drop (7 + length front) (frame kind front ++ (text ++ rest)))) after
          ∙ ap (λ (x : List ℕ). read_from false page (left_at page (offset + left_at page offset)) (opened (Some (joined so_far front))) x) (drop-frame kind front (text ++ rest))
          ∙ ih.same
          ∙ ap (λ (x : List ℕ). with_record (false, x) (read_from false page (left_at page (offset + left_at page offset + length text)) None rest)) (joined-take so_far (left_at page offset - 7) d)
          ∙ ap (λ (k : ℕ). with_record (false, joined so_far d) (read_from false page (left_at page k) None rest)) (sym len);
      room = subst (λ (k : ℕ). 7 ≤ left_at page k) (sym len) ih.room;
    }

frames_read : (page k offset : ℕ) (so_far : Option (List ℕ)) (d rest : List ℕ) → 7 < page → page < 2 ^ 16 → AreBytes d → 0 < length d → 7 ≤ left_at page offset
    → length d + (8 - left_at page offset) ≤ k
    → IsRead page offset so_far d (frames page k (left_at page offset) (begun_of so_far) d) rest
unfolding begun_of
frames_read page zero offset so_far d rest p q b n h f = absurd (omega arith)
frames_read page (suc k) offset so_far d rest p q b n h f = elim (cases_lt (left_at page offset - 7) (length d)) [
  | inr g ↦
      (let t : leb (length d) (left_at page offset - 7) ≡ true = le-leb (length d) (left_at page offset - 7) g in
      let e = padding_same page offset (length d) p (omega arith) in
      let r = close_read page offset so_far d rest p q b (omega arith) in
      rw (t, e) r)
  | inl l ↦
      (let t : leb (length d) (left_at page offset - 7) ≡ false = lt-leb (length d) (left_at page offset - 7) l in
      let full_page : left_at page (offset + left_at page offset) ≡ page = left_full page offset (omega arith) in
      let ih = frames_read page k (offset + left_at page offset) (Some (joined so_far (take (left_at page offset - 7) d))) (drop (left_at page offset - 7) d) rest p q
      (bytes_drop (left_at page offset - 7) d b) (omega (arith, length-drop (left_at page offset - 7) d)) (omega (arith, full_page)) (omega (arith, full_page, length-drop (left_at page offset - 7) d)) in
      let ih' = subst (λ (m : ℕ). IsRead page (offset + left_at page offset) (Some (joined so_far (take (left_at page offset - 7) d))) (drop (left_at page offset - 7) d) (frames page k m true (drop (left_at page offset - 7) d)) rest) full_page ih in
      let r = more_read page offset so_far d (frames page k page true (drop (left_at page offset - 7) d)) rest p q b h (omega arith) ih' in
      rw t r)
]

-- a record that was written at an offset is read again, whatever follows it
pub log_read : (page offset : ℕ) (d rest : List ℕ) → 7 < page → page < 2 ^ 16 → AreBytes d → 0 < length d → 7 ≤ left_at page offset
    → IsRead page offset None d (log_bytes page offset d) rest
unfolding log_bytes begun_of left_at opened
log_read page offset d rest p q b n h = frames_read page (length d + 1) offset None d rest p q b n h (omega arith)

pub empty_item : (left : ℕ) → item_at left [] ≡ nothing
unfolding item_at
empty_item left = refl

all_read : (page offset : ℕ) (ds : List (List ℕ)) → 7 < page → page < 2 ^ 16 → AreRecords ds → 7 ≤ left_at page offset
    → read_from false page (left_at page offset) None (log_all page offset ds) ≡ reading_of_records ds
unfolding joined opened
all_read page offset [] p q r h = read_nothing false page (left_at page offset) [] (omega arith) (omega arith) None (empty_item (left_at page offset))
all_read page offset (d ∷ ds) p q r h =
    let w = log_read page offset d (log_all page (offset + length (log_bytes page offset d)) ds) p q r.0 r.1 h in
    w.same ∙ ap (with_record (false, d)) (all_read page (offset + length (log_bytes page offset d)) ds p q r.2 w.room)

-- the entries of written records are read again
pub segment_read : (page : ℕ) (ds : List (List ℕ)) → 7 < page → page < 2 ^ 16 → AreRecords ds → segment page (log_all page 0 ds) ≡ reading_of_records ds
unfolding segment_in left_at
segment_read page ds p q r =
    let z : page - 0 % page ≡ page = let m : 0 % page ≡ 0 = mod-eq_of_lt (omega arith) in omega (arith, m) in
    let h : 7 ≤ page - 0 % page = omega (arith, z) in
    ap (λ (left : ℕ). read_from false page left None (log_all page 0 ds)) (sym z) ∙ all_read page 0 ds p q r h

pub records_read : (page : ℕ) (ds : List (List ℕ)) → 7 < page → page < 2 ^ 16 → AreRecords ds → reading page (bytes (log_all page 0 ds) ∷ []) ≡ reading_of_records ds
unfolding reading
records_read page ds p q r = segment_read page ds p q r

-- if each record is of its form, their entries are read, and there is no fault
record_first : (d : List ℕ) (found : Option (List Entry)) (ds : List (List ℕ)) (es : List Entry)
    → (found then λ front. entries_of_records ds then λ more. Some (front ++ more)) ≡ Some es
    → ((more : List Entry) → entries_of_records ds ≡ Some more → (reading_of_records ds).entries ≡ more × ((reading_of_records ds).stop ≡ between))
    → ((with_entries d found (reading_of_records ds)).entries ≡ es) × ((with_entries d found (reading_of_records ds)).stop ≡ between)
record_first d None ds es e ih = cc
record_first d (Some front) ds es e ih = after (entries_of_records ds) refl
  where
    after : (o : Option (List Entry)) → entries_of_records ds ≡ o → ((front ++ (reading_of_records ds).entries) ≡ es) × ((reading_of_records ds).stop ≡ between)
    after None f = let g : (entries_of_records ds then λ more. Some (front ++ more)) ≡ None = ap (λ (x : Option (List Entry)). x then λ more. Some (front ++ more)) f in cc
    after (Some more) f =
        let g : (entries_of_records ds then λ more. Some (front ++ more)) ≡ Some (front ++ more) = ap (λ (x : Option (List Entry)). x then λ more. Some (front ++ more)) f in
        let h = ih more f in
        let a : front ++ (reading_of_records ds).entries ≡ front ++ more = ap (λ (l : List Entry). front ++ l) h.0 in
        let b : front ++ more ≡ es = cc in
        (a ∙ b, h.1)

all_first : (ds : List (List ℕ)) (es : List Entry) → entries_of_records ds ≡ Some es → ((reading_of_records ds).entries ≡ es) × ((reading_of_records ds).stop ≡ between)
all_first [] es e = let f : [] ≡ es = cc in (f, refl)
all_first (d ∷ ds) es e = record_first d (record_entries d) ds es e (all_first ds)

pub entries_read : (ds : List (List ℕ)) (es : List Entry) → AreRecords ds → entries_of_records ds ≡ Some es
    → (entries (bytes (log_all page_size 0 ds) ∷ []) ≡ es) × (fault (bytes (log_all page_size 0 ds) ∷ []) ≡ None)
entries_read ds es r e =
    let a = records_read page_size ds (lit< tt) (lit< tt) r in
    let b = all_first ds es e in
    (ap (λ (x : Reading). x.entries) a ∙ b.0, ap (λ (x : Reading). fault_at x.stop) a ∙ ap fault_at b.1)

-- one more record goes after what was written
pub log_all-append : (page offset : ℕ) (ds : List (List ℕ)) (d : List ℕ)
    → log_all page offset (ds ++ d ∷ []) ≡ log_all page offset ds ++ log_bytes page (offset + length (log_all page offset ds)) d
log_all-append page offset [] d =
    let at : offset ≡ offset + 0 = omega arith in
    append-nil (log_bytes page offset d) ∙ ap (λ (n : ℕ). log_bytes page n d) at
log_all-append page offset (e ∷ ds) d =
    let front = log_bytes page offset e in
    let next = offset + length (log_bytes page offset e) in
    let at : next + length (log_all page next ds) ≡ offset + length (front ++ log_all page next ds) = omega (arith, length-append front (log_all page next ds)) in
    ap (λ (l : List ℕ). front ++ l) (log_all-append page next ds d)
    ∙ sym (append_assoc front (log_all page next ds) (log_bytes page (next + length (log_all page next ds)) d))
    ∙ ap (λ (n : ℕ). (front ++ log_all page next ds) ++ log_bytes page n d) at
