-- A record that has room in a segment leaves its offset within the pages, at a place where a
-- fragment may begin.
use Rattle.std.proofs.Common.{◌≡◌, ℕ, zero, suc, ◌+◌, ◌-◌, ◌*◌, ◌/◌, ◌%◌, ◌<◌, ◌≤◌, List, length, take, drop, replicate, Bool, true, false, if◌then◌else◌, ltb, refl, sym, ap, ◌∙◌, subst, inl, inr, arith, lt-ltb, le-ltb, length-append, length-drop}
use Rattle.std.proofs.lemmas.Bool.{cases_lt}
use Rattle.std.proofs.lemmas.List.{length-take-le}
use Rattle.rw_wal_format.specs.Segments.{full, first, middle, last}
use Rattle.rw_wal_format.specs.Pieces.{page_size}
use Rattle.rw_wal_format.specs.Writing.{frame, padding, frames, log_bytes, room}
use Rattle.rw_wal_write.specs.Segment.{IsPlace}
use Rattle.rw_wal_write.proofs.Underway.{left_at, next_page, frames_more, frames_end}
use Rattle.rw_wal_format.proofs.shared.Written.{length-frame}

length-zeros : (n : ℕ) → length (replicate {A = ℕ} n 0) ≡ n
length-zeros zero = refl
length-zeros (suc n) = ap suc (length-zeros n)

padding_short : (n : ℕ) → n < 7 → length (padding n) ≡ n
padding_short n h = let t : ltb n 7 ≡ true = lt-ltb n 7 h in rw t (length-zeros n)

padding_long : (n : ℕ) → 7 ≤ n → length (padding n) ≡ 0
padding_long n h = let t : ltb n 7 ≡ false = le-ltb n 7 h in rw t refl

-- the bytes of the last fragment and its padding
length-end : (k left : ℕ) (goes_on : Bool) (d : List ℕ) → length d ≤ left - 7
    → length (frames page_size (suc k) left goes_on d) ≡ 7 + length d + length (padding (left - 7 - length d))
length-end k left goes_on d h =
    ap length (frames_end k left goes_on d h)
    ∙ length-append (frame (if goes_on then last else full) d) (padding (left - 7 - length d))
    ∙ ap (λ (n : ℕ). n + length (padding (left - 7 - length d))) (length-frame (if goes_on then last else full) d)

-- those of a fragment that fills its page, and of the rest
length-more : (k left : ℕ) (goes_on : Bool) (d : List ℕ) → 7 ≤ left → left - 7 < length d
    → length (frames page_size (suc k) left goes_on d) ≡ left + length (frames page_size k page_size true (drop (left - 7) d))
length-more k left goes_on d p h =
    let front = frame (if goes_on then middle else first) (take (left - 7) d) in
    let behind = frames page_size k page_size true (drop (left - 7) d) in
    let size : length front ≡ left = omega (arith, length-frame (if goes_on then middle else first) (take (left - 7) d), length-take-le (left - 7) d (omega arith)) in
    ap length (frames_more k left goes_on d h) ∙ length-append front behind ∙ ap (λ (n : ℕ). n + length behind) size

within-end : (k left m : ℕ) (goes_on : Bool) (d : List ℕ) → 7 ≤ left → length d ≤ left - 7 → length (frames page_size (suc k) left goes_on d) ≤ left + m * page_size
within-end k left m goes_on d p h = elim (cases_lt (left - 7 - length d) 7) [
  | inl l ↦ omega (arith, length-end k left goes_on d h, padding_short (left - 7 - length d) l)
  | inr g ↦ omega (arith, length-end k left goes_on d h, padding_long (left - 7 - length d) g)
]

within-more : (k left m : ℕ) (goes_on : Bool) (d : List ℕ) → 7 ≤ left → left - 7 < length d → length d ≤ left - 7 + m * (page_size - 7)
    → ((n : ℕ) → length (drop (left - 7) d) ≤ page_size - 7 + n * (page_size - 7) → length (frames page_size k page_size true (drop (left - 7) d)) ≤ page_size + n * page_size)
    → length (frames page_size (suc k) left goes_on d) ≤ left + m * page_size
within-more k left zero goes_on d p l h more = absurd (omega arith)
within-more k left (suc m) goes_on d p l h more =
    let rest = more m (omega (arith, length-drop (left - 7) d)) in
    omega (arith, length-more k left goes_on d p l, rest)

-- they stay within the rest of this page and m whole pages
within : (k left m : ℕ) (goes_on : Bool) (d : List ℕ) → 7 ≤ left → length d ≤ left - 7 + m * (page_size - 7) → length (frames page_size k left goes_on d) ≤ left + m * page_size
within zero left m goes_on d p h = omega arith
within (suc k) left m goes_on d p h = elim (cases_lt (left - 7) (length d)) [
  | inl l ↦ within-more k left m goes_on d p l h (λ n. within k page_size n true (drop (left - 7) d) (omega arith))
  | inr g ↦ within-end k left m goes_on d p g
]

-- a place after the last fragment, whose padding is the rest of the page or none
place-end : (k offset : ℕ) (goes_on : Bool) (d : List ℕ) → 7 ≤ left_at offset → length d ≤ left_at offset - 7
    → 7 ≤ left_at (offset + length (frames page_size (suc k) (left_at offset) goes_on d))
place-end k offset goes_on d p h = elim (cases_lt (left_at offset - 7 - length d) 7) [
  | inl l ↦
      (let e : length (frames page_size (suc k) (left_at offset) goes_on d) ≡ left_at offset = omega (arith, length-end k (left_at offset) goes_on d h, padding_short (left_at offset - 7 - length d) l) in
      subst (λ (n : ℕ). 7 ≤ left_at (offset + n)) (sym e) (omega arith))
  | inr g ↦
      (let e : length (frames page_size (suc k) (left_at offset) goes_on d) ≡ 7 + length d = omega (arith, length-end k (left_at offset) goes_on d h, padding_long (left_at offset - 7 - length d) g) in
      subst (λ (n : ℕ). 7 ≤ left_at (offset + n)) (sym e) (omega arith))
]

place-more : (k offset : ℕ) (goes_on : Bool) (d : List ℕ) → 7 ≤ left_at offset → left_at offset - 7 < length d
    → 7 ≤ left_at (offset + left_at offset + length (frames page_size k page_size true (drop (left_at offset - 7) d)))
    → 7 ≤ left_at (offset + length (frames page_size (suc k) (left_at offset) goes_on d))
place-more k offset goes_on d p l h =
    let behind = length (frames page_size k page_size true (drop (left_at offset - 7) d)) in
    let e : offset + left_at offset + behind ≡ offset + length (frames page_size (suc k) (left_at offset) goes_on d) = omega (arith, length-more k (left_at offset) goes_on d p l) in
    subst (λ (n : ℕ). 7 ≤ left_at n) e h

place : (k offset : ℕ) (goes_on : Bool) (d : List ℕ) → 0 < length d → 7 ≤ left_at offset → length d + (8 - left_at offset) ≤ k
    → 7 ≤ left_at (offset + length (frames page_size k (left_at offset) goes_on d))
place zero offset goes_on d s p f = absurd (omega arith)
place (suc k) offset goes_on d s p f = elim (cases_lt (left_at offset - 7) (length d)) [
  | inl l ↦
      (let page : left_at (offset + left_at offset) ≡ page_size = next_page offset (left_at offset) refl in
      let ih = place k (offset + left_at offset) true (drop (left_at offset - 7) d) (omega (arith, length-drop (left_at offset - 7) d)) (omega (arith, page))
      (omega (arith, page, length-drop (left_at offset - 7) d)) in
      place-more k offset goes_on d p l
      (subst (λ (left : ℕ). 7 ≤ left_at (offset + left_at offset + length (frames page_size k left true (drop (left_at offset - 7) d)))) page ih))
  | inr g ↦ place-end k offset goes_on d p g
]

-- the whole pages after that of an offset, and the room that they and its page have
record Behind (pages offset : ℕ) : Type 0 where
  more : ℕ
  bytes : offset + left_at offset + more * page_size ≡ pages * page_size
  data_bytes : room page_size pages offset ≡ left_at offset - 7 + more * (page_size - 7)

behind-at : (pages offset q r : ℕ) → offset ≤ pages * page_size → (pages * page_size - offset) / page_size ≡ q → (pages * page_size - offset) % page_size ≡ r → 0 < room page_size pages offset
    → Behind pages offset
behind-at pages offset zero zero w e f h = absurd (omega arith)
behind-at pages offset (suc q) zero w e f h = record { more = q; bytes = omega arith; data_bytes = omega arith }
behind-at pages offset q (suc r) w e f h = record { more = q; bytes = omega arith; data_bytes = omega arith }

behind : (pages offset : ℕ) → offset ≤ pages * page_size → 0 < room page_size pages offset → Behind pages offset
behind pages offset w h = behind-at pages offset _ _ w refl refl h

pub room_fits : (pages offset : ℕ) (d : List ℕ) → IsPlace pages offset → 0 < length d → length d ≤ room page_size pages offset
    → IsPlace pages (offset + length (log_bytes page_size offset d))
unfolding log_bytes
room_fits pages offset d p s h =
    let b = behind pages offset p.within (omega arith) in
    let w = within (length d + 1) (left_at offset) b.more false d p.header (omega (arith, b.data_bytes)) in
    record {
      some = p.some;
      most = p.most;
      within = omega (arith, w, b.bytes);
      header = place (length d + 1) offset false d s p.header (omega (arith, p.header));
    }
