-- What is written as a varint is read again, and the ZigZag map is undone. The steps of both loops.
use Rattle.std.proofs.Common.{◌≡◌, ℕ, zero, suc, ◌+◌, ◌-◌, ◌*◌, ◌/◌, ◌%◌, ◌^◌, ◌<◌, ◌≤◌, ℤ, pos, negsuc, List, [], ◌∷◌, ◌++◌, length, drop, get_or, Ok, Err, true, false, ltb, eqb, refl, ap, subst, inl, inr, arith, lt-ltb, le-ltb, OnErr, eq-eqb, ne_eqb, div-add-mod', Result, ◌≢◌, add-one, drop-cons, drop_of_length-le, lit<, w64, SFits}
use Rattle.std.proofs.Math.Nat.{pow-le-pow_right, mul-le-mul_left}
use Rattle.std.proofs.lemmas.Bool.{cases_lt}
use Rattle.std.proofs.lemmas.Bool.Decides.{eqb_tells}
use Rattle.rw_codes.specs.Varint.{AreBytes, ◌>>=◌, groups, number_in_groups, uvarint, read_uvarint, zig_zag, un_zig_zag, varint, read_varint}
use Rattle.rw_codes.specs.declared.code_fault.CodeFault.{CodeFault}
use Rattle.rw_codes.specs.declared.code_fault.CodeFault.TheVariants.{Short, TooBig}
use Rattle.rw_codes.proofs.shared.Digits.{power}

-- a byte that goes on, and then the rest
join : (n high : ℕ) → n / 128 ≡ high → 128 + n % 128 - 128 + 128 * high ≡ n
join n high e = omega (arith, div-add-mod' n 128)

pub groups_again : (k n : ℕ) (rest : List ℕ) → n < 2 * 128 ^ k → number_in_groups k (groups k n ++ rest) ≡ Ok (n, rest)
unfolding groups number_in_groups
groups_again zero n rest h =
    let l : n < 2 = omega arith in
    let t : ltb n 2 ≡ true = lt-ltb n 2 l in
    rw t refl
groups_again (suc k) n rest h = elim (cases_lt n 128) [
  | inl l ↦ (let t : ltb n 128 ≡ true = lt-ltb n 128 l in rw t (rw t refl))
  | inr g ↦
      (let t : ltb n 128 ≡ false = le-ltb n 128 g in
      let u : ltb (128 + n % 128) 128 ≡ false = le-ltb (128 + n % 128) 128 (omega arith) in
      let b : n / 128 < 2 * 128 ^ k = omega (arith, power k) in
      rw t (rw u (rw (groups_again k (n / 128) rest b) (ap (λ (x : ℕ). Ok (x, rest)) (join n (n / 128) refl)))))
]

-- what was written is read again, whatever follows it
pub uvarint_again : (n : ℕ) (rest : List ℕ) → n < 2 ^ 64 → read_uvarint (uvarint n ++ rest) ≡ Ok (n, rest)
uvarint_again n rest h = groups_again 9 n rest h

-- ---- no form is shorter than the one that is written

-- how long the form is of a number that was read as these bytes
groups-after : (k n b high : ℕ) → 128 ≤ b → b < 256 → b - 128 + 128 * high ≡ n → length (groups (suc k) n) ≤ 1 + length (groups k high)
unfolding groups
groups-after k n b high g l e = elim (cases_lt n 128) [
  | inl m ↦ (let t : ltb n 128 ≡ true = lt-ltb n 128 m in rw t (omega arith))
  | inr m ↦
      (let t : ltb n 128 ≡ false = le-ltb n 128 m in
      let h : n / 128 ≡ high = omega arith in
      rw (t, h) (omega arith))
]

-- a byte that goes on, and what was read of the others
abbrev with_group : ℕ → Result (ℕ × List ℕ) CodeFault → Result (ℕ × List ℕ) CodeFault
with_group b r = r >>= λ high. Ok (b - 128 + 128 * high.0, high.1)

read_after : (k : ℕ) (b n : ℕ) (bs rest : List ℕ) (r : Result (ℕ × List ℕ) CodeFault) → 128 ≤ b → b < 256
    → with_group b r ≡ Ok (n, rest)
    → ((m : ℕ) (after : List ℕ) → r ≡ Ok (m, after) → length (groups k m) + length after ≤ length bs)
    → length (groups (suc k) n) + length rest ≤ suc (length bs)
read_after k b n bs rest (Err f) g l e ih = cc
read_after k b n bs rest (Ok x) g l e ih =
    let p : (b - 128 + 128 * x.0, x.1) ≡ (n, rest) = cc in
    let value : b - 128 + 128 * x.0 ≡ n = ap (λ (y : ℕ × List ℕ). y.0) p in
    let left : length x.1 ≡ length rest = ap (λ (y : ℕ × List ℕ). length y.1) p in
    omega (arith, ih x.0 x.1 refl, groups-after k n b x.0 g l value)

groups-shortest : (k n : ℕ) (bs rest : List ℕ) → AreBytes bs → number_in_groups k bs ≡ Ok (n, rest) → length (groups k n) + length rest ≤ length bs
unfolding groups number_in_groups
groups-shortest zero n [] rest a e = cc
groups-shortest (suc k) n [] rest a e = cc
groups-shortest zero n (b ∷ bs) rest a e = elim (cases_lt b 2) [
  | inl l ↦
      (let t : ltb b 2 ≡ true = lt-ltb b 2 l in
      let e' = rw t at e in
      let p : (b, bs) ≡ (n, rest) = cc in
      let left : length bs ≡ length rest = ap (λ (y : ℕ × List ℕ). length y.1) p in
      omega arith)
  | inr g ↦ (let t : ltb b 2 ≡ false = le-ltb b 2 g in let e' = rw t at e in cc)
]
groups-shortest (suc k) n (b ∷ bs) rest a e = elim (cases_lt b 128) [
  | inl l ↦
      (let t : ltb b 128 ≡ true = lt-ltb b 128 l in
      let e' = rw t at e in
      let p : (b, bs) ≡ (n, rest) = cc in
      let value : b ≡ n = ap (λ (y : ℕ × List ℕ). y.0) p in
      let left : length bs ≡ length rest = ap (λ (y : ℕ × List ℕ). length y.1) p in
      let u : ltb n 128 ≡ true = lt-ltb n 128 (omega arith) in
      rw u (omega arith))
  | inr g ↦
      (let t : ltb b 128 ≡ false = le-ltb b 128 g in
      let e' = rw t at e in
      read_after k b n bs rest (number_in_groups k bs) g (a 0) e' (λ m after f. groups-shortest k m bs after (λ i. a (suc i)) f))
]

pub uvarint_shortest : (bytes rest : List ℕ) (n : ℕ) → AreBytes bytes → read_uvarint bytes ≡ Ok (n, rest) → length (uvarint n) + length rest ≤ length bytes
uvarint_shortest bytes rest n a e = groups-shortest 9 n bytes rest a e

even : (n : ℕ) → (2 * n % 2 ≡ 0) × (2 * n / 2 ≡ n)
even n = omega arith

odd : (n : ℕ) → ((2 * n + 1) % 2 ≢ 0) × ((2 * n + 1) / 2 ≡ n)
odd n = omega arith

pub zig_zag_again : (z : ℤ) → un_zig_zag (zig_zag z) ≡ z
zig_zag_again (pos n) =
    let t : eqb (2 * n % 2) 0 ≡ true = eq-eqb (2 * n % 2) 0 ((even n).0) in
    rw t (ap pos ((even n).1))
zig_zag_again (negsuc n) =
    let t : eqb ((2 * n + 1) % 2) 0 ≡ false = ne_eqb ((2 * n + 1) % 2) 0 ((odd n).0) in
    rw t (ap negsuc ((odd n).1))

pub un_zig_zag_again : (n : ℕ) → zig_zag (un_zig_zag n) ≡ n
un_zig_zag_again n = elim (eqb_tells (n % 2) 0) [
  | inl h ↦ (let t : eqb (n % 2) 0 ≡ true = h.0 in let e : n % 2 ≡ 0 = h.1 in let half : 2 * (n / 2) ≡ n = omega arith in rw t half)
  | inr h ↦ (let t : eqb (n % 2) 0 ≡ false = h.0 in let e : n % 2 ≢ 0 = h.1 in let half : 2 * (n / 2) + 1 ≡ n = omega arith in rw t half)
]

pub varint_again : (z : ℤ) (rest : List ℕ) → zig_zag z < 2 ^ 64 → read_varint (varint z ++ rest) ≡ Ok (z, rest)
varint_again z rest h = rw (uvarint_again (zig_zag z) rest h) (ap (λ (x : ℤ). Ok (x, rest)) (zig_zag_again z))

-- what is so in any case, is so if memory runs out
pub also_on_err : {A E : Type 0} (P : Type 0) (r : Result A E) → P → OnErr r P
also_on_err P (Ok x) p = tt
also_on_err P (Err e) p = p

-- ---- the reader's loop

-- what was read of the groups above those of a value
unfoldable pub above : ℕ → ℕ → Result (ℕ × List ℕ) CodeFault → Result (ℕ × List ℕ) CodeFault
above value weight (Ok x) = Ok (value + weight * x.0, x.1)
above value weight (Err e) = Err e

pub above_none : (r : Result (ℕ × List ℕ) CodeFault) → r ≡ above 0 1 r
unfolding above
above_none (Ok x) = ap (λ (n : ℕ). Ok (n, x.1)) (let e : x.0 ≡ 0 + 1 * x.0 = omega arith in e)
above_none (Err e) = refl

above_next : (v w b : ℕ) (r : Result (ℕ × List ℕ) CodeFault)
    → above v w (r >>= λ high. Ok (b - 128 + 128 * high.0, high.1)) ≡ above (v + w * (b - 128)) (w * 128) r
unfolding above
above_next v w b (Ok x) =
    ap (λ (n : ℕ). Ok (n, x.1)) (let e : v + w * (b - 128 + 128 * x.0) ≡ v + w * (b - 128) + w * 128 * x.0 = omega arith in e)
above_next v w b (Err e) = refl

-- a byte that goes on
pub get_more : (bytes : List ℕ) (i v w : ℕ) → i < length bytes → i ≢ 9 → i ≤ 9 → 128 ≤ get_or bytes i 0
    → above v w (number_in_groups (9 - i) (drop i bytes)) ≡ above (v + w * (get_or bytes i 0 - 128)) (w * 128) (number_in_groups (9 - (i + 1)) (drop (i + 1) bytes))
unfolding number_in_groups
get_more bytes i v w l ne le g =
    let k : 9 - i ≡ suc (9 - (i + 1)) = omega arith in
    let t : ltb (get_or bytes i 0) 128 ≡ false = le-ltb (get_or bytes i 0) 128 g in
    rw (drop-cons bytes i 0, k) (rw (t, add-one) (above_next v w (get_or bytes i 0) (number_in_groups (9 - suc i) (drop (suc i) bytes))))

-- the last byte, before the tenth
pub get_last : (bytes : List ℕ) (i v w : ℕ) → i < length bytes → i ≢ 9 → i ≤ 9 → get_or bytes i 0 < 128
    → above v w (number_in_groups (9 - i) (drop i bytes)) ≡ Ok (v + w * get_or bytes i 0, drop (i + 1) bytes)
unfolding number_in_groups above
get_last bytes i v w l ne le g =
    let k : 9 - i ≡ suc (9 - (i + 1)) = omega arith in
    let t : ltb (get_or bytes i 0) 128 ≡ true = lt-ltb (get_or bytes i 0) 128 g in
    rw (drop-cons bytes i 0, k) (rw (t, add-one) refl)

-- the tenth
pub get_tenth : (bytes : List ℕ) (i v w : ℕ) → i < length bytes → i ≡ 9 → get_or bytes i 0 ≤ 1
    → above v w (number_in_groups (9 - i) (drop i bytes)) ≡ Ok (v + w * get_or bytes i 0, drop 10 bytes)
unfolding number_in_groups above
get_tenth bytes i v w l e g =
    let l9 : 9 < length bytes = omega arith in
    let g9 : get_or bytes 9 0 ≤ 1 = subst (λ (n : ℕ). get_or bytes n 0 ≤ 1) e g in
    let t : ltb (get_or bytes 9 0) 2 ≡ true = lt-ltb (get_or bytes 9 0) 2 (omega arith) in
    rw e (rw (drop-cons bytes 9 0) (rw t refl))

pub get_too_big : (bytes : List ℕ) (i v w : ℕ) → i < length bytes → i ≡ 9 → 1 < get_or bytes i 0
    → above v w (number_in_groups (9 - i) (drop i bytes)) ≡ Err TooBig
unfolding number_in_groups above
get_too_big bytes i v w l e g =
    let l9 : 9 < length bytes = omega arith in
    let g9 : 1 < get_or bytes 9 0 = subst (λ (n : ℕ). 1 < get_or bytes n 0) e g in
    let t : ltb (get_or bytes 9 0) 2 ≡ false = le-ltb (get_or bytes 9 0) 2 (omega arith) in
    rw e (rw (drop-cons bytes 9 0) (rw t refl))

number_in_none : (k : ℕ) → number_in_groups k [] ≡ Err Short
unfolding number_in_groups
number_in_none zero = refl
number_in_none (suc k) = refl

pub get_short : (bytes : List ℕ) (i v w : ℕ) → length bytes ≤ i
    → above v w (number_in_groups (9 - i) (drop i bytes)) ≡ Err Short
unfolding above
get_short bytes i v w h = rw (drop_of_length-le bytes h, number_in_none (9 - i)) refl

-- the weight of a byte that goes on fits
pub weight_fits : (i w : ℕ) → i ≤ 9 → i ≢ 9 → w ≡ 128 ^ i → w * 128 < 2 ^ 64
weight_fits i w l ne e = let p : 128 ^ i ≤ 128 ^ 8 = let q : i ≤ 8 = omega arith in pow-le-pow_right (lit< tt) q in omega (arith, p)

-- the value so far stays below its weight
pub value_fits : (v w b : ℕ) → v < w → b < 256 → v + w * (b - 128) < w * 128
value_fits v w b h l = let e : b - 128 + 1 ≤ 128 = omega arith in omega (arith, mul-le-mul_left w e)

-- ---- a number of one byte or two

pub get_one : (bytes : List ℕ) → 0 < length bytes → get_or bytes 0 0 < 128 → read_uvarint bytes ≡ Ok (get_or bytes 0 0, drop 1 bytes)
unfolding number_in_groups
get_one [] h l = absurd (omega arith)
get_one (b ∷ bs) h l = let t : ltb b 128 ≡ true = lt-ltb b 128 l in rw t refl

pub get_two : (bytes : List ℕ) → 1 < length bytes → 128 ≤ get_or bytes 0 0 → get_or bytes 1 0 < 128
    → read_uvarint bytes ≡ Ok (get_or bytes 0 0 - 128 + 128 * get_or bytes 1 0, drop 2 bytes)
unfolding number_in_groups
get_two [] h g l = absurd (omega arith)
get_two (a ∷ []) h g l = absurd (omega arith)
get_two (a ∷ b ∷ bs) h g l =
    let t : ltb a 128 ≡ false = le-ltb a 128 g in
    let u : ltb b 128 ≡ true = lt-ltb b 128 l in
    rw (t, u) refl

pub zig_fits : (z : ℤ) → SFits w64 z → zig_zag z < 2 ^ 64
zig_fits (pos n) h = let m : n < 2 ^ 63 = h.sfits in omega arith
zig_fits (negsuc n) h = let m : n < 2 ^ 63 = h.sfits in omega arith
