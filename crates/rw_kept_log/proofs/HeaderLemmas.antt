-- What is at the front of a segment's bytes, by the header that is there.
use Rattle.std.proofs.Common.{◌≡◌, ◌⊎◌, ℕ, zero, suc, ◌+◌, ◌-◌, ◌<◌, ◌≤◌, List, [], ◌∷◌, length, take, drop, get_or, Bool, true, false, not, cond, ltb, eqb, eqb-true, refl, sym, ap, ◌∙◌, inl, inr, arith, lt-ltb, le-ltb, length-drop, length-take, take-append-drop, nat_lt, nat_le, ◌||◌, ◌==◌}
use Rattle.std.proofs.lemmas.Bool.{cases_lt, cases_Bool, ne_eqb}
use Rattle.std.proofs.lemmas.List.{drop-take, take-take}
use Rattle.std.specs.List.{list_all}
use Rattle.byteorder.specs.Endian.{big_number}
use Rattle.byteorder.specs.Numbers.{big_from-append}
use Rattle.rw_codes.specs.Crc.{crc32c_of}
use Rattle.rw_wal_format.specs.Segments.{Kind, full, first, middle, last, snappy, Item, nothing, begun, zeros, fragment, wrong, zeros_at, data_at, fragment_at, item_at}
use Rattle.rw_wal_format.specs.Writing.{type_byte}
use Rattle.rw_wal_format.specs.declared.tail_fault.TailFault.{TailFault}
use Rattle.rw_wal_format.specs.declared.tail_fault.TailFault.TheVariants.{BadType, BadLength, BadCrc, Compressed, NonzeroPadding}
use Rattle.rw_kept_log.proofs.shared.Zeros.{fragment_fits}
use Rattle.rw_kept_log.specs.inner.Walking.{ends_with}

either : (P : Item → Type 0) (b : Bool) (x y : Item) → (b ≡ true → P x) → (b ≡ false → P y) → P (cond b x y)
either P true x y p q = p refl
either P false x y p q = q refl

-- ---- the data of a fragment

pub record HasData (kind kind' : Kind) (n : ℕ) (rest d : List ℕ) : Type 0 where
  pub same_kind : kind ≡ kind'
  pub len : length d ≡ n
  pub there : n ≤ length rest

pub data_has : (kind kind' : Kind) (left n crc : ℕ) (rest d : List ℕ) → data_at kind left n crc rest ≡ fragment kind' d → HasData kind kind' n rest d
data_has kind kind' left n crc rest d e = elim (cases_lt left (7 + n)) [
  | inl l ↦ (let t : ltb left (7 + n) ≡ true = lt-ltb left (7 + n) l in let g : data_at kind left n crc rest ≡ wrong BadLength = rw t refl in absurd (cc))
  | inr h ↦
      (let t : ltb left (7 + n) ≡ false = le-ltb left (7 + n) h in
      elim (cases_lt (length rest) n) [
        | inl l ↦ (let u : ltb (length rest) n ≡ true = lt-ltb (length rest) n l in let g : data_at kind left n crc rest ≡ begun = rw (t, u) refl in absurd (cc))
        | inr k ↦
            (let u : ltb (length rest) n ≡ false = le-ltb (length rest) n k in
            elim (cases_Bool (eqb (crc32c_of (take n rest)) crc)) [
              | inl v ↦
                  (let g : data_at kind left n crc rest ≡ fragment kind (take n rest) = rw (t, u, v) refl in
                  let is : fragment kind (take n rest) ≡ fragment kind' d = sym g ∙ e in
                  let data_is : take n rest ≡ d = cc in
                  record { same_kind = cc; len = omega (arith, ap length data_is, length-take n rest); there = k })
              | inr v ↦ (let g : data_at kind left n crc rest ≡ wrong BadCrc = rw (t, u, v) refl in absurd (cc))
            ])
      ])
]

-- as much of it as a fragment has is enough
data_cut : (kind : Kind) (left n crc k : ℕ) (rest : List ℕ) → n ≤ k → n ≤ length rest → data_at kind left n crc (take k rest) ≡ data_at kind left n crc rest
data_cut kind left n crc k rest le there =
    let u : ltb (length rest) n ≡ false = le-ltb (length rest) n there in
    let u' : ltb (length (take k rest)) n ≡ false = le-ltb (length (take k rest)) n (omega (arith, length-take k rest)) in
    let a : take n (take k rest) ≡ take n rest = take-take n k rest le in
    rw (u, u', a) refl

pub take_in : (n k : ℕ) (bs : List ℕ) → n ≤ k → drop n (take k bs) ≡ take (k - n) (drop n bs)
take_in n k bs le = let e : k ≡ n + (k - n) = omega arith in ap (λ (m : ℕ). drop n (take m bs)) e ∙ drop-take n (k - n) bs

-- ---- the fragment after its type byte

fragment_is : (kind : Kind) (left : ℕ) (bs : List ℕ) → 6 ≤ length bs → fragment_at kind left bs ≡ data_at kind left (big_number 2 bs) (big_number 4 (drop 2 bs)) (drop 6 bs)
fragment_is kind left bs h = let t : ltb (length bs) 6 ≡ false = le-ltb (length bs) 6 h in rw t refl

fragment_long : (kind kind' : Kind) (left : ℕ) (bs d : List ℕ) → fragment_at kind left bs ≡ fragment kind' d → 6 ≤ length bs
fragment_long kind kind' left bs d e = elim (cases_lt (length bs) 6) [
  | inl l ↦ (let t : ltb (length bs) 6 ≡ true = lt-ltb (length bs) 6 l in let g : fragment_at kind left bs ≡ begun = rw t refl in absurd (cc))
  | inr h ↦ h
]

fragment_has : (kind kind' : Kind) (left : ℕ) (bs d : List ℕ) → fragment_at kind left bs ≡ fragment kind' d → HasData kind kind' (big_number 2 bs) (drop 6 bs) d
fragment_has kind kind' left bs d e =
    data_has kind kind' left (big_number 2 bs) (big_number 4 (drop 2 bs)) (drop 6 bs) d (sym (fragment_is kind left bs (fragment_long kind kind' left bs d e)) ∙ e)

fragment_cut : (kind kind' : Kind) (left k : ℕ) (bs d : List ℕ) → fragment_at kind left bs ≡ fragment kind' d → 6 + length d ≤ k → fragment_at kind left (take k bs) ≡ fragment kind' d
fragment_cut kind kind' left k bs d e le =
    let long = fragment_long kind kind' left bs d e in
    let has = fragment_has kind kind' left bs d e in
    let n' : big_number 2 (take k bs) ≡ big_number 2 bs =
    sym (big_from-append 2 (take k bs) (drop k bs) (omega (arith, length-take k bs))) ∙ ap (big_number 2) (take-append-drop k bs) in
    let c' : big_number 4 (drop 2 (take k bs)) ≡ big_number 4 (drop 2 bs) =
    ap (big_number 4) (take_in 2 k bs (omega arith))
    ∙ sym (big_from-append 4 (take (k - 2) (drop 2 bs)) (drop (k - 2) (drop 2 bs)) (omega (arith, length-take (k - 2) (drop 2 bs), length-drop 2 bs))) ∙ ap (big_number 4) (take-append-drop (k - 2) (drop 2 bs)) in
    fragment_is kind left (take k bs) (omega (arith, length-take k bs))
    ∙ ap (λ (n : ℕ). data_at kind left n (big_number 4 (drop 2 (take k bs))) (drop 6 (take k bs))) n'
    ∙ ap (λ (c : ℕ). data_at kind left (big_number 2 bs) c (drop 6 (take k bs))) c'
    ∙ ap (data_at kind left (big_number 2 bs) (big_number 4 (drop 2 bs))) (take_in 6 k bs (omega arith))
    ∙ data_cut kind left (big_number 2 bs) (big_number 4 (drop 2 bs)) (k - 6) (drop 6 bs) (omega (arith, has.len)) has.there
    ∙ sym (fragment_is kind left bs long) ∙ e

-- ---- the item at the front

-- a fragment has this type byte, and this many bytes of data
HasHeader : ℕ → ℕ → Item → Type 0
HasHeader b n x = (kind : Kind) (d : List ℕ) → x ≡ fragment kind d → (b ≡ type_byte kind) × (length d ≡ n)

wrong_header : (b n : ℕ) (f : TailFault) → HasHeader b n (wrong f)
unfolding HasHeader
wrong_header b n f kind d e = absurd (cc)

nothing_header : (b n : ℕ) → HasHeader b n nothing
unfolding HasHeader
nothing_header b n kind d e = absurd (cc)

all_zeros_header : (b n : ℕ) → HasHeader b n zeros
unfolding HasHeader
all_zeros_header b n kind d e = absurd (cc)

zeros_header : (b n left : ℕ) (bs : List ℕ) → HasHeader b n (zeros_at left bs)
zeros_header b n left bs =
    either (HasHeader b n) (not (list_all (λ x. x == 0) (take left bs))) _ _ (λ t. wrong_header b n NonzeroPadding)
    (λ f. either (HasHeader b n) (nat_lt (length bs) left) _ _ (λ t. nothing_header b n) (λ g. all_zeros_header b n))

fragment_header : (b : ℕ) (kind : Kind) (left : ℕ) (bs : List ℕ) → b ≡ type_byte kind → HasHeader b (big_number 2 bs) (fragment_at kind left bs)
unfolding HasHeader
fragment_header b kind left bs is kind' d e =
    let has = fragment_has kind kind' left bs d e in
    (is ∙ ap type_byte has.same_kind, has.len)

item_header : (left b : ℕ) (bs : List ℕ) → HasHeader b (big_number 2 bs) (item_at left (b ∷ bs))
unfolding item_at
item_header left b bs =
    let n = big_number 2 bs in
    let H = HasHeader b (big_number 2 bs) in
    either H (nat_lt left 7 || b == 0) _ _ (λ t. zeros_header b n left (b ∷ bs))
    (λ f. either H (b == 1) _ _ (λ t. fragment_header b full left bs (eqb-true b 1 t))
    (λ f. either H (b == 2) _ _ (λ t. fragment_header b first left bs (eqb-true b 2 t))
    (λ f. either H (b == 3) _ _ (λ t. fragment_header b middle left bs (eqb-true b 3 t))
    (λ f. either H (b == 4) _ _ (λ t. fragment_header b last left bs (eqb-true b 4 t))
    (λ f. either H (nat_le 8 b) _ _ (λ t. either H (nat_lt b 32) _ _ (λ t. wrong_header b n Compressed) (λ f. wrong_header b n BadType)) (λ f. wrong_header b n BadType))))))

-- the bytes that a fragment has, are enough for it
Stays : ℕ → Item → Item → Type 0
Stays m x y = (kind : Kind) (d : List ℕ) → x ≡ fragment kind d → 7 + length d ≤ m → y ≡ fragment kind d

cond_stays : (m : ℕ) (b : Bool) (x x' y y' : Item) → Stays m x y → Stays m x' y' → Stays m (cond b x x') (cond b y y')
cond_stays m true x x' y y' s t = s
cond_stays m false x x' y y' s t = t

no_type : (kind : Kind) → 0 ≡ type_byte kind → ⊥
no_type full e = cc
no_type first e = cc
no_type middle e = cc
no_type last e = cc
no_type (snappy kind) e = omega (arith, e)

zeros_stay : (m left : ℕ) (bs : List ℕ) (y : Item) → Stays m (zeros_at left bs) y
unfolding Stays HasHeader
zeros_stay m left bs y kind d e le =
    let one = (zeros_header 0 0 left bs kind d e).0 in
    absurd (no_type kind one)

wrong_stays : (m : ℕ) (f : TailFault) → Stays m (wrong f) (wrong f)
unfolding Stays
wrong_stays m f kind d e le = e

fragment_stays : (k : ℕ) (kind : Kind) (left : ℕ) (bs : List ℕ) → Stays (suc k) (fragment_at kind left bs) (fragment_at kind left (take k bs))
unfolding Stays
fragment_stays k kind left bs kind' d e le = fragment_cut kind kind' left k bs d e (omega arith)

front_stays : (left m : ℕ) (bs : List ℕ) → Stays m (item_at left bs) (item_at left (take m bs))
unfolding item_at Stays
front_stays left zero bs = λ kind d e le. absurd (omega arith)
front_stays left (suc k) [] = λ kind d e le. absurd (cc)
front_stays left (suc k) (b ∷ bs) =
    let m = suc k in
    cond_stays m (nat_lt left 7 || b == 0) _ _ _ _ (zeros_stay m left (b ∷ bs) _)
    (cond_stays m (b == 1) _ _ _ _ (fragment_stays k full left bs)
    (cond_stays m (b == 2) _ _ _ _ (fragment_stays k first left bs)
    (cond_stays m (b == 3) _ _ _ _ (fragment_stays k middle left bs)
    (cond_stays m (b == 4) _ _ _ _ (fragment_stays k last left bs)
    (cond_stays m (nat_le 8 b) _ _ _ _ (cond_stays m (nat_lt b 32) _ _ _ _ (wrong_stays m Compressed) (wrong_stays m BadType)) (wrong_stays m BadType))))))

pub item_cut : (left m : ℕ) (bs : List ℕ) (kind : Kind) (d : List ℕ) → item_at left bs ≡ fragment kind d → 7 + length d ≤ m → item_at left (take m bs) ≡ fragment kind d
unfolding Stays
item_cut left m bs kind d e le = front_stays left m bs kind d e le

-- ---- what the header at the front says

-- it is not the zeros of a page's end
NoZeros : Item → Type 0
NoZeros x = x ≡ zeros → ⊥

wrong_no : (f : TailFault) → NoZeros (wrong f)
unfolding NoZeros
wrong_no f e = cc

begun_no : NoZeros begun
unfolding NoZeros
begun_no e = cc

whole_no : (kind : Kind) (d : List ℕ) → NoZeros (fragment kind d)
unfolding NoZeros
whole_no kind d e = cc

fragment_no : (kind : Kind) (left : ℕ) (bs : List ℕ) → NoZeros (fragment_at kind left bs)
fragment_no kind left bs =
    either NoZeros (nat_lt (length bs) 6) _ _ (λ t. begun_no)
    (λ f. either NoZeros (nat_lt left (7 + big_number 2 bs)) _ _ (λ t. wrong_no BadLength)
    (λ f. either NoZeros (nat_lt (length (drop 6 bs)) (big_number 2 bs)) _ _ (λ t. begun_no)
    (λ f. either NoZeros (crc32c_of (take (big_number 2 bs) (drop 6 bs)) == big_number 4 (drop 2 bs)) _ _ (λ t. whole_no kind (take (big_number 2 bs) (drop 6 bs))) (λ f. wrong_no BadCrc))))

others_no : (b left : ℕ) (bs : List ℕ) → (nat_lt left 7 || b == 0) ≡ false → NoZeros (item_at left (b ∷ bs))
unfolding item_at
others_no b left bs other =
    rw other
    (either NoZeros (b == 1) _ _ (λ t. fragment_no full left bs) (λ f. either NoZeros (b == 2) _ _ (λ t. fragment_no first left bs)
    (λ f. either NoZeros (b == 3) _ _ (λ t. fragment_no middle left bs) (λ f. either NoZeros (b == 4) _ _ (λ t. fragment_no last left bs)
    (λ f. either NoZeros (nat_le 8 b) _ _ (λ t. either NoZeros (nat_lt b 32) _ _ (λ t. wrong_no Compressed) (λ f. wrong_no BadType)) (λ f. wrong_no BadType))))))

no_zeros : (b left : ℕ) (bs : List ℕ) → 7 ≤ left → (b ≡ 0 → ⊥) → item_at left (b ∷ bs) ≡ zeros → ⊥
unfolding NoZeros
no_zeros b left bs l nonzero =
    let s : ltb left 7 ≡ false = le-ltb left 7 l in
    let z : eqb b 0 ≡ false = ne_eqb b 0 nonzero in
    let other : (nat_lt left 7 || b == 0) ≡ false = rw (s, z) refl in
    others_no b left bs other

ends_by : (kind : Kind) (b : ℕ) → b ≡ type_byte kind → (eqb b 1 || eqb b 4) ≡ ends_with kind
ends_by full b e = rw e refl
ends_by first b e = rw e refl
ends_by middle b e = rw e refl
ends_by last b e = rw e refl
ends_by (snappy kind) b e =
    let one : eqb b 1 ≡ false = ne_eqb b 1 (omega (arith, e)) in
    let four : eqb b 4 ≡ false = ne_eqb b 4 (omega (arith, e)) in
    rw (one, four) refl

-- no fragment is at the front
pub no_fragment : (left : ℕ) (bs : List ℕ) (kind : Kind) (d : List ℕ) → 0 < length bs → (left < 7) ⊎ ((get_or bs 0 0 ≡ 0) ⊎ (length bs < 7)) → item_at left bs ≡ fragment kind d → ⊥
unfolding HasHeader
no_fragment left [] kind d some why e = absurd (omega arith)
no_fragment left (b ∷ bs) kind d some (inl l) e = let f = fragment_fits left (b ∷ bs) kind d e in omega (arith, f.1)
no_fragment left (b ∷ bs) kind d some (inr (inl z)) e = no_type kind (sym z ∙ (item_header left b bs kind d e).0)
no_fragment left (b ∷ bs) kind d some (inr (inr s)) e = let f = fragment_fits left (b ∷ bs) kind d e in omega (arith, f.0)

pub header_len : (left : ℕ) (bs : List ℕ) (kind : Kind) (d : List ℕ) → 0 < length bs → item_at left bs ≡ fragment kind d → length d ≡ big_number 2 (drop 1 bs)
unfolding HasHeader
header_len left [] kind d some e = absurd (omega arith)
header_len left (b ∷ bs) kind d some e = (item_header left b bs kind d e).1

pub header_ends : (left : ℕ) (bs : List ℕ) (kind : Kind) (d : List ℕ) → 0 < length bs → item_at left bs ≡ fragment kind d → (eqb (get_or bs 0 0) 1 || eqb (get_or bs 0 0) 4) ≡ ends_with kind
unfolding HasHeader
header_ends left [] kind d some e = absurd (omega arith)
header_ends left (b ∷ bs) kind d some e = ends_by kind b (item_header left b bs kind d e).0

pub header_no_zeros : (left : ℕ) (bs : List ℕ) → 0 < length bs → 7 ≤ left → (get_or bs 0 0 ≡ 0 → ⊥) → item_at left bs ≡ zeros → ⊥
header_no_zeros left [] some l nonzero e = absurd (omega arith)
header_no_zeros left (b ∷ bs) some l nonzero e = no_zeros b left bs l nonzero e
