-- Whether a whole record is at the front of some bytes of a segment.
use Rattle.std.proofs.Common.{◌≡◌, ◌⊎◌, ℕ, ◌+◌, ◌-◌, ◌<◌, ◌≤◌, List, [], ◌∷◌, length, take, drop, get_or, Bool, true, false, not, cond, ltb, eqb-true, Some, None, refl, sym, ap, ◌∙◌, inl, inr, arith, lt-ltb, le-ltb, length-drop, length-take, take_all, nat_lt, nat_le, ◌||◌, ◌==◌}
use Rattle.std.proofs.lemmas.List.{drop_all}
use Rattle.std.specs.List.{list_all}
use Rattle.byteorder.specs.Endian.{big_number}
use Rattle.rw_codes.specs.Crc.{crc32c_of}
use Rattle.rw_wal_format.specs.Segments.{Kind, full, first, middle, last, snappy, Item, fragment, wrong, zeros_at, data_at, fragment_at, item_at}
use Rattle.rw_wal_format.specs.declared.tail_fault.TailFault.{TailFault}
use Rattle.rw_wal_format.specs.declared.tail_fault.TailFault.TheVariants.{BadCrc}
use Rattle.rw_wal_format.specs.Pieces.{page_size, fault}
use Rattle.rw_kept_log.specs.TornLogs.{item_of}
use Rattle.rw_kept_log.specs.Torn.{left_at}
use Rattle.rw_kept_log.specs.Reading.{ended}
use Rattle.rw_kept_log.specs.Records.{is_record, IsRecordAt, FollowsFault}

cond_no : (b : Bool) (x y : Item) → (b ≡ true → is_record x ≡ false) → (b ≡ false → is_record y ≡ false) → is_record (cond b x y) ≡ false
cond_no true x y p q = p refl
cond_no false x y p q = q refl

-- ---- its data

empty_no : (kind : Kind) (rest : List ℕ) → is_record (fragment kind (take 0 rest)) ≡ false
empty_no full [] = refl
empty_no full (r ∷ rs) = refl
empty_no first rest = refl
empty_no middle rest = refl
empty_no last rest = refl
empty_no (snappy kind) rest = refl

pub no_data : (left n crc : ℕ) (rest : List ℕ) → n ≡ 0 → is_record (data_at full left n crc rest) ≡ false
no_data left n crc rest none =
    rw none (cond_no (nat_lt left 7) _ _ (λ t. refl) (λ f. cond_no (nat_lt (length rest) 0) _ _ (λ t. refl) (λ f. cond_no (crc32c_of (take 0 rest) == crc) _ _ (λ t. empty_no full rest) (λ f. refl))))

pub no_room : (left n crc : ℕ) (rest : List ℕ) → left < 7 + n → is_record (data_at full left n crc rest) ≡ false
no_room left n crc rest l = let t : ltb left (7 + n) ≡ true = lt-ltb left (7 + n) l in rw t refl

pub no_rest : (left n crc : ℕ) (rest : List ℕ) → length rest < n → is_record (data_at full left n crc rest) ≡ false
no_rest left n crc rest l = let t : ltb (length rest) n ≡ true = lt-ltb (length rest) n l in cond_no (nat_lt left (7 + n)) _ _ (λ t. refl) (λ f. rw t refl)

some_is : (d : List ℕ) → 0 < length d → is_record (fragment full d) ≡ true
some_is [] l = absurd (omega arith)
some_is (b ∷ d) l = refl

by_crc : (b : Bool) (d : List ℕ) → 0 < length d → b ≡ is_record (cond b (fragment full d) (wrong BadCrc))
by_crc true d l = sym (some_is d l)
by_crc false d l = refl

pub has_data : (left n crc : ℕ) (rest : List ℕ) → 0 < n → 7 + n ≤ left → n ≤ length rest → (crc32c_of (take n rest) == crc) ≡ is_record (data_at full left n crc rest)
has_data left n crc rest some room there =
    let t : ltb left (7 + n) ≡ false = le-ltb left (7 + n) room in
    let u : ltb (length rest) n ≡ false = le-ltb (length rest) n there in
    rw (t, u) (by_crc (crc32c_of (take n rest) == crc) (take n rest) (omega (arith, length-take n rest)))

-- ---- its type

other_data : (kind : Kind) (left n crc : ℕ) (rest : List ℕ) → ((d : List ℕ) → is_record (fragment kind d) ≡ false) → is_record (data_at kind left n crc rest) ≡ false
other_data kind left n crc rest other =
    cond_no (nat_lt left (7 + n)) _ _ (λ t. refl) (λ f. cond_no (nat_lt (length rest) n) _ _ (λ t. refl) (λ f. cond_no (crc32c_of (take n rest) == crc) _ _ (λ t. other (take n rest)) (λ f. refl)))

other_fragment : (kind : Kind) (left : ℕ) (bs : List ℕ) → ((d : List ℕ) → is_record (fragment kind d) ≡ false) → is_record (fragment_at kind left bs) ≡ false
other_fragment kind left bs other = cond_no (nat_lt (length bs) 6) _ _ (λ t. refl) (λ f. other_data kind left (big_number 2 bs) (big_number 4 (drop 2 bs)) (drop 6 bs) other)

zeros_no : (left : ℕ) (bs : List ℕ) → is_record (zeros_at left bs) ≡ false
zeros_no left bs = cond_no (not (list_all (λ x. x == 0) (take left bs))) _ _ (λ t. refl) (λ f. cond_no (nat_lt (length bs) left) _ _ (λ t. refl) (λ f. refl))

short_no : (left : ℕ) (bs : List ℕ) → length bs < 6 → is_record (fragment_at full left bs) ≡ false
short_no left bs l = let t : ltb (length bs) 6 ≡ true = lt-ltb (length bs) 6 l in rw t refl

others_no : (left b : ℕ) (bs : List ℕ) → (b ≡ 1 → is_record (fragment_at full left bs) ≡ false) → is_record (item_at left (b ∷ bs)) ≡ false
unfolding item_at
others_no left b bs other =
    cond_no (nat_lt left 7 || b == 0) _ _ (λ t. zeros_no left (b ∷ bs)) (λ f. cond_no (b == 1) _ _ (λ t. other (eqb-true b 1 t)) (λ f. cond_no (b == 2) _ _ (λ t. other_fragment first left bs (λ d. refl))
    (λ f. cond_no (b == 3) _ _ (λ t. other_fragment middle left bs (λ d. refl)) (λ f. cond_no (b == 4) _ _ (λ t. other_fragment last left bs (λ d. refl))
    (λ f. cond_no (nat_le 8 b) _ _ (λ t. cond_no (nat_lt b 32) _ _ (λ t. refl) (λ f. refl)) (λ f. refl))))))

little_no : (left b : ℕ) (bs : List ℕ) → left < 7 → is_record (item_at left (b ∷ bs)) ≡ false
unfolding item_at
little_no left b bs l = let s : ltb left 7 ≡ true = lt-ltb left 7 l in rw s (zeros_no left (b ∷ bs))

-- no header is at the front, or one of another type
pub no_record : (left : ℕ) (bs : List ℕ) → 0 < length bs → (left < 7) ⊎ ((get_or bs 0 0 ≡ 1 → ⊥) ⊎ (length bs < 7)) → is_record (item_at left bs) ≡ false
no_record left [] some why = absurd (omega arith)
no_record left (b ∷ bs) some (inl l) = little_no left b bs l
no_record left (b ∷ bs) some (inr (inl other)) = others_no left b bs (λ is. absurd (other is))
no_record left (b ∷ bs) some (inr (inr s)) = others_no left b bs (λ is. short_no left bs (omega arith))

full_front : (left b : ℕ) (bs : List ℕ) → 7 ≤ left → b ≡ 1 → item_at left (b ∷ bs) ≡ fragment_at full left bs
unfolding item_at
full_front left b bs l is = let s : ltb left 7 ≡ false = le-ltb left 7 l in rw (s, is) refl

long_front : (left : ℕ) (bs : List ℕ) → 6 ≤ length bs → fragment_at full left bs ≡ data_at full left (big_number 2 bs) (big_number 4 (drop 2 bs)) (drop 6 bs)
long_front left bs h = let t : ltb (length bs) 6 ≡ false = le-ltb (length bs) 6 h in rw t refl

-- a full fragment may be at the front: it has this data
pub full_is : (left : ℕ) (bs rest : List ℕ) → 7 ≤ left → 7 ≤ length bs → get_or bs 0 0 ≡ 1 → rest ≡ drop 1 bs → item_at left bs ≡ data_at full left (big_number 2 rest) (big_number 4 (drop 2 rest)) (drop 6 rest)
full_is left [] rest l h is e = absurd (omega arith)
full_is left (b ∷ bs) rest l h is e =
    let same : bs ≡ rest = sym e in
    full_front left b bs l is ∙ long_front left bs (omega arith) ∙ ap (λ (r : List ℕ). data_at full left (big_number 2 r) (big_number 4 (drop 2 r)) (drop 6 r)) same

-- nothing is after the end of a text
pub end_no : (left : ℕ) (bs : List ℕ) → bs ≡ [] → is_record (item_at left bs) ≡ false
unfolding item_at
end_no left [] e = refl
end_no left (b ∷ bs) e = absurd (cc)

-- so no record is found there
pub past_end : (text : List ℕ) (at : ℕ) → length text ≤ at → IsRecordAt text at → ⊥
past_end text at le is = let no : is_record (item_of page_size text at) ≡ false = end_no (left_at page_size at) (drop at text) (drop_all at text le) in both (is_record (item_of page_size text at)) is no
  where
    both : (b : Bool) → b ≡ true → b ≡ false → ⊥
    both b t f = cc

-- none is found at a place, by the bytes from there on
pub seen_none : (text : List ℕ) (at : ℕ) (b : Bool) → b ≡ is_record (item_at (left_at page_size at) (take (length text - at) (drop at text))) → b ≡ false → IsRecordAt text at → ⊥
seen_none text at b e f is =
    let slice : take (length text - at) (drop at text) ≡ drop at text = take_all (length text - at) (drop at text) (omega (arith, length-drop at text)) in
    both b (e ∙ ap (λ (bs : List ℕ). is_record (item_at (left_at page_size at) bs)) slice ∙ is) f
  where
    both : (b : Bool) → b ≡ true → b ≡ false → ⊥
    both b t f = cc

-- a full fragment with these parts of its header, and the data after it
pub record_is : (left : ℕ) (bs : List ℕ) (n crc : ℕ) (b : Bool) → 7 ≤ left → 7 ≤ length bs → get_or bs 0 0 ≡ 1 → n ≡ big_number 2 (take (length bs - 1) (drop 1 bs))
    → crc ≡ big_number 4 (take (length (take (length bs - 1) (drop 1 bs)) - 2) (drop 2 (take (length bs - 1) (drop 1 bs))))
    → b ≡ is_record (data_at full left n crc (take (length (take (length bs - 1) (drop 1 bs)) - 6) (drop 6 (take (length bs - 1) (drop 1 bs)))))
    → b ≡ is_record (item_at left bs)
record_is left bs n crc b l h is len code found =
    let rest = take (length bs - 1) (drop 1 bs) in
    let slice : take (length bs - 1) (drop 1 bs) ≡ drop 1 bs = take_all (length bs - 1) (drop 1 bs) (omega (arith, length-drop 1 bs)) in
    let two : take (length (take (length bs - 1) (drop 1 bs)) - 2) (drop 2 (take (length bs - 1) (drop 1 bs))) ≡ drop 2 (take (length bs - 1) (drop 1 bs)) =
    take_all _ (drop 2 (take (length bs - 1) (drop 1 bs))) (omega (arith, length-drop 2 (take (length bs - 1) (drop 1 bs)))) in
    let six : take (length (take (length bs - 1) (drop 1 bs)) - 6) (drop 6 (take (length bs - 1) (drop 1 bs))) ≡ drop 6 (take (length bs - 1) (drop 1 bs)) =
    take_all _ (drop 6 (take (length bs - 1) (drop 1 bs))) (omega (arith, length-drop 6 (take (length bs - 1) (drop 1 bs)))) in
    found
    ∙ ap (λ (m : ℕ). is_record (data_at full left m crc (take (length rest - 6) (drop 6 rest)))) len
    ∙ ap (λ (m : ℕ). is_record (data_at full left (big_number 2 rest) m (take (length rest - 6) (drop 6 rest)))) (code ∙ ap (big_number 4) two)
    ∙ ap (λ (r : List ℕ). is_record (data_at full left (big_number 2 rest) (big_number 4 (drop 2 rest)) r)) six
    ∙ sym (ap is_record (full_is left bs rest l h is slice))

-- a segment without a fault, and one without bytes
pub sound_follows : (text : List ℕ) → fault (ended text) ≡ None → FollowsFault text None
sound_follows text sound f offset has = absurd (none_is_some f (sym sound ∙ has.fault_is))
  where
    none_is_some : (f : TailFault) → None ≡ Some f → ⊥
    none_is_some f e = cc

pub nothing_follows : FollowsFault [] None
nothing_follows f offset has at later is = past_end [] at (omega arith) is
