-- The entries of the records that a writer spells are read again.
use Rattle.std.proofs.Common.{◌≡◌, ℕ, zero, suc, ◌+◌, ◌-◌, ◌%◌, ◌^◌, ◌<◌, ◌≤◌, ℤ, List, [], ◌∷◌, ◌++◌, length, take, drop, map, flat_map, Option, Some, Ok, false, ltb, refl, sym, ap, ◌∙◌, arith, le-ltb, append_assoc, append-nil, le_refl, length-append, w64, of_z, to_z-of_z, Fits, SFits}
use Rattle.std.proofs.Math.Facts.{of_z-to_z, sfits_to_z, Fits-of_z}
use Rattle.std.proofs.Math.Seq.{take-append_seam, drop-append_seam}
use Rattle.std.specs.Int.{cast_unsigned, cast_signed, int_wrapping_add, int_wrapping_sub}
use Rattle.byteorder.specs.Endian.{big_bytes, big_number}
use Rattle.byteorder.specs.Numbers.{big_number-reads_back}
use Rattle.rw_codes.specs.Varint.{uvarint, read_uvarint, varint, read_varint, zig_zag}
use Rattle.rw_types.specs.Labels.{Labels}
use Rattle.rw_wal_format.specs.Records.{text_bytes, label_bytes, labels_bytes, series_record, sample_bytes, sample_record, ◌then◌, found, eight_at, text_at, label_at, label_list_at, definition_at, sample_at, samples_at, all_of, record_entries}
use Rattle.rw_types.specs.declared.entry.Entry.TheVariants.{Def, Sample}
use Rattle.rw_wal_format.specs.Laws.{AreTexts, IsSample, AreSamples, sample_entry}
use Rattle.rw_codes.proofs.shared.VarintLaws.{uvarint_again, varint_again, zig_fits}

eight_again : (n : ℕ) (rest : List ℕ) → n < 2 ^ 64 → eight_at (big_bytes 8 n ++ rest) ≡ Some (n, rest)
eight_again n rest h =
    let t : ltb (length (big_bytes 8 n ++ rest)) 8 ≡ false = le-ltb (length (big_bytes 8 n ++ rest)) 8 (omega arith) in
    let a : big_number 8 (big_bytes 8 n ++ rest) ≡ n = big_number-reads_back 8 n rest h in
    rw t (ap (λ (x : ℕ). Some (x, rest)) a)

text_again : (s rest : List ℕ) → length s < 2 ^ 64 → text_at (text_bytes s ++ rest) ≡ Some (s, rest)
text_again s rest h =
    let e : read_uvarint ((uvarint (length s) ++ s) ++ rest) ≡ Ok (length s, s ++ rest) = ap read_uvarint (append_assoc (uvarint (length s)) s rest) ∙ uvarint_again (length s) (s ++ rest) h in
    let t : ltb (length (s ++ rest)) (length s) ≡ false = le-ltb (length (s ++ rest)) (length s) (omega (arith, length-append s rest)) in
    let a : take (length s) (s ++ rest) ≡ s = take-append_seam s rest in
    let b : drop (length s) (s ++ rest) ≡ rest = drop-append_seam s rest in
    rw e (rw (t, a, b) refl)

label_again : (l : List ℕ × List ℕ) (rest : List ℕ) → length l.0 < 2 ^ 64 → length l.1 < 2 ^ 64 → label_at (label_bytes l ++ rest) ≡ Some (l, rest)
label_again l rest h g =
    let e : text_at ((text_bytes l.0 ++ text_bytes l.1) ++ rest) ≡ Some (l.0, text_bytes l.1 ++ rest) = ap text_at (append_assoc (text_bytes l.0) (text_bytes l.1) rest) ∙ text_again l.0 (text_bytes l.1 ++ rest) h in
    let f : text_at (text_bytes l.1 ++ rest) ≡ Some (l.1, rest) = text_again l.1 rest g in
    ap (λ x. x then λ name. text_at name.1 then λ value. Some ((name.0, value.0), value.1)) e
    ∙ ap (λ x. x then λ value. Some ((l.0, value.0), value.1)) f

labels_again : (ls : Labels) (rest : List ℕ) → AreTexts ls → label_list_at (length ls) (flat_map label_bytes ls ++ rest) ≡ Some (ls, rest)
labels_again [] rest h = refl
labels_again (l ∷ ls) rest h =
    let e : label_at ((label_bytes l ++ flat_map label_bytes ls) ++ rest) ≡ Some (l, flat_map label_bytes ls ++ rest) = ap label_at (append_assoc (label_bytes l) (flat_map label_bytes ls) rest) ∙ label_again l (flat_map label_bytes ls ++ rest) h.0 h.1 in
    let f = labels_again ls rest h.2 in
    ap (λ x. x then λ label. label_list_at (length ls) label.1 then λ more. Some (label.0 ∷ more.0, more.1)) e
    ∙ ap (λ x. x then λ more. Some (l ∷ more.0, more.1)) f

-- a definition, whatever follows it
pub definition_again : (r : ℕ) (ls : Labels) (rest : List ℕ) → r < 2 ^ 64 → length ls < 2 ^ 64 → AreTexts ls
    → definition_at ((big_bytes 8 r ++ labels_bytes ls) ++ rest) ≡ Some (Def r ls, rest)
definition_again r ls rest h g t =
    let a : eight_at ((big_bytes 8 r ++ labels_bytes ls) ++ rest) ≡ Some (r, labels_bytes ls ++ rest) = eight_again r (labels_bytes ls ++ rest) h in
    let b : read_uvarint ((uvarint (length ls) ++ flat_map label_bytes ls) ++ rest) ≡ Ok (length ls, flat_map label_bytes ls ++ rest) =
    ap read_uvarint (append_assoc (uvarint (length ls)) (flat_map label_bytes ls) rest) ∙ uvarint_again (length ls) (flat_map label_bytes ls ++ rest) g in
    let d = labels_again ls rest t in
    ap (λ x. x then λ reference. found (read_uvarint reference.1) then λ count. label_list_at count.0 count.1 then λ labels. Some (Def reference.0 labels.0, labels.1)) a
    ∙ ap (λ x. found x then λ count. label_list_at count.0 count.1 then λ labels. Some (Def r labels.0, labels.1)) b
    ∙ ap (λ x. x then λ labels. Some (Def r labels.0, labels.1)) d

-- ---- items one after the other

all_none : {A : Type 0} (item : List ℕ → Option (A × List ℕ)) (k : ℕ) → all_of item k [] ≡ Some []
all_none item zero = refl
all_none item (suc k) = refl

-- the first item, and then the others
pub all_step : {A : Type 0} (item : List ℕ → Option (A × List ℕ)) (k : ℕ) (bs rest : List ℕ) (x : A) → 0 < length bs → item bs ≡ Some (x, rest)
    → all_of item (suc k) bs ≡ (all_of item k rest then λ more. Some (x ∷ more))
all_step item k [] rest x h e = absurd (omega arith)
all_step item k (b ∷ bs) rest x h e = ap (λ y. y then λ first. all_of item k first.1 then λ more. Some (first.0 ∷ more)) e

-- the entries of a series record are its one definition
pub series_again : (r : ℕ) (ls : Labels) → r < 2 ^ 64 → length ls < 2 ^ 64 → AreTexts ls → record_entries (series_record r ls) ≡ Some (Def r ls ∷ [])
unfolding record_entries
series_again r ls h g t =
    let bs = big_bytes 8 r ++ labels_bytes ls in
    let e : definition_at (big_bytes 8 r ++ labels_bytes ls) ≡ Some (Def r ls, []) =
    ap definition_at (sym (append-nil (big_bytes 8 r ++ labels_bytes ls))) ∙ definition_again r ls [] h g t in
    let n = 7 + length (labels_bytes ls) in
    let k : length (big_bytes 8 r ++ labels_bytes ls) ≡ suc (7 + length (labels_bytes ls)) = omega arith in
    ap (λ (m : ℕ). all_of definition_at m (big_bytes 8 r ++ labels_bytes ls)) k
    ∙ all_step definition_at (7 + length (labels_bytes ls)) (big_bytes 8 r ++ labels_bytes ls) [] (Def r ls) (omega arith) e
    ∙ ap (λ y. y then λ more. Some (Def r ls ∷ more)) (all_none definition_at (7 + length (labels_bytes ls)))

-- ---- samples

-- a delta that wraps, taken back
wrap_back : (base r : ℕ) → base < 2 ^ 64 → r < 2 ^ 64 → (base + (r + (2 ^ 64 - base)) % 2 ^ 64) % 2 ^ 64 ≡ r
wrap_back base r h g = omega arith

delta_back : (base r : ℕ) → base < 2 ^ 64 → r < 2 ^ 64
    → (base + cast_unsigned w64 (cast_signed w64 ((r + (2 ^ 64 - base)) % 2 ^ 64))) % 2 ^ 64 ≡ r
delta_back base r h g =
    let f : Fits w64 ((r + (2 ^ 64 - base)) % 2 ^ 64) = omega arith in
    ap (λ (x : ℕ). (base + x) % 2 ^ 64) (of_z-to_z {w = w64} {n = (r + (2 ^ 64 - base)) % 2 ^ 64} f) ∙ wrap_back base r h g

delta_fits : (x : ℕ) → x < 2 ^ 64 → zig_zag (cast_signed w64 x) < 2 ^ 64
delta_fits x h = let f : Fits w64 x = omega arith in zig_fits (cast_signed w64 x) (sfits_to_z {w = w64} {n = x} f)

unsigned_fits : (z : ℤ) → SFits w64 z → cast_unsigned w64 z < 2 ^ 64
unsigned_fits z h = let f : Fits w64 (of_z w64 z) = Fits-of_z {w = w64} {z = z} h in omega (arith, f)

time_back : (start t : ℤ) → SFits w64 start → SFits w64 t → int_wrapping_add w64 start (int_wrapping_sub w64 t start) ≡ t
time_back start t h g =
    ap (cast_signed w64) (delta_back (cast_unsigned w64 start) (cast_unsigned w64 t) (unsigned_fits start h) (unsigned_fits t g)) ∙ to_z-of_z {w = w64} {z = t} g

regroup : (a b c d : List ℕ) → (a ++ b ++ c) ++ d ≡ a ++ (b ++ (c ++ d))
regroup a b c d = simp append_assoc

pub sample_again : (base : ℕ) (start : ℤ) (s : ℕ × ℤ × ℕ) (rest : List ℕ) → base < 2 ^ 64 → SFits w64 start → IsSample s
    → sample_at base start (sample_bytes base start s ++ rest) ≡ Some (Sample s.0 s.1 s.2, rest)
sample_again base start s rest h g i =
    let a : read_varint ((varint (cast_signed w64 ((s.0 + (2 ^ 64 - base)) % 2 ^ 64)) ++ varint (int_wrapping_sub w64 s.1 start) ++ big_bytes 8 s.2) ++ rest) ≡ Ok (cast_signed w64 ((s.0 + (2 ^ 64 - base)) % 2 ^ 64), varint (int_wrapping_sub w64 s.1 start) ++ (big_bytes 8 s.2 ++ rest)) =
    ap read_varint (regroup (varint (cast_signed w64 ((s.0 + (2 ^ 64 - base)) % 2 ^ 64))) (varint (int_wrapping_sub w64 s.1 start)) (big_bytes 8 s.2) rest)
    ∙ varint_again (cast_signed w64 ((s.0 + (2 ^ 64 - base)) % 2 ^ 64)) (varint (int_wrapping_sub w64 s.1 start) ++ (big_bytes 8 s.2 ++ rest)) (delta_fits ((s.0 + (2 ^ 64 - base)) % 2 ^ 64) (omega arith)) in
    let b : read_varint (varint (int_wrapping_sub w64 s.1 start) ++ (big_bytes 8 s.2 ++ rest)) ≡ Ok (int_wrapping_sub w64 s.1 start, big_bytes 8 s.2 ++ rest) =
    varint_again (int_wrapping_sub w64 s.1 start) (big_bytes 8 s.2 ++ rest) (delta_fits ((cast_unsigned w64 s.1 + (2 ^ 64 - cast_unsigned w64 start)) % 2 ^ 64) (omega arith)) in
    let d : eight_at (big_bytes 8 s.2 ++ rest) ≡ Some (s.2, rest) = eight_again s.2 rest i.word in
    ap (λ x. found x then λ reference. found (read_varint reference.1) then λ time. eight_at time.1 then λ word. Some (Sample ((base + cast_unsigned w64 reference.0) % 2 ^ 64) (int_wrapping_add w64 start time.0) word.0, word.1)) a
    ∙ ap (λ x. found x then λ time. eight_at time.1 then λ word. Some (Sample ((base + cast_unsigned w64 (cast_signed w64 ((s.0 + (2 ^ 64 - base)) % 2 ^ 64))) % 2 ^ 64) (int_wrapping_add w64 start time.0) word.0, word.1)) b
    ∙ ap (λ x. x then λ word. Some (Sample ((base + cast_unsigned w64 (cast_signed w64 ((s.0 + (2 ^ 64 - base)) % 2 ^ 64))) % 2 ^ 64) (int_wrapping_add w64 start (int_wrapping_sub w64 s.1 start)) word.0, word.1)) d
    ∙ ap (λ (r : ℕ). Some (Sample r (int_wrapping_add w64 start (int_wrapping_sub w64 s.1 start)) s.2, rest)) (delta_back base s.0 h i.reference)
    ∙ ap (λ (t : ℤ). Some (Sample s.0 t s.2, rest)) (time_back start s.1 g i.time)

sample_long : (base : ℕ) (start : ℤ) (s : ℕ × ℤ × ℕ) → 8 ≤ length (sample_bytes base start s)
sample_long base start s = omega (arith, length-append (varint (cast_signed w64 ((s.0 + (2 ^ 64 - base)) % 2 ^ 64)) ++ varint (int_wrapping_sub w64 s.1 start)) (big_bytes 8 s.2))

sample_spelled : (base : ℕ) (start : ℤ) (s : ℕ × ℤ × ℕ) (rest : List ℕ) → 8 ≤ length (sample_bytes base start s ++ rest)
sample_spelled base start s rest = omega (arith, length-append (sample_bytes base start s) rest, sample_long base start s)

samples_again : (base : ℕ) (start : ℤ) (k : ℕ) (ss : List (ℕ × ℤ × ℕ)) → base < 2 ^ 64 → SFits w64 start → AreSamples ss → length (flat_map (sample_bytes base start) ss) ≤ k
    → all_of (sample_at base start) k (flat_map (sample_bytes base start) ss) ≡ Some (map sample_entry ss)
samples_again base start k [] h g i l = all_none (sample_at base start) k
samples_again base start zero (s ∷ ss) h g i l = absurd (omega (arith, sample_spelled base start s (flat_map (sample_bytes base start) ss)))
samples_again base start (suc k) (s ∷ ss) h g i l =
    let rest_short : length (flat_map (sample_bytes base start) ss) ≤ k = omega (arith, length-append (sample_bytes base start s) (flat_map (sample_bytes base start) ss), sample_long base start s) in
    all_step (sample_at base start) k (sample_bytes base start s ++ flat_map (sample_bytes base start) ss) (flat_map (sample_bytes base start) ss) (Sample s.0 s.1 s.2) (omega (arith, sample_spelled base start s (flat_map (sample_bytes base start) ss))) (sample_again base start s (flat_map (sample_bytes base start) ss) h g i.0)
    ∙ ap (λ x. x then λ more. Some (Sample s.0 s.1 s.2 ∷ more)) (samples_again base start k ss h g i.1 rest_short)

-- if there is a sample, the samples are all that are there
pub some_samples : (base : ℕ) (start : ℤ) (bs : List ℕ) → 0 < length bs → samples_at base start bs ≡ all_of (sample_at base start) (length bs) bs
some_samples base start [] h = absurd (omega arith)
some_samples base start (b ∷ bs) h = refl

-- the entries of a sample record are its samples
pub sample_record_again : (ss : List (ℕ × ℤ × ℕ)) → AreSamples ss → record_entries (sample_record ss) ≡ Some (map sample_entry ss)
unfolding record_entries
sample_record_again [] i = refl
sample_record_again (s ∷ ss) i =
    let a : eight_at (big_bytes 8 s.0 ++ (big_bytes 8 (cast_unsigned w64 s.1) ++ flat_map (sample_bytes s.0 s.1) (s ∷ ss))) ≡ Some (s.0, big_bytes 8 (cast_unsigned w64 s.1) ++ flat_map (sample_bytes s.0 s.1) (s ∷ ss)) =
    eight_again s.0 (big_bytes 8 (cast_unsigned w64 s.1) ++ flat_map (sample_bytes s.0 s.1) (s ∷ ss)) i.0.reference in
    let b : eight_at (big_bytes 8 (cast_unsigned w64 s.1) ++ flat_map (sample_bytes s.0 s.1) (s ∷ ss)) ≡ Some (cast_unsigned w64 s.1, flat_map (sample_bytes s.0 s.1) (s ∷ ss)) =
    eight_again (cast_unsigned w64 s.1) (flat_map (sample_bytes s.0 s.1) (s ∷ ss)) (unsigned_fits s.1 i.0.time) in
    ap (λ x. x then λ base. eight_at base.1 then λ start. samples_at base.0 (cast_signed w64 start.0) start.1) a
    ∙ ap (λ x. x then λ start. samples_at s.0 (cast_signed w64 start.0) start.1) b
    ∙ ap (λ (t : ℤ). samples_at s.0 t (flat_map (sample_bytes s.0 s.1) (s ∷ ss))) (to_z-of_z {w = w64} {z = s.1} i.0.time)
    ∙ some_samples s.0 s.1 (flat_map (sample_bytes s.0 s.1) (s ∷ ss)) (omega (arith, sample_spelled s.0 s.1 s (flat_map (sample_bytes s.0 s.1) ss)))
    ∙ samples_again s.0 s.1 (length (flat_map (sample_bytes s.0 s.1) (s ∷ ss))) (s ∷ ss) i.0.reference i.0.time i (le_refl (length (flat_map (sample_bytes s.0 s.1) (s ∷ ss))))
