-- The canonical spelling is one of the spellings.
use Rattle.std.proofs.Common.{◌≡◌, ℕ, ◌+◌, ◌*◌, ◌^◌, ◌≤◌, ◌<◌, ℤ, true, false, eqb, List, [], ◌∷◌, ◌++◌, length, map, Option, Some, refl, sym, ap, subst, ◌∙◌, arith, inl, inr, append_assoc, length-append}
use Rattle.std.specs.Prelude.{IfSome, FitsSigned}
use Rattle.std.specs.Int.{w64, cast_signed, cast_unsigned, to_le_bytes}
use Rattle.std.specs.List.{AllByRecursion, flat_map}
use Rattle.std.proofs.lemmas.Bool.{ne_eqb, cases_eq}
use Rattle.std.proofs.lemmas.Int.{ints, to_z-of_z}
use Rattle.std.proofs.lemmas.Nat.{from_le_bytes-to_le_bytes_8}
use Rattle.rw_write_request.specs.declared.kind.Kind.{Kind}
use Rattle.rw_write_request.specs.declared.kind.Kind.TheVariants as kinds
use Rattle.rw_types.specs.Labels.{Label}
use Rattle.rw_write_request.specs.Message.{Sample, TimeSeries, WriteRequest}
use Rattle.rw_codes.specs.Varint.{uvarint, read_uvarint}
use Rattle.rw_types.specs.LabelFields.{tag, bytes_field, string_field, label, label_field, label_fields}
use Rattle.rw_types.proofs.shared.AllLemmas.{AllByRecursion-append}
use Rattle.rw_write_request.specs.Canon.{fixed64_field, int64_field, sample, sample_field, sample_fields, series, series_field, canon, series_head}
use Rattle.rw_write_request.specs.Fields.{IsUvarint, Content, Varint, Fixed64, Bytes, Field, IsField, AreFields, known_wire, HasKnownWire, contents}
use Rattle.rw_write_request.specs.Spells.{SpellsLabel, SpellsSample, EachSpells, SpellsSeries, Spells}
use Rattle.rw_write_request.specs.Valid.{IsLabel, IsValidSample, IsSeries, IsMessage}
use Rattle.rw_write_request.proofs.Varints.{uvarint-is}
use Rattle.rw_codes.proofs.shared.Digits.{groups_one, groups_short}

-- ---- varints

tag-is : (t : ℕ) → t < 128 → IsUvarint (t ∷ []) t
tag-is t lt = ap read_uvarint (sym (groups_one 9 t lt)) ∙ uvarint-is t (omega arith)

-- ---- fields

abbrev bytes_in : ℕ → List ℕ → Field
bytes_in number bytes = record { number = number; content = Bytes bytes }

bytes-is : (number : ℕ) (bytes : List ℕ) → 0 < number → number < 16 → length bytes < 2 ^ 64 → IsField (bytes_field number bytes) (bytes_in number bytes)
bytes-is number bytes lt few short = record {
  tag = tag number 2;
  payload = uvarint (length bytes) ++ bytes;
  parts = refl;
  numbered = lt;
  is_tag = tag-is (number * 8 + 2) (omega arith);
  is_payload = (uvarint (length bytes), uvarint-is (length bytes) short, refl);
}

AreFields-append : (a b : List ℕ) (fs gs : List Field) → AreFields a fs → AreFields b gs → AreFields (a ++ b) (fs ++ gs)
AreFields-append a b [] gs h k = subst (λ (w : List ℕ). AreFields (w ++ b) gs) (sym h) k
AreFields-append a b (f ∷ fs) gs h k =
    (h.0, h.1 ++ b, ap (λ (w : List ℕ). w ++ b) h.2 ∙ append_assoc h.0 h.1 b, h.3, AreFields-append h.1 b fs gs h.4 k)

one_field : (a : List ℕ) (f : Field) → IsField a f → AreFields a (f ∷ [])
one_field a f h = (a, [], sym (nil-right a), h, refl)
  where
    nil-right : (w : List ℕ) → w ++ [] ≡ w
    nil-right [] = refl
    nil-right (x ∷ w) = ap (λ (v : List ℕ). x ∷ v) (nil-right w)

shorter_left : (a b : List ℕ) → length (a ++ b) < 2 ^ 64 → length a < 2 ^ 64
shorter_left a b h = omega (arith, length-append a b)

shorter_right : (a b : List ℕ) → length (a ++ b) < 2 ^ 64 → length b < 2 ^ 64
shorter_right a b h = omega (arith, length-append a b)

inside_field : (number : ℕ) (bytes : List ℕ) → length (bytes_field number bytes) < 2 ^ 64 → length bytes < 2 ^ 64
inside_field number bytes h = shorter_right (tag number 2 ++ uvarint (length bytes)) bytes h

-- ---- labels

abbrev string_in : ℕ → List ℕ → List Field
string_in number [] = []
string_in number (b ∷ bytes) = bytes_in number (b ∷ bytes) ∷ []

string-are : (number : ℕ) (bytes : List ℕ) → 0 < number → number < 16 → length (string_field number bytes) < 2 ^ 64 → AreFields (string_field number bytes) (string_in number bytes)
string-are number [] lt few short = refl
string-are number (b ∷ bytes) lt few short = one_field (bytes_field number (b ∷ bytes)) (bytes_in number (b ∷ bytes)) (bytes-is number (b ∷ bytes) lt few (inside_field number (b ∷ bytes) short))

label-are : (name value : List ℕ) → length (label (name, value)) < 2 ^ 64 → AreFields (label (name, value)) (string_in 1 name ++ string_in 2 value)
unfolding label
label-are name value short =
    AreFields-append (string_field 1 name) (string_field 2 value) (string_in 1 name) (string_in 2 value)
    (string-are 1 name (omega arith) (omega arith) (shorter_left (string_field 1 name) (string_field 2 value) short))
    (string-are 2 value (omega arith) (omega arith) (shorter_right (string_field 1 name) (string_field 2 value) short))

pub label-spelled : (name value : List ℕ) → IsLabel (name, value) → length (label (name, value)) < 2 ^ 64 → SpellsLabel (label (name, value)) (name, value)
label-spelled [] [] ok short = record { fields = []; are = record { spelled = label-are [] [] short; wires = tt }; texts = (tt, tt); name = refl; value = refl }
label-spelled [] (v ∷ value) ok short = record { fields = string_in 2 (v ∷ value); are = record { spelled = label-are [] (v ∷ value) short; wires = (refl, tt) }; texts = (tt, (ok.1, tt)); name = refl; value = refl }
label-spelled (n ∷ name) [] ok short = record { fields = string_in 1 (n ∷ name); are = record { spelled = label-are (n ∷ name) [] short; wires = (refl, tt) }; texts = ((ok.0, tt), tt); name = refl; value = refl }
label-spelled (n ∷ name) (v ∷ value) ok short = record { fields = bytes_in 1 (n ∷ name) ∷ bytes_in 2 (v ∷ value) ∷ []; are = record { spelled = label-are (n ∷ name) (v ∷ value) short; wires = (refl, (refl, tt)) }; texts = ((ok.0, tt), (ok.1, tt)); name = refl; value = refl }

-- ---- samples

abbrev word_in : ℕ → Field
word_in w = record { number = 1; content = Fixed64 w }

abbrev time_in : ℕ → Field
time_in n = record { number = 2; content = Varint n }

word-is : (w : ℕ) → w < 2 ^ 64 → IsField (tag 1 1 ++ to_le_bytes w64 w) (word_in w)
word-is w lt = record {
  tag = tag 1 1;
  payload = to_le_bytes w64 w;
  parts = refl;
  numbered = omega arith;
  is_tag = tag-is 9 (omega arith);
  is_payload = (refl, sym (from_le_bytes-to_le_bytes_8 w lt));
}

time-is : (n : ℕ) → n < 2 ^ 64 → IsField (tag 2 0 ++ uvarint n) (time_in n)
time-is n lt = record {
  tag = tag 2 0;
  payload = uvarint n;
  parts = refl;
  numbered = omega arith;
  is_tag = tag-is 16 (omega arith);
  is_payload = uvarint-is n lt;
}

same_time : (t : ℤ) → FitsSigned w64 t → t ≡ cast_signed w64 (cast_unsigned w64 t)
same_time t fits = omega (arith, ints)

time_fits : (t : ℤ) → FitsSigned w64 t → cast_unsigned w64 t < 2 ^ 64
time_fits t fits = omega (arith, ints)

both_absent : (w : ℕ) (t : ℤ) → eqb w 0 ≡ true → eqb (cast_unsigned w64 t) 0 ≡ true → sample (w, t) ≡ []
unfolding sample fixed64_field int64_field
both_absent w t e d = rw (e, d) refl

word_absent : (w : ℕ) (t : ℤ) → eqb w 0 ≡ true → eqb (cast_unsigned w64 t) 0 ≡ false → sample (w, t) ≡ tag 2 0 ++ uvarint (cast_unsigned w64 t)
unfolding sample fixed64_field int64_field
word_absent w t e d = rw (e, d) refl

time_absent : (w : ℕ) (t : ℤ) → eqb w 0 ≡ false → eqb (cast_unsigned w64 t) 0 ≡ true → sample (w, t) ≡ tag 1 1 ++ to_le_bytes w64 w
unfolding sample fixed64_field int64_field
time_absent w t e d = rw (e, d) refl

none_absent : (w : ℕ) (t : ℤ) → eqb w 0 ≡ false → eqb (cast_unsigned w64 t) 0 ≡ false → sample (w, t) ≡ (tag 1 1 ++ to_le_bytes w64 w) ++ (tag 2 0 ++ uvarint (cast_unsigned w64 t))
unfolding sample fixed64_field int64_field
none_absent w t e d = rw (e, d) refl

pub sample-spelled : (w : ℕ) (t : ℤ) → IsValidSample (w, t) → SpellsSample (sample (w, t)) (w, t)
sample-spelled w t ok =
    elim (cases_eq w 0) [
      | inl w0 ↦
          let tw : eqb w 0 ≡ true = rw w0 refl in
          elim (cases_eq (cast_unsigned w64 t) 0) [
            | inl t0 ↦
                let tt0 : eqb (cast_unsigned w64 t) 0 ≡ true = rw t0 refl in
                let made : SpellsSample [] (w, t) = record { fields = []; are = record { spelled = refl; wires = tt }; word = ap Fixed64 (sym w0); timestamp = (0, refl, same_time t ok.1 ∙ ap (cast_signed w64) t0) } in
                subst (λ (b : List ℕ). SpellsSample b (w, t)) (sym (both_absent w t tw tt0)) made
            | inr t1 ↦
                let tt1 : eqb (cast_unsigned w64 t) 0 ≡ false = ne_eqb (cast_unsigned w64 t) 0 t1 in
                let bytes = tag 2 0 ++ uvarint (cast_unsigned w64 t) in
                let made : SpellsSample bytes (w, t) = record { fields = time_in (cast_unsigned w64 t) ∷ []; are = record { spelled = one_field bytes (time_in (cast_unsigned w64 t)) (time-is (cast_unsigned w64 t) (time_fits t ok.1)); wires = (refl, tt) }; word = ap Fixed64 (sym w0); timestamp = (cast_unsigned w64 t, refl, same_time t ok.1) } in
                subst (λ (b : List ℕ). SpellsSample b (w, t)) (sym (word_absent w t tw tt1)) made
          ]
      | inr w1 ↦
          let tw : eqb w 0 ≡ false = ne_eqb w 0 w1 in
          let front = tag 1 1 ++ to_le_bytes w64 w in
          elim (cases_eq (cast_unsigned w64 t) 0) [
            | inl t0 ↦
                let tt0 : eqb (cast_unsigned w64 t) 0 ≡ true = rw t0 refl in
                let made : SpellsSample front (w, t) = record { fields = word_in w ∷ []; are = record { spelled = one_field front (word_in w) (word-is w ok.0); wires = (refl, tt) }; word = refl; timestamp = (0, refl, same_time t ok.1 ∙ ap (cast_signed w64) t0) } in
                subst (λ (b : List ℕ). SpellsSample b (w, t)) (sym (time_absent w t tw tt0)) made
            | inr t1 ↦
                let tt1 : eqb (cast_unsigned w64 t) 0 ≡ false = ne_eqb (cast_unsigned w64 t) 0 t1 in
                let back = tag 2 0 ++ uvarint (cast_unsigned w64 t) in
                let are : AreFields (front ++ back) (word_in w ∷ time_in (cast_unsigned w64 t) ∷ []) = AreFields-append front back (word_in w ∷ []) (time_in (cast_unsigned w64 t) ∷ []) (one_field front (word_in w) (word-is w ok.0)) (one_field back (time_in (cast_unsigned w64 t)) (time-is (cast_unsigned w64 t) (time_fits t ok.1))) in
                let made : SpellsSample (front ++ back) (w, t) = record { fields = word_in w ∷ time_in (cast_unsigned w64 t) ∷ []; are = record { spelled = are; wires = (refl, (refl, tt)) }; word = refl; timestamp = (cast_unsigned w64 t, refl, same_time t ok.1) } in
                subst (λ (b : List ℕ). SpellsSample b (w, t)) (sym (none_absent w t tw tt1)) made
          ]
    ]

-- ---- repeated messages

abbrev repeated_in : {X : Type 0} → ℕ → (X → List ℕ) → List X → List Field
repeated_in number spelled xs = map (λ x. bytes_in number (spelled x)) xs

abbrev repeated : {X : Type 0} → ℕ → (X → List ℕ) → List X → List ℕ
repeated number spelled xs = flat_map (λ x. bytes_field number (spelled x)) xs

repeated-are : {X : Type 0} (number : ℕ) (spelled : X → List ℕ) (xs : List X) → 0 < number → number < 16 → length (repeated number spelled xs) < 2 ^ 64 → AreFields (repeated number spelled xs) (repeated_in number spelled xs)
repeated-are number spelled [] lt few short = refl
repeated-are number spelled (x ∷ xs) lt few short =
    let one = bytes_field number (spelled x) in
    let rest = repeated number spelled xs in
    let inner = inside_field number (spelled x) (shorter_left one rest short) in
    (one, rest, refl, bytes-is number (spelled x) lt few inner, repeated-are number spelled xs lt few (shorter_right one rest short))

repeated-wires : {X : Type 0} (kind : Kind) (number : ℕ) (spelled : X → List ℕ) (xs : List X) → known_wire kind number ≡ Some 2 → AllByRecursion (HasKnownWire kind) (repeated_in number spelled xs)
repeated-wires kind number spelled [] e = tt
repeated-wires kind number spelled (x ∷ xs) e = (subst (λ (o : Option ℕ). IfSome o (λ w. 2 ≡ w)) (sym e) refl, repeated-wires kind number spelled xs e)

repeated-contents : {X : Type 0} (number : ℕ) (spelled : X → List ℕ) (xs : List X) (fs : List Field) → eqb number number ≡ true → contents number (repeated_in number spelled xs ++ fs) ≡ map (λ x. Bytes (spelled x)) xs ++ contents number fs
repeated-contents number spelled [] fs e = refl
repeated-contents number spelled (x ∷ xs) fs e = rw e (ap (λ (cs : List Content). Bytes (spelled x) ∷ cs) (repeated-contents number spelled xs fs e))

repeated-others : {X : Type 0} (number other : ℕ) (spelled : X → List ℕ) (xs : List X) (fs : List Field) → eqb number other ≡ false → contents other (repeated_in number spelled xs ++ fs) ≡ contents other fs
repeated-others number other spelled [] fs e = refl
repeated-others number other spelled (x ∷ xs) fs e = rw e (repeated-others number other spelled xs fs e)

repeated-each : {X : Type 0} (number : ℕ) (spelled : X → List ℕ) (Valid : X → Type 0) (Spelling : List ℕ → X → Type 0) → ((x : X) → Valid x → length (spelled x) < 2 ^ 64 → Spelling (spelled x) x)
    → (xs : List X) → AllByRecursion Valid xs → length (repeated number spelled xs) < 2 ^ 64 → EachSpells Spelling (map (λ x. Bytes (spelled x)) xs) xs
repeated-each number spelled Valid Spelling h [] ok short = tt
repeated-each number spelled Valid Spelling h (x ∷ xs) ok short =
    let one = bytes_field number (spelled x) in
    let rest = repeated number spelled xs in
    (h x ok.0 (inside_field number (spelled x) (shorter_left one rest short)), repeated-each number spelled Valid Spelling h xs ok.1 (shorter_right one rest short))

nil_right : {X : Type 0} (w : List X) → w ++ [] ≡ w
nil_right [] = refl
nil_right (x ∷ w) = ap (λ (v : List _). x ∷ v) (nil_right w)

pub series-spelled : (s : TimeSeries) → IsSeries s → length (series s) < 2 ^ 64 → SpellsSeries (series s) s
unfolding series label_field sample_field
series-spelled s ok short =
    let lf = repeated_in 1 label s.labels in
    let sf = repeated_in 2 sample s.samples in
    let short1 = shorter_left (label_fields s.labels) (sample_fields s.samples) short in
    let short2 = shorter_right (label_fields s.labels) (sample_fields s.samples) short in
    let labels : EachSpells SpellsLabel (map (λ l. Bytes (label l)) s.labels) s.labels = repeated-each 1 label IsLabel SpellsLabel (λ l v len. label-spelled l.0 l.1 v len) s.labels ok.labels short1 in
    let samples : EachSpells SpellsSample (map (λ x. Bytes (sample x)) s.samples) s.samples = repeated-each 2 sample IsValidSample SpellsSample (λ x v len. sample-spelled x.0 x.1 v) s.samples ok.samples short2 in
    let none : contents 1 sf ≡ [] = ap (contents 1) (sym (nil_right sf)) ∙ repeated-others 2 1 sample s.samples [] refl in
    let all : contents 2 sf ≡ map (λ x. Bytes (sample x)) s.samples = ap (contents 2) (sym (nil_right sf)) ∙ repeated-contents 2 sample s.samples [] refl ∙ nil_right (map (λ x. Bytes (sample x)) s.samples) in
    let ones : contents 1 (lf ++ sf) ≡ map (λ l. Bytes (label l)) s.labels = repeated-contents 1 label s.labels sf refl ∙ ap (λ (cs : List Content). map (λ l. Bytes (label l)) s.labels ++ cs) none ∙ nil_right (map (λ l. Bytes (label l)) s.labels) in
    let twos : contents 2 (lf ++ sf) ≡ map (λ x. Bytes (sample x)) s.samples = repeated-others 1 2 label s.labels sf refl ∙ all in
    record {
      fields = lf ++ sf;
      are = record {
        spelled = AreFields-append (label_fields s.labels) (sample_fields s.samples) lf sf (repeated-are 1 label s.labels (omega arith) (omega arith) short1) (repeated-are 2 sample s.samples (omega arith) (omega arith) short2);
        wires = AllByRecursion-append (HasKnownWire kinds.TimeSeries) lf sf (repeated-wires kinds.TimeSeries 1 label s.labels refl) (repeated-wires kinds.TimeSeries 2 sample s.samples refl);
      };
      labels = subst (λ (cs : List Content). EachSpells SpellsLabel cs s.labels) (sym ones) labels;
      samples = subst (λ (cs : List Content). EachSpells SpellsSample cs s.samples) (sym twos) samples;
    }

pub canon-spelled : (m : WriteRequest) → IsMessage m → Spells (canon m) m
unfolding series_field
canon-spelled m ok =
    let fs = repeated_in 1 series m in
    let each : EachSpells SpellsSeries (map (λ s. Bytes (series s)) m) m = repeated-each 1 series IsSeries SpellsSeries series-spelled m ok.series ok.short in
    let ones : contents 1 fs ≡ map (λ s. Bytes (series s)) m = ap (contents 1) (sym (nil_right fs)) ∙ repeated-contents 1 series m [] refl ∙ nil_right (map (λ s. Bytes (series s)) m) in
    record {
      fields = fs;
      are = record { spelled = repeated-are 1 series m (omega arith) (omega arith) ok.short; wires = repeated-wires kinds.WriteRequest 1 series m refl };
      series = subst (λ (cs : List Content). EachSpells SpellsSeries cs m) (sym ones) each;
    }

-- ---- what a builder needs

field_of_parts : (front middle back : List ℕ) (t : ℕ) → (t ∷ front) ++ (middle ++ back) ≡ ((t ∷ front) ++ middle) ++ back
field_of_parts front middle back t = sym (append_assoc (t ∷ front) middle back)

pub series-field-parts : (ls : List Label) (ss : List Sample) → series_field (record { labels = ls; samples = ss }) ≡ series_head ls (length (sample_fields ss)) ++ sample_fields ss
unfolding series_field series_head series
series-field-parts ls ss =
    ap (λ (n : ℕ). (tag 1 2 ++ uvarint n) ++ (label_fields ls ++ sample_fields ss)) (length-append (label_fields ls) (sample_fields ss))
    ∙ field_of_parts (uvarint (length (label_fields ls) + length (sample_fields ss))) (label_fields ls) (sample_fields ss) 10

word_length : (w : ℕ) → length (fixed64_field 1 w) ≤ 9
unfolding fixed64_field
word_length w = elim (cases_eq w 0) [
  | inl e ↦ let t : eqb w 0 ≡ true = rw e refl in rw t (omega arith)
  | inr n ↦ let t : eqb w 0 ≡ false = ne_eqb w 0 n in rw t (omega arith)
]

time_length : (t : ℤ) → length (int64_field 2 t) ≤ 11
unfolding int64_field
time_length t = elim (cases_eq (cast_unsigned w64 t) 0) [
  | inl e ↦ let k : eqb (cast_unsigned w64 t) 0 ≡ true = rw e refl in rw k (omega arith)
  | inr n ↦ let k : eqb (cast_unsigned w64 t) 0 ≡ false = ne_eqb (cast_unsigned w64 t) 0 n in rw k (omega (arith, groups_short 9 (cast_unsigned w64 t)))
]

pub sample-length : (s : Sample) → length (sample s) ≤ 20
unfolding sample
sample-length s = omega (arith, length-append (fixed64_field 1 s.0) (int64_field 2 s.1), word_length s.0, time_length s.1)

pub sample-field-parts : (s : Sample) → sample_field s ≡ 18 ∷ length (sample s) ∷ sample s
unfolding sample_field
sample-field-parts s =
    let short : length (sample s) < 128 = omega (arith, sample-length s) in
    let e : uvarint (length (sample s)) ≡ length (sample s) ∷ [] = groups_one 9 (length (sample s)) short in
    ap (λ (u : List ℕ). (tag 2 2 ++ u) ++ sample s) e

pub sample-field-length : (s : Sample) → length (sample_field s) ≤ 22
sample-field-length s = subst (λ (w : List ℕ). length w ≤ 22) (sym (sample-field-parts s)) (omega (arith, sample-length s))

-- ---- a timestamp is kept as the 64 bits that it has

pub same-sample : (w : ℕ) (t : ℤ) → FitsSigned w64 t → sample (w, cast_signed w64 (cast_unsigned w64 t)) ≡ sample (w, t)
same-sample w t fits = ap (λ (z : ℤ). sample (w, z)) (to_z-of_z w64 t fits)

pub same-sample-field : (w : ℕ) (t : ℤ) → FitsSigned w64 t → sample_field (w, cast_signed w64 (cast_unsigned w64 t)) ≡ sample_field (w, t)
same-sample-field w t fits = ap (λ (z : ℤ). sample_field (w, z)) (to_z-of_z w64 t fits)

pub bytes-field-length : (number : ℕ) (bytes : List ℕ) → length (bytes_field number bytes) ≡ 1 + length (uvarint (length bytes)) + length bytes
bytes-field-length number bytes = omega (arith, length-append (tag number 2 ++ uvarint (length bytes)) bytes, length-append (tag number 2) (uvarint (length bytes)))

pub series-field-length : (s : TimeSeries) → length (series_field s) ≡ 1 + length (uvarint (length (series s))) + length (series s)
unfolding series_field
series-field-length s = bytes-field-length 1 (series s)
