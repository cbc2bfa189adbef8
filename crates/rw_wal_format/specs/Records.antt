-- The records of a write-ahead log (wal.md): series records and sample records, and the entries
-- that they hold.
use Rattle.std.specs.Prelude.{ℕ, zero, suc, ◌+◌, ◌-◌, ◌%◌, ◌^◌, ℤ, List, [], ◌∷◌, ◌++◌, length, take, drop, flat_map, Option, Some, None, Result, Ok, Err, Bool, true, not, ◌||◌, ◌==◌, nat_lt, if◌then◌else◌}
use Rattle.std.proofs.Common.{w64}
use Rattle.std.specs.Int.{cast_unsigned, cast_signed, int_wrapping_add, int_wrapping_sub}
use Rattle.rw_types.specs.Labels.{Labels}
use Rattle.rw_types.specs.declared.entry.Entry.{Entry}
use Rattle.rw_types.specs.declared.entry.Entry.TheVariants.{Def, Sample}
use Rattle.byteorder.specs.Endian.{big_bytes, big_number}
use Rattle.rw_codes.specs.Varint.{uvarint, read_uvarint, varint, read_varint}

-- ---- what the writer spells

-- a text after its length
abbrev pub text_bytes : List ℕ → List ℕ
text_bytes text = uvarint (length text) ++ text

-- a label's name and value
abbrev pub label_bytes : List ℕ × List ℕ → List ℕ
label_bytes label = text_bytes label.0 ++ text_bytes label.1

-- labels after their count
abbrev pub labels_bytes : Labels → List ℕ
labels_bytes labels = uvarint (length labels) ++ flat_map label_bytes labels

-- the series record of one definition (wal.md, "Series records")
abbrev pub series_record : ℕ → Labels → List ℕ
series_record reference labels = 1 ∷ big_bytes 8 reference ++ labels_bytes labels

-- One sample against the base, which is the first sample's reference and timestamp: both deltas,
-- which wrap at 64 bits, as ZigZag varints, and the word of the value, high byte first.
abbrev pub sample_bytes : ℕ → ℤ → ℕ × ℤ × ℕ → List ℕ
sample_bytes base start s =
    varint (cast_signed w64 ((s.0 + (2 ^ 64 - base)) % 2 ^ 64)) ++ varint (int_wrapping_sub w64 s.1 start) ++ big_bytes 8 s.2

-- the sample record of a list of (reference, timestamp, word) (wal.md, "Sample records")
abbrev pub sample_record : List (ℕ × ℤ × ℕ) → List ℕ
sample_record [] = 2 ∷ []
sample_record (s ∷ ss) = 2 ∷ big_bytes 8 s.0 ++ big_bytes 8 (cast_unsigned w64 s.1) ++ flat_map (sample_bytes s.0 s.1) (s ∷ ss)

-- ---- what the reader takes

-- what comes first, and then what is read of it
infixl 10 ◌then◌
abbrev pub ◌then◌ : {A B : Type 0} → Option A → (A → Option B) → Option B
None then f = None
(Some x) then f = f x

-- a code, if it can be read
abbrev pub found : {A F : Type 0} → Result A F → Option A
found (Ok x) = Some x
found (Err e) = None

-- eight bytes, high byte first, and the bytes after them
abbrev pub eight_at : List ℕ → Option (ℕ × List ℕ)
eight_at bytes = if nat_lt (length bytes) 8 then None else Some (big_number 8 bytes, drop 8 bytes)

-- a text after its length, and the bytes after it
abbrev pub text_at : List ℕ → Option (List ℕ × List ℕ)
text_at bytes = found (read_uvarint bytes) then λ n.
    if nat_lt (length n.1) n.0 then None else Some (take n.0 n.1, drop n.0 n.1)

-- a label
abbrev pub label_at : List ℕ → Option ((List ℕ × List ℕ) × List ℕ)
label_at bytes = text_at bytes then λ name. text_at name.1 then λ value. Some ((name.0, value.0), value.1)

-- a number of labels
abbrev pub label_list_at : ℕ → List ℕ → Option (Labels × List ℕ)
label_list_at zero bytes = Some ([], bytes)
label_list_at (suc n) bytes = label_at bytes then λ label. label_list_at n label.1 then λ more. Some (label.0 ∷ more.0, more.1)

-- a series: its reference and its labels
abbrev pub definition_at : List ℕ → Option (Entry × List ℕ)
definition_at bytes = eight_at bytes then λ reference. found (read_uvarint reference.1) then λ count.
    label_list_at count.0 count.1 then λ labels. Some (Def reference.0 labels.0, labels.1)

-- a sample against the base
abbrev pub sample_at : ℕ → ℤ → List ℕ → Option (Entry × List ℕ)
sample_at base start bytes = found (read_varint bytes) then λ reference. found (read_varint reference.1) then λ time. eight_at time.1 then λ word.
    Some (Sample ((base + cast_unsigned w64 reference.0) % 2 ^ 64) (int_wrapping_add w64 start time.0) word.0, word.1)

-- the items one after the other up to the end of the bytes, of which there are at most k
abbrev pub all_of : {A : Type 0} → (List ℕ → Option (A × List ℕ)) → ℕ → List ℕ → Option (List A)
all_of item k [] = Some []
all_of item zero (b ∷ bs) = None
all_of item (suc k) (b ∷ bs) = item (b ∷ bs) then λ first. all_of item k first.1 then λ more. Some (first.0 ∷ more)

-- the definitions of a series record, after its type byte
abbrev pub series_entries : List ℕ → Option (List Entry)
series_entries bytes = all_of definition_at (length bytes) bytes

-- the samples against a base, of which there is at least one
abbrev pub samples_at : ℕ → ℤ → List ℕ → Option (List Entry)
samples_at base start [] = None
samples_at base start (b ∷ bs) = all_of (sample_at base start) (length (b ∷ bs)) (b ∷ bs)

-- the samples of a sample record, after its type byte: none, or a base and at least one sample
abbrev pub sample_entries : List ℕ → Option (List Entry)
sample_entries [] = Some []
sample_entries (b ∷ bs) = eight_at (b ∷ bs) then λ base. eight_at base.1 then λ start.
    samples_at base.0 (cast_signed w64 start.0) start.1

-- the entries of a record, or none if it is not of its type's form; an empty record and one of
-- another type hold no entry
unfoldable pub record_entries : List ℕ → Option (List Entry)
record_entries [] = Some []
record_entries (kind ∷ bytes) =
    if kind == 1 then series_entries bytes else if kind == 2 then sample_entries bytes else Some []

-- whether a record is skipped: it is empty, or of another type
abbrev pub is_skipped : List ℕ → Bool
is_skipped [] = true
is_skipped (kind ∷ bytes) = not (kind == 1 || kind == 2)
