-- Words that the laws of the log's grammar are stated in.
use Rattle.std.specs.Prelude.{◌≡◌, ℕ, ◌+◌, ◌^◌, ◌<◌, ℤ, false, List, [], ◌∷◌, ◌++◌, length, Option, Some, FitsSigned}
use Rattle.std.proofs.Common.{w64}
use Rattle.rw_types.specs.declared.entry.Entry.{Entry}
use Rattle.rw_types.specs.declared.entry.Entry.TheVariants.{Sample}
use Rattle.rw_types.specs.Labels.{Labels}
use Rattle.rw_codes.specs.Varint.{AreBytes}
use Rattle.rw_wal_format.specs.Records.{◌then◌, record_entries}
use Rattle.rw_wal_format.specs.Segments.{Reading, at_fault, between, stopped, with_record}
use Rattle.rw_wal_format.specs.Writing.{log_bytes}
use Rattle.rw_wal_format.specs.declared.skipped_type.SkippedType.{SkippedType}
use Rattle.rw_wal_format.specs.declared.tail_fault.TailFault.{TailFault}

-- A later reading goes on from an earlier one: it begins with the same entries, and has passed over
-- the same records first. Where the earlier one had met a fault, it is the same.
pub record Extends (earlier later : Reading) : Type 0 where
  pub more : List Entry
  pub entries : later.entries ≡ earlier.entries ++ more
  pub more_skipped : List SkippedType
  pub skipped : later.skipped ≡ earlier.skipped ++ more_skipped
  pub stays : (f : TailFault) → earlier.stop ≡ at_fault f → later ≡ earlier

-- each is a record that a segment can hold: bytes, and at least one
abbrev pub AreRecords : List (List ℕ) → Type 0
AreRecords [] = Unit {0}
AreRecords (d ∷ ds) = AreBytes d × (0 < length d) × AreRecords ds

-- the bytes of records that a segment gets one after the other, the first of them at an offset
abbrev pub log_all : ℕ → ℕ → List (List ℕ) → List ℕ
log_all page offset [] = []
log_all page offset (d ∷ ds) = log_bytes page offset d ++ log_all page (offset + length (log_bytes page offset d)) ds

-- what is read of whole records, and no fault or begun record after them
abbrev pub reading_of_records : List (List ℕ) → Reading
reading_of_records [] = stopped between
reading_of_records (d ∷ ds) = with_record (false, d) (reading_of_records ds)

-- the entries of records, if each is of its type's form
abbrev pub entries_of_records : List (List ℕ) → Option (List Entry)
entries_of_records [] = Some []
entries_of_records (d ∷ ds) = record_entries d then λ first. entries_of_records ds then λ more. Some (first ++ more)

-- names and values whose lengths are numbers of 64 bits
abbrev pub AreTexts : Labels → Type 0
AreTexts [] = Unit {0}
AreTexts (l ∷ ls) = (length l.0 < 2 ^ 64) × (length l.1 < 2 ^ 64) × AreTexts ls

-- a reference, a timestamp and a word of 64 bits each
pub record IsSample (s : ℕ × ℤ × ℕ) : Type 0 where
  pub reference : s.0 < 2 ^ 64
  pub time : FitsSigned w64 s.1
  pub word : s.2 < 2 ^ 64

abbrev pub AreSamples : List (ℕ × ℤ × ℕ) → Type 0
AreSamples [] = Unit {0}
AreSamples (s ∷ ss) = IsSample s × AreSamples ss

-- the entry of a sample
abbrev pub sample_entry : ℕ × ℤ × ℕ → Entry
sample_entry s = Sample s.0 s.1 s.2
