-- The types of fragments and records as bytes (wal.md).
use Rattle.std.specs.Prelude.{ℕ}
use Rattle.rw_wal_format.specs.Segments.{Kind, full, first, middle, last}
use Rattle.rw_wal_format.specs.declared.fragment_type.FragmentType.{FragmentType}
use Rattle.rw_wal_format.specs.declared.fragment_type.FragmentType.TheVariants.{Full, First, Middle, Last}
use Rattle.rw_wal_format.specs.declared.record_type.RecordType.{RecordType}
use Rattle.rw_wal_format.specs.declared.record_type.RecordType.TheVariants.{Series, Samples}

-- the type of a fragment in the grammar
abbrev pub kind_of : FragmentType → Kind
kind_of Full = full
kind_of First = first
kind_of Middle = middle
kind_of Last = last

-- the byte of a type of records
abbrev pub record_byte : RecordType → ℕ
record_byte Series = 1
record_byte Samples = 2
