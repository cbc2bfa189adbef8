-- The types of skipped records (wal.md).
use Rattle.std.specs.Prelude.{ℕ, List, [], ◌∷◌, Bool, true, false, ◌==◌, count_by, if◌then◌else◌}
use Rattle.rw_wal_format.specs.Records.{is_skipped}
use Rattle.rw_wal_format.specs.declared.skipped_type.SkippedType.{SkippedType}
use Rattle.rw_wal_format.specs.declared.skipped_type.SkippedType.TheVariants.{Unknown, Tombstones, Exemplars, MmapMarkers, Metadata, Histograms, FloatHistograms, CustomHistograms, CustomFloatHistograms}

-- the type that a record's first byte stands for
unfoldable pub type_of_byte : ℕ → SkippedType
type_of_byte b =
    if b == 3 then Tombstones
    else if b == 4 then Exemplars
    else if b == 5 then MmapMarkers
    else if b == 6 then Metadata
    else if b == 7 then Histograms
    else if b == 8 then FloatHistograms
    else if b == 9 then CustomHistograms
    else if b == 10 then CustomFloatHistograms
    else Unknown

-- the type of a skipped record; an empty one has no known type
abbrev pub skipped_type : List ℕ → SkippedType
skipped_type [] = Unknown
skipped_type (b ∷ bs) = type_of_byte b

-- the types of the records that are skipped in this one: its own, or none
abbrev pub skips_of : List ℕ → List SkippedType
skips_of d = if is_skipped d then skipped_type d ∷ [] else []

-- the byte that stands for a type, and 0 for an unknown one
abbrev pub type_number : SkippedType → ℕ
type_number Unknown = 0
type_number Tombstones = 3
type_number Exemplars = 4
type_number MmapMarkers = 5
type_number Metadata = 6
type_number Histograms = 7
type_number FloatHistograms = 8
type_number CustomHistograms = 9
type_number CustomFloatHistograms = 10

-- how many of these types are this one
abbrev pub count_of : SkippedType → List SkippedType → ℕ
count_of kind types = count_by (λ t. type_number t == type_number kind) types

-- whether samples may be lost when a record of this type is skipped
abbrev pub loses_samples : SkippedType → Bool
loses_samples Tombstones = false
loses_samples Exemplars = false
loses_samples MmapMarkers = false
loses_samples Metadata = false
loses_samples _ = true
