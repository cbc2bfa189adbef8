-- Why each page is synced before the next one is begun: by computation, a log of which a crash lost
-- the middle, in pages of 64 bytes.
use Rattle.std.proofs.Common.{◌≡◌, ℕ, pos, List, [], ◌∷◌, ◌++◌, take, drop, replicate, refl}
use Rattle.rw_codes.specs.Varint.{groups, number_in_groups}
use Rattle.rw_codes.specs.Crc.{crc_bits}
use Rattle.rw_types.specs.Labels.{Labels}
use Rattle.rw_types.specs.declared.entry.Entry.TheVariants.{Def, Sample}
use Rattle.rw_wal_format.specs.Records.{series_record, sample_record, record_entries}
use Rattle.rw_wal_format.specs.Segments.{segment, item_at, segment_in}
use Rattle.rw_wal_format.specs.Writing.{frame, log_bytes}
use Rattle.rw_wal_format.specs.Laws.{log_all}

-- {__name__="up"}
abbrev up : Labels
up = ((95 ∷ 95 ∷ 110 ∷ 97 ∷ 109 ∷ 101 ∷ 95 ∷ 95 ∷ []), (117 ∷ 112 ∷ [])) ∷ []

-- the definition and a sample fill the first page, and a second sample is on the next one
abbrev whole : List ℕ
whole = log_all 64 0 (series_record 1 up ∷ sample_record ((1, pos 1000, 0x3ff0000000000000) ∷ []) ∷ sample_record ((1, pos 2000, 0x3ff0000000000000) ∷ []) ∷ [])

-- the first 29 bytes, which hold the definition, were synced; of what was written then the first
-- page's rest is lost, and the next page is there
abbrev holed : List ℕ
holed = take 29 whole ++ replicate 35 0 ++ drop 64 whole

-- no fault shows that the sample is lost, and the later one is read
read_over_a_hole : (segment 64 holed).entries ≡ Def 1 up ∷ Sample 1 (pos 2000) 0x3ff0000000000000 ∷ []
unfolding groups frame log_bytes item_at segment_in record_entries number_in_groups crc_bits
read_over_a_hole = refl

read_whole : (segment 64 whole).entries ≡ Def 1 up ∷ Sample 1 (pos 1000) 0x3ff0000000000000 ∷ Sample 1 (pos 2000) 0x3ff0000000000000 ∷ []
unfolding groups frame log_bytes item_at segment_in record_entries number_in_groups crc_bits
read_whole = refl
