-- Logs that were written and read manually, by computation: records, segments, pages of 32 bytes.
use Rattle.std.proofs.Common.{◌≡◌, ℕ, ◌-◌, ◌^◌, pos, List, [], ◌∷◌, ◌++◌, length, map, take, drop, set, replicate, Some, None, refl}
use Rattle.byteorder.specs.Endian.{big_bytes}
use Rattle.rw_codes.specs.Varint.{groups, number_in_groups}
use Rattle.rw_codes.specs.Crc.{crc_bits}
use Rattle.rw_types.specs.Labels.{Labels}
use Rattle.rw_wal_format.specs.Records.{series_record, sample_record, record_entries}
use Rattle.rw_types.specs.declared.entry.Entry.{Entry}
use Rattle.rw_types.specs.declared.entry.Entry.TheVariants.{Def, Sample}
use Rattle.rw_wal_format.specs.Skipped.{type_of_byte}
use Rattle.rw_wal_format.specs.declared.skipped_type.SkippedType.TheVariants.{Unknown, Tombstones}
use Rattle.rw_snappy.specs.Snappy.{of_32_bits, literal_length, element_at, copied, element_step, elements_in}
use Rattle.rw_wal_format.specs.Segments.{full, first, middle, last, snappy, Stop, between, inside, at_fault, Reading, stopped, segment_in, item_at}
use Rattle.rw_wal_format.specs.Pieces.{bytes, next_segment, may_compress, reading, entries, fault}
use Rattle.rw_wal_format.specs.Writing.{frame, log_bytes, room}
use Rattle.rw_wal_format.specs.Laws.{log_all}
use Rattle.rw_wal_format.specs.declared.tail_fault.TailFault.TheVariants.{BadType, BadLength, BadCrc, Compressed, NonzeroPadding, Sequence, BadRecord, TornSegment}

-- ---- one series {__name__="up"}, and of it 1 at 1000

abbrev pub up : Labels
up = ((95 ∷ 95 ∷ 110 ∷ 97 ∷ 109 ∷ 101 ∷ 95 ∷ 95 ∷ []), (117 ∷ 112 ∷ [])) ∷ []

abbrev pub up_series : List ℕ
up_series = 1 ∷ 0 ∷ 0 ∷ 0 ∷ 0 ∷ 0 ∷ 0 ∷ 0 ∷ 1 ∷ 1 ∷ 8 ∷ 95 ∷ 95 ∷ 110 ∷ 97 ∷ 109 ∷ 101 ∷ 95 ∷ 95 ∷ 2 ∷ 117 ∷ 112 ∷ []

abbrev pub up_sample : List ℕ
up_sample = 2 ∷ 0 ∷ 0 ∷ 0 ∷ 0 ∷ 0 ∷ 0 ∷ 0 ∷ 1 ∷ 0 ∷ 0 ∷ 0 ∷ 0 ∷ 0 ∷ 0 ∷ 3 ∷ 232 ∷ 0 ∷ 0 ∷ 63 ∷ 240 ∷ 0 ∷ 0 ∷ 0 ∷ 0 ∷ 0 ∷ 0 ∷ []

abbrev pub up_segment : List ℕ
up_segment = 1 ∷ 0 ∷ 22 ∷ 57 ∷ 25 ∷ 148 ∷ 243 ∷ 1 ∷ 0 ∷ 0 ∷ 0 ∷ 0 ∷ 0 ∷ 0 ∷ 0 ∷ 1 ∷ 1 ∷ 8 ∷ 95 ∷ 95 ∷ 110 ∷ 97 ∷ 109 ∷ 101 ∷ 95 ∷ 95 ∷ 2 ∷ 117 ∷ 112 ∷ 1 ∷ 0 ∷ 27 ∷ 44 ∷ 81 ∷ 76 ∷ 7 ∷ 2 ∷ 0 ∷ 0 ∷ 0 ∷ 0 ∷ 0 ∷ 0 ∷ 0 ∷ 1 ∷ 0 ∷ 0 ∷ 0 ∷ 0 ∷ 0 ∷ 0 ∷ 3 ∷ 232 ∷ 0 ∷ 0 ∷ 63 ∷ 240 ∷ 0 ∷ 0 ∷ 0 ∷ 0 ∷ 0 ∷ 0 ∷ []

abbrev pub up_entries : List Entry
up_entries = Def 1 up ∷ Sample 1 (pos 1000) 0x3ff0000000000000 ∷ []

series-of_up : series_record 1 up ≡ up_series
unfolding groups
series-of_up = refl

sample-of_up : sample_record ((1, pos 1000, 0x3ff0000000000000) ∷ []) ≡ up_sample
unfolding groups
sample-of_up = refl

lengths-of_up : map length (up_series ∷ up_sample ∷ up_segment ∷ []) ≡ 22 ∷ 27 ∷ 63 ∷ []
lengths-of_up = refl

segment-of_up : log_all 32768 0 (up_series ∷ up_sample ∷ []) ≡ up_segment
unfolding frame log_bytes crc_bits
segment-of_up = refl

-- what is read where the log's only segment has this text
unfoldable read_text : List ℕ → Reading
read_text text = reading 32768 (bytes text ∷ [])

-- if just the definition of `up` is read
unfoldable defined : Stop → Reading
defined s = record { entries = Def 1 up ∷ []; skipped = []; stop = s }

up-read : read_text up_segment ≡ record { entries = up_entries; skipped = []; stop = between }
unfolding read_text item_at segment_in record_entries number_in_groups reading crc_bits
up-read = refl

nothing-read : reading 32768 [] ≡ stopped between
unfolding item_at segment_in reading
nothing-read = refl

-- cut two bytes into the second CRC: the definition, and no fault
cut_inside_a_header : read_text (take 34 up_segment) ≡ defined inside
unfolding read_text defined item_at segment_in record_entries number_in_groups reading crc_bits
cut_inside_a_header = refl

cut_mended : entries (bytes (take 34 up_segment) ∷ bytes (drop 34 up_segment) ∷ []) ≡ up_entries
unfolding item_at segment_in record_entries number_in_groups reading crc_bits
cut_mended = refl

cut_torn : reading 32768 (bytes (take 34 up_segment) ∷ next_segment ∷ []) ≡ defined (at_fault TornSegment)
unfolding defined item_at segment_in record_entries number_in_groups reading crc_bits
cut_torn = refl

-- without the first record's last byte, and with it
cut_round_the_first_record : map read_text (take 28 up_segment ∷ take 29 up_segment ∷ []) ≡ stopped inside ∷ defined between ∷ []
unfolding read_text defined item_at segment_in record_entries number_in_groups reading crc_bits
cut_round_the_first_record = refl

last_byte_changed : read_text (set up_segment 62 1) ≡ defined (at_fault BadCrc)
unfolding read_text defined item_at segment_in record_entries number_in_groups reading crc_bits
last_byte_changed = refl

fault_stays : fault (bytes (set up_segment 62 1) ∷ next_segment ∷ bytes up_segment ∷ []) ≡ Some BadCrc
unfolding item_at segment_in record_entries number_in_groups reading crc_bits
fault_stays = refl

two_segments : entries (bytes up_segment ∷ next_segment ∷ bytes up_segment ∷ []) ≡ up_entries ++ up_entries
unfolding item_at segment_in record_entries number_in_groups reading crc_bits
two_segments = refl

-- ---- a header's bytes

-- the first fragment's type byte, at each border between its meanings
with_type : ℕ → Reading
with_type kind = read_text (set up_segment 0 kind)

types-taken : map with_type (0 ∷ 1 ∷ 2 ∷ 3 ∷ 4 ∷ []) ≡ stopped (at_fault NonzeroPadding) ∷ read_text up_segment ∷ stopped (at_fault Sequence) ∷ stopped (at_fault Sequence) ∷ stopped (at_fault Sequence) ∷ []
unfolding with_type read_text item_at segment_in record_entries number_in_groups reading crc_bits
types-taken = refl

types-unknown : map with_type (5 ∷ 7 ∷ 32 ∷ 255 ∷ []) ≡ stopped (at_fault BadType) ∷ stopped (at_fault BadType) ∷ stopped (at_fault BadType) ∷ stopped (at_fault BadType) ∷ []
unfolding with_type read_text item_at segment_in record_entries number_in_groups reading crc_bits
types-unknown = refl

types-compressed : map with_type (8 ∷ 31 ∷ []) ≡ stopped (at_fault Compressed) ∷ stopped (at_fault Compressed) ∷ []
unfolding with_type read_text item_at segment_in record_entries number_in_groups reading crc_bits
types-compressed = refl

-- the type byte is judged as soon as it is there
type_alone : map read_text ((4 ∷ []) ∷ (5 ∷ []) ∷ (8 ∷ []) ∷ []) ≡ stopped inside ∷ stopped (at_fault BadType) ∷ stopped (at_fault Compressed) ∷ []
unfolding read_text item_at segment_in record_entries number_in_groups reading crc_bits
type_alone = refl

-- data to the page's end, and a byte more
lengths-at_the_page_end : map read_text ((1 ∷ 127 ∷ 249 ∷ replicate 4 0) ∷ (1 ∷ 127 ∷ 250 ∷ replicate 4 0) ∷ []) ≡ stopped inside ∷ stopped (at_fault BadLength) ∷ []
unfolding read_text item_at segment_in record_entries number_in_groups reading crc_bits
lengths-at_the_page_end = refl

crc_changed : map read_text (set up_segment 3 0 ∷ set up_segment 32 0 ∷ []) ≡ stopped (at_fault BadCrc) ∷ defined (at_fault BadCrc) ∷ []
unfolding read_text defined item_at segment_in record_entries number_in_groups reading crc_bits
crc_changed = refl

-- ---- what records hold

-- a sample record without samples
no_samples : read_text (1 ∷ 0 ∷ 1 ∷ 179 ∷ 70 ∷ 35 ∷ 166 ∷ 2 ∷ []) ≡ stopped between
unfolding read_text item_at segment_in record_entries number_in_groups reading crc_bits
no_samples = refl

-- one with a base and no sample is not of its form
base_alone : record_entries (2 ∷ big_bytes 8 1 ++ big_bytes 8 1000) ≡ None
unfolding record_entries
base_alone = refl

-- the deltas of the second sample
two_deltas : take 4 (drop 27 (sample_record ((1, pos 1000, 0) ∷ (3, pos 990, 0) ∷ []))) ≡ 4 ∷ 19 ∷ 0 ∷ 0 ∷ []
unfolding groups
two_deltas = refl

-- the first sample's deltas are added too, and a reference wraps at 64 bits
first_deltas : record_entries (2 ∷ big_bytes 8 (2 ^ 64 - 1) ++ big_bytes 8 1000 ++ (4 ∷ 19 ∷ []) ++ big_bytes 8 7) ≡ Some (Sample 1 (pos 990) 7 ∷ [])
unfolding record_entries number_in_groups
first_deltas = refl

too_many_labels : record_entries (1 ∷ big_bytes 8 1 ++ replicate 9 255 ++ 1 ∷ []) ≡ None
unfolding record_entries number_in_groups
too_many_labels = refl

bad_record : reading 32768 (bytes (frame full (1 ∷ 0 ∷ [])) ∷ []) ≡ stopped (at_fault BadRecord)
unfolding item_at segment_in record_entries number_in_groups reading crc_bits frame
bad_record = refl

-- an empty record and one of another type
records_passed_over : reading 32768 (bytes (frame full [] ++ frame full (3 ∷ []) ++ frame full (2 ∷ [])) ∷ []) ≡ record { entries = []; skipped = Unknown ∷ Tombstones ∷ []; stop = between }
unfolding item_at segment_in type_of_byte record_entries number_in_groups reading crc_bits frame
records_passed_over = refl

-- ---- fragments in pages of 32 bytes

-- what is read of a segment in such pages
unfoldable read_small : List ℕ → Reading
read_small text = reading 32 (bytes text ∷ [])

-- where just one record was passed over, of type 3
abbrev one_passed : Stop → Reading
one_passed s = record { entries = []; skipped = type_of_byte 3 ∷ []; stop = s }

page_filled : log_bytes 32 0 (replicate 25 3) ≡ frame full (replicate 25 3)
unfolding frame log_bytes crc_bits
page_filled = refl

page_passed : log_bytes 32 0 (replicate 26 3) ≡ frame first (replicate 25 3) ++ frame last (3 ∷ [])
unfolding frame log_bytes crc_bits
page_passed = refl

three_pages : log_bytes 32 0 (replicate 51 3) ≡ frame first (replicate 25 3) ++ frame middle (replicate 25 3) ++ frame last (3 ∷ [])
unfolding frame log_bytes crc_bits
three_pages = refl

read-three_pages : read_small (log_bytes 32 0 (replicate 51 3)) ≡ one_passed between
unfolding read_small item_at segment_in record_entries number_in_groups reading crc_bits frame log_bytes
read-three_pages = refl

-- seven bytes left in a page hold a fragment without data
read-seven_left : read_small (log_all 32 0 (replicate 18 3 ∷ (2 ∷ []) ∷ [])) ≡ one_passed between
unfolding read_small item_at segment_in record_entries number_in_groups reading crc_bits frame log_bytes
read-seven_left = refl

-- six bytes left are zeros
read-six_left : read_small (log_all 32 0 (replicate 19 3 ∷ (2 ∷ []) ∷ [])) ≡ one_passed between
unfolding read_small item_at segment_in record_entries number_in_groups reading crc_bits frame log_bytes
read-six_left = refl

six_left_changed : map read_small ((frame full (replicate 19 3) ++ 1 ∷ []) ∷ (frame full (replicate 19 3) ++ 0 ∷ 0 ∷ []) ∷ []) ≡ one_passed (at_fault NonzeroPadding) ∷ one_passed between ∷ []
unfolding read_small item_at segment_in record_entries number_in_groups reading crc_bits frame log_bytes
six_left_changed = refl

-- an open record goes on after the empty rest of a page
empty_rest : read_small (frame first (3 ∷ []) ++ replicate 24 0 ++ frame last (3 ∷ [])) ≡ one_passed between
unfolding read_small item_at segment_in record_entries number_in_groups reading crc_bits frame log_bytes
empty_rest = refl

-- a record begun while one is open, and an open one
begun_inside : map read_small ((frame first (3 ∷ []) ++ frame first (3 ∷ [])) ∷ (frame first (3 ∷ []) ++ frame full (3 ∷ [])) ∷ frame first (3 ∷ []) ∷ []) ≡ stopped (at_fault Sequence) ∷ stopped (at_fault Sequence) ∷ stopped inside ∷ []
unfolding read_small item_at segment_in record_entries number_in_groups reading crc_bits frame log_bytes
begun_inside = refl

-- zeros that have not all come are no begun record
zeros_cut_short : reading 32 (bytes (0 ∷ 0 ∷ []) ∷ next_segment ∷ []) ≡ stopped between
unfolding item_at segment_in record_entries number_in_groups reading crc_bits
zeros_cut_short = refl

zeros_in_open_record : reading 32 (bytes (frame first (3 ∷ []) ++ 0 ∷ []) ∷ next_segment ∷ []) ≡ stopped (at_fault TornSegment)
unfolding item_at segment_in record_entries number_in_groups reading crc_bits frame
zeros_in_open_record = refl

-- the longest record that has room
rooms : room 32768 1 0 ∷ room 32768 2 0 ∷ room 32768 2 32761 ∷ room 32768 2 32762 ∷ room 32768 2 65536 ∷ [] ≡ 32761 ∷ 65522 ∷ 32761 ∷ 32761 ∷ 0 ∷ []
rooms = refl

-- ---- records that are Snappy blocks

-- the series record of `up` as a block: its length, and one literal
abbrev pub up_block : List ℕ
up_block = 22 ∷ 84 ∷ up_series

-- what is read of a log that may have blocks, in such pages
unfoldable read_blocks : ℕ → List ℕ → Reading
read_blocks page text = reading page (may_compress ∷ bytes text ∷ [])

block_read : map (read_blocks 32768) (frame (snappy full) up_block ∷ (frame (snappy full) up_block ++ frame full (3 ∷ [])) ∷ []) ≡ defined between ∷ record { entries = Def 1 up ∷ []; skipped = Tombstones ∷ []; stop = between } ∷ []
unfolding read_blocks defined item_at segment_in type_of_byte record_entries number_in_groups reading crc_bits frame of_32_bits literal_length element_at element_step elements_in
block_read = refl

-- without `may_compress`, or with it after a byte of the segment
block_refused : read_text (frame (snappy full) up_block) ∷ reading 32768 (bytes (9 ∷ []) ∷ may_compress ∷ bytes (0 ∷ []) ∷ []) ∷ [] ≡ stopped (at_fault Compressed) ∷ stopped (at_fault Compressed) ∷ []
unfolding read_text item_at segment_in record_entries number_in_groups reading crc_bits frame
block_refused = refl

-- in three fragments, and in fragments of which one has no flag
block_in_fragments : map (read_blocks 16) ((frame (snappy first) (take 9 up_block) ++ frame (snappy middle) (take 9 (drop 9 up_block)) ++ frame (snappy last) (drop 18 up_block)) ∷ (frame (snappy first) (take 9 up_block) ++ frame middle (take 9 (drop 9 up_block))) ∷ (frame first (take 9 up_block) ++ frame (snappy last) []) ∷ []) ≡ defined between ∷ stopped (at_fault Sequence) ∷ stopped (at_fault Sequence) ∷ []
unfolding read_blocks defined item_at segment_in record_entries number_in_groups reading crc_bits frame of_32_bits literal_length element_at element_step elements_in
block_in_fragments = refl

-- A block that ends inside its literal, no block, one of a malformed record, and one that says one
-- byte more than 16 MiB
blocks_faulty : map (λ block. read_blocks 32768 (frame (snappy full) block)) (take 23 up_block ∷ [] ∷ (2 ∷ 4 ∷ 1 ∷ 0 ∷ []) ∷ (129 ∷ 128 ∷ 128 ∷ 8 ∷ 0 ∷ 2 ∷ []) ∷ []) ≡ stopped (at_fault BadRecord) ∷ stopped (at_fault BadRecord) ∷ stopped (at_fault BadRecord) ∷ stopped (at_fault BadRecord) ∷ []
unfolding read_blocks item_at segment_in record_entries number_in_groups reading crc_bits frame of_32_bits literal_length element_at element_step elements_in
blocks_faulty = refl

-- other flags are refused as before, and so is the flag of Snappy without a type
block_types : map (λ kind. read_blocks 32768 (kind ∷ [])) (8 ∷ 9 ∷ 12 ∷ 13 ∷ 17 ∷ 25 ∷ 32 ∷ []) ≡ stopped (at_fault Compressed) ∷ stopped inside ∷ stopped inside ∷ stopped (at_fault Compressed) ∷ stopped (at_fault Compressed) ∷ stopped (at_fault Compressed) ∷ stopped (at_fault BadType) ∷ []
unfolding read_blocks item_at segment_in record_entries number_in_groups reading crc_bits
block_types = refl

-- The first two records of a log that Prometheus 2.42 wrote with its default flags: a rule's series
-- {__name__="one", l="xx.."}, with forty letters, and its first sample. Both are blocks.
abbrev pub prometheus_segment : List ℕ
prometheus_segment = 9 ∷ 0 ∷ 29 ∷ 174 ∷ 130 ∷ 8 ∷ 163 ∷ 66 ∷ 4 ∷ 1 ∷ 0 ∷ 9 ∷ 1 ∷ 72 ∷ 1 ∷ 2 ∷ 8 ∷ 95 ∷ 95 ∷ 110 ∷ 97 ∷ 109 ∷ 101 ∷ 95 ∷ 95 ∷ 3 ∷ 111 ∷ 110 ∷ 101 ∷ 1 ∷ 108 ∷ 40 ∷ 120 ∷ 154 ∷ 1 ∷ 0 ∷ 9 ∷ 0 ∷ 26 ∷ 250 ∷ 249 ∷ 176 ∷ 50 ∷ 27 ∷ 4 ∷ 2 ∷ 0 ∷ 9 ∷ 1 ∷ 72 ∷ 1 ∷ 0 ∷ 0 ∷ 1 ∷ 162 ∷ 44 ∷ 144 ∷ 141 ∷ 218 ∷ 0 ∷ 0 ∷ 63 ∷ 240 ∷ 0 ∷ 0 ∷ 0 ∷ 0 ∷ 0 ∷ 0 ∷ []

prometheus_read : read_blocks 32768 prometheus_segment ≡ record { entries = Def 1 (((95 ∷ 95 ∷ 110 ∷ 97 ∷ 109 ∷ 101 ∷ 95 ∷ 95 ∷ []), (111 ∷ 110 ∷ 101 ∷ [])) ∷ ((108 ∷ []), replicate 40 120) ∷ []) ∷ Sample 1 (pos 1796044000730) 0x3ff0000000000000 ∷ []; skipped = []; stop = between }
unfolding read_blocks item_at segment_in record_entries number_in_groups reading crc_bits of_32_bits literal_length element_at copied element_step elements_in
prometheus_read = refl
