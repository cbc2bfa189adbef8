-- Records at the ends of pages of 32 KiB, by computation.
use Rattle.std.proofs.Common.{◌≡◌, [], ◌∷◌, ◌++◌, replicate, refl}
use Rattle.rw_codes.specs.Crc.{crc_bits}
use Rattle.rw_wal_format.specs.Records.{record_entries}
use Rattle.rw_wal_format.specs.Skipped.{type_of_byte}
use Rattle.rw_wal_format.specs.declared.skipped_type.SkippedType.TheVariants.{Tombstones}
use Rattle.rw_wal_format.specs.Segments.{full, first, last, between, segment_in, item_at}
use Rattle.rw_wal_format.specs.Pieces.{bytes, reading}
use Rattle.rw_wal_format.specs.Writing.{frame, log_bytes}

page_filled : log_bytes 32768 0 (replicate 32761 3) ≡ frame full (replicate 32761 3)
unfolding log_bytes frame
page_filled = refl

page_passed : log_bytes 32768 0 (replicate 32762 3) ≡ frame first (replicate 32761 3) ++ frame last (3 ∷ [])
unfolding log_bytes frame
page_passed = refl

read-page_passed : reading 32768 (bytes (log_bytes 32768 0 (replicate 32762 3)) ∷ []) ≡ record { entries = []; skipped = Tombstones ∷ []; stop = between }
unfolding log_bytes frame reading segment_in item_at record_entries type_of_byte crc_bits
read-page_passed = refl

-- seven bytes left: a fragment without data, and the data on the next page
seven_left : log_bytes 32768 32761 (2 ∷ []) ≡ 2 ∷ 0 ∷ 0 ∷ 0 ∷ 0 ∷ 0 ∷ 0 ∷ 4 ∷ 0 ∷ 1 ∷ 179 ∷ 70 ∷ 35 ∷ 166 ∷ 2 ∷ []
unfolding log_bytes frame crc_bits
seven_left = refl

-- six bytes left: zeros at once, and the next record on the next page
six_left : log_bytes 32768 32754 (2 ∷ []) ≡ 1 ∷ 0 ∷ 1 ∷ 179 ∷ 70 ∷ 35 ∷ 166 ∷ 2 ∷ replicate 6 0
unfolding log_bytes frame crc_bits
six_left = refl

after_six_left : log_bytes 32768 32768 (2 ∷ []) ≡ frame full (2 ∷ [])
unfolding log_bytes frame
after_six_left = refl
