use Rattle.std.proofs.Common.{◌≡◌, Bool, false, ℕ, ◌<◌, List, [], ◌∷◌, refl, arith}
use Rattle.rw_codes.specs.Crc.{crc_bits}
use Rattle.rw_codes.specs.Varint.{number_in_groups}
use Rattle.rw_wal_format.specs.Records.{record_entries}
use Rattle.rw_wal_format.specs.Skipped.{type_of_byte}
use Rattle.rw_wal_format.specs.Segments.{item_at, Reading, segment_in}
use Rattle.rw_wal_format.specs.Pieces.{bytes, next_segment}
use Rattle.rw_wal_tail.specs.Places.{stop_offset_in}
use Rattle.rw_wal_tail.specs.LayoutSegment.{IsSegment}
use Rattle.rw_wal_tail.proofs.LayoutWriting.{segment_both_ways}
use Rattle.rw_wal_tail.proofs.LayoutLogs.{log_laid_out}
use Rattle.rw_wal_tail.specs.LayoutExamples as examples
use Rattle.rw_wal_tail.proofs.layout_laws.examples_are_laid_out.Goals as goal

laid_out : (c : Bool) (page : ℕ) (text : List ℕ) (r : Reading) (offset : ℕ) → 0 < page
    → segment_in c page text ≡ r → stop_offset_in c page text ≡ offset → IsSegment c page text r offset
laid_out c page text r offset p e n = (segment_both_ways c page text r offset p).0 (e, n)

pub returns-clause-flushed_page : goal.returns-clause-flushed_page
unfolding segment_in stop_offset_in item_at record_entries crc_bits number_in_groups
returns-clause-flushed_page c = laid_out false 32 examples.flushed_page _ 46 (omega arith) refl refl

pub returns-clause-no_room : goal.returns-clause-no_room
unfolding segment_in stop_offset_in item_at record_entries type_of_byte crc_bits
returns-clause-no_room c = laid_out false 14 examples.no_room_for_a_header _ 22 (omega arith) refl refl

pub returns-clause-open : goal.returns-clause-open
unfolding segment_in stop_offset_in item_at record_entries type_of_byte crc_bits
returns-clause-open c = laid_out false 32 examples.begins_while_open _ 23 (omega arith) refl refl

pub returns-clause-padding : goal.returns-clause-padding
unfolding segment_in stop_offset_in item_at record_entries type_of_byte crc_bits
returns-clause-padding c = laid_out false 32 examples.byte_in_empty_rest _ 8 (omega arith) refl refl

pub returns-clause-crc : goal.returns-clause-crc
unfolding segment_in stop_offset_in item_at record_entries type_of_byte crc_bits
returns-clause-crc c = laid_out false 32 examples.changed_crc _ 8 (omega arith) refl refl

pub returns-clause-header : goal.returns-clause-header
unfolding segment_in stop_offset_in item_at record_entries crc_bits
returns-clause-header c = laid_out false 32 examples.begun_header _ 8 (omega arith) refl refl

pub returns-clause-torn : goal.returns-clause-torn
unfolding segment_in stop_offset_in item_at record_entries crc_bits number_in_groups
returns-clause-torn c = log_laid_out 32 (bytes examples.open_record ∷ next_segment ∷ bytes examples.flushed_page ∷ []) _ _ (omega arith) (refl, refl)
