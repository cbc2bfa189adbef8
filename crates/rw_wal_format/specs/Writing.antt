-- What the writer of a segment writes for a record (wal.md, "Segment encoding").
use Rattle.std.specs.Prelude.{ℕ, zero, suc, ◌+◌, ◌-◌, ◌*◌, ◌/◌, ◌%◌, List, [], ◌∷◌, ◌++◌, length, take, drop, replicate, Bool, true, false, nat_lt, nat_le, if◌then◌else◌}
use Rattle.byteorder.specs.Endian.{big_bytes}
use Rattle.rw_codes.specs.Crc.{crc32c_of}
use Rattle.rw_wal_format.specs.Segments.{Kind, full, first, middle, last, snappy}

-- the byte of a fragment's type
abbrev pub type_byte : Kind → ℕ
type_byte full = 1
type_byte first = 2
type_byte middle = 3
type_byte last = 4
type_byte (snappy kind) = 8 + type_byte kind

-- a fragment: type, length, CRC, data
unfoldable pub frame : Kind → List ℕ → List ℕ
frame kind d = type_byte kind ∷ big_bytes 2 (length d) ++ big_bytes 4 (crc32c_of d) ++ d

-- the zeros to a page's end, if fewer bytes are left than a header takes
abbrev pub padding : ℕ → List ℕ
padding left = if nat_lt left 7 then replicate left 0 else []

-- The fragments of a record, each the greatest that fits: the first with `left` bytes of its page,
-- at least 7, the others with a whole page. There are at most k; `begun` says whether the record
-- has begun.
abbrev pub frames : ℕ → ℕ → ℕ → Bool → List ℕ → List ℕ
frames page zero left begun d = []
frames page (suc k) left begun d =
    if nat_le (length d) (left - 7)
    then frame (if begun then last else full) d ++ padding (left - 7 - length d)
    else frame (if begun then middle else first) (take (left - 7) d) ++ frames page k page true (drop (left - 7) d)

-- the bytes of a record that begins at an offset of the segment
unfoldable pub log_bytes : ℕ → ℕ → List ℕ → List ℕ
log_bytes page offset d = frames page (length d + 1) (page - offset % page) false d

-- the longest record that has room at an offset of a segment of some pages
abbrev pub room : ℕ → ℕ → ℕ → ℕ
room page pages offset = let rest = pages * page - offset in (rest % page - 7) + rest / page * (page - 7)
