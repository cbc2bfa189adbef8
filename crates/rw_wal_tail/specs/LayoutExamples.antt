-- Small segments, of records and fragments whose bytes are written out. The CRCs of no data, of the
-- byte 2 and of the letter `a` are known values of CRC-32C; all were computed outside this
-- repository.
use Rattle.std.specs.Prelude.{ℕ, List, [], ◌∷◌, ◌++◌, replicate}

-- ---- fragments

-- the record of the byte 2, a sample record without samples, in a full fragment
abbrev pub full_two : List ℕ
full_two = 1 ∷ 0 ∷ 1 ∷ 179 ∷ 70 ∷ 35 ∷ 166 ∷ 2 ∷ []

-- the record of the letter `a`, of a type that is skipped, in a full fragment
abbrev pub full_a : List ℕ
full_a = 1 ∷ 0 ∷ 1 ∷ 193 ∷ 208 ∷ 67 ∷ 48 ∷ 97 ∷ []

-- a first fragment without data
abbrev pub first_empty : List ℕ
first_empty = 2 ∷ 0 ∷ 0 ∷ 0 ∷ 0 ∷ 0 ∷ 0 ∷ []

-- The series record of reference 7 without labels, in three fragments: 3 bytes, none and 7 bytes.
abbrev pub first_three : List ℕ
first_three = 2 ∷ 0 ∷ 3 ∷ 197 ∷ 37 ∷ 49 ∷ 4 ∷ 1 ∷ 0 ∷ 0 ∷ []

abbrev pub middle_none : List ℕ
middle_none = 3 ∷ 0 ∷ 0 ∷ 0 ∷ 0 ∷ 0 ∷ 0 ∷ []

abbrev pub last_seven : List ℕ
last_seven = 4 ∷ 0 ∷ 7 ∷ 193 ∷ 83 ∷ 163 ∷ 40 ∷ 0 ∷ 0 ∷ 0 ∷ 0 ∷ 0 ∷ 7 ∷ 0 ∷ []

-- ---- segments

-- In pages of 32 bytes, a record in fragments that are shorter than they could be. The page is
-- flushed inside the record, so its rest of 15 bytes is empty.
abbrev pub flushed_page : List ℕ
flushed_page = first_three ++ middle_none ++ replicate 15 0 ++ last_seven

-- in pages of 14 bytes: a fragment of 8 bytes leaves no room for a header
abbrev pub no_room_for_a_header : List ℕ
no_room_for_a_header = full_two ++ replicate 6 0 ++ full_a

-- a record begins while another one is open
abbrev pub begins_while_open : List ℕ
begins_while_open = full_two ++ full_a ++ first_empty ++ full_two

-- a byte of an empty rest of a page is 1
abbrev pub byte_in_empty_rest : List ℕ
byte_in_empty_rest = full_a ++ 0 ∷ 0 ∷ 0 ∷ 1 ∷ []

-- the lowest bit of a CRC is changed
abbrev pub changed_crc : List ℕ
changed_crc = full_a ++ 1 ∷ 0 ∷ 1 ∷ 179 ∷ 70 ∷ 35 ∷ 167 ∷ 2 ∷ []

-- a header has begun
abbrev pub begun_header : List ℕ
begun_header = full_two ++ 1 ∷ 0 ∷ []

-- a record is open
abbrev pub open_record : List ℕ
open_record = full_two ++ first_empty
