-- Log text: the records of its lines, and the segments that they make.
use Rattle.std.specs.Prelude.{◌≡◌, ℕ, ◌+◌, ◌<◌, List, [], ◌∷◌, ◌++◌, length, max, Bool, true, ◌&&◌, nat_le}
use Rattle.rw_wal_format.specs.Laws.{log_all}
use Rattle.rw_wal_format.specs.Pieces.{page_size}
use Rattle.rw_wal_format.specs.Writing.{log_bytes, room}
use Rattle.rw_text.specs.RecordLines.{lines, IsRecordOf}

-- the records of lines, one after the other; an empty line has none
abbrev pub AreRecordsOfLines : List (List ℕ) → List (List ℕ) → Type 0
AreRecordsOfLines [] recs = recs ≡ []
AreRecordsOfLines ([] ∷ ls) recs = AreRecordsOfLines ls recs
AreRecordsOfLines ((b ∷ bs) ∷ ls) [] = ⊥
AreRecordsOfLines ((b ∷ bs) ∷ ls) (rec ∷ recs) = IsRecordOf (b ∷ bs) rec × AreRecordsOfLines ls recs

-- The line of this number, counted from 1, has no record although it is not empty, and each line
-- before it is good.
pub record IsBadLine (text : List ℕ) (number : ℕ) : Type 0 where
  pub front : List (List ℕ)
  pub line : List ℕ
  pub later : List (List ℕ)
  pub parts : lines text ≡ front ++ line ∷ later
  pub place : number ≡ length front + 1
  pub records : List (List ℕ)
  pub good : AreRecordsOfLines front records
  pub some : 0 < length line
  pub bad : (rec : List ℕ) → IsRecordOf line rec → ⊥

-- whether records have room in a segment of some pages, from an offset on
abbrev pub have_room : ℕ → ℕ → List (List ℕ) → Bool
have_room pages offset [] = true
have_room pages offset (rec ∷ recs) =
    nat_le (length rec) (room page_size pages offset) && have_room pages (offset + length (log_bytes page_size offset rec)) recs

-- the bytes of a segment that holds these records
abbrev pub segment_of : List (List ℕ) → List ℕ
segment_of recs = log_all page_size 0 recs

-- the length of the longest record, or 0 without a record
abbrev pub longest_of : List (List ℕ) → ℕ
longest_of [] = 0
longest_of (rec ∷ recs) = max (length rec) (longest_of recs)
