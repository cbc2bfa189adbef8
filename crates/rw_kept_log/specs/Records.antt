-- Whole records that are looked for after a fault.
use Rattle.std.specs.Prelude.{◌≡◌, ℕ, ◌<◌, List, ◌∷◌, Option, Some, None, Bool, true, false}
use Rattle.rw_wal_format.specs.Pieces.{page_size}
use Rattle.rw_wal_format.specs.Segments.{full, Item, fragment}
use Rattle.rw_wal_format.specs.declared.tail_fault.TailFault.{TailFault}
use Rattle.rw_kept_log.specs.TornLogs.{item_of}
use Rattle.rw_kept_log.specs.Reading.{HasFault}

-- a whole record that is not empty, in one fragment with the right checksum
abbrev pub is_record : Item → Bool
is_record (fragment full (b ∷ d)) = true
is_record _ = false

-- such a record begins at this offset of a text
abbrev pub IsRecordAt : List ℕ → ℕ → Type 0
IsRecordAt text at = is_record (item_of page_size text at) ≡ true

-- one after this offset, or that there is none
abbrev pub IsRecordAfter : List ℕ → ℕ → Option ℕ → Type 0
IsRecordAfter text offset None = (at : ℕ) → offset < at → IsRecordAt text at → ⊥
IsRecordAfter text offset (Some at) = (offset < at) × IsRecordAt text at

-- if reading stops at a fault, one after that, or that there is none
abbrev pub FollowsFault : List ℕ → Option ℕ → Type 0
FollowsFault text found = (f : TailFault) (offset : ℕ) → HasFault text f offset → IsRecordAfter text offset found
