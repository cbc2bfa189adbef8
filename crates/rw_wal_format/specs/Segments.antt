-- One segment of a write-ahead log (wal.md, "Segment encoding"): fragments in pages, and the
-- records that they make. No fragment crosses the end of its page. If a page has no room for a
-- header of 7 bytes, its rest is zeros. The text is what has come so far, so an item that is not
-- whole at its end is not a fault. Records may be Snappy blocks only in a log that is read so: the
-- first parameter of what follows says whether it is.
use Rattle.std.specs.Prelude.{ℕ, zero, suc, ◌+◌, ◌-◌, List, [], ◌∷◌, ◌++◌, length, take, drop, Bool, true, false, Option, Some, None, not, nat_lt, nat_le, ◌==◌, ◌||◌, if◌then◌else◌}
use Rattle.std.specs.List.{list_all}
use Rattle.byteorder.specs.Endian.{big_number}
use Rattle.rw_codes.specs.Crc.{crc32c_of}
use Rattle.rw_snappy.specs.Snappy.{decoded_within}
use Rattle.rw_wal_format.specs.Records.{◌then◌, found, record_entries}
use Rattle.rw_wal_format.specs.Skipped.{skips_of}
use Rattle.rw_wal_format.specs.declared.skipped_type.SkippedType.{SkippedType}
use Rattle.rw_types.specs.declared.entry.Entry.{Entry}
use Rattle.rw_wal_format.specs.declared.tail_fault.TailFault.{TailFault}
use Rattle.rw_wal_format.specs.declared.tail_fault.TailFault.TheVariants.{BadType, BadLength, BadCrc, Compressed, NonzeroPadding, Sequence, BadRecord}

-- the type of a fragment: a whole record, or the first, a middle or the last part of one
pub data Kind : Type 0 where
  full first middle last : Kind
  -- the same of a record that is a Snappy block
  snappy : Kind → Kind

-- a type without the flag of Snappy
abbrev pub IsPlain : Kind → Type 0
IsPlain (snappy kind) = ⊥
IsPlain _ = Unit {0}

-- the type of a fragment of a record that is a Snappy block, or is not one
abbrev pub flagged : Bool → Kind → Kind
flagged true kind = snappy kind
flagged false kind = kind

-- what comes at a fragment's place
pub data Item : Type 0 where
  -- nothing, or zeros that go on
  nothing : Item
  -- a fragment that goes on
  begun : Item
  -- the zeros to the page's end
  zeros : Item
  -- a whole fragment of this data
  fragment : Kind → List ℕ → Item
  -- none of these
  wrong : TailFault → Item

-- the zeros to a page's end, of which n are wanted
abbrev pub zeros_at : ℕ → List ℕ → Item
zeros_at n bytes =
    if not (list_all (λ b. b == 0) (take n bytes)) then wrong NonzeroPadding
    else if nat_lt (length bytes) n then nothing else zeros

-- the data of a fragment after its header, which gives the length n and the CRC, with `left` bytes
-- of the page from the type byte on
abbrev pub data_at : Kind → ℕ → ℕ → ℕ → List ℕ → Item
data_at kind left n crc rest =
    if nat_lt left (7 + n) then wrong BadLength
    else if nat_lt (length rest) n then begun
    else if crc32c_of (take n rest) == crc then fragment kind (take n rest)
    else wrong BadCrc

-- the fragment that has these bytes after its type byte: 2 of length and 4 of CRC, high byte first,
-- and the data
abbrev pub fragment_at : Kind → ℕ → List ℕ → Item
fragment_at kind left bytes =
    if nat_lt (length bytes) 6 then begun
    else data_at kind left (big_number 2 bytes) (big_number 4 (drop 2 bytes)) (drop 6 bytes)

-- What comes at a fragment's place, with `left` bytes of the page from there on. A type byte of 0
-- says that the rest of the page is empty. Those from 8 to 31 have the flags of compressed data,
-- and all others are unknown.
unfoldable pub item_at : ℕ → List ℕ → Item
item_at left [] = nothing
item_at left (b ∷ bytes) =
    if nat_lt left 7 || b == 0 then zeros_at left (b ∷ bytes)
    else if b == 1 then fragment_at full left bytes
    else if b == 2 then fragment_at first left bytes
    else if b == 3 then fragment_at middle left bytes
    else if b == 4 then fragment_at last left bytes
    else if nat_le 8 b then (if nat_lt b 32 then wrong Compressed else wrong BadType)
    else wrong BadType

-- The same in a log that may have Snappy blocks: their fragments have the flag 8 in the type byte.
abbrev pub item_in : Bool → ℕ → List ℕ → Item
item_in false left bytes = item_at left bytes
item_in true left [] = nothing
item_in true left (b ∷ bytes) =
    if nat_lt left 7 then item_at left (b ∷ bytes)
    else if b == 9 then fragment_at (snappy full) left bytes
    else if b == 10 then fragment_at (snappy first) left bytes
    else if b == 11 then fragment_at (snappy middle) left bytes
    else if b == 12 then fragment_at (snappy last) left bytes
    else item_at left (b ∷ bytes)

-- where reading stops: at the end of what has come, between records or inside one, or at a fault
pub data Stop : Type 0 where
  between : Stop
  inside : Stop
  at_fault : TailFault → Stop

-- the fragments of a text and where they stop
pub record Layout : Type 0 where
  pub fragments : List (Kind × List ℕ)
  pub stop : Stop

-- one more fragment in front
abbrev pub with_fragment : Kind → List ℕ → Layout → Layout
with_fragment kind data_of l = record { fragments = (kind, data_of) ∷ l.fragments; stop = l.stop }

-- the bytes left in the page after n of `left`, or a new page
abbrev pub left_after : ℕ → ℕ → ℕ → ℕ
left_after page left n = if nat_lt n left then left - n else page

-- the fragments from an item on, if `next` lays out the bytes after it, with this many left in
-- their page
abbrev pub from_item : ℕ → ℕ → List ℕ → (ℕ → List ℕ → Layout) → Item → Layout
from_item page left bytes next nothing = record { fragments = []; stop = between }
from_item page left bytes next begun = record { fragments = []; stop = inside }
from_item page left bytes next zeros = next page (drop left bytes)
from_item page left bytes next (fragment kind d) = with_fragment kind d (next (left_after page left (7 + length d)) (drop (7 + length d) bytes))
from_item page left bytes next (wrong f) = record { fragments = []; stop = at_fault f }

-- the items one after the other, of which there are at most k, with `left` bytes of the first page
abbrev pub layout_of : Bool → ℕ → ℕ → ℕ → List ℕ → Layout
layout_of c page zero left bytes = record { fragments = []; stop = between }
layout_of c page (suc k) left bytes = from_item page left bytes (λ l rest. layout_of c page k l rest) (item_in c left bytes)

-- the entries of whole records before the first fault, the types of those that were passed over,
-- and where it stops
pub record Reading : Type 0 where
  pub entries : List Entry
  pub skipped : List SkippedType
  pub stop : Stop

-- a reading that stops before any record
abbrev pub stopped : Stop → Reading
stopped s = record { entries = []; skipped = []; stop = s }

-- first what a whole record holds, if it is of its type's form, and then the rest
abbrev pub with_entries : List ℕ → Option (List Entry) → Reading → Reading
with_entries bytes None r = stopped (at_fault BadRecord)
with_entries bytes (Some es) r = record { entries = es ++ r.entries; skipped = skips_of bytes ++ r.skipped; stop = r.stop }

-- a record: whether it is a Snappy block, and its data
abbrev pub Record : Type 0
Record = Bool × List ℕ

-- a Snappy block has at most 16 MiB of decoded bytes
abbrev pub most_decoded : ℕ
most_decoded = 16777216

-- what a record holds: its data, or what these decode to
abbrev pub text_of : Record → Option (List ℕ)
text_of (false, d) = Some d
text_of (true, d) = found (decoded_within most_decoded d)

-- the entries of a record, if its block can be decoded and it is of its type's form
abbrev pub entries_in : Record → Option (List Entry)
entries_in d = text_of d then λ text. record_entries text

-- first what a record holds, if its block can be decoded, and then the rest
abbrev pub with_text : Option (List ℕ) → Reading → Reading
with_text None r = stopped (at_fault BadRecord)
with_text (Some d) r = with_entries d (record_entries d) r

-- first a whole record, and then the rest
abbrev pub with_record : Record → Reading → Reading
with_record d r = with_text (text_of d) r

-- what a fragment makes of the record that is open, if one is
pub data Joined : Type 0 where
  -- a record that goes on
  still_open : Record → Joined
  -- a whole record
  complete : Record → Joined
  out_of_sequence : Joined

-- A record is the data of a full fragment, or of a first, any middles and a last. Either all of
-- them are fragments of a Snappy block, or none is. Another fragment is out of sequence.
abbrev pub joined : Option Record → Kind → List ℕ → Joined
joined None full d = complete (false, d)
joined None first d = still_open (false, d)
joined None (snappy full) d = complete (true, d)
joined None (snappy first) d = still_open (true, d)
joined (Some (false, o)) middle d = still_open (false, o ++ d)
joined (Some (false, o)) last d = complete (false, o ++ d)
joined (Some (true, o)) (snappy middle) d = still_open (true, o ++ d)
joined (Some (true, o)) (snappy last) d = complete (true, o ++ d)
joined _ _ d = out_of_sequence

-- the reading from a fragment on, if `next` reads what follows it
abbrev pub from_joined : (Option Record → Reading) → Joined → Reading
from_joined next (still_open d) = next (Some d)
from_joined next (complete d) = with_record d (next None)
from_joined next out_of_sequence = stopped (at_fault Sequence)

-- the end of the fragments, if a record may be open
abbrev pub end_of : Option Record → Stop → Stop
end_of (Some d) between = inside
end_of _ s = s

-- the records of the fragments; `so_far` is the record that is open, if one is
abbrev pub reading_of : Option Record → List (Kind × List ℕ) → Stop → Reading
reading_of so_far [] s = stopped (end_of so_far s)
reading_of so_far ((kind, d) ∷ fs) s = from_joined (λ o. reading_of o fs s) (joined so_far kind d)

-- the reading of what is left of a segment, if a record may be open, with `left` bytes of the
-- first page
abbrev pub read_from : Bool → ℕ → ℕ → Option Record → List ℕ → Reading
read_from c page left so_far rest = let l = layout_of c page (length rest) left rest in reading_of so_far l.fragments l.stop

-- the reading of a segment's text, in pages of `page` bytes
unfoldable pub segment_in : Bool → ℕ → List ℕ → Reading
segment_in c page text = read_from c page page None text

-- the same of a segment without Snappy blocks
abbrev pub segment : ℕ → List ℕ → Reading
segment page text = segment_in false page text
