-- What comes at a place of a segment (wal.md, "Segment encoding"): a fragment, the zeros to the end
-- of its page, or a fault. `left` is the number of bytes of the page from that place on. A text is
-- what has come so far, so it may end inside an item. `c` says whether the segment may have Snappy
-- blocks.
use Rattle.std.specs.Prelude.{◌≡◌, ◌≢◌, ◌⊎◌, ℕ, ◌+◌, ◌<◌, ◌≤◌, List, ◌∷◌, ◌++◌, length, replicate, Bool, true}
use Rattle.byteorder.specs.Endian.{big_number}
use Rattle.rw_codes.specs.Crc.{crc32c_of}
use Rattle.rw_wal_format.specs.Segments.{Kind, snappy, IsPlain, Item, nothing, begun, zeros, fragment, wrong}
use Rattle.rw_wal_format.specs.Writing.{type_byte}
use Rattle.rw_wal_format.specs.declared.tail_fault.TailFault.{TailFault}
use Rattle.rw_wal_format.specs.declared.tail_fault.TailFault.TheVariants.{BadType, BadLength, BadCrc, Compressed, NonzeroPadding}

-- a fragment: its type and its data
abbrev pub Fragment : Type 0
Fragment = Kind × List ℕ

-- the types that a fragment may have
abbrev pub MayBe : Bool → Kind → Type 0
MayBe c (snappy kind) = (c ≡ true) × IsPlain kind
MayBe c _ = Unit {0}

-- The header of a fragment, and the bytes after it: a byte for the type, 2 bytes for the length of
-- the data and 4 bytes for their CRC-32C, both with the high byte first.
pub record HasHeader (c : Bool) (text : List ℕ) (kind : Kind) (len crc : ℕ) (rest : List ℕ) : Type 0 where
  pub may_be : MayBe c kind
  pub len_bytes : List ℕ
  pub crc_bytes : List ℕ
  pub parts : text ≡ type_byte kind ∷ len_bytes ++ crc_bytes ++ rest
  pub len_size : length len_bytes ≡ 2
  pub len_is : big_number 2 len_bytes ≡ len
  pub crc_size : length crc_bytes ≡ 4
  pub crc_is : big_number 4 crc_bytes ≡ crc

-- the bytes of a fragment: the header gives the length and the CRC of its data, and the data follow
abbrev pub IsFragment : Bool → List ℕ → Fragment → Type 0
IsFragment c bytes f = HasHeader c bytes f.0 (length f.1) (crc32c_of f.1) f.1

-- the text begins with a fragment, which ends within its page
pub record StartsWithFragment (c : Bool) (left : ℕ) (text : List ℕ) (f : Fragment) : Type 0 where
  pub bytes : List ℕ
  pub after : List ℕ
  pub parts : text ≡ bytes ++ after
  pub is : IsFragment c bytes f
  pub within : length bytes ≤ left

-- the text ends inside a header
pub record EndsInHeader (c : Bool) (text : List ℕ) : Type 0 where
  pub kind : Kind
  pub may_be : MayBe c kind
  pub more : List ℕ
  pub parts : text ≡ type_byte kind ∷ more
  pub short : length text < 7

-- the text ends inside the data of a fragment that ends within its page
pub record EndsInData (c : Bool) (left : ℕ) (text : List ℕ) : Type 0 where
  pub kind : Kind
  pub len : ℕ
  pub crc : ℕ
  pub data_so_far : List ℕ
  pub header : HasHeader c text kind len crc data_so_far
  pub within : 7 + len ≤ left
  pub short : length data_so_far < len

-- ---- faults

-- a type byte that is not one of those with the flag of Snappy
abbrev pub HasNoFlag : ℕ → Type 0
HasNoFlag b = (b < 9) ⊎ (12 < b)

-- a type byte that no fragment has, with the flags of compressed data (8 to 31) or without
abbrev pub IsWrongType : Bool → ℕ → TailFault → Type 0
IsWrongType c b Compressed = (8 ≤ b) × (b < 32) × (c ≡ true → HasNoFlag b)
IsWrongType c b BadType = ((4 < b) × (b < 8)) ⊎ (32 ≤ b)
IsWrongType c b _ = ⊥

pub record HasWrongType (c : Bool) (text : List ℕ) (fault : TailFault) : Type 0 where
  pub type : ℕ
  pub after : List ℕ
  pub parts : text ≡ type ∷ after
  pub is_wrong : IsWrongType c type fault

-- the header gives a length with which the fragment would cross the end of its page
pub record HasWrongLength (c : Bool) (left : ℕ) (text : List ℕ) : Type 0 where
  pub kind : Kind
  pub len : ℕ
  pub crc : ℕ
  pub rest : List ℕ
  pub header : HasHeader c text kind len crc rest
  pub beyond : left < 7 + len

-- the data are whole, and the header gives another CRC
pub record HasWrongCrc (c : Bool) (left : ℕ) (text : List ℕ) : Type 0 where
  pub kind : Kind
  pub crc : ℕ
  pub data_of : List ℕ
  pub after : List ℕ
  pub header : HasHeader c text kind (length data_of) crc (data_of ++ after)
  pub within : 7 + length data_of ≤ left
  pub differs : crc32c_of data_of ≢ crc

-- the rest of the page is empty: there is no room for a header, or the type byte is 0
abbrev pub IsEmptyRest : ℕ → List ℕ → Type 0
IsEmptyRest left text = (left < 7) ⊎ ((after : List ℕ) × (text ≡ 0 ∷ after))

-- a byte of an empty rest of a page is not zero
pub record HasWrongPadding (left : ℕ) (text : List ℕ) : Type 0 where
  pub empty : IsEmptyRest left text
  pub before : List ℕ
  pub byte : ℕ
  pub after : List ℕ
  pub parts : text ≡ before ++ byte ∷ after
  pub within : length before < left
  pub nonzero : byte ≢ 0

-- the fault of what comes at a place
abbrev pub ItemFault : Bool → ℕ → List ℕ → TailFault → Type 0
ItemFault c left text BadType = (7 ≤ left) × HasWrongType c text BadType
ItemFault c left text Compressed = (7 ≤ left) × HasWrongType c text Compressed
ItemFault c left text BadLength = (7 ≤ left) × HasWrongLength c left text
ItemFault c left text BadCrc = HasWrongCrc c left text
ItemFault c left text NonzeroPadding = HasWrongPadding left text
ItemFault c left text _ = ⊥

-- ---- an item

-- what comes at a place with `left` bytes of its page
abbrev pub IsItem : Bool → ℕ → List ℕ → Item → Type 0
-- the text ends here, or among zeros that do not yet reach the page's end
IsItem c left text nothing = (n : ℕ) × (n < left) × (text ≡ replicate n 0)
-- the text ends inside a fragment
IsItem c left text begun = (7 ≤ left) × (EndsInHeader c text ⊎ EndsInData c left text)
-- the rest of the page is empty
IsItem c left text zeros = (after : List ℕ) × (text ≡ replicate left 0 ++ after)
IsItem c left text (fragment kind d) = StartsWithFragment c left text (kind, d)
IsItem c left text (wrong f) = ItemFault c left text f
