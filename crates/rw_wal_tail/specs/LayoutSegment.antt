-- One segment of a log (wal.md, "Segment encoding"): pages of fragments, their records, and where
-- reading stops.
use Rattle.std.specs.Prelude.{◌≡◌, ◌⊎◌, ℕ, ◌+◌, ◌<◌, List, ◌++◌, length, replicate, flat_map, Bool, Option, Some, None}
use Rattle.rw_wal_format.specs.Segments.{nothing, begun, wrong, Record, Stop, between, inside, at_fault, Reading}
use Rattle.rw_wal_format.specs.Skipped.{skips_of}
use Rattle.rw_wal_format.specs.Laws.{entries_of_records}
use Rattle.rw_wal_tail.specs.LayoutItems.{Fragment, IsFragment, StartsWithFragment, IsItem}
use Rattle.rw_wal_tail.specs.LayoutFragments.{InTurn, IsRecord, MayBeOpen, FragmentFault}

-- a whole page: fragments, and zeros to its end
pub record IsPage (c : Bool) (page : ℕ) (bytes : List ℕ) (fragments : List Fragment) : Type 0 where
  pub used : List ℕ
  pub empty : ℕ
  pub parts : bytes ≡ used ++ replicate empty 0
  pub size : length used + empty ≡ page
  pub are : InTurn (IsFragment c) used fragments

-- whole pages, and then fragments of the next page, which leave `left` bytes of it, at least one
pub record IsPaged (c : Bool) (page : ℕ) (bytes : List ℕ) (left : ℕ) (fragments : List Fragment) : Type 0 where
  pub whole : List ℕ
  pub begun : List ℕ
  pub parts : bytes ≡ whole ++ begun
  pub in_pages : List (List Fragment)
  pub after_pages : List Fragment
  pub all : fragments ≡ flat_map (λ fs. fs) in_pages ++ after_pages
  pub pages : InTurn (IsPage c page) whole in_pages
  pub are : InTurn (IsFragment c) begun after_pages
  pub size : length begun + left ≡ page
  pub room : 0 < left

-- The front of a segment up to the place of an item: its pages hold the fragments of records that
-- hold this, and of one that may be open.
pub record IsFront (c : Bool) (page : ℕ) (bytes : List ℕ) (left : ℕ) (records : List (List ℕ))
    (so_far : Option Record) : Type 0 where
  pub closed : List Fragment
  pub opened : List Fragment
  pub paged : IsPaged c page bytes left (closed ++ opened)
  pub are : InTurn IsRecord closed records
  pub may_be_open : MayBeOpen opened so_far

-- why reading stops after a front: the text ends between records, or inside one, or there is a
-- fault
abbrev pub StopsFor : Bool → ℕ → Option Record → List ℕ → Stop → Type 0
StopsFor c left so_far rest between = IsItem c left rest nothing × (so_far ≡ None)
StopsFor c left so_far rest inside =
    (IsItem c left rest nothing × ((d : Record) × (so_far ≡ Some d))) ⊎ IsItem c left rest begun
StopsFor c left so_far rest (at_fault f) =
    IsItem c left rest (wrong f)
    ⊎ ((next : Fragment) × StartsWithFragment c left rest next × FragmentFault so_far next f)

-- A segment's text: records that are of their types' form, with these entries, and after them, at
-- an offset, the end of the text or the first fault.
pub record IsSegment (c : Bool) (page : ℕ) (text : List ℕ) (reading : Reading) (offset : ℕ) : Type 0 where
  pub front : List ℕ
  pub rest : List ℕ
  pub parts : text ≡ front ++ rest
  pub place : length front ≡ offset
  pub left : ℕ
  pub records : List (List ℕ)
  pub so_far : Option Record
  pub is_front : IsFront c page front left records so_far
  pub entries : entries_of_records records ≡ Some reading.entries
  pub skipped : flat_map skips_of records ≡ reading.skipped
  pub stops : StopsFor c left so_far rest reading.stop
