-- Which fragments make a record (wal.md, "Segment encoding"): a full one, or a first, any middles
-- and a last. All of them have the flag of Snappy, or none has.
use Rattle.std.specs.Prelude.{◌≡◌, ◌≢◌, ◌⊎◌, ℕ, List, [], ◌∷◌, ◌++◌, map, Bool, Option, Some, None}
use Rattle.std.specs.List.{concat}
use Rattle.rw_wal_format.specs.Segments.{Kind, full, first, middle, last, flagged, Record, text_of, entries_in}
use Rattle.rw_wal_format.specs.declared.tail_fault.TailFault.{TailFault}
use Rattle.rw_wal_format.specs.declared.tail_fault.TailFault.TheVariants.{Sequence, BadRecord}
use Rattle.rw_wal_tail.specs.LayoutItems.{Fragment}

-- a list is cut into parts, one after the other, and each part is such an item
abbrev pub InTurn : {A X : Type 0} → (List A → X → Type 0) → List A → List X → Type 0
InTurn Is all [] = all ≡ []
InTurn {A = A} Is all (x ∷ xs) =
    (front : List A) × (rest : List A) × (all ≡ front ++ rest) × Is front x × InTurn Is rest xs

-- a record that has begun and goes on: a first fragment and any middles
pub record IsOpenRecord (fragments : List Fragment) (r : Record) : Type 0 where
  pub start : List ℕ
  pub middles : List (List ℕ)
  pub parts : fragments ≡ (flagged r.0 first, start) ∷ map (λ d. (flagged r.0 middle, d)) middles
  pub together : r.1 ≡ start ++ concat middles

-- a record in more than one fragment
pub record IsSplitRecord (fragments : List Fragment) (r : Record) : Type 0 where
  pub front : List Fragment
  pub so_far : List ℕ
  pub end : List ℕ
  pub parts : fragments ≡ front ++ (flagged r.0 last, end) ∷ []
  pub is_open : IsOpenRecord front (r.0, so_far)
  pub together : r.1 ≡ so_far ++ end

-- the fragments of a record as it is stored
abbrev pub IsStored : List Fragment → Record → Type 0
IsStored fragments r = (fragments ≡ (flagged r.0 full, r.1) ∷ []) ⊎ IsSplitRecord fragments r

-- the fragments of a record that holds this
abbrev pub IsRecord : List Fragment → List ℕ → Type 0
IsRecord fragments d = (r : Record) × IsStored fragments r × (text_of r ≡ Some d)

-- the fragments after the last whole record: none, or those of an open record
abbrev pub MayBeOpen : List Fragment → Option Record → Type 0
MayBeOpen fragments None = fragments ≡ []
MayBeOpen fragments (Some r) = IsOpenRecord fragments r

-- a fragment that begins a record while one is open, goes on with one while none is, or has the
-- flag of Snappy and the record that is open has not, or the other way round
abbrev pub IsOutOfSequence : Option Record → Kind → Type 0
IsOutOfSequence None kind = (b : Bool) → (kind ≢ flagged b full) × (kind ≢ flagged b first)
IsOutOfSequence (Some r) kind = (kind ≢ flagged r.0 middle) × (kind ≢ flagged r.0 last)

-- a fragment completes this record
abbrev pub Completes : Option Record → Fragment → Record → Type 0
Completes None f r = f ≡ (flagged r.0 full, r.1)
Completes (Some o) f r = (f.0 ≡ flagged o.0 last) × (r ≡ (o.0, o.1 ++ f.1))

-- the fault of a whole fragment: it is out of sequence, or completes a record whose block cannot be
-- decoded or that is malformed
abbrev pub FragmentFault : Option Record → Fragment → TailFault → Type 0
FragmentFault so_far f Sequence = IsOutOfSequence so_far f.0
FragmentFault so_far f BadRecord = (r : Record) × Completes so_far f r × (entries_in r ≡ None)
FragmentFault so_far f _ = ⊥
