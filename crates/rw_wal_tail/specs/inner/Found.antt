-- What was found at a fragment's place, as the item of the grammar.
use Rattle.std.specs.List.{list_all}
use Rattle.std.specs.Prelude.{◌≡◌, ◌==◌, Bool, true, ℕ, ◌+◌, ◌≤◌, List, length, take, nat_le, nat_lt, if◌then◌else◌}
use Rattle.rw_wal_format.specs.declared.tail_fault.TailFault.{TailFault}
use Rattle.rw_wal_format.specs.declared.tail_fault.TailFault.TheVariants.{BadType, Compressed}
use Rattle.rw_wal_format.specs.Segments.{Item, nothing, begun, zeros, fragment, wrong, flagged}
use Rattle.rw_wal_format.specs.Types.{kind_of}
use Rattle.rw_wal_tail.specs.declared.item.Found.{Found}
use Rattle.rw_wal_tail.specs.declared.item.Found.TheVariants.{Nothing, Begun, Zeros, Fragment, Wrong}

-- the item, with the bytes after a header
abbrev pub item_of : List ℕ → Found → Item
item_of rest Nothing = nothing
item_of rest Begun = begun
item_of rest Zeros = zeros
item_of rest (Fragment kind is_block n) = fragment (flagged is_block (kind_of kind)) (take n rest)
item_of rest (Wrong f) = wrong f

-- the fault of a type byte that no fragment has
abbrev pub wrong_type_of : ℕ → TailFault
wrong_type_of b = if nat_le 8 b then (if nat_lt b 32 then Compressed else BadType) else BadType

-- what was found is within the bytes and the page, and of a Snappy block only if it may be
abbrev pub Fits : Bool → ℕ → List ℕ → Found → Type 0
Fits c left bytes Zeros = left ≤ length bytes
Fits c left bytes (Fragment kind is_block n) = (7 + n ≤ length bytes) × (7 + n ≤ left) × (is_block ≡ true → c ≡ true)
Fits c left bytes _ = Unit {0}

-- the same of the bytes after the type byte, and of those after the header
abbrev pub FragmentFits : Bool → ℕ → List ℕ → Found → Type 0
FragmentFits b left bytes (Fragment kind is_block n) = (6 + n ≤ length bytes) × (7 + n ≤ left) × (is_block ≡ b)
FragmentFits b left bytes Zeros = ⊥
FragmentFits b left bytes _ = Unit {0}

abbrev pub DataFits : Bool → ℕ → List ℕ → Found → Type 0
DataFits b left bytes (Fragment kind is_block n) = (n ≤ length bytes) × (7 + n ≤ left) × (is_block ≡ b)
DataFits b left bytes Zeros = ⊥
DataFits b left bytes _ = Unit {0}

-- of the zeros of a page's end, this many have been seen
abbrev pub KnownZeros : ℕ → ℕ → List ℕ → Type 0
KnownZeros left n bytes = (n ≤ left) × (n ≤ length bytes) × (list_all (λ b. b == 0) (take n bytes) ≡ true)
