-- The samples of a series in blocks of 120: full ones, one after the other, and an open one after
-- them.
use Rattle.std.specs.Prelude.{◌≡◌, ℕ, zero, suc, ◌/◌, List, [], ◌∷◌, ◌++◌, length, take, drop}
use Rattle.std.specs.List.{AllByRecursion}
use Rattle.rw_types.specs.Beginnings.{Begins}
use Rattle.rw_types.specs.Labels.{Labels}
use Rattle.rw_head.specs.Order.{Point}
use Rattle.rw_head.specs.Store.{Store, list_of}

-- the samples of blocks
abbrev pub joined_blocks : List (List Point) → List Point
joined_blocks [] = []
joined_blocks (b ∷ bs) = b ++ joined_blocks bs

-- the first n blocks of a list
abbrev pub first_blocks : ℕ → List Point → List (List Point)
first_blocks zero xs = []
first_blocks (suc n) xs = take 120 xs ∷ first_blocks n (drop 120 xs)

-- its full blocks
unfoldable pub sealed_of : List Point → List (List Point)
sealed_of xs = first_blocks (length xs / 120) xs

-- The full blocks of each label set do not change or move: those that it had are a prefix of those
-- that it has.
abbrev pub KeepsBlocks : Store → Store → Type 0
KeepsBlocks old new = (l : Labels) → Begins (sealed_of (list_of old l)) (sealed_of (list_of new l))

-- each block is full
abbrev pub AreFull : List (List Point) → Type 0
AreFull bs = AllByRecursion (λ b. length b ≡ 120) bs
