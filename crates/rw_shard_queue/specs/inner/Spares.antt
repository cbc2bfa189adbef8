-- The channel that gives empty blocks back, from the end that takes to the end that puts.
use Rattle.std.specs.Prelude.{◌≡◌, ℕ, List, [], ◌∷◌, All}
use mathlib.Core.Option.{some}
use lib.ListN.{get_elem?}
use Rattle.crossbeam_channel.specs.Claims.{Pass, view}
use Rattle.rw_shard_queue.specs.Rule.{Filled}

-- a block without items that has room for this many
abbrev pub empty_block : ℕ → Filled
empty_block most = record { items = []; most = most }

abbrev pub AreEmpty : ℕ → List Filled → Type 0
AreEmpty most blocks = All (λ b. b ≡ empty_block most) blocks

-- what the holder of a pass knows: how many items a block of the queue has at most
abbrev pub most_of : Pass Filled ℕ → ℕ
most_of p = view p

-- each block of the channel is empty, and has the room that both ends know of. Before they know it
-- there is one pass, and no block
pub record AreSpare (blocks : List Filled) (views : List ℕ) : Type 0 where
  pub most : ℕ
  pub empty : AreEmpty most blocks
  pub known : (port v : ℕ) → get_elem? views port ≡ some v → v ≡ most
  pub unknown : most ≡ 0 → (blocks ≡ []) × (views ≡ 0 ∷ [])
