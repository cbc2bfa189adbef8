-- Inner definitions beside those of Blocks.antt: only invariants, private functions and
-- proofs use them.
use Rattle.std.specs.Prelude.{◌≡◌, ℕ, ℤ, pos, ◌/◌, ◌*◌, ◌^◌, ◌<◌, ◌≤◌, int_lt, Bool, true, false, List, [], ◌∷◌, ◌++◌, length, drop, slice_index_or}
use Rattle.rw_head.specs.Order.{Point}
use Rattle.rw_head.specs.Blocks.{joined_blocks, AreFull}

-- the samples after them
unfoldable pub open_of : List Point → List Point
open_of xs = drop (length xs / 120 * 120) xs

-- full blocks and an open one, whose room is kept once there is a full one
pub record AreBlocks (sealed : List (List Point)) (rest : List Point) (room : ℕ) : Type 0 where
  pub full : AreFull sealed
  pub few : length rest < 120
  pub enough : 0 < length sealed → 119 ≤ room
  pub fits : length (joined_blocks sealed ++ rest) ≤ 2 ^ 60

-- the first of the samples is later than t, or there is none
abbrev pub begins_after : ℤ → List Point → Bool
begins_after t [] = true
begins_after t (x ∷ xs) = int_lt t x.0

-- the first n of these blocks begin at t or before it, and the others after it
pub record Begun (t : ℤ) (bs : List (List Point)) (n : ℕ) : Type 0 where
  pub within : n ≤ length bs
  pub before : (k : ℕ) → k < n → begins_after t (slice_index_or bs k []) ≡ false
  pub after : (k : ℕ) → n ≤ k → k < length bs → begins_after t (slice_index_or bs k []) ≡ true

-- the timestamp of the first sample
abbrev pub first_time : List Point → ℤ
first_time [] = pos 0
first_time (x ∷ xs) = x.0
