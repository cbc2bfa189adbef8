-- The positions of the samples that were put into a queue.
use Rattle.std.specs.Prelude.{ℕ, ◌-◌, List, length, drop}

-- all of them, oldest first, and how many of the last ones are kept at most
pub record Positions : Type 0 where
  pub all : List ℕ
  pub most : ℕ

-- the last n of a list, or all if there are no more
abbrev pub latest : ℕ → List ℕ → List ℕ
latest n xs = drop (length xs - n) xs
