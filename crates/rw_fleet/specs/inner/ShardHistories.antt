-- Inner definitions beside those of ShardHistories.antt: only invariants, private functions and
-- proofs use them.
use Rattle.std.specs.Prelude.{ℕ, zero, suc, List, [], ◌∷◌}
use Rattle.rw_fleet.specs.ShardHistories.{ShardHistory, marked}

-- the first n of the shards with a Flush put
abbrev pub marks : ℕ → List ShardHistory → List ShardHistory
marks zero ls = ls
marks (suc n) [] = []
marks (suc n) (l ∷ ls) = marked l ∷ marks n ls
