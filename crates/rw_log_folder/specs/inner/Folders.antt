-- Inner definitions beside those of Folders.antt: only invariants, private functions and
-- proofs use them.
use Rattle.std.specs.Prelude.{◌≡◌, ◌++◌, ℕ, ◌≤◌, codes, List, length}
use Rattle.rw_text.specs.Numbers.{IsNumber}

-- one to eight decimal digits, of this number
abbrev pub IsNameOf : List ℕ → ℕ → Type 0
IsNameOf name n = (length name ≤ 8) × IsNumber name n

-- the name of a checkpoint's folder, of this number
abbrev pub IsCheckpointName : List ℕ → ℕ → Type 0
IsCheckpointName name n = (rest : List ℕ) × (name ≡ codes "checkpoint." ++ rest) × IsNameOf rest n
