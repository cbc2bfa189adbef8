-- Which segments a log has after a position.
use Rattle.std.specs.Prelude.{◌≡◌, ◌⊎◌, ℕ, suc, ◌<◌, ◌≤◌, List, Option, None, Some, ⊤}
use Rattle.std.specs.List.{All, Contains}
use Rattle.rw_resume.specs.declared.continuation.Continuation.{Continuation}
use Rattle.rw_resume.specs.declared.continuation.Continuation.TheVariants.{There, Gone, Ended}

-- the least of the numbers that are not below `n`
abbrev pub IsLeastFrom : ℕ → List ℕ → Option ℕ → Type 0
IsLeastFrom n numbers None = All (λ (k : ℕ). k < n) numbers
IsLeastFrom n numbers (Some least) = (n ≤ least) × Contains numbers least
    × All (λ (k : ℕ). n ≤ k → least ≤ k) numbers

-- the checkpoint, if there is one, replaces no segment from `n` on
abbrev pub IsBefore : Option ℕ → ℕ → Type 0
IsBefore None n = ⊤
IsBefore (Some last) n = last < n

-- No segment from `first` to `last` is among these numbers, and the one after it is.
pub record IsHole (first last : ℕ) (numbers : List ℕ) : Type 0 where
  pub some : first ≤ last
  pub none : All (λ (k : ℕ). first ≤ k → last < k) numbers
  pub next : Contains numbers (suc last)

-- the checkpoint, if there is one, replaces the segments from `first` to `last`
abbrev pub IsReplaced : Option ℕ → ℕ → ℕ → Type 0
IsReplaced None first last = ⊥
IsReplaced (Some cp) first last = (first ≤ last) × (last ≡ cp)

-- What a log has of the segment `n` and those after it: it is there; those from it on are gone,
-- since a checkpoint replaces them or only later ones are there; or the log ends before it.
abbrev pub IsContinuation : ℕ → Option ℕ → List ℕ → Continuation → Type 0
IsContinuation n checkpoint numbers There = IsBefore checkpoint n × Contains numbers n
IsContinuation n checkpoint numbers (Gone first last) = (first ≡ n)
    × (IsReplaced checkpoint first last ⊎ (IsBefore checkpoint n × IsHole first last numbers))
IsContinuation n checkpoint numbers Ended =
    IsBefore checkpoint n × All (λ (k : ℕ). k < n) numbers
