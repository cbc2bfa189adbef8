-- Bytes in memory.
use Rattle.std.specs.Prelude.{ℕ, List, Bool}

-- the bytes that were written, and whether memory ran out
pub record Buffered : Type 0 where
  pub bytes : List ℕ
  pub has_failed : Bool
