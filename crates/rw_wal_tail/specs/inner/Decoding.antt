-- What a decoder of Snappy blocks is to contracts.
use Rattle.std.specs.Prelude.{ℕ, List, Bool}

pub record Decoding : Type 0 where
  -- whether it decodes blocks
  pub ready : Bool
  -- what it has decoded last
  pub text : List ℕ
