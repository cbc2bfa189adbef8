-- Devices that record what goes through them.
use Rattle.std.specs.Prelude.{ℕ, List}

-- a device, and the bytes that its reads have returned, or that it has taken
pub record Recorded (D : Type 0) : Type 0 where
  pub device : D
  pub past : List ℕ
