-- Inner definitions beside those of Rooms.antt: only invariants, private functions and
-- proofs use them.
use Rattle.std.specs.Prelude.{◌≡◌, ℕ, List, length, Option, Some, None, ⊤}

abbrev pub HasRooms : Option ℕ → List ℕ → Type 0
HasRooms None rooms = ⊤
HasRooms (Some limit) rooms = length rooms ≡ 1000
