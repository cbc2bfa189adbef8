-- Inner definitions beside those of Marking.antt: only invariants, private functions and
-- proofs use them.
use Rattle.std.specs.Prelude.{ℕ, ◌-◌, List}
use Rattle.rw_plain_queue.specs.declared.item.Item.{Item}
use Rattle.rw_sender.specs.Marking.{open_bytes}

-- what a queue may still be put before a mark
abbrev pub room_in : ℕ → List Item → ℕ
room_in limit items = limit - open_bytes items
