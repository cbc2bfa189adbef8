-- What the two ends of a queue know. At most one pass feeds, and it has the list of what was handed
-- over; at most one drains.
use Rattle.std.specs.Prelude.{ℕ, List}
use Rattle.rw_plain_queue.specs.declared.item.Item.{Item}

-- what a block holds, the front first, and how many items it holds at most
pub record Filled : Type 0 where
  pub items : List Item
  pub most : ℕ
