-- What contracts see of the ends of a queue.
use Rattle.std.specs.Prelude.{ℕ, List}
use Rattle.atomic_table.specs.Seated.{TableId}
use Rattle.atomic_table.specs.declared.badge.Badge.{Badge}
use Rattle.crossbeam_channel.specs.declared.flavors.array.Key.{Key}
use Rattle.crossbeam_channel.specs.Claims.{Pass, view}
use Rattle.rw_plain_queue.specs.declared.item.Item.{Item}
use Rattle.rw_shard_queue.specs.Rule.{Filled}
use Rattle.rw_shard_queue.specs.declared.rule.Log.{Log}

-- which queue it is: the shard and its epoch, how many items it holds at most, how many blocks the
-- channel holds, how many items a block has at most, and what distinguishes its channel from all
-- others
pub record QueueId : Type 0 where
  pub epoch : ℕ
  pub shard : ℕ
  pub capacity : ℕ
  pub slots : ℕ
  pub most : ℕ
  pub table : TableId
  pub key : Badge (Key Filled)

-- what the holder of a pass knows
abbrev pub known_log : Pass Filled Log → Log
known_log p = view p

abbrev pub queue_of : Pass Filled Log → QueueId
queue_of p = record { epoch = (known_log p).name.epoch; shard = (known_log p).name.shard; capacity = (known_log p).name.capacity; slots = (known_log p).name.slots; most = (known_log p).name.most; table = p.table_id; key = p.me.0.of }

-- the end that puts: its queue, how many items the queue holds at most, what was put, and how much
-- of it was handed over to the channel; the rest waits in the block of this end
pub record Feeding : Type 0 where
  pub queue : QueueId
  pub capacity : ℕ
  pub put : List Item
  pub handed : List Item

-- the end that takes: its queue, and what was taken
pub record Draining : Type 0 where
  pub queue : QueueId
  pub taken : List Item

-- both ends: their queue, and what went through it
pub record Passing : Type 0 where
  pub queue : QueueId
  pub items : List Item
