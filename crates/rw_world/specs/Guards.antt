-- What a shard may do next.
use Rattle.std.specs.Prelude.{ℕ, Bool, not, ◌&&◌, Option, None, Some, if◌then◌else◌}
use Rattle.rw_batch.specs.declared.batch.BatchId.{BatchId}
use Rattle.rw_shard_core.specs.Shard.{is_empty, is_due, can_take, batch_id}
use Rattle.rw_machine.specs.Shards.{Shard, has_room}

-- a batch is open
abbrev pub is_open : Shard → Bool
is_open s = not (is_empty s.core.batch)

-- the builder is due, and has samples
abbrev pub is_ready : Shard → Bool
is_ready s = is_due s.core && not (is_empty s.core.builder)

-- something is in the queue that may be taken
abbrev pub may_take : Shard → Bool
may_take s = can_take s.core && not (is_empty s.queue)

-- a mark may be put
abbrev pub may_flush : ℕ → Shard → Bool
may_flush capacity s = not s.end_put && has_room capacity s

-- the id of the open batch that waits for its reply
abbrev pub waiting_id : Shard → Option BatchId
waiting_id s = if s.core.waiting then (if is_empty s.core.batch then None else Some (batch_id s.core.batch)) else None

abbrev pub waiting_id_at : Option Shard → Option BatchId
waiting_id_at None = None
waiting_id_at (Some s) = waiting_id s
