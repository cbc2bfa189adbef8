-- One shard of the world: what its queue and its core keep.
use Rattle.std.specs.Prelude.{ℕ, not, ◌&&◌, if◌then◌else◌, Option, None, Some}
use Rattle.rw_plain_queue.specs.declared.item.Kind.{Kind}
use Rattle.rw_shard_core.specs.Shard.{can_send}
use Rattle.rw_machine.specs.Shards.{Shard, has_room, shard_flush, shard_end}
use Rattle.rw_machine.specs.Worlds.{Request}
use Rattle.rw_machine.specs.Steps.{request_by}

-- a shard, and how many items its queue holds at most
pub record Held : Type 0 where
  pub capacity : ℕ
  pub shard : Shard

-- the mark that is put: a Flush, or an End
abbrev pub put_mark : Option Kind → Shard → Shard
put_mark None s = shard_flush s
put_mark (Some kind) s = shard_end kind s

-- a mark is put while the End was not, and the queue takes one more item
abbrev pub flushed : ℕ → Option Kind → Shard → Shard
flushed capacity kind s = if not s.end_put && has_room capacity s then put_mark kind s else s

-- what a shard sends, if it may
abbrev pub sent_request : Shard → Option Request
sent_request s = if can_send s.core then Some (request_by s) else None
