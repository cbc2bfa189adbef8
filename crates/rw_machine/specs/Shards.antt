-- One shard of the machine of events: its queue, and the core after it.
use Rattle.std.specs.Prelude.{ℕ, Bool, true, false, ◌&&◌, if◌then◌else◌, List, [], ◌∷◌, ◌++◌, length, ◌==◌, nat_lt}
use Rattle.rw_plain_queue.specs.Items.{Placed}
use Rattle.rw_plain_queue.specs.declared.item.Kind.{Kind}
use Rattle.rw_shard_core.specs.Shard.{Core}
use Rattle.rw_shard_core.specs.Shard as core

-- what waits in a queue: a sample or a mark
pub data Queued : Type 0 where
  One : (sample : Placed) → Queued
  FlushMark : Queued
  EndMark : (kind : Kind) → Queued

-- all samples that were put, what waits in the queue, whether its End was put, and the core that
-- takes
pub record Shard : Type 0 where
  pub put : List Placed
  pub queue : List Queued
  pub end_put : Bool
  pub core : Core

abbrev pub new_shard : Core → Shard
new_shard c = record { put = []; queue = []; end_put = false; core = c }

-- the samples that wait, without the marks
abbrev pub samples_waiting : List Queued → List Placed
samples_waiting [] = []
samples_waiting (One x ∷ xs) = x ∷ samples_waiting xs
samples_waiting (FlushMark ∷ xs) = samples_waiting xs
samples_waiting (EndMark kind ∷ xs) = samples_waiting xs

abbrev pub has_room : ℕ → Shard → Bool
has_room capacity s = nat_lt (length s.queue) capacity

-- a sample goes in at the back
abbrev pub shard_put : Placed → Shard → Shard
shard_put x s = record s { put = s.put ++ x ∷ []; queue = s.queue ++ One x ∷ [] }

-- and a mark
abbrev pub shard_flush : Shard → Shard
shard_flush s = record s { queue = s.queue ++ FlushMark ∷ [] }

abbrev pub shard_end : Kind → Shard → Shard
shard_end kind s = record s { queue = s.queue ++ EndMark kind ∷ []; end_put = true }

abbrev pub with_core : (Core → Core) → Shard → Shard
with_core f s = record s { core = f s.core }

-- the core takes what was in front
abbrev pub take_queued : Queued → Core → Core
take_queued (One x) c = core.take_sample x c
take_queued FlushMark c = core.mark c
take_queued (EndMark kind) c = core.take_end c

abbrev pub take_front : List Queued → Shard → Shard
take_front [] s = s
take_front (x ∷ xs) s = record s { queue = xs; core = take_queued x s.core }

-- Take
abbrev pub shard_take : Shard → Shard
shard_take s = if core.can_take s.core then take_front s.queue s else s

abbrev pub shard_freeze : Shard → Shard
shard_freeze = with_core core.freeze

abbrev pub shard_send : Shard → Shard
shard_send = with_core core.send

abbrev pub shard_lost : Shard → Shard
shard_lost = with_core core.lose

-- its End was taken, and all that was put is resolved
abbrev pub is_drained : Shard → Bool
is_drained s = s.core.ended && (length s.core.resolved == length s.put)

-- put and not resolved
abbrev pub pending_in_shard : Shard → List Placed
pending_in_shard s = core.pending s.core ++ samples_waiting s.queue
