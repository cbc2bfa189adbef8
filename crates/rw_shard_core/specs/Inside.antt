-- What a shard's core keeps, and the core that contracts see.
use Rattle.std.specs.Prelude.{List, [], Bool, false, Option, None, Some}
use Rattle.rw_plain_queue.specs.Items.{Placed}
use Rattle.rw_shard_core.specs.declared.shard.OpenBatch.{OpenBatch}

-- the samples that are not resolved are those of the open batch, if there is one
abbrev pub batch_part : Option OpenBatch → List Placed → List Placed
batch_part None pending = []
batch_part (Some opened) pending = pending

-- or otherwise those of the builder
abbrev pub builder_part : Option OpenBatch → List Placed → List Placed
builder_part None pending = pending
builder_part (Some opened) pending = []

abbrev pub is_waiting : Option OpenBatch → Bool
is_waiting None = false
is_waiting (Some opened) = opened.waiting
