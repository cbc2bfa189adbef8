-- What a take returns.
use Rattle.std.specs.Prelude.{◌≡◌, [], ◌∷◌, ◌++◌, false}
use Rattle.rw_plain_queue.specs.declared.item.Item.TheVariants as item
use Rattle.rw_plain_queue.specs.Items.{is_end}
use Rattle.rw_plain_queue.specs.History.{IsHistory}
use Rattle.rw_shard_queue.specs.declared.ends.Taken.{Taken}
use Rattle.rw_shard_queue.specs.declared.ends.Taken.TheVariants.{Item, End, Gone}
use Rattle.rw_shard_queue.specs.Ends.{Draining}

-- the item joins what was taken, which still is a history of the queue; or nothing changes
abbrev pub TakesFront : Draining → Taken → Type 0
TakesFront d (Item x after) = (after.queue ≡ d.queue) × (after.taken ≡ d.taken ++ x ∷ []) × (is_end x ≡ false) × IsHistory d.queue.epoch d.queue.shard after.taken
TakesFront d (End kind after) = (after.queue ≡ d.queue) × (after.taken ≡ d.taken ++ item.End kind ∷ []) × IsHistory d.queue.epoch d.queue.shard after.taken
TakesFront d (Gone after) = after ≡ d
