-- Inner definitions beside those of Stops.antt: only invariants, private functions and
-- proofs use them.
use Rattle.std.specs.Prelude.{◌≡◌, ℕ}
use Rattle.rw_shard_queue.specs.Ends.{Draining}
use Rattle.rw_shard_queue.specs.Taken.{TakesFront}
use Rattle.rw_shard_queue.specs.declared.ends.Taken.TheVariants as taken
use Rattle.rw_worker.specs.declared.gone.Next.{Next}
use Rattle.rw_worker.specs.declared.gone.Next.TheVariants.{Item, End, Gone}

-- the front of the queue is taken; or the feeder is gone, and this many samples are resolved
abbrev pub TakesNext : Draining → ℕ → Next → Type 0
TakesNext d resolved (Item x after) = TakesFront d (taken.Item x after)
TakesNext d resolved (End kind after) = TakesFront d (taken.End kind after)
TakesNext d resolved (Gone after gone) = (after ≡ d) × (gone ≡ resolved)
