-- How queues are cut by a limit, so that no batch takes more bytes.
use Rattle.std.specs.Prelude.{◌≡◌, ◌⊎◌, ℕ, ◌≤◌, List, [], ◌∷◌, ◌++◌, length, Option, ⊤}
use Rattle.rw_plain_queue.specs.Items.{Placed}
use Rattle.rw_plain_queue.specs.declared.item.Item.{Item}
use Rattle.rw_shard_core.specs.Shard.{body_of}
use Rattle.rw_worker.specs.Cut.{Cutting}
use Rattle.rw_sender.specs.Marking.{AreOnlySamples, StaysWithinLimit, open_bytes, with_cuts}
use Rattle.rw_fleet.specs.ShardHistories.{ShardHistory}

-- a queue was put samples, with a Flush before each that would take what it was put since its last
-- mark above the limit, and no other mark
abbrev pub IsCutBy : Option ℕ → ShardHistory → ShardHistory → Type 0
IsCutBy limit old new = (more : List Item) × AreOnlySamples more × (new.put ≡ old.put ++ with_cuts limit (open_bytes old.put) more)

abbrev pub AreCutBy : Option ℕ → List ShardHistory → List ShardHistory → Type 0
AreCutBy limit [] [] = ⊤
AreCutBy limit [] (q ∷ qs) = ⊥
AreCutBy limit (p ∷ ps) [] = ⊥
AreCutBy limit (p ∷ ps) (q ∷ qs) = IsCutBy limit p q × AreCutBy limit ps qs

-- in each of these queues each sample is the first one after a mark, or what is counted with it is
-- within the limit
abbrev pub AreWithin : ℕ → List ShardHistory → Type 0
AreWithin limit [] = ⊤
AreWithin limit (p ∷ ps) = StaysWithinLimit limit p.put × AreWithin limit ps

-- a batch of one sample, or with a body within the limit
abbrev pub IsShort : ℕ → List Placed → Type 0
IsShort limit samples = (length samples ≤ 1) ⊎ (length (body_of samples) ≤ limit)

abbrev pub AreShort : ℕ → List (List Placed) → Type 0
AreShort limit [] = ⊤
AreShort limit (b ∷ bs) = IsShort limit b × AreShort limit bs

-- the batches, and the samples after them
abbrev pub IsCutShort : ℕ → Cutting → Type 0
IsCutShort limit c = AreShort limit c.batches × IsShort limit c.rest
