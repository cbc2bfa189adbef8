-- A batch (Remote-Write 1.0): a stretch of one shard's samples, whose id and body never change.
use Rattle.std.specs.Prelude.{◌≡◌, ℕ, ◌+◌, ◌-◌, List, [], ◌∷◌, ◌++◌, length, Some, slice_get}
use Rattle.rw_types.specs.declared.place.Place.{Place}
use Rattle.rw_plain_queue.specs.declared.item.Item.{Item}
use Rattle.rw_plain_queue.specs.declared.item.Item.TheVariants.{Sample, Flush, End}
use Rattle.rw_write_request.specs.Canon.{canon}
use Rattle.rw_batch.specs.Grouping.{LabelledSample, message}
use Rattle.rw_batch.specs.declared.batch.BatchId.{BatchId}

-- samples that are taken until there are `room` of them: where each is and what it is, in the same
-- order
pub record Building : Type 0 where
  pub batch : ℕ
  pub places : List Place
  pub samples : List LabelledSample

-- the places of a batch, and its body
pub record Frozen : Type 0 where
  pub places : List Place
  pub body : List ℕ

-- the place is the next one of the same shard, if there is one before it
abbrev pub IsNextPlace : List Place → Place → Type 0
IsNextPlace ps p = (last : Place) → slice_get ps (length ps - 1) ≡ Some last → (p.epoch ≡ last.epoch) × (p.shard ≡ last.shard) × (p.seq ≡ last.seq + 1)

-- places one after the other in one shard
abbrev pub IsStretch : List Place → Type 0
IsStretch ps = (k : ℕ) (p q : Place) → slice_get ps 0 ≡ Some p → slice_get ps k ≡ Some q → (q.epoch ≡ p.epoch) × (q.shard ≡ p.shard) × (q.seq ≡ p.seq + k)

-- a sample that follows those before it
abbrev pub MayBeTaken : List Place → Item → Type 0
MayBeTaken ps (Sample place t word labels) = IsNextPlace ps place
MayBeTaken ps Flush = ⊥
MayBeTaken ps (End kind) = ⊥

abbrev pub with_item : Item → Building → Building
with_item (Sample place t word labels) b = record b { places = b.places ++ place ∷ []; samples = b.samples ++ record { labels = labels.value; sample = (word, t) } ∷ [] }
with_item Flush b = b
with_item (End kind) b = b

-- the epoch, the shard and the number of the first sample
abbrev pub id_of : List Place → BatchId
id_of [] = record { epoch = 0; shard = 0; seq = 0 }
id_of (p ∷ ps) = record { epoch = p.epoch; shard = p.shard; seq = p.seq }

-- the batch of these samples: its body is the canonical spelling of the message that groups them by
-- label set
abbrev pub batch_of : Building → Frozen
batch_of b = record { places = b.places; body = canon (message b.samples) }
