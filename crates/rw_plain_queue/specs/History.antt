-- What may go through one queue (Remote-Write 1.0: the samples of a series go out in order): the
-- items put, oldest first.
use Rattle.std.specs.Prelude.{◌≡◌, ℕ, ◌<◌, ◌≤◌, ◌^◌, List, [], ◌∷◌, ◌++◌, length, Some, slice_get, ⊤}
use Rattle.rw_types.specs.Rising.{Rises}
use Rattle.rw_types.specs.declared.place.Place.{Place}
use Rattle.rw_plain_queue.specs.declared.item.Kind.{Kind}
use Rattle.rw_plain_queue.specs.declared.item.Item.{Item}
use Rattle.rw_plain_queue.specs.declared.item.Item.TheVariants.{Sample, Flush, End}
use Rattle.rw_plain_queue.specs.Items.{places_in}

-- each sample names this shard of this epoch
abbrev pub IsNamed : ℕ → ℕ → List Place → Type 0
IsNamed epoch shard ps = (k : ℕ) (p : Place) → slice_get ps k ≡ Some p → (p.epoch ≡ epoch) × (p.shard ≡ shard)

-- the sample numbered k is the one after k other samples
abbrev pub IsNumbered : List Place → Type 0
IsNumbered ps = (k : ℕ) (p : Place) → slice_get ps k ≡ Some p → p.seq ≡ k

-- the first has the lower position
abbrev pub StandsBefore : Place → Place → Type 0
StandsBefore p q = p.pos < q.pos

-- nothing is after an End
abbrev pub EndIsLast : List Item → Type 0
EndIsLast put = (before after : List Item) (kind : Kind) → put ≡ before ++ End kind ∷ after → after ≡ []

-- few enough samples that a queue may have had them all
abbrev pub IsFew : List Item → Type 0
IsFew put = length (places_in put) ≤ 2 ^ 60

-- what may go through the queue of this shard of this epoch
pub record IsHistory (epoch shard : ℕ) (put : List Item) : Type 0 where
  pub named : IsNamed epoch shard (places_in put)
  pub numbered : IsNumbered (places_in put)
  pub rising : Rises StandsBefore (places_in put)
  pub ending : EndIsLast put
  pub few : IsFew put

-- the item may be put next: a sample of this queue, with the next number and a later position, by
-- which the samples are not too many; or a Flush
abbrev pub MayFollow : ℕ → ℕ → List Item → Item → Type 0
MayFollow epoch shard put (Sample p t w labels) =
    (p.epoch ≡ epoch) × (p.shard ≡ shard) × (p.seq ≡ length (places_in put)) × IsFew (put ++ Sample p t w labels ∷ [])
    × ((k : ℕ) (o : Place) → slice_get (places_in put) k ≡ Some o → o.pos < p.pos)
MayFollow epoch shard put Flush = ⊤
MayFollow epoch shard put (End kind) = ⊥

-- no End was put
abbrev pub IsOpen : List Item → Type 0
IsOpen items = (before after : List Item) (kind : Kind) → items ≡ before ++ End kind ∷ after → ⊥

-- the last item is an End
abbrev pub IsEnded : List Item → Type 0
IsEnded items = (front : List Item) × (kind : Kind) × (items ≡ front ++ End kind ∷ [])
