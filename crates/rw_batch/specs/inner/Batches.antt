-- Inner definitions beside those of Batches.antt: only invariants, private functions and
-- proofs use them.
use Rattle.std.specs.Global.{Global}
use Rattle.std.specs.Prelude.{◌≡◌, ℕ, ◌≤◌, Vec, vec_capacity, length}
use Rattle.rw_types.specs.declared.place.Place.{Place}
use Rattle.rw_batch.specs.inner.Kept.{Fielded, Rowed, samples_alone}
use Rattle.rw_batch.specs.Batches.{IsStretch}

-- what a builder keeps: a place for each sample, and one shard's samples in order, with their
-- fields and their series
pub record IsBuilding (batch : ℕ) (places : Vec Place Global) (fields : Fielded) (rows : Rowed) : Type 0 where
  pub alike : length places.items ≡ length rows.samples
  pub within : length rows.samples ≤ batch
  pub place_room : batch ≤ vec_capacity places
  pub field_room : fields.room ≡ batch
  pub row_room : rows.room ≡ batch
  pub same : fields.samples ≡ samples_alone rows.samples
  pub stretch : IsStretch places.items
