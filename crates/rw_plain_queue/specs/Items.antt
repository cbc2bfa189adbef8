-- What goes through the queue of a shard: samples and marks.
use Rattle.std.specs.Prelude.{ℕ, ℤ, List, [], ◌∷◌, Bool, true, false}
use Rattle.rw_types.specs.Labels.{Labels}
use Rattle.rw_types.specs.declared.place.Place.{Place}
use Rattle.rw_plain_queue.specs.declared.item.Item.{Item}
use Rattle.rw_plain_queue.specs.declared.item.Item.TheVariants.{Sample, Flush, End}

-- a sample that was put: where it is, its time, its value and the labels of its series
pub record Placed : Type 0 where
  pub place : Place
  pub t : ℤ
  pub word : ℕ
  pub labels : Labels

-- the samples, without the marks
abbrev pub samples_in : List Item → List Placed
samples_in [] = []
samples_in (Sample place t word labels ∷ xs) = record { place = place; t = t; word = word; labels = labels.value } ∷ samples_in xs
samples_in (Flush ∷ xs) = samples_in xs
samples_in (End kind ∷ xs) = samples_in xs

-- the places of the samples
abbrev pub places_in : List Item → List Place
places_in [] = []
places_in (Sample place t word labels ∷ xs) = place ∷ places_in xs
places_in (Flush ∷ xs) = places_in xs
places_in (End kind ∷ xs) = places_in xs

abbrev pub is_end : Item → Bool
is_end (Sample place t word labels) = false
is_end Flush = false
is_end (End kind) = true
