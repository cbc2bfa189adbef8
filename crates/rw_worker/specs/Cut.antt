-- How the samples of a queue are cut into batches (remote_write configuration,
-- "max_samples_per_send"): a batch ends when it is full, or at a mark.
use Rattle.std.specs.Prelude.{ℕ, nat_le, List, [], ◌∷◌, ◌++◌, length, fold, if◌then◌else◌}
use Rattle.rw_plain_queue.specs.Items.{Placed}
use Rattle.rw_plain_queue.specs.declared.item.Item.{Item}
use Rattle.rw_plain_queue.specs.declared.item.Item.TheVariants.{Sample, Flush, End}
use Rattle.rw_shard_core.specs.Shard.{placed}

-- the batches, and the samples after them
pub record Cutting : Type 0 where
  pub batches : List (List Placed)
  pub rest : List Placed

abbrev pub cutting : List (List Placed) → List Placed → Cutting
cutting batches rest = record { batches = batches; rest = rest }

-- the samples as a batch, if there are any
abbrev pub one_of : List Placed → List (List Placed)
one_of [] = []
one_of (x ∷ xs) = (x ∷ xs) ∷ []

-- the samples after the batches are one batch more
abbrev pub close_batch : Cutting → Cutting
close_batch c = cutting (c.batches ++ one_of c.rest) []

abbrev pub close_if_full : ℕ → Cutting → Cutting
close_if_full n c = if nat_le n (length c.rest) then close_batch c else c

-- with one item more
abbrev pub cut_by : ℕ → Cutting → Item → Cutting
cut_by n c (Sample place t word labels) = close_if_full n (cutting c.batches (c.rest ++ placed place t word labels.value ∷ []))
cut_by n c Flush = close_batch c
cut_by n c (End kind) = close_batch c

-- the items cut into batches of n samples
abbrev pub cut : ℕ → List Item → Cutting
cut n items = fold (cut_by n) (cutting [] []) items
