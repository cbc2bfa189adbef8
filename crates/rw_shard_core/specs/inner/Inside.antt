-- Inner definitions beside those of Inside.antt: only invariants, private functions and
-- proofs use them.
use Rattle.std.specs.Prelude.{◌≡◌, ℕ, ◌<◌, ◌≤◌, List, ◌++◌, length, map, Option, None, Some, All, option_map, ⊤}
use Rattle.rw_types.specs.declared.place.Place.{Place}
use Rattle.rw_batch.specs.Batches.{Building}
use Rattle.rw_batch.specs.Grouping.{message}
use Rattle.rw_plain_queue.specs.Items.{Placed}
use Rattle.rw_write_request.specs.Spells.{Spells}
use Rattle.rw_shard_core.specs.SentRequest.{request_of}
use Rattle.rw_shard_core.specs.Shard.{AreInRow, last_sample, places_of, labelled, body_of}
use Rattle.rw_shard_core.specs.declared.config.Target.{Target}
use Rattle.rw_shard_core.specs.declared.shard.OpenBatch.{OpenBatch}
use Rattle.rw_shard_core.specs.Inside.{builder_part}

-- the builder has these samples
pub record IsBuilderOf (samples : List Placed) (builder : Building) : Type 0 where
  pub places : builder.places ≡ places_of samples
  pub samples_are : builder.samples ≡ map labelled samples

-- the body spells the message of these samples
unfoldable pub SpellsMessageOf : List Placed → List ℕ → Type 0
SpellsMessageOf samples body = Spells body (message (map labelled samples))

-- the open batch has these samples, its body spells their message, and its request is theirs
pub record IsBatchOf (target : Target) (samples : List Placed) (opened : OpenBatch) : Type 0 where
  pub some : 0 < length samples
  pub places : opened.batch.places ≡ places_of samples
  pub body : opened.batch.body ≡ body_of samples
  pub spells : SpellsMessageOf samples opened.batch.body
  pub request : opened.request ≡ request_of target.host target.path opened.batch.body

abbrev pub IsOpen : Target → List Placed → Option OpenBatch → Type 0
IsOpen target pending None = ⊤
IsOpen target pending (Some opened) = IsBatchOf target pending opened

abbrev pub last_place : List Placed → Option Place
last_place xs = option_map (λ (x : Placed). x.place) (last_sample xs)

-- what the core keeps
pub record IsKept (target : Target) (epoch shard full : ℕ) (builder : Building) (opened : Option OpenBatch) (last : Option Place) (taken resolved pending : List Placed) : Type 0 where
  pub some : 0 < full
  pub most : full ≤ 10000
  pub builder_full : builder.batch ≡ full
  pub fits : length pending ≤ full
  pub whole : taken ≡ resolved ++ pending
  pub named : All (λ (x : Placed). (x.place.epoch ≡ epoch) × (x.place.shard ≡ shard)) taken
  pub in_row : AreInRow taken
  pub last_is : last ≡ last_place taken
  pub builder_is : IsBuilderOf (builder_part opened pending) builder
  pub open_is : IsOpen target pending opened
