-- Inner definitions beside those of Machine.antt: only invariants, private functions and
-- proofs use them.
use Rattle.std.specs.Arc.{arc_value}
use Rattle.std.specs.Prelude.{◌≡◌, ℕ, ℤ, ◌≤◌, List, length, take, Bool, true, false, Option, Some, None, if◌then◌else◌, is_some, slice_get}
use Rattle.rw_types.specs.declared.entry.Entry.{Entry}
use Rattle.rw_types.specs.declared.entry.Entry.TheVariants.{Sample}
use Rattle.rw_wal_format.specs.Pieces.{Piece, entries}
use Rattle.rw_series_cache.specs.Numbers.{series_of, HasNumber}
use Rattle.rw_ledger.specs.declared.ledger.Reason.{Reason}
use Rattle.rw_series_cache.specs.Fates.{Drops, Sends, fate}
use Rattle.rw_series_cache.specs.Routing.{Routing, Knows}
use Rattle.rw_series_cache.specs.declared.sample.RoutedSample.{RoutedSample}
use Rattle.rw_plain_queue.specs.declared.item.Kind.{Kind}
use Rattle.rw_plain_queue.specs.declared.item.Kind.TheVariants as kind
use Rattle.rw_machine.specs.Worlds.{World, is_finished}
use Rattle.rw_machine.specs.Steps.{place_as, place_entry}
use Rattle.rw_machine.specs.declared.event.Event.{Event}
use Rattle.rw_machine.specs.declared.event.Event.TheVariants as event
use Rattle.rw_world.specs.Machine.{Machine}

-- the End that a shard is put, or otherwise a Flush
abbrev pub mark_kind : World → Option Kind
mark_kind w = if is_finished w then Some kind.Orderly else if is_some w.draining then Some kind.Reshard else None

abbrev pub IsShardCount : Option ℕ → Type 0
IsShardCount None = Unit {0}
IsShardCount (Some n) = (1 ≤ n) × (n ≤ 1000)

-- What the parts of a world keep: what was placed is what the router and the senders know.
pub record IsWorld (next placed : ℕ) (pieces : List Piece) (router : Routing) (draining : Option ℕ) : Type 0 where
  pub next_within : next ≤ placed
  pub placed_within : placed ≤ length (entries pieces)
  pub filtered_within : router.filtered ≤ placed
  pub knows : Knows (take placed (entries pieces)) router.cache
  pub shards : IsShardCount draining

abbrev pub is_arrive : Event → Bool
is_arrive (event.Arrive k how) = true
is_arrive e = false

-- the entries that were placed, and the next one
abbrev pub placed_entries : Machine → List Entry
placed_entries m = take m.world.placed (entries m.world.pieces)

abbrev pub next_entry : Machine → Option Entry
next_entry m = slice_get (entries m.world.pieces) m.world.placed

-- the next entry is a sample that is dropped for this reason
pub record IsDroppedNext (m : Machine) (reason : Reason) : Type 0 where
  pub reference : ℕ
  pub t : ℤ
  pub word : ℕ
  pub at : next_entry m ≡ Some (Sample reference t word)
  pub fate_is : fate m.setup.choice (placed_entries m) reference t ≡ Drops reason

-- the next entry is this sample, which is sent
pub record IsSampleNext (m : Machine) (s : RoutedSample) : Type 0 where
  pub reference : ℕ
  pub at : next_entry m ≡ Some (Sample reference s.t s.word)
  pub fate_is : fate m.setup.choice (placed_entries m) reference s.t ≡ Sends (arc_value s.labels)
  pub numbered : HasNumber (series_of m.setup.choice (placed_entries m)) (arc_value s.labels) s.series
  pub pos_is : s.pos ≡ m.world.placed

-- it is put, if there is room
abbrev pub with_sample : Machine → RoutedSample → Machine
with_sample m s = record m { world = place_as m.setup m.world s.t s.word (Sends (arc_value s.labels)) }

-- and what the next entry makes of the machine, whatever it is
abbrev pub with_next : Machine → Machine
with_next m = record m { world = place_entry m.setup m.world (next_entry m) }
