-- What an entry that the feeder places is to the machine of events.
use Rattle.std.specs.Prelude.{◌≡◌, suc, ◌+◌, true, false, List, [], ◌∷◌, ◌++◌, length, fold, take, Some, None, slice_get}
use Rattle.rw_types.specs.declared.entry.Entry.{Entry}
use Rattle.rw_series_cache.specs.Numbers.{series_of}
use Rattle.rw_plain_queue.specs.Items.{Placed}
use Rattle.rw_sender.specs.Logs.{Sent, sent_of, dropped_of, with_name, filtered_of}
use Rattle.rw_sender.specs.Placement.{shard_of}
use Rattle.rw_machine.specs.Shards.{Shard, has_room, shard_put}
use Rattle.rw_machine.specs.Worlds.{Setup, World, log}
use Rattle.rw_machine.specs.Steps.{change}
use Rattle.rw_machine.specs.declared.event.Event.TheVariants as event
use Rattle.rw_simulation.specs.Freely.{Of, run_freely}

-- the machine has placed these entries, and no more, and this one comes next
pub record IsBefore (c : Setup) (w : World) (before : List Entry) (e : Entry) : Type 0 where
  pub going : (w.killed ≡ false) × (w.closed ≡ None) × (w.draining ≡ None)
  pub placed : w.placed ≡ length before
  pub begins : take w.placed (log w) ≡ before
  pub next : slice_get (log w) w.placed ≡ Some e
  pub series : w.series ≡ series_of c.choice before

-- a sample as it goes into a shard that is in this state
abbrev pub placed_as : World → Shard → Sent → Placed
placed_as w s x = record { place = record { epoch = w.epoch; shard = shard_of (length w.shards) x.series; seq = length s.put; pos = x.pos; series = x.series }; t = x.t; word = x.word; labels = x.labels }

-- the shards with these samples put, which is one at most
abbrev pub put_each : World → List Sent → List Shard → List Shard
put_each w [] ss = ss
put_each w (x ∷ xs) ss = put_each w xs (change (shard_of (length w.shards) x.series) (λ s. shard_put (placed_as w s x) s) ss)

-- there is room for what the entry gives
abbrev pub HasRoomFor : Setup → World → List Entry → Entry → Type 0
HasRoomFor c w before e = (x : Sent) → sent_of c.choice before e ≡ x ∷ [] → (s : Shard) × (slice_get w.shards (shard_of (length w.shards) x.series) ≡ Some s) × (has_room c.capacity s ≡ true)

-- by one Place: what it gives is put, or it is named, or counted
abbrev pub after_entry : Setup → World → List Entry → Entry → World
after_entry c w before e = record w {
  placed = suc w.placed;
  series = series_of c.choice (before ++ e ∷ []);
  names = fold with_name w.names (dropped_of c.choice before e);
  filtered = w.filtered + length (filtered_of c.choice before e);
  shards = put_each w (sent_of c.choice before e) w.shards;
}

abbrev pub IsEntryRun : Setup → World → List Entry → Entry → Type 0
IsEntryRun c w before e = IsBefore c w before e → HasRoomFor c w before e → run_freely c (Of event.Place ∷ []) w ≡ after_entry c w before e
