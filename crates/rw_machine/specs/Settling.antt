-- An orderly shutdown: the events that bring the machine to its report.
use Rattle.std.specs.Prelude.{ℕ, zero, suc, Bool, true, false, not, ◌&&◌, ◌||◌, if◌then◌else◌, List, [], ◌∷◌, ◌++◌, length, take, ℤ, Option, Some, None, is_some, slice_get}
use Rattle.std.specs.List.{position}
use Rattle.rw_types.specs.declared.entry.Entry.{Entry}
use Rattle.rw_types.specs.declared.entry.Entry.TheVariants.{Def, Sample}
use Rattle.rw_series_cache.specs.Known.{Standing, known}
use Rattle.rw_series_cache.specs.Fates.{Fate, Drops, Filters, Sends, fate_by}
use Rattle.rw_batch.specs.declared.batch.BatchId.{BatchId}
use Rattle.rw_shard_core.specs.Shard.{is_empty, batch_id, same_id, is_due, can_take}
use Rattle.rw_machine.specs.Shards.{Shard, has_room}
use Rattle.rw_machine.specs.Worlds.{Setup, Request, World, log, is_finished, is_over}
use Rattle.rw_machine.specs.Steps.{shard_of_labels, happens, run}
use Rattle.rw_machine.specs.declared.event.How.TheVariants.{Plain}
use Rattle.rw_machine.specs.declared.event.Event.{Event}
use Rattle.rw_machine.specs.declared.event.Event.TheVariants as event

-- the number of the newest request with this id
abbrev pub newest_from : BatchId → ℕ → List Request → ℕ → ℕ
newest_from id k [] found = found
newest_from id k (r ∷ rs) found = newest_from id (suc k) rs (if same_id id r.id then k else found)

-- an open batch is sent, or if it waits its newest request arrives and is replied to
abbrev pub exchange_at : World → ℕ → Option Shard → List Event
exchange_at w i None = []
exchange_at w i (Some s) =
    if s.core.waiting then event.Arrive (newest_from (batch_id s.core.batch) 0 w.requests 0) Plain ∷ event.Reply (length w.replies) ∷ []
    else event.Send i ∷ []

abbrev pub first_of_these : Option (List Event) → List Event → List Event
first_of_these None es = es
first_of_these (Some found) es = found

abbrev pub made_at : (ℕ → List Event) → Option ℕ → Option (List Event)
made_at make None = None
made_at make (Some i) = Some (make i)

-- the events for the least shard that passes
abbrev pub at_first : (Shard → Bool) → (ℕ → List Event) → World → Option (List Event)
at_first p make w = made_at make (position p w.shards)

abbrev pub room_at : Setup → Option Shard → Bool
room_at c None = false
room_at c (Some s) = has_room c.capacity s

-- only a sample that is sent needs room
abbrev pub can_place_as : Setup → World → Fate → Bool
can_place_as c w (Sends l) = room_at c (slice_get w.shards (shard_of_labels w l))
can_place_as c w (Drops reason) = true
can_place_as c w Filters = true

abbrev pub can_place_known : Setup → World → ℤ → Standing → Bool
can_place_known c w t standing = can_place_as c w (fate_by c.choice (take w.placed (log w)) t standing)

abbrev pub can_place_entry : Setup → World → Option Entry → Bool
can_place_entry c w None = false
can_place_entry c w (Some (Def r l)) = true
can_place_entry c w (Some (Sample r t word)) = can_place_known c w t (known c.choice (take w.placed (log w)) r)

-- the guard of Place
abbrev pub can_place : Setup → World → Bool
can_place c w = not (is_some w.draining) && can_place_entry c w (slice_get (log w) w.placed)

-- What comes next, once closed: the first of these whose guard holds, at the least shard.
abbrev pub next_events : Setup → World → List Event
next_events c w =
    if can_place c w then event.Place ∷ []
    else first_of_these (at_first (λ s. not (is_empty s.core.batch)) (λ i. exchange_at w i (slice_get w.shards i)) w)
    (first_of_these (at_first (λ s. is_due s.core && not (is_empty s.core.builder)) (λ i. event.Freeze i ∷ []) w)
    (first_of_these (at_first (λ s. can_take s.core && not (is_empty s.queue)) (λ i. event.Take i ∷ []) w)
    (first_of_these (if is_finished w || is_some w.draining then at_first (λ s. not s.end_put && has_room c.capacity s) (λ i. event.Flush i ∷ []) w else None)
    (event.Restart ∷ []))))

abbrev pub settle_if : Setup → ℕ → World → Bool → World
settle_if c n w true = w
settle_if c zero w false = w
settle_if c (suc n) w false = let next = run c (next_events c w) w in settle_if c n next (is_over next)

-- `n` rounds, or fewer if there is a report before
abbrev pub settle_world : Setup → ℕ → World → World
settle_world c n w = settle_if c n (happens c w event.Close) (is_over (happens c w event.Close))

abbrev pub settle_from : Setup → ℕ → World → Bool → List Event
settle_from c n w true = []
settle_from c zero w false = []
settle_from c (suc n) w false = let next = run c (next_events c w) w in next_events c w ++ settle_from c n next (is_over next)

-- the events of `n` rounds
abbrev pub settle_events : Setup → ℕ → World → List Event
settle_events c n w = event.Close ∷ settle_from c n (happens c w event.Close) (is_over (happens c w event.Close))
