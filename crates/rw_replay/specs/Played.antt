-- What the lines of a script make of a sender, the network and a receiver.
use Rattle.std.specs.Prelude.{◌≡◌, ◌⊎◌, ℕ, ◌+◌, List, [], ◌∷◌, length, map, Bool, Some, nat_lt, if◌then◌else◌}
use Rattle.rw_wal_format.specs.Pieces.{page_size}
use Rattle.rw_wal_format.specs.Writing.{log_bytes, room}
use Rattle.rw_machine.specs.Worlds.{Setup, World, start, report}
use Rattle.rw_shard_core.specs.Endings.{Ending}
use Rattle.rw_machine.specs.Steps.{happens, run}
use Rattle.rw_machine.specs.Settling.{settle_world}
use Rattle.rw_machine.specs.declared.event.Event.{Event}
use Rattle.rw_machine.specs.declared.event.Event.TheVariants as event
use Rattle.rw_wal_tail.specs.declared.piece.Piece.TheVariants as piece
use Rattle.rw_replay.specs.declared.command.Command.TheVariants as command
use Rattle.rw_replay.specs.ScriptText.{Order, logged, fed, order_of, order_of_event}
use Rattle.rw_replay.specs.WorldText.{state_text}
use Rattle.rw_world.specs.Machine.{Machine}

-- a machine of events, and how many bytes are written of the segment that its log has come to
pub record Played : Type 0 where
  pub machine : Machine
  pub offset : ℕ

-- the pages of a segment
abbrev pub segment_pages : ℕ
segment_pages = 4096

-- a record has no room after this many bytes of a segment
abbrev pub is_full : ℕ → List ℕ → Bool
is_full offset rec = nat_lt (room page_size segment_pages offset) (length rec)

-- the line `segment`
abbrev pub next_segment : Order
next_segment = order_of_event (event.Feed piece.NextSegment)

-- the lines that feed a record to the log: it is written after what there is, or, if it has no room
-- there, at the front of a next segment
abbrev pub feeds : ℕ → List ℕ → List Order
feeds offset rec =
    if is_full offset rec then next_segment ∷ fed (log_bytes page_size 0 rec) ∷ []
    else fed (log_bytes page_size offset rec) ∷ []

-- how many bytes of a segment are written then
abbrev pub written_end : ℕ → List ℕ → ℕ
written_end offset rec =
    if is_full offset rec then length (log_bytes page_size 0 rec)
    else offset + length (log_bytes page_size offset rec)

-- another world
abbrev pub in_world : Played → World → Played
in_world p w = record p { machine = record p.machine { world = w } }

-- the world after events
abbrev pub world_after : Played → List Event → World
world_after p events = run p.machine.setup events p.machine.world

-- events happened that carry out these orders, and this many bytes are written
abbrev pub FeedsOrders : Played → List Order → ℕ → Played → Type 0
FeedsOrders p orders offset q =
    (events : List Event) × (map order_of_event events ≡ orders) × (q ≡ record (in_world p (world_after p events)) { offset = offset })

-- the line's event happened
abbrev pub PlaysOrder : Played → Order → Played → Type 0
PlaysOrder p o q = (e : Event) × (order_of_event e ≡ o) × (q ≡ in_world p (happens p.machine.setup p.machine.world e))

-- the world after this many rounds of an orderly shutdown
abbrev pub settled_after : Played → ℕ → World
settled_after p rounds = settle_world p.machine.setup rounds p.machine.world

-- the line is `settle_world`, and an orderly shutdown went on until there was a report; further
-- rounds change nothing
abbrev pub PlaysSettle : Played → Order → Played → Type 0
PlaysSettle p o q = (o ≡ order_of command.Settle)
    × ((rounds : ℕ) × (e : Ending) × (report (settled_after p rounds) ≡ Some e) × (q ≡ in_world p (settled_after p rounds)))

-- a line was carried out: its record is fed to the log, its event happened, or it is an orderly
-- shutdown
abbrev pub Plays : Played → Order → Played → Type 0
Plays p (logged rec) q = FeedsOrders p (feeds p.offset rec) (written_end p.offset rec) q
Plays p o q = PlaysOrder p o q ⊎ PlaysSettle p o q

-- lines were carried out, one after the other
abbrev pub Follows : Played → List Order → Played → Type 0
Follows p [] q = p ≡ q
Follows p (o ∷ os) q = (next : Played) × Plays p o next × Follows next os q

-- before the first line
abbrev pub beginning : Setup → Played
beginning c = record { machine = record { setup = c; world = start c }; offset = 0 }

-- the text of the state that the lines of a script lead to
pub record IsPrintedState (c : Setup) (orders : List Order) (text : List ℕ) : Type 0 where
  pub last : Played
  pub follows : Follows (beginning c) orders last
  pub is : text ≡ state_text last.machine.world
