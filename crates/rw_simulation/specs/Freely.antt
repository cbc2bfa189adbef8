-- The machine of events with a free receiver: any party may answer a request with any status.
use Rattle.std.specs.Prelude.{ℕ, List, [], ◌∷◌, slice_get, ⊤}
use Rattle.rw_machine.specs.Worlds.{Setup, World}
use Rattle.rw_machine.specs.Steps.{happens, turned_away}
use Rattle.rw_machine.specs.declared.event.Event.{Event}
use Rattle.rw_machine.specs.declared.event.Event.TheVariants as event

-- an event of the machine, or an answer to the request with this number, whoever makes it
pub data Happening : Type 0 where
  Of : (e : Event) → Happening
  Answered : (k : ℕ) → (status : ℕ) → Happening

-- an event of the sender's own, which answers nothing
abbrev pub IsOwn : Happening → Type 0
IsOwn (Of (event.Arrive k how)) = ⊥
IsOwn (Of e) = ⊤
IsOwn (Answered k status) = ⊥

abbrev pub happens_freely : Setup → World → Happening → World
happens_freely c w (Of e) = happens c w e
happens_freely c w (Answered k status) = turned_away w status (slice_get w.requests k)

-- a whole schedule
abbrev pub run_freely : Setup → List Happening → World → World
run_freely c [] w = w
run_freely c (h ∷ hs) w = run_freely c hs (happens_freely c w h)
