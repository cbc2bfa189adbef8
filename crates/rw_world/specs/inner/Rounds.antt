-- Inner definitions beside those of Rounds.antt: only invariants, private functions and
-- proofs use them.
use Rattle.std.specs.Prelude.{◌≡◌, ℕ, List, [], ◌∷◌}
use Rattle.rw_machine.specs.Settling.{settle_world}
use Rattle.rw_machine.specs.declared.event.Event.{Event}
use Rattle.rw_machine.specs.declared.event.Event.TheVariants as event
use Rattle.rw_machine.specs.declared.event.How.TheVariants.{Plain}
use Rattle.rw_world.specs.Machine.{Machine}
use Rattle.rw_world.specs.declared.round.Next.{Next}
use Rattle.rw_world.specs.declared.round.Next.TheVariants as next

-- the events of a round
abbrev pub events_of : Next → List Event
events_of next.Place = event.Place ∷ []
events_of (next.Exchange k r) = event.Arrive k Plain ∷ event.Reply r ∷ []
events_of (next.Send i) = event.Send i ∷ []
events_of (next.Freeze i) = event.Freeze i ∷ []
events_of (next.Take i) = event.Take i ∷ []
events_of (next.Flush i) = event.Flush i ∷ []
events_of next.Restart = event.Restart ∷ []

-- whole rounds of an orderly shutdown led from one to the other
pub record HasSettled (old new : Machine) : Type 0 where
  pub rounds : ℕ
  pub settled : new ≡ record old { world = settle_world old.setup rounds old.world }
