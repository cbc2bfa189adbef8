-- A small open receiver: the request of the small history over the wire comes to it once, and is
-- answered 204.
use Rattle.std.specs.Prelude.{ℕ, zero, suc, List, [], ◌∷◌}
use Rattle.std.specs.declared.alloc.Global.{Global}
use Rattle.std.specs.declared.sync.Arc.{Arc}
use Rattle.rw_types.specs.Labels.{Labels}
use Rattle.rw_worker.specs.Setups.{WorkerSetup}
use Rattle.rw_worker.specs.Transcript.{Exchange}
use Rattle.rw_head.specs.Head.{State}
use Rattle.rw_machine.specs.declared.event.How.TheVariants.{Plain}
use Rattle.rw_restarts.specs.Arrivals.{Arrival}
use Rattle.rw_restarts.specs.WireExamples.{exchange, states}

abbrev pub arrival : Arrival
arrival = record { epoch = 0; shard = 0; number = 0; how = Plain; status = 204 }

abbrev pub arrivals : List Arrival
arrivals = arrival ∷ []

-- the head that each request meets, and the one after it was answered
abbrev pub heads : ℕ → State
heads n = (states n).head

abbrev pub answered : ℕ → State
answered n = (states (suc n)).head

-- the exchanges of each worker, by its epoch and shard: the first one had one
abbrev pub exchanges : WorkerSetup → Arc Labels Global → ℕ → ℕ → List Exchange
exchanges worker shared zero zero = exchange worker shared ∷ []
exchanges worker shared zero (suc k) = []
exchanges worker shared (suc e) k = []
