-- Inner definitions beside those of Steps.antt: only invariants, private functions and
-- proofs use them.
use Rattle.std.specs.Prelude.{◌≡◌, Bool, true, false, not, List, [], ◌∷◌, ◌++◌, Result}
use Rattle.rw_plain_queue.specs.Items.{Placed}
use Rattle.rw_shard_core.specs.Shard.{Core, request_for, IsReadAgain}
use Rattle.rw_worker.specs.declared.transport.Reply.{Reply}
use Rattle.rw_worker.specs.declared.transport.Lost.{Lost}
use Rattle.rw_worker.specs.Transcript.{Exchange, exchange_of, is_again, Adds}
use Rattle.rw_worker.specs.Steps.{Working, Sends, after_step}

-- a batch is settled or not
abbrev pub resolved_after : Bool → Core → List Placed
resolved_after true c = c.resolved ++ c.batch
resolved_after false c = c.resolved

-- The request of the open batch, whose body reads again as its message, was sent and answered.
pub record WasSent (before now : Type 0) (old new : List Exchange) (w v : Working) (settled : Bool) : Type 0 where
  pub answer : Result Reply Lost
  pub told : Adds before now old new (exchange_of (request_for w.core) answer ∷ [])
  pub becomes : v ≡ after_step (Sends (exchange_of (request_for w.core) answer)) w
  pub resolved : v.core.resolved ≡ resolved_after settled w.core
  pub again : is_again answer ≡ not settled
  pub read : IsReadAgain w.core.batch
