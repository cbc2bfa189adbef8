-- How far a worker is, and what it reports of its run.
use Rattle.std.specs.Prelude.{◌≡◌, ℕ, ◌+◌, ◌-◌, ◌^◌, ◌<◌, ◌≤◌, min, Bool, true, false, List, [], ◌∷◌, ◌++◌, length, Option, None, ⊤}
use Rattle.rw_plain_queue.specs.Items.{samples_in}
use Rattle.rw_plain_queue.specs.declared.item.Item.{Item}
use Rattle.rw_plain_queue.specs.History.{IsHistory}
use Rattle.rw_plain_queue.specs.declared.item.Item.TheVariants as item
use Rattle.rw_plain_queue.specs.declared.item.Kind.{Kind}
use Rattle.rw_plain_queue.specs.declared.item.Kind.TheVariants.{Orderly, Reshard, Hard}
use Rattle.rw_shard_queue.specs.Ends.{Draining}
use Rattle.rw_shard_core.specs.Shard.{Core, is_due}
use Rattle.rw_worker.specs.declared.report.TakingEnd.{TakingEnd}
use Rattle.rw_worker.specs.declared.report.TakingEnd.TheVariants as end
use Rattle.rw_worker.specs.declared.report.WorkerReport.{WorkerReport}
use Rattle.rw_worker.specs.declared.state.Intake.{Intake}
use Rattle.rw_worker.specs.declared.state.Intake.TheVariants as intake
use Rattle.rw_worker.specs.declared.state.Sending.{Sending}
use Rattle.rw_worker.specs.declared.state.Start.{Start}
use Rattle.rw_worker.specs.declared.state.Progress.{Progress}
use Rattle.rw_worker.specs.declared.state.Progress.TheVariants.{Goes, Stops}
use Rattle.rw_worker.specs.Stops.{StopRead, IsStill, HasReason}
use Rattle.rw_worker.specs.Transcript.{Exchange, Adds}
use Rattle.rw_worker.specs.Setups.{WorkerSetup, start_of}
use Rattle.rw_worker.specs.Steps.{Step, Takes, working, MayStep, AreSteps, after_step, after, items_of, exchanges_of, HasWorked}
use Rattle.rw_worker.specs.Pauses.{pause_after, retries_after, retries_of, pauses_of}

abbrev pub is_hard : Kind → Bool
is_hard Orderly = false
is_hard Reshard = false
is_hard Hard = true

-- the end of the queue that is given back
abbrev pub drain_of : TakingEnd → Draining
drain_of (end.Ended kind d) = d
drain_of (end.Killed d) = d

-- the End asks that all be resolved
abbrev pub IsOrderly : TakingEnd → Type 0
IsOrderly (end.Ended Orderly d) = ⊤
IsOrderly (end.Ended Reshard d) = ⊤
IsOrderly (end.Ended Hard d) = ⊥
IsOrderly (end.Killed d) = ⊥

-- nothing was done after a hard End
abbrev pub StopsAtHard : TakingEnd → List Step → Type 0
StopsAtHard (end.Ended Orderly d) steps = ⊤
StopsAtHard (end.Ended Reshard d) steps = ⊤
StopsAtHard (end.Ended Hard d) steps = (before : List Step) × (steps ≡ before ++ Takes (item.End Hard) ∷ [])
StopsAtHard (end.Killed d) steps = ⊤

-- the End that is reported is the last item that was taken
abbrev pub IsLast : TakingEnd → Type 0
IsLast (end.Ended kind d) = (before : List Item) × (d.taken ≡ before ++ item.End kind ∷ [])
IsLast (end.Killed d) = ⊤

abbrev pub intake_drain : Intake → Draining
intake_drain (intake.Open d) = d
intake_drain (intake.Ended kind d) = d

-- the end that is given back if nothing more is taken
abbrev pub given_back : Intake → TakingEnd
given_back (intake.Open d) = end.Killed d
given_back (intake.Ended kind d) = end.Ended kind d

-- what a worker reports that stops in its present state
abbrev pub report_of : {T : Type 0} → TakingEnd → Option StopRead → Option ℕ → Sending T → WorkerReport T
report_of end stopped gone s = record { end = end; resolved = s.resolved; stopped = stopped; gone = gone; ledger = s.ledger; transport = s.transport }

-- after an End that is not hard, what was taken is closed: a builder that is not due is empty
abbrev pub IsClosed : Intake → Core → Type 0
IsClosed (intake.Open d) c = ⊤
IsClosed (intake.Ended Hard d) c = ⊥
IsClosed (intake.Ended Orderly d) c = is_due c ≡ false → c.builder ≡ []
IsClosed (intake.Ended Reshard d) c = is_due c ≡ false → c.builder ≡ []

module _ {T : Type 0} (tells : T → Type 0) (seen : T → List Exchange) (setup : WorkerSetup) (begun : T) where
  -- these steps were made: they took what the end of the queue gave, and added their exchanges to
  -- those of the transport
  pub record HasMade (drain : Draining) (transport : T) (steps : List Step) : Type 0 where
    pub queue_is : drain.queue ≡ setup.queue
    pub history : IsHistory setup.queue.epoch setup.queue.shard drain.taken
    pub allowed : AreSteps (start_of setup) steps
    pub items : items_of steps ≡ drain.taken
    pub adds : Adds (tells begun) (tells transport) (seen begun) (seen transport) (exchanges_of steps)

  -- What a worker reports. The state of its shard is that after its steps, of which the exchanges
  -- are the transcript of what was taken. No more than a batch of that is not resolved.
  pub record IsReport (r : WorkerReport T) : Type 0 where
    pub steps : List Step
    pub made : HasMade (drain_of r.end) r.transport steps
    pub worked : HasWorked setup.batch (drain_of r.end).taken (exchanges_of steps) (after (start_of setup) steps)
    pub target : (after (start_of setup) steps).core.target ≡ setup.target
    pub counted : r.resolved ≡ length (after (start_of setup) steps).core.resolved
    pub few : length (samples_in (drain_of r.end).taken) ≤ r.resolved + setup.batch
    pub names : r.ledger.names ≡ (after (start_of setup) steps).ledger.names
    pub last : IsLast r.end
    pub whole : r.stopped ≡ None → IsOrderly r.end → (after (start_of setup) steps).core.resolved ≡ samples_in (drain_of r.end).taken
    pub hard : StopsAtHard r.end steps
    pub still : IsStill r.stopped r.gone r.resolved
    pub reason : HasReason r.end r.stopped r.gone

-- a count of 64 bits, which stays at the greatest number
abbrev pub counted_to : ℕ → ℕ
counted_to n = min n (2 ^ 64 - 1)

module _ {T P : Type 0} (tells : T → Type 0) (seen : T → List Exchange) (waits : P → Type 0) (paused : P → List ℕ) where
  -- a step was made, with its exchange and its pause
  pub record HasStepped (s v : Sending T) (p q : P) : Type 0 where
    pub step : Step
    pub allowed : MayStep step s.core
    pub becomes : working v.core v.ledger ≡ after_step step (working s.core s.ledger)
    pub told : Adds (tells s.transport) (tells v.transport) (seen s.transport) (seen v.transport) (exchanges_of (step ∷ []))
    pub waited : Adds (waits p) (waits q) (paused p) (paused q) (pause_after s.backoff.0 s.backoff.1 s.retries step)
    pub retries : v.retries ≡ counted_to (retries_after s.retries step)
    pub backoff : v.backoff ≡ s.backoff

  -- a worker that goes on made a step
  abbrev pub StepsOn : Sending T → Progress → Sending T → P → P → Type 0
  StepsOn s (Goes i) v p q = HasStepped s v p q
  StepsOn s (Stops end stopped _) v p q = ⊤

  module _ (setup : WorkerSetup) (begun : T) (first : P) where
    -- these pauses were made, which are those after the steps
    abbrev pub HasPaused : P → List Step → Type 0
    HasPaused pause steps = Adds (waits first) (waits pause) (paused first) (paused pause) (pauses_of setup.min_backoff setup.max_backoff 0 steps)

    -- the worker is this far after some steps
    pub record IsSending (drain : Draining) (s : Sending T) (pause : P) : Type 0 where
      pub some : 0 < setup.batch
      pub fits : setup.max_backoff < 2 ^ 64
      pub steps : List Step
      pub made : HasMade tells seen setup begun drain s.transport steps
      pub waited : HasPaused pause steps
      pub now : after (start_of setup) steps ≡ working s.core s.ledger
      pub counted : s.resolved ≡ length s.core.resolved
      pub backoff : s.backoff ≡ (setup.min_backoff, setup.max_backoff)
      pub retries : s.retries ≡ counted_to (retries_of 0 steps)

    pub record IsState (i : Intake) (s : Sending T) (pause : P) : Type 0 where
      pub sending : IsSending (intake_drain i) s pause
      pub closed : IsClosed i s.core
      pub last : IsLast (given_back i)

    -- What a worker reports, and how it waited: the pauses are those after the steps of its report.
    pub record HasRun (r : WorkerReport T) (pause : P) : Type 0 where
      pub report : IsReport tells seen setup begun r
      pub waited : HasPaused pause report.steps

    -- this state after a step, or what is then to be reported
    abbrev pub IsProgress : Progress → Sending T → P → Type 0
    IsProgress (Goes i) s pause = IsState i s pause
    IsProgress (Stops end stopped gone) s pause = HasRun (report_of end stopped gone s) pause

  -- the same of what a worker began with
  abbrev pub IsSendingFrom : Start T P → Draining → Sending T → P → Type 0
  IsSendingFrom b drain s pause = IsSending b.worker.value b.transport.value b.pause.value drain s pause

  abbrev pub IsStateFrom : Start T P → Intake → Sending T → P → Type 0
  IsStateFrom b i s pause = IsState b.worker.value b.transport.value b.pause.value i s pause

  abbrev pub IsProgressFrom : Start T P → Progress → Sending T → P → Type 0
  IsProgressFrom b n s pause = IsProgress b.worker.value b.transport.value b.pause.value n s pause
