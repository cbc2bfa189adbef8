-- What the steps of a worker are to the machine of events.
use Rattle.std.specs.Prelude.{◌≡◌, ◌⊎◌, ℕ, ◌+◌, true, false, List, [], ◌∷◌, ◌++◌, length, map, Some, None, Result, Ok, Err, slice_get}
use Rattle.std.specs.List.{AllByRecursion}
use Rattle.std.specs.Ordering.{nat_cmp}
use Rattle.std.specs.FinMap.{FinMap}
use Rattle.rw_ledger.specs.declared.ledger.Reason.{Reason}
use Rattle.rw_ledger.specs.Names.{Named}
use Rattle.rw_plain_queue.specs.Items.{Placed}
use Rattle.rw_plain_queue.specs.declared.item.Item.{Item}
use Rattle.rw_plain_queue.specs.declared.item.Item.TheVariants.{Sample, Flush, End}
use Rattle.rw_plain_queue.specs.History.{EndIsLast}
use Rattle.rw_shard_core.specs.Shard.{Core, placed}
use Rattle.rw_worker.specs.declared.transport.Reply.{Reply}
use Rattle.rw_worker.specs.declared.transport.Lost.{Lost}
use Rattle.rw_worker.specs.Transcript.{Exchange}
use Rattle.rw_worker.specs.Steps.{Working, working, Step, Takes, Freezes, Sends, Waits, AreSteps, after, after_step, items_of, exchanges_of}
use Rattle.rw_machine.specs.Shards.{Shard, Queued, One, FlushMark, EndMark, samples_waiting}
use Rattle.rw_machine.specs.Worlds.{Setup, Request, World}
use Rattle.rw_machine.specs.Worlds as worlds
use Rattle.rw_machine.specs.Steps.{change, names_after_reply}
use Rattle.rw_machine.specs.declared.event.Event.TheVariants as event
use Rattle.rw_simulation.specs.Freely.{Happening, Of, Answered, run_freely}

-- an item as it waits in a queue of the machine
abbrev pub queued : Item → Queued
queued (Sample place t word labels) = One (placed place t word labels.value)
queued Flush = FlushMark
queued (End kind) = EndMark kind

-- the newest request is answered, and the answer comes back; or the attempt is given up
abbrev pub answer_happenings : World → ℕ → Result Reply Lost → List Happening
answer_happenings w i (Ok r) = Answered (length w.requests) r.status ∷ Of (event.Reply (length w.replies)) ∷ []
answer_happenings w i (Err lost) = Of (event.Lost i) ∷ []

-- what a step of the worker of shard i is to the machine
abbrev pub step_happenings : World → ℕ → Step → List Happening
step_happenings w i (Takes x) = Of (event.Take i) ∷ []
step_happenings w i Freezes = Of (event.Freeze i) ∷ []
step_happenings w i (Sends e) = Of (event.Send i) ∷ answer_happenings w i e.answer
step_happenings w i Waits = []

-- and its steps, one after the other
abbrev pub happenings : Setup → World → ℕ → List Step → List Happening
happenings c w i [] = []
happenings c w i (s ∷ ss) = step_happenings w i s ++ happenings c (run_freely c (step_happenings w i s) w) i ss

-- the names, as a step of a worker with this core leaves them
abbrev pub answer_names : Result Reply Lost → List Placed → FinMap nat_cmp Reason → FinMap nat_cmp Reason
answer_names (Ok r) batch names = names_after_reply r.status batch names
answer_names (Err lost) batch names = names

abbrev pub step_names : Step → Core → FinMap nat_cmp Reason → FinMap nat_cmp Reason
step_names (Takes x) c names = names
step_names Freezes c names = names
step_names (Sends e) c names = answer_names e.answer c.batch names
step_names Waits c names = names

abbrev pub steps_names : List Step → Working → FinMap nat_cmp Reason → FinMap nat_cmp Reason
steps_names [] w names = names
steps_names (s ∷ ss) w names = steps_names ss (after_step s w) (step_names s w.core names)

-- the samples of the open batch and of the builder are of this shard of its epoch
abbrev pub AreOfShard : ℕ → ℕ → List Placed → Type 0
AreOfShard epoch i [] = Unit {0}
AreOfShard epoch i (x ∷ xs) = (x.place.epoch ≡ epoch) × (x.place.shard ≡ i) × AreOfShard epoch i xs

pub record IsShardNumbered (i : ℕ) (c : Core) : Type 0 where
  pub number : c.shard ≡ i
  pub batch : AreOfShard c.epoch i c.batch
  pub builder : AreOfShard c.epoch i c.builder

abbrev pub sent_bytes : Request → List ℕ
sent_bytes r = r.bytes

abbrev pub request_in : Exchange → List ℕ
request_in e = e.request

-- a request of this shard of this epoch
abbrev pub IsIdOf : ℕ → ℕ → Request → Type 0
IsIdOf epoch i r = (r.id.epoch ≡ epoch) × (r.id.shard ≡ i)

-- The machine's shard i is as the worker's after its steps, what it did not take still waits, and
-- its names are those that the worker's part of the ledger got. The requests are those of its
-- exchanges, byte by byte, and have its ids. Nothing else has changed.
pub record IsAfter (w : World) (i : ℕ) (s : Shard) (ledger : Named) (steps : List Step) (rest : List Queued) (v : World) : Type 0 where
  pub requests : List Request
  pub replies : List worlds.Reply
  pub is : v ≡ record w {
    shards = change i (λ _. record s { queue = rest; core = (after (working s.core ledger) steps).core }) w.shards;
    names = steps_names steps (working s.core ledger) w.names;
    requests = w.requests ++ requests;
    replies = w.replies ++ replies;
  }
  pub ledger_is : (after (working s.core ledger) steps).ledger.names ≡ steps_names steps (working s.core ledger) ledger.names
  pub sent : map sent_bytes requests ≡ map request_in (exchanges_of steps)
  pub ids : AllByRecursion (IsIdOf s.core.epoch i) requests

-- The shard's lists are whole, and nothing waits after an End: so it is not drained before the
-- last step.
pub record CanEnd (s : Shard) (steps : List Step) : Type 0 where
  pub kept : length s.put ≡ length s.core.resolved + (length s.core.batch + (length s.core.builder + length (samples_waiting s.queue)))
  pub ended : s.core.ended ≡ true → items_of steps ≡ []
  pub last : EndIsLast (items_of steps)

-- While nothing is killed, the steps that a worker may make with what waits in its queue are
-- events, also once the log is closed.
abbrev pub IsWorkerRun : Setup → World → ℕ → Type 0
IsWorkerRun c w i =
    (s : Shard) (ledger : Named) (steps : List Step) (rest : List Queued)
    → w.killed ≡ false → (w.closed ≡ None) ⊎ CanEnd s steps → slice_get w.shards i ≡ Some s → IsShardNumbered i s.core
    → s.queue ≡ map queued (items_of steps) ++ rest → AreSteps (working s.core ledger) steps
    → IsAfter w i s ledger steps rest (run_freely c (happenings c w i steps) w)
