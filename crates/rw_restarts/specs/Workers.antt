-- What a worker sends, as the messages of a run.
use Rattle.std.specs.Prelude.{◌≡◌, ◌⊎◌, ℕ, true, false, List, [], ◌∷◌, ◌++◌, map, filter, take, if◌then◌else◌, Option, None, Some, Result, Ok, Err, slice_get, ⊤}
use Rattle.std.specs.List.{AllByRecursion}
use Rattle.std.specs.Ordering.{nat_cmp}
use Rattle.std.specs.FinMap.{FinMap, get}
use Rattle.rw_types.specs.Beginnings.{Begins}
use Rattle.rw_types.specs.Labels.{Labels}
use Rattle.rw_types.specs.LabelOrder.{labels_eq}
use Rattle.rw_retry.specs.Judgements.{judgement_of}
use Rattle.rw_retry.specs.declared.judgement.Judgement.{Judgement}
use Rattle.rw_retry.specs.declared.judgement.Judgement.TheVariants.{Refused}
use Rattle.rw_ledger.specs.declared.ledger.Reason.{Reason}
use Rattle.rw_plain_queue.specs.Items.{Placed, samples_in}
use Rattle.rw_batch.specs.Grouping.{message}
use Rattle.rw_shard_core.specs.Shard.{IsReadAgain, is_empty, labelled, pending}
use Rattle.rw_shard_core.specs.declared.config.Target.{Target}
use Rattle.rw_worker.specs.declared.transport.Reply.{Reply}
use Rattle.rw_worker.specs.declared.transport.Lost.{Lost}
use Rattle.rw_worker.specs.Setups.{WorkerSetup, start_of}
use Rattle.rw_worker.specs.Steps.{Step, AreSteps, after, items_of, exchanges_of}
use Rattle.rw_worker.specs.Transcript.{Exchange, batch_request, is_again}
use Rattle.rw_head.specs.Order.{Point, holds}
use Rattle.rw_restarts.specs.Parts.{points_in}
use Rattle.rw_restarts.specs.Runs.{SentMessage, acknowledged_in, NoneRefused}

-- These exchanges go through the samples `rest` in order, up to `last`: each request carries the
-- samples that come next. They are the same again after an answer that asks for it, or if no answer
-- came, and the following ones after any other answer.
abbrev pub SendInOrder : Target → List Placed → List Exchange → List Placed → Type 0
SendInOrder target rest [] last = rest ≡ last
SendInOrder target rest (e ∷ es) last =
    (batch : List Placed) × (more : List Placed) × (rest ≡ batch ++ more)
    × (is_empty batch ≡ false) × IsReadAgain batch × (e.request ≡ batch_request target batch)
    × SendInOrder target (if is_again e.answer then rest else more) es last

-- so do those of a worker, up to the samples that are still pending, whatever it was answered:
-- these are any first steps of it
abbrev pub WorkerSendsInOrder : WorkerSetup → List Step → Type 0
WorkerSendsInOrder setup steps = AreSteps (start_of setup) steps
    → SendInOrder setup.target (samples_in (items_of steps)) (exchanges_of steps)
    (pending (after (start_of setup) steps).core)

-- the samples of a label set in a batch, as a head takes them
abbrev pub samples_in_batch : Labels → List Placed → List Point
samples_in_batch l batch =
    map (λ (x : Placed). (x.t, x.word)) (filter (λ (x : Placed). labels_eq l x.labels) batch)

-- how a worker judges what came of an attempt
abbrev pub judgement_by : Result Reply Lost → Option Judgement
judgement_by (Ok r) = Some (judgement_of r.status)
judgement_by (Err lost) = None

-- the exchange is that of this message: its request carries a batch, which a receiver reads as the
-- message, and its answer was judged so
pub record IsExchangeOfMessage (target : Target) (e : Exchange) (x : SentMessage) : Type 0 where
  pub batch : List Placed
  pub request : e.request ≡ batch_request target batch
  pub reads : IsReadAgain batch
  pub message_is : x.message ≡ message (map labelled batch)
  pub judgement_is : x.judgement ≡ judgement_by e.answer

-- so are these exchanges, one by one
abbrev pub AreExchangesOfMessages : Target → List Exchange → List SentMessage → Type 0
AreExchangesOfMessages target [] [] = ⊤
AreExchangesOfMessages target [] (x ∷ xs) = ⊥
AreExchangesOfMessages target (e ∷ es) [] = ⊥
AreExchangesOfMessages target (e ∷ es) (x ∷ xs) = IsExchangeOfMessage target e x × AreExchangesOfMessages target es xs

-- an answer to one of these messages acknowledged the sample
abbrev pub IsAcknowledged : List SentMessage → Placed → Type 0
IsAcknowledged sent x = holds (x.t, x.word) (acknowledged_in x.labels sent) ≡ true

-- the position is named, for whichever reason
abbrev pub HasName : FinMap nat_cmp Reason → ℕ → Type 0
HasName names p = (reason : Reason) × (get names p ≡ Some reason)

-- the sample was acknowledged, or is named
abbrev pub IsSettledSample : List SentMessage → FinMap nat_cmp Reason → Placed → Type 0
IsSettledSample sent names x = IsAcknowledged sent x ⊎ HasName names x.place.pos

-- Messages that a worker sent by these steps: they are those of its exchanges. Each sample that is
-- resolved was acknowledged, or the worker's part of the ledger names it.
pub record AreMessagesOfWorker (setup : WorkerSetup) (steps : List Step) (sent : List SentMessage)
    : Type 0 where
  pub exchanges : AreExchangesOfMessages setup.target (exchanges_of steps) sent
  pub resolved : AllByRecursion (IsSettledSample sent (after (start_of setup) steps).ledger.names)
      (after (start_of setup) steps).core.resolved

-- each message has of each label set what comes next of these samples after those that were
-- acknowledged before, unless a message with that label set was refused
abbrev pub SendsSamples : List Placed → List SentMessage → Type 0
SendsSamples rest sent = (n : ℕ) (x : SentMessage) (l : Labels) → slice_get sent n ≡ Some x
    → NoneRefused l n sent
    → Begins (acknowledged_in l (take n sent) ++ points_in l x.message) (samples_in_batch l rest)

-- no message with samples of the label set was refused
abbrev pub NeverRefused : Labels → List SentMessage → Type 0
NeverRefused l sent = AllByRecursion
    (λ (x : SentMessage). x.judgement ≡ Some Refused → points_in l x.message ≡ []) sent

-- all samples that were taken are resolved, as a worker reports that was not stopped
abbrev pub HasResolvedAll : WorkerSetup → List Step → Type 0
HasResolvedAll setup steps =
    (after (start_of setup) steps).core.resolved ≡ samples_in (items_of steps)

-- By these steps a worker sent messages that send the samples that were taken. If all
-- of these are resolved, all samples of a label set of which no message was refused are
-- acknowledged.
pub record WorkerSendsSamples (setup : WorkerSetup) (steps : List Step) : Type 0 where
  pub sent : List SentMessage
  pub messages : AreMessagesOfWorker setup steps sent
  pub sends : SendsSamples (samples_in (items_of steps)) sent
  pub done : HasResolvedAll setup steps → (l : Labels) → NeverRefused l sent
      → acknowledged_in l sent ≡ samples_in_batch l (samples_in (items_of steps))
