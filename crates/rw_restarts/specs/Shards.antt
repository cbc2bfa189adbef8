-- The shards of a sender in all its epochs, as one run.
use Rattle.std.specs.Prelude.{◌≡◌, ◌⊎◌, ℕ, suc, List, [], ◌∷◌, ◌++◌, Some, slice_get, ⊤}
use Rattle.std.specs.List.{AllByRecursion}
use Rattle.rw_types.specs.Beginnings.{Begins}
use Rattle.rw_types.specs.Labels.{Labels}
use Rattle.rw_types.specs.declared.entry.Entry.{Entry}
use Rattle.rw_relabel.specs.declared.choice.Choice.{Choice}
use Rattle.rw_worker.specs.Setups.{start_of}
use Rattle.rw_worker.specs.Steps.{Step, AreSteps, items_of}
use Rattle.rw_fleet.specs.ShardHistories.{ShardHistory}
use Rattle.rw_restarts.specs.Owed.{owed_of}
use Rattle.rw_restarts.specs.Parts.{points_in}
use Rattle.rw_restarts.specs.Runs.{SentMessage, acknowledged_in}
use Rattle.rw_restarts.specs.Logs.{SendsOwed}
use Rattle.rw_restarts.specs.Workers.{AreMessagesOfWorker, HasResolvedAll, NeverRefused}

-- the worker of this shard made these steps: it took what its queue was put, or the first of it
pub record HasMadeSteps (shard : ShardHistory) (steps : List Step) : Type 0 where
  pub allowed : AreSteps (start_of shard.setup) steps
  pub taken : Begins (items_of steps) shard.put

-- the workers of the shards made these steps, by the number of their shard
abbrev pub HaveMadeSteps : List ShardHistory → (ℕ → List Step) → Type 0
HaveMadeSteps shards steps =
    (k : ℕ) (shard : ShardHistory) → slice_get shards k ≡ Some shard → HasMadeSteps shard (steps k)

-- each worker took all that its queue was put, and has resolved all of it
abbrev pub AreDone : List ShardHistory → (ℕ → List Step) → Type 0
AreDone shards steps = (k : ℕ) (shard : ShardHistory) → slice_get shards k ≡ Some shard
    → (items_of (steps k) ≡ shard.put) × HasResolvedAll shard.setup (steps k)

-- none of these messages has samples of the label set
abbrev pub HasNone : Labels → List SentMessage → Type 0
HasNone l sent = AllByRecursion (λ (x : SentMessage). points_in l x.message ≡ []) sent

-- these messages have no label set in common with those
abbrev pub AreApart : List SentMessage → List SentMessage → Type 0
AreApart one other = (l : Labels) → HasNone l one ⊎ HasNone l other

-- The workers of the shards from number k on sent these messages, shard after shard. Shards share
-- no label set, so it does not matter how their exchanges overlapped.
abbrev pub AreMessagesOfShards : ℕ → List ShardHistory → (ℕ → List Step) → List SentMessage → Type 0
AreMessagesOfShards k [] steps sent = sent ≡ []
AreMessagesOfShards k (shard ∷ shards) steps sent =
    (first : List SentMessage) × (rest : List SentMessage) × (sent ≡ first ++ rest)
    × AreMessagesOfWorker shard.setup (steps k) first
    × AreMessagesOfShards (suc k) shards steps rest × AreApart first rest

-- and so did those of these epochs, epoch after epoch
abbrev pub AreMessagesOfEpochs : ℕ → List (List ShardHistory) → (ℕ → ℕ → List Step)
    → List SentMessage → Type 0
AreMessagesOfEpochs e [] steps sent = sent ≡ []
AreMessagesOfEpochs e (shards ∷ later) steps sent =
    (first : List SentMessage) × (rest : List SentMessage) × (sent ≡ first ++ rest)
    × AreMessagesOfShards 0 shards (steps e) first × AreMessagesOfEpochs (suc e) later steps rest

-- the workers of these epochs made these steps, by their epoch and shard, and those of each epoch
-- but the last one are done
abbrev pub HaveRun : ℕ → List (List ShardHistory) → (ℕ → ℕ → List Step) → Type 0
HaveRun e [] steps = ⊤
HaveRun e (shards ∷ []) steps = HaveMadeSteps shards (steps e)
HaveRun e (shards ∷ next ∷ later) steps =
    HaveMadeSteps shards (steps e) × AreDone shards (steps e) × HaveRun (suc e) (next ∷ later) steps

-- those of the last one are done too
abbrev pub AreAllDone : ℕ → List (List ShardHistory) → (ℕ → ℕ → List Step) → Type 0
AreAllDone e [] steps = ⊤
AreAllDone e (shards ∷ later) steps =
    AreDone shards (steps e) × AreAllDone (suc e) later steps

-- Their messages send what the log owes. If all workers are done, all samples that the log owes of
-- a label set of which no message was refused are acknowledged.
pub record IsRunOfEpochs (choice : Choice) (log : List Entry) (epochs : List (List ShardHistory))
    (steps : ℕ → ℕ → List Step) : Type 0 where
  pub sent : List SentMessage
  pub messages : AreMessagesOfEpochs 0 epochs steps sent
  pub sends : SendsOwed choice log sent
  pub done : AreAllDone 0 epochs steps → (l : Labels) → NeverRefused l sent
      → acknowledged_in l sent ≡ owed_of choice log l
