-- What a worker does to the state of its shard, step by step.
use Rattle.std.specs.Prelude.{◌≡◌, ℕ, true, false, List, [], ◌∷◌, ◌++◌, map, Result, Ok, Err, ⊤, if◌then◌else◌}
use Rattle.std.specs.Ordering.{nat_cmp}
use Rattle.std.specs.FinMap.{FinMap, empty}
use Rattle.rw_ledger.specs.declared.ledger.Reason.{Reason}
use Rattle.rw_ledger.specs.Names.{Named}
use Rattle.rw_plain_queue.specs.Items.{Placed}
use Rattle.rw_plain_queue.specs.declared.item.Item.{Item}
use Rattle.rw_shard_core.specs.Shard.{Core, new_core, is_empty, can_take, MayTake, take_item, is_due, can_freeze, freeze, freeze_room, can_send, send, request_for, IsReadAgain, batch_id, reply, reply_names, lose}
use Rattle.rw_shard_core.specs.declared.config.Target.{Target}
use Rattle.rw_worker.specs.declared.transport.Reply.{Reply}
use Rattle.rw_worker.specs.declared.transport.Lost.{Lost}
use Rattle.rw_worker.specs.Transcript.{Exchange, Settled, IsTranscript, AreTriesOf, samples_settled, names_of}
use Rattle.rw_worker.specs.Cut.{cut, cutting, one_of}

-- a shard and its part of the ledger
pub record Working : Type 0 where
  pub core : Core
  pub ledger : Named

abbrev pub working : Core → Named → Working
working core ledger = record { core = core; ledger = ledger }

-- before anything was taken
abbrev pub new_working : Target → ℕ → ℕ → ℕ → Working
new_working target epoch shard full = working (new_core target epoch shard full) (record { names = empty; room = 0 })

pub data Step : Type 0 where
  Takes : Item → Step
  Freezes : Step
  Sends : Exchange → Step
  Waits : Step  -- memory ran out

-- When a step may be made: only a builder that is due is frozen, and memory is asked for if
-- something is to be frozen or sent. What is sent is the request of the open batch, whose body
-- reads again as its message.
abbrev pub MayStep : Step → Core → Type 0
MayStep (Takes x) c = (can_take c ≡ true) × MayTake x c
MayStep Freezes c = (is_due c ≡ true) × (can_freeze c ≡ true)
MayStep (Sends e) c = (can_send c ≡ true) × (e.request ≡ request_for c) × IsReadAgain c.batch
MayStep Waits c = can_take c ≡ false

-- an attempt ends with a reply, or is lost
abbrev pub after_attempt : Result Reply Lost → Working → Working
after_attempt (Ok r) w = working (reply (batch_id w.core.batch) r.status w.core) (reply_names (batch_id w.core.batch) r.status w.core w.ledger)
after_attempt (Err lost) w = working (lose w.core) w.ledger

abbrev pub after_step : Step → Working → Working
after_step (Takes x) w = working (take_item x w.core) w.ledger
after_step Freezes w = working (freeze w.core) (freeze_room w.core w.ledger)
after_step (Sends e) w = after_attempt e.answer (working (send w.core) w.ledger)
after_step Waits w = w

-- steps one after the other, each if it may be made
abbrev pub AreSteps : Working → List Step → Type 0
AreSteps w [] = ⊤
AreSteps w (s ∷ ss) = MayStep s w.core × AreSteps (after_step s w) ss

abbrev pub after : Working → List Step → Working
after w [] = w
after w (s ∷ ss) = after (after_step s w) ss

abbrev pub items_of : List Step → List Item
items_of [] = []
items_of (Takes x ∷ ss) = x ∷ items_of ss
items_of (Freezes ∷ ss) = items_of ss
items_of (Sends e ∷ ss) = items_of ss
items_of (Waits ∷ ss) = items_of ss

abbrev pub exchanges_of : List Step → List Exchange
exchanges_of [] = []
exchanges_of (Takes x ∷ ss) = exchanges_of ss
exchanges_of (Freezes ∷ ss) = exchanges_of ss
exchanges_of (Sends e ∷ ss) = e ∷ exchanges_of ss
exchanges_of (Waits ∷ ss) = exchanges_of ss

-- the samples of the batch that is not settled: the open batch, or a builder that is due
abbrev pub unsettled : Core → List Placed
unsettled c = if is_empty c.batch then (if is_due c then c.builder else []) else c.batch

-- the samples that wait for more
abbrev pub growing : Core → List Placed
growing c = if is_empty c.batch then (if is_due c then [] else c.builder) else []

-- The exchanges are the transcript of the items: they settle the batches in order, except at most
-- one, of which there were only tries, and the rest waits for more. What is resolved is what they
-- settle, and the samples of the refused batches are named.
pub record IsTranscriptOf (target : Target) (n : ℕ) (items : List Item) (exchanges : List Exchange) (unsent rest resolved : List Placed) (names : FinMap nat_cmp Reason) : Type 0 where
  pub settled : List Settled
  pub batches : cut n items ≡ cutting (map (λ (b : Settled). b.samples) settled ++ one_of unsent) rest
  pub settling : List Exchange
  pub tries : List Exchange
  pub exchanges_are : exchanges ≡ settling ++ tries
  pub transcript : IsTranscript target settled settling
  pub tried : AreTriesOf target unsent tries
  pub resolved_are : resolved ≡ samples_settled settled
  pub names_are : names ≡ names_of settled

abbrev pub HasWorked : ℕ → List Item → List Exchange → Working → Type 0
HasWorked n items exchanges w = IsTranscriptOf w.core.target n items exchanges (unsettled w.core) (growing w.core) w.core.resolved w.ledger.names
