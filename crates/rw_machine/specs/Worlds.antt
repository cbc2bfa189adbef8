-- The machine of events: a sender, the network and a receiving head (Remote-Write 1.0).
use Rattle.std.specs.Prelude.{ℕ, zero, suc, Bool, false, ◌&&◌, ◌||◌, if◌then◌else◌, List, [], ◌∷◌, ◌++◌, filter, Option, Some, None, ◌==◌}
use Rattle.std.specs.List.{list_any, list_all}
use Rattle.std.specs.Ordering.{nat_cmp}
use Rattle.std.specs.FinMap.{FinMap}
use Rattle.std.specs.FinMap as map
use Rattle.rw_types.specs.Labels.{Labels}
use Rattle.rw_types.specs.declared.entry.Entry.{Entry}
use Rattle.rw_wal_format.specs.Pieces.{Piece, entries, fault}
use Rattle.rw_wal_format.specs.declared.tail_fault.TailFault.{TailFault}
use Rattle.rw_relabel.specs.declared.choice.Choice.{Choice}
use Rattle.rw_ledger.specs.declared.ledger.Reason.{Reason}
use Rattle.rw_plain_queue.specs.Items.{Placed}
use Rattle.rw_batch.specs.declared.batch.BatchId.{BatchId}
use Rattle.rw_shard_core.specs.declared.config.Target.{Target}
use Rattle.rw_shard_core.specs.Shard.{new_core}
use Rattle.rw_head.specs.Verdicts.{LabelLimits}
use Rattle.rw_head.specs.Head.{State}
use Rattle.rw_machine.specs.Shards.{Shard, new_shard, is_drained, pending_in_shard}
use Rattle.rw_shard_core.specs.Endings.{Ending, Complete, Abandoned, Damaged}

-- what the sender and the receiver are set to
pub record Setup : Type 0 where
  pub target : Target
  pub shards : ℕ  -- at the start
  pub capacity : ℕ  -- of a queue, in items
  pub batch : ℕ  -- the most samples of a batch
  pub choice : Choice
  pub limits : LabelLimits
  pub max_body : ℕ  -- the most bytes of a body that the receiver reads
  pub busy : ℕ  -- how many requests it answers as busy, before it judges one

-- a batch that was sent
pub record Request : Type 0 where
  pub id : BatchId
  pub batch : List Placed
  pub bytes : List ℕ  -- what goes over the network: the request of the batch (RFC 9112)

pub record Reply : Type 0 where
  pub id : BatchId
  pub status : ℕ

pub record World : Type 0 where
  pub pieces : List Piece  -- of the log, so far
  pub placed : ℕ  -- how many of its entries were placed
  pub series : List Labels  -- the kept label sets, in the order in which they came
  pub epoch : ℕ  -- how often the number of shards has changed
  pub shards : List Shard
  pub requests : List Request  -- all that were ever sent
  pub replies : List Reply  -- all that were ever made
  pub head : State
  pub names : FinMap nat_cmp Reason  -- the dropped samples, by position
  pub filtered : ℕ
  pub draining : Option ℕ  -- the number of shards to come
  pub closed : Option ℕ  -- the position up to which all is to be sent
  pub killed : Bool

-- the entries that were read
abbrev pub log : World → List Entry
log w = entries w.pieces

-- the shards of an epoch, from one number on
abbrev pub new_shards : Setup → ℕ → ℕ → ℕ → List Shard
new_shards c epoch i zero = []
new_shards c epoch i (suc n) = new_shard (new_core c.target epoch i c.batch) ∷ new_shards c epoch (suc i) n

-- before the first event
abbrev pub start : Setup → World
start c = record {
  pieces = [];
  placed = 0;
  series = [];
  epoch = 0;
  shards = new_shards c 0 0 c.shards;
  requests = [];
  replies = [];
  head = record { store = map.empty; limits = c.limits; busy = c.busy };
  names = map.empty;
  filtered = 0;
  draining = None;
  closed = None;
  killed = false;
}

abbrev pub is_closed_at : ℕ → Option ℕ → Bool
is_closed_at n None = false
is_closed_at n (Some end) = n == end

-- closed, and all is placed
abbrev pub is_finished : World → Bool
is_finished w = is_closed_at w.placed w.closed

abbrev pub all_drained : World → Bool
all_drained w = list_all is_drained w.shards

-- the sample at this position was put, and is not resolved
abbrev pub is_pending : World → ℕ → Bool
is_pending w p = list_any (λ s. list_any (λ (x : Placed). x.place.pos == p) (pending_in_shard s)) w.shards

abbrev pub up_to : ℕ → List ℕ
up_to zero = []
up_to (suc n) = up_to n ++ n ∷ []

abbrev pub ended_as : Option TailFault → ℕ → Ending
ended_as None end = Complete end
ended_as (Some f) end = Damaged f

-- the report, once there is one
abbrev pub report : World → Option Ending
report w =
    if w.killed then Some (Abandoned w.placed (filter (is_pending w) (up_to w.placed)))
    else (if is_finished w && all_drained w then Some (ended_as (fault w.pieces) w.placed) else None)

-- whether there is one
abbrev pub is_over : World → Bool
is_over w = w.killed || (is_finished w && all_drained w)
