-- The shards of an epoch and the names of the dropped samples: what the machine sees of them, and
-- what holds of them.
use Rattle.std.specs.Prelude.{ℤ, ℕ, zero, suc, ◌+◌, Bool, false, if◌then◌else◌, List, [], ◌∷◌, length, Option, Some, None}
use Rattle.std.specs.Ordering.{nat_cmp}
use Rattle.std.specs.FinMap.{FinMap}
use Rattle.rw_ledger.specs.declared.ledger.Reason.{Reason}
use Rattle.rw_plain_queue.specs.Items.{Placed}
use Rattle.rw_shard_core.specs.declared.config.Target.{Target}
use Rattle.rw_shard_core.specs.Shard.{new_core, is_answer, settle}
use Rattle.rw_retry.specs.Judgements.{judgement_of}
use Rattle.rw_batch.specs.declared.batch.BatchId.{BatchId}
use Rattle.rw_types.specs.Labels.{Labels}
use Rattle.rw_machine.specs.Shards.{Shard, new_shard, has_room, shard_put, with_core}
use Rattle.rw_machine.specs.Steps.{change, names_after_reply}
use Rattle.rw_machine.specs.Worlds.{Request}
use Rattle.rw_world.specs.Held.{Held, sent_request}

-- nothing at the position `next` or after it was put or named
pub record Sending : Type 0 where
  pub target : Target
  pub capacity : ℕ
  pub batch : ℕ
  pub epoch : ℕ
  pub shards : List Shard
  pub next : ℕ
  pub names : FinMap nat_cmp Reason

-- new shards of an epoch, from one number on
abbrev pub new_held : Target → ℕ → ℕ → ℕ → ℕ → ℕ → List Held
new_held target capacity batch epoch i zero = []
new_held target capacity batch epoch i (suc n) =
    record { capacity = capacity; shard = new_shard (new_core target epoch i batch) } ∷ new_held target capacity batch epoch (suc i) n

-- what a shard sends, if there is one and it may
abbrev pub sent_at : Option Shard → Option Request
sent_at None = None
sent_at (Some s) = sent_request s

-- a reply is for this shard, if there is one and its open batch waits for it
abbrev pub replied : BatchId → ℕ → Sending → Option Shard → Sending
replied id status v None = v
replied id status v (Some s) =
    if is_answer id s.core then record v { names = names_after_reply status s.core.batch v.names; shards = change id.shard (with_core (settle (judgement_of status))) v.shards }
    else v

abbrev pub has_room_at : ℕ → Option Shard → Bool
has_room_at capacity None = false
has_room_at capacity (Some s) = has_room capacity s

-- the sample that this shard is given next
abbrev pub next_sample_at : Sending → ℕ → ℕ → ℕ → ℤ → ℕ → Labels → Shard → Placed
next_sample_at v i pos series t word l s = record {
  place = record { epoch = v.epoch; shard = i; seq = length s.put; pos = pos; series = series };
  t = t;
  word = word;
  labels = l;
}

-- a sample is put into this shard's queue, if it takes one more
abbrev pub put_to : Sending → ℕ → ℕ → ℕ → ℤ → ℕ → Labels → Option Shard → Sending
put_to v i pos series t word l None = v
put_to v i pos series t word l (Some s) =
    if has_room v.capacity s then record v { shards = change i (shard_put (next_sample_at v i pos series t word l s)) v.shards; next = pos + 1 }
    else v
