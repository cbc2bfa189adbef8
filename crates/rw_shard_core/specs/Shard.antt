-- One shard of a sender after its queue: what it took, its builder and its open batch
-- (Remote-Write 1.0, "Ordering" and "Retries & backoff").
use Rattle.std.specs.Prelude.{◌≡◌, ℕ, ℤ, ◌+◌, ◌-◌, ◌<◌, ◌≤◌, List, [], ◌∷◌, ◌++◌, length, map, Bool, true, false, not, ◌&&◌, ◌||◌, ◌==◌, nat_le, Option, None, Some, Ok, All, IfSome, if◌then◌else◌, ⊤}
use Rattle.std.specs.Ordering.{nat_cmp}
use Rattle.std.specs.FinMap.{FinMap, get, insert}
use Rattle.rw_ledger.specs.Names.{Named}
use Rattle.rw_ledger.specs.declared.ledger.Reason.{Reason}
use Rattle.rw_ledger.specs.declared.ledger.Reason.TheVariants as Why
use Rattle.rw_retry.specs.Judgements.{judgement_of}
use Rattle.rw_retry.specs.declared.judgement.Judgement.{Judgement}
use Rattle.rw_retry.specs.declared.judgement.Judgement.TheVariants.{Done, Again, Refused}
use Rattle.rw_plain_queue.specs.Items.{Placed}
use Rattle.rw_plain_queue.specs.declared.item.Item.{Item}
use Rattle.rw_plain_queue.specs.declared.item.Item.TheVariants.{Sample, Flush, End}
use Rattle.rw_batch.specs.Batches.{id_of}
use Rattle.rw_batch.specs.Grouping.{LabelledSample, message}
use Rattle.rw_batch.specs.declared.batch.BatchId.{BatchId}
use Rattle.rw_types.specs.Labels.{Labels}
use Rattle.rw_types.specs.declared.place.Place.{Place}
use Rattle.rw_write_request.specs.Canon.{canon}
use Rattle.rw_write_request.specs.Read.{read}
use Rattle.rw_shard_core.specs.SentRequest.{request_of}
use Rattle.rw_shard_core.specs.declared.config.Target.{Target}
use Rattle.rw_shard_core.specs.declared.shard.Attempt.{Attempt}

-- No open batch is empty.
pub record Core : Type 0 where
  pub target : Target
  pub epoch : ℕ
  pub shard : ℕ
  pub full : ℕ  -- the samples of a full builder
  pub taken : List Placed
  pub resolved : List Placed
  pub builder : List Placed
  pub marked : Bool  -- a mark was taken while the builder was not empty
  pub batch : List Placed
  pub waiting : Bool  -- an attempt to send the open batch is under way
  pub ended : Bool  -- its End was taken
  pub killed : Bool

-- before anything was taken
abbrev pub new_core : Target → ℕ → ℕ → ℕ → Core
new_core target epoch shard full = record {
  target = target;
  epoch = epoch;
  shard = shard;
  full = full;
  taken = [];
  resolved = [];
  builder = [];
  marked = false;
  batch = [];
  waiting = false;
  ended = false;
  killed = false;
}

abbrev pub is_empty : {X : Type 0} → List X → Bool
is_empty [] = true
is_empty (x ∷ xs) = false

abbrev pub places_of : List Placed → List Place
places_of xs = map (λ (x : Placed). x.place) xs

abbrev pub positions_of : List Place → List ℕ
positions_of ps = map (λ (p : Place). p.pos) ps

abbrev pub positions : List Placed → List ℕ
positions xs = positions_of (places_of xs)

-- the sample with its labels
abbrev pub labelled : Placed → LabelledSample
labelled x = record { labels = x.labels; sample = (x.word, x.t) }

-- the body of a batch: the canonical spelling of the message that groups its samples by label set
unfoldable pub body_of : List Placed → List ℕ
body_of xs = canon (message (map labelled xs))

-- a receiver reads this body as that message
abbrev pub IsReadAgain : List Placed → Type 0
IsReadAgain xs = read (body_of xs) ≡ Ok (message (map labelled xs))

-- its id: the epoch, the shard and the number of its first sample
abbrev pub batch_id : List Placed → BatchId
batch_id xs = id_of (places_of xs)

-- taken and not resolved
abbrev pub pending : Core → List Placed
pending c = c.batch ++ c.builder

-- a full builder, or one that a mark closed
abbrev pub is_due : Core → Bool
is_due c = nat_le c.full (length c.builder) || c.marked

-- Take: the guard, but that something is in the queue
abbrev pub can_take : Core → Bool
can_take c = not c.killed && (is_empty c.batch && not (is_due c))

abbrev pub placed : Place → ℤ → ℕ → Labels → Placed
placed place t word labels = record { place = place; t = t; word = word; labels = labels }

-- a mark closes a builder that is not empty
abbrev pub mark : Core → Core
mark c = record c { marked = not (is_empty c.builder) }

-- Take: a sample goes into the builder
abbrev pub take_sample : Placed → Core → Core
take_sample x c = record c { taken = c.taken ++ x ∷ []; builder = c.builder ++ x ∷ [] }

-- Take: an End closes it, and ends the shard
abbrev pub take_end : Core → Core
take_end c = record (mark c) { ended = true }

-- Take
abbrev pub take_item : Item → Core → Core
take_item (Sample place t word labels) c = take_sample (placed place t word labels.value) c
take_item Flush c = mark c
take_item (End kind) c = take_end c

abbrev pub last_sample : List Placed → Option Placed
last_sample [] = None
last_sample (x ∷ []) = Some x
last_sample (x ∷ y ∷ ys) = last_sample (y ∷ ys)

-- a sample has this shard's next number and a later position
abbrev pub IsNext : Placed → Placed → Type 0
IsNext x y = (y.place.seq ≡ x.place.seq + 1) × (x.place.pos < y.place.pos)

-- what may be taken: a mark, or a sample that names this shard of this epoch and is the next one
abbrev pub MayTake : Item → Core → Type 0
MayTake (Sample place t word labels) c =
    (place.epoch ≡ c.epoch) × (place.shard ≡ c.shard)
    × IfSome (last_sample c.taken) (λ x. IsNext x (placed place t word labels.value))
MayTake Flush c = ⊤
MayTake (End kind) c = ⊤

-- Freeze: the guard
abbrev pub can_freeze : Core → Bool
can_freeze c = not c.killed && (is_empty c.batch && not (is_empty c.builder))

-- Freeze: the builder becomes the open batch, for whose samples the ledger gets room
abbrev pub freeze : Core → Core
freeze c = if can_freeze c then record c { builder = []; marked = false; batch = c.builder; waiting = false } else c

abbrev pub freeze_room : Core → Named → Named
freeze_room c l = if can_freeze c then record l { room = l.room + length c.builder } else l

-- Send: the guard
abbrev pub can_send : Core → Bool
can_send c = not c.killed && (not (is_empty c.batch) && not c.waiting)

-- Send: an attempt is under way
abbrev pub send : Core → Core
send c = if can_send c then record c { waiting = true } else c

-- the request of the open batch
abbrev pub request_for : Core → List ℕ
request_for c = request_of c.target.host c.target.path (body_of c.batch)

abbrev pub attempt_for : Core → Attempt
attempt_for c = record { id = batch_id c.batch; request = request_for c }

-- Lost, and a reply except for its id: the guard
abbrev pub awaits : Core → Bool
awaits c = not c.killed && (not (is_empty c.batch) && c.waiting)

-- the attempt is over, and the batch stays open
abbrev pub again : Core → Core
again c = record c { waiting = false }

-- Lost
abbrev pub lose : Core → Core
lose c = if awaits c then again c else c

-- the open batch is resolved
abbrev pub resolve : Core → Core
resolve c = record c { resolved = c.resolved ++ c.batch; batch = []; waiting = false }

abbrev pub same_id : BatchId → BatchId → Bool
same_id a b = (a.epoch == b.epoch && a.shard == b.shard) && a.seq == b.seq

-- Reply: the guard. It is a reply to the open batch, which is waiting
abbrev pub is_answer : BatchId → Core → Bool
is_answer id c = awaits c && same_id id (batch_id c.batch)

-- a batch that is done or refused is resolved, any other is sent again
abbrev pub settle : Judgement → Core → Core
settle Done c = resolve c
settle Refused c = resolve c
settle Again c = again c

-- Reply: the shard
abbrev pub reply : BatchId → ℕ → Core → Core
reply id status c = if is_answer id c then settle (judgement_of status) c else c

-- all these positions are named with a status
abbrev pub name_all : ℕ → List ℕ → FinMap nat_cmp Reason → FinMap nat_cmp Reason
name_all status [] names = names
name_all status (p ∷ ps) names = name_all status ps (insert names p (Why.Status status))

-- a batch that is done gives its room back, and one that is refused uses it for the names of its
-- samples
abbrev pub settle_names : Judgement → ℕ → List Placed → Named → Named
settle_names Done status batch l = record l { room = l.room - length batch }
settle_names Refused status batch l = record { names = name_all status (positions batch) l.names; room = l.room - length batch }
settle_names Again status batch l = l

-- Reply: the ledger
abbrev pub reply_names : BatchId → ℕ → Core → Named → Named
reply_names id status c l = if is_answer id c then settle_names (judgement_of status) status c.batch l else l

-- the ledger has room for each sample of the open batch, and names none of them
pub record HasRoomFor (c : Core) (l : Named) : Type 0 where
  pub room : length c.batch ≤ l.room
  pub unnamed : All (λ p. get l.names p ≡ None) (positions c.batch)

-- nothing more is taken, sent or resolved
abbrev pub kill : Core → Core
kill c = record c { killed = true }

-- each sample is the one after the sample before it
abbrev pub AreInRow : List Placed → Type 0
AreInRow [] = ⊤
AreInRow (x ∷ []) = ⊤
AreInRow (x ∷ y ∷ ys) = IsNext x y × AreInRow (y ∷ ys)

-- What is true of each core: what was taken is what was resolved, and then the open batch or the
-- builder.
pub record IsCore (c : Core) : Type 0 where
  pub whole : c.taken ≡ c.resolved ++ pending c
  pub one : (is_empty c.batch || is_empty c.builder) ≡ true
  pub named : All (λ (x : Placed). (x.place.epoch ≡ c.epoch) × (x.place.shard ≡ c.shard)) c.taken
  pub in_row : AreInRow c.taken
  pub builder_fits : length c.builder ≤ c.full
  pub batch_fits : length c.batch ≤ c.full
