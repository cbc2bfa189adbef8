-- What is still to come of a shard while an epoch runs.
use Rattle.std.specs.Prelude.{◌≡◌, ◌⊎◌, ℕ, suc, ◌≤◌, false, List, [], ◌∷◌, ◌++◌, length, map, Option, None, Some, slice_get, ⊤}
use Rattle.std.specs.List.{AllByRecursion}
use Rattle.std.specs.Ordering.{nat_cmp}
use Rattle.std.specs.FinMap.{FinMap}
use Rattle.rw_types.specs.declared.entry.Entry.{Entry}
use Rattle.rw_types.specs.Gathering.{gather_from}
use Rattle.rw_wal_format.specs.Pieces.{Piece, entries}
use Rattle.rw_series_cache.specs.Numbers.{series_of}
use Rattle.rw_ledger.specs.declared.ledger.Reason.{Reason}
use Rattle.rw_ledger.specs.Names.{Named}
use Rattle.rw_plain_queue.specs.Items.{Placed, samples_in}
use Rattle.rw_plain_queue.specs.declared.item.Item.{Item}
use Rattle.rw_plain_queue.specs.declared.item.Item.TheVariants.{Sample, Flush, End}
use Rattle.rw_plain_queue.specs.declared.item.Kind.{Kind}
use Rattle.rw_worker.specs.Steps.{Working, working, Step, Takes, Freezes, Sends, Waits, AreSteps, after, items_of, exchanges_of}
use Rattle.rw_sender.specs.Logs.{Sent, sent_of, filtered}
use Rattle.rw_sender.specs.Placement.{as_sent, of_shard}
use Rattle.rw_machine.specs.Shards.{Shard, Queued}
use Rattle.rw_machine.specs.Worlds.{Setup, Request, World}
use Rattle.rw_simulation.specs.Freely.{Happening, IsOwn, run_freely}
use Rattle.rw_simulation.specs.WorkerRuns.{queued, IsShardNumbered, sent_bytes, request_in}
use Rattle.rw_simulation.specs.Tallies.{Past, IsTallied, requests_of}

-- its part of the ledger so far, the items that it will yet be put, the steps that its worker will
-- yet make, and what it never takes
pub record YetToCome : Type 0 where
  pub ledger : Named
  pub puts : List Item
  pub steps : List Step
  pub left : List Queued

abbrev pub StartsByTaking : List Step → Type 0
StartsByTaking [] = ⊤
StartsByTaking (Takes x ∷ ss) = ⊤
StartsByTaking (Freezes ∷ ss) = ⊥
StartsByTaking (Sends e ∷ ss) = ⊥
StartsByTaking (Waits ∷ ss) = ⊥

-- the samples among these items have this epoch and shard, and the next numbers; an End is the last
-- item
abbrev pub AreNext : ℕ → ℕ → ℕ → List Item → Type 0
AreNext epoch k n [] = ⊤
AreNext epoch k n (Sample place t word labels ∷ xs) = (place.epoch ≡ epoch) × (place.shard ≡ k) × (place.seq ≡ n) × AreNext epoch k (suc n) xs
AreNext epoch k n (Flush ∷ xs) = AreNext epoch k n xs
AreNext epoch k n (End kind ∷ xs) = xs ≡ []

-- the kind of the End that is to come
abbrev pub end_in : List Item → Option Kind
end_in [] = None
end_in (Sample place t word labels ∷ xs) = end_in xs
end_in (Flush ∷ xs) = end_in xs
end_in (End kind ∷ xs) = Some kind

-- The shard's worker has taken all that it will take of what was put: its queue is empty, or it
-- makes no more steps.
pub record IsReady (c : Setup) (k : ℕ) (s : Shard) (d : YetToCome) : Type 0 where
  pub numbered : IsShardNumbered k s.core
  pub allowed : AreSteps (working s.core d.ledger) d.steps
  pub split : s.queue ++ map queued d.puts ≡ map queued (items_of d.steps) ++ d.left
  pub eager : (s.queue ≡ []) ⊎ (d.steps ≡ [])
  pub starts : StartsByTaking d.steps
  pub within : length d.left ≤ c.capacity
  pub unended : s.end_put ≡ false
  pub running : s.core.ended ≡ false

-- what a shard comes to in its epoch: what it was put, by which End it was ended, the state of its
-- worker, what it did not take, and the requests that it sent
pub record ShardFate : Type 0 where
  pub put : List Placed
  pub end : Option Kind
  pub worker : Working
  pub left : List Queued
  pub requests : List (List ℕ)

-- on the way there, if these requests were sent in all, with these samples to come
pub record IsOnTheWay (c : Setup) (epoch k : ℕ) (requests : List Request) (s : Shard) (todo : List Sent) (f : ShardFate) : Type 0 where
  pub coming : YetToCome
  pub ready : IsReady c k s coming
  pub next : AreNext epoch k (length s.put) coming.puts
  pub sent : map as_sent (samples_in coming.puts) ≡ todo
  pub put : s.put ++ samples_in coming.puts ≡ f.put
  pub end : end_in coming.puts ≡ f.end
  pub worker : after (working s.core coming.ledger) coming.steps ≡ f.worker
  pub left : coming.left ≡ f.left
  pub epoch_is : s.core.epoch ≡ epoch
  pub requests_are : map sent_bytes (requests_of epoch k requests) ++ map request_in (exchanges_of coming.steps) ≡ f.requests

-- and these are its names so far
pub record IsOnTheWayWith (c : Setup) (epoch k : ℕ) (requests : List Request) (part : FinMap nat_cmp Reason) (s : Shard) (todo : List Sent) (f : ShardFate) : Type 0 where
  pub way : IsOnTheWay c epoch k requests s todo f
  pub part_is : way.coming.ledger.names ≡ part

-- The machine is in this epoch, of n shards: it has placed the entries `before`, those in `es` come
-- next, and each shard is on its way to its fate.
pub record IsUnderWay (c : Setup) (past : Past) (pieces : List Piece) (epoch n : ℕ) (fates : ℕ → ShardFate) (before es : List Entry) (w : World) : Type 0 where
  pub going : (w.killed ≡ false) × (w.closed ≡ None) × (w.draining ≡ None)
  pub pieces_are : w.pieces ≡ pieces
  pub epoch_is : w.epoch ≡ epoch
  pub count : length w.shards ≡ n
  pub placed : w.placed ≡ length before
  pub rest : List Entry
  pub begins : entries pieces ≡ before ++ (es ++ rest)
  pub series : w.series ≡ series_of c.choice before
  pub counted : w.filtered ≡ length (filtered c.choice before)
  pub parts : ℕ → FinMap nat_cmp Reason
  pub tallied : IsTallied c past epoch n before parts w
  pub shards : (k : ℕ) (s : Shard) → slice_get w.shards k ≡ Some s → IsOnTheWayWith c epoch k w.requests (parts k) s (of_shard n k (gather_from (sent_of c.choice) before es)) (fates k)

-- nothing is sent on the way to these fates
abbrev pub AreUnsent : (ℕ → ShardFate) → Type 0
AreUnsent fates = (k : ℕ) → (fates k).requests ≡ []

-- A free schedule leads from this world to one with this property. If it is quiet, nobody answers
-- in it.
pub record Reaches (quiet : Type 0) (c : Setup) (w : World) (P : World → Type 0) : Type 0 where
  pub events : List Happening
  pub world : World
  pub is : run_freely c events w ≡ world
  pub holds : P world
  pub own : quiet → AllByRecursion IsOwn events

-- no mark is left to be put, but for the End
abbrev pub HasOnlyEnd : List Item → Type 0
HasOnlyEnd [] = ⊤
HasOnlyEnd (Sample place t word labels ∷ xs) = ⊥
HasOnlyEnd (Flush ∷ xs) = ⊥
HasOnlyEnd (End kind ∷ xs) = xs ≡ []

-- a shard that has been put all but its End
pub record IsPutAllButEnd (c : Setup) (epoch k : ℕ) (requests : List Request) (part : FinMap nat_cmp Reason) (s : Shard) (f : ShardFate) : Type 0 where
  pub way : IsOnTheWay c epoch k requests s [] f
  pub part_is : way.coming.ledger.names ≡ part
  pub at_end : HasOnlyEnd way.coming.puts

-- and each shard of the epoch
pub record IsAllPut (c : Setup) (past : Past) (pieces : List Piece) (epoch n : ℕ) (fates : ℕ → ShardFate) (placed : List Entry) (w : World) : Type 0 where
  pub under : IsUnderWay c past pieces epoch n fates placed [] w
  pub each : (k : ℕ) (s : Shard) → slice_get w.shards k ≡ Some s → IsPutAllButEnd c epoch k w.requests (under.parts k) s (fates k)
