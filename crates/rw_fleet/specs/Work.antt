-- What a shard did, once its worker's thread has ended.
use Rattle.std.specs.Prelude.{◌≡◌, ◌⊎◌, ℕ, ◌+◌, ◌≤◌, ◌==◌, ◌&&◌, Bool, true, false, List, [], ◌∷◌, ◌++◌, length, map, drop, Option, Some, None, IsSome, slice_get, vec_capacity, ⊤}
use Rattle.rw_types.specs.declared.place.Place.{Place}
use Rattle.rw_plain_queue.specs.Items.{places_in}
use Rattle.rw_plain_queue.specs.History.{IsHistory, IsEnded}
use Rattle.rw_plain_queue.specs.declared.item.Item.{Item}
use Rattle.rw_plain_queue.specs.declared.item.Item.TheVariants as item
use Rattle.rw_plain_queue.specs.declared.item.Kind.{Kind}
use Rattle.rw_plain_queue.specs.declared.item.Kind.TheVariants.{Hard}
use Rattle.rw_types.specs.Beginnings.{Begins}
use Rattle.rw_shard_queue.specs.Ends.{Feeding, QueueId}
use Rattle.rw_worker.specs.Report.{IsReport, drain_of}
use Rattle.rw_worker.specs.Transcript.{Exchange}
use Rattle.rw_worker.specs.declared.report.TakingEnd.{TakingEnd}
use Rattle.rw_worker.specs.declared.report.TakingEnd.TheVariants as taking
use Rattle.rw_fleet.specs.ShardHistories.{ShardHistory}
use Rattle.rw_fleet.specs.declared.ends.Fed.{Fed}
use Rattle.rw_fleet.specs.declared.ends.Fed.TheVariants as fed
use Rattle.rw_fleet.specs.declared.ends.Ends.{Ends}
use Rattle.rw_fleet.specs.declared.ends.Ends.TheVariants.{Compared, Apart}
use Rattle.rw_fleet.specs.declared.joined.Finished.{Finished}
use Rattle.rw_fleet.specs.declared.joined.StoppedShard.{StoppedShard}

abbrev pub feeding : Fed → Feeding
feeding (fed.Open f) = f
feeding (fed.Ended f) = f

abbrev pub queue_of_ends : Ends → QueueId
queue_of_ends (Compared w) = w.queue
queue_of_ends (Apart f end) = (feeding f).queue

abbrev pub put_of : Ends → List Item
put_of (Compared w) = w.items
put_of (Apart f end) = (feeding f).put

abbrev pub taken_of : Ends → List Item
taken_of (Compared w) = w.items
taken_of (Apart f end) = (drain_of end).taken

-- what was taken is a prefix of what was put
abbrev pub IsTakenOf : Ends → Type 0
IsTakenOf ends = Begins (taken_of ends) (put_of ends)

-- the positions of the samples among items
abbrev pub positions_in : List Item → List ℕ
positions_in items = map (λ (p : Place). p.pos) (places_in items)

abbrev pub lane_of : {T : Type 0} → StoppedShard T → ShardHistory
lane_of j = record { setup = j.worker.value; put = put_of j.finished.ends }

abbrev pub is_compared : Ends → Bool
is_compared (Compared w) = true
is_compared (Apart f end) = false

-- one of the ends was gone before the other: no End could be put, or it was not taken
abbrev pub IsApart : Ends → Type 0
IsApart (Compared w) = ⊥
IsApart (Apart (fed.Open f) end) = ⊤
IsApart (Apart (fed.Ended f) (taking.Ended kind d)) = ⊥
IsApart (Apart (fed.Ended f) (taking.Killed d)) = ⊤

-- all that was put was taken, and is resolved
abbrev pub is_resolved : {T : Type 0} → StoppedShard T → Bool
is_resolved j = is_compared j.finished.ends && (length j.abandoned.items == 0)

-- the last item is not an End at which nothing more is sent
abbrev pub IsSoft : List Item → Type 0
IsSoft put = (before : List Item) → put ≡ before ++ item.End Hard ∷ [] → ⊥

-- if the last item is an End, it is of this kind
abbrev pub IsEndedBy : Kind → List Item → Type 0
IsEndedBy kind put = (other : Kind) (before : List Item) → put ≡ before ++ item.End other ∷ [] → other ≡ kind

-- and the same in each of these queues
abbrev pub AreEndedBy : Kind → List (List Item) → Type 0
AreEndedBy kind [] = ⊤
AreEndedBy kind (put ∷ puts) = IsEndedBy kind put × AreEndedBy kind puts

abbrev pub put_by : {T : Type 0} → Finished T → List Item
put_by f = put_of f.ends

abbrev pub finished_of : {T : Type 0} → StoppedShard T → Finished T
finished_of j = j.finished

-- A shard's ends and counts are what a worker of this queue reported, over a transport that was
-- made for it and had recorded nothing. The samples after those resolved are abandoned: at most as
-- many as the queue holds, and a batch. What was put went through the queue in order, and what was
-- left in it fits it; if the ends were compared an End came last. A shard that left nothing keeps
-- no room for what it might have left.
pub record IsWorked {T : Type 0} (tells : T → Type 0) (seen : T → List Exchange) (is_for : ℕ → ℕ → T → Type 0) (j : StoppedShard T) : Type 0 where
  pub begun : T
  pub end : TakingEnd
  pub gone : Option ℕ
  pub none : seen begun ≡ []
  pub made : is_for j.worker.value.queue.epoch j.worker.value.queue.shard begun
  pub queue : queue_of_ends j.finished.ends ≡ j.worker.value.queue
  pub taken : taken_of j.finished.ends ≡ (drain_of end).taken
  pub begins : IsTakenOf j.finished.ends
  pub report : IsReport tells seen j.worker.value begun (record { end = end; resolved = j.finished.resolved; stopped = j.finished.stopped; gone = gone; ledger = j.part; transport = j.finished.transport })
  pub abandoned : j.abandoned.items ≡ drop j.finished.resolved (positions_in (put_of j.finished.ends))
  pub few : length j.abandoned.items ≤ j.worker.value.queue.capacity + j.worker.value.batch
  pub freed : length j.abandoned.items ≡ 0 → vec_capacity j.abandoned ≡ 0
  pub apart : is_compared j.finished.ends ≡ false → IsApart j.finished.ends
  pub within : length (put_of j.finished.ends) ≤ length (taken_of j.finished.ends) + j.worker.value.queue.capacity
  pub history : IsHistory j.worker.value.queue.epoch j.worker.value.queue.shard (put_of j.finished.ends)
  pub last : is_compared j.finished.ends ≡ true → IsEnded (taken_of j.finished.ends)
  pub done : is_compared j.finished.ends ≡ true → j.finished.stopped ≡ None → IsSoft (put_of j.finished.ends) → is_resolved j ≡ true

abbrev pub AreWorked : {T : Type 0} → (T → Type 0) → (T → List Exchange) → (ℕ → ℕ → T → Type 0) → List (StoppedShard T) → Type 0
AreWorked tells seen is_for [] = ⊤
AreWorked tells seen is_for (j ∷ js) = IsWorked tells seen is_for j × AreWorked tells seen is_for js

abbrev pub AreResolved : {T : Type 0} → List (StoppedShard T) → Type 0
AreResolved {T} js = (k : ℕ) (j : StoppedShard T) → slice_get js k ≡ Some j → is_resolved j ≡ true

-- one of the ends was gone before the other, or the worker read the stop flag as set
abbrev pub IsCut : {T : Type 0} → Finished T → Type 0
IsCut f = IsApart f.ends ⊎ IsSome f.stopped

-- one of these queues was cut
abbrev pub HasCut : {T : Type 0} → List (StoppedShard T) → Type 0
HasCut {T} js = (k : ℕ) × (j : StoppedShard T) × (slice_get js k ≡ Some j) × IsCut j.finished
