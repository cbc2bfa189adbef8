-- Inner definitions beside those of Reports.antt: only invariants, private functions and
-- proofs use them.
use Rattle.std.specs.Global.{Global}
use Rattle.std.specs.Prelude.{false, ◌≡◌, ◌≤◌, ◌+◌, ◌*◌, ℕ, List, length, map, Vec, vec_len, vec_capacity, Option, Some, None}
use Rattle.rw_wal_format.specs.declared.tail_fault.TailFault.{TailFault}
use Rattle.rw_shard_core.specs.declared.outcome.Outcome.{Outcome}
use Rattle.rw_shard_core.specs.declared.outcome.Outcome.TheVariants.{Complete, Abandoned, Damaged}
use Rattle.rw_worker.specs.Transcript.{Exchange}
use Rattle.rw_fleet.specs.ShardHistories.{AreSetUp}
use Rattle.rw_plain_queue.specs.declared.item.Kind.{Kind}
use Rattle.rw_worker.specs.Report.{is_hard}
use Rattle.rw_fleet.specs.Work.{lane_of, finished_of, AreResolved, AreWorked, HasCut}
use Rattle.rw_fleet.specs.Fleets.{Shards, AreAll, EndBy}
use Rattle.rw_fleet.specs.Loads.{window_of}
use Rattle.rw_fleet.specs.declared.joined.Resolution.{Resolution}
use Rattle.rw_fleet.specs.declared.joined.Resolution.TheVariants.{All, NotAll}
use Rattle.rw_fleet.specs.Stopped.{StoppedList, abandoned_in}

-- nothing is listed, and there is room for all samples that are not resolved
abbrev pub IsRoomFor : {T : Type 0} → Shards T → Vec ℕ Global → Type 0
IsRoomFor s samples = (vec_len samples ≡ 0) × (length (abandoned_in s.ended) + length s.current * window_of s.config ≤ vec_capacity samples)

-- All shards have ended, those at work by this End, and the samples that are not resolved are
-- listed.
pub record HasListed {T : Type 0} (tells : T → Type 0) (seen : T → List Exchange) (is_for : ℕ → ℕ → T → Type 0) (s : Shards T) (ended : StoppedList T) (listed : List ℕ) (kind : Kind) (resolution : Resolution) : Type 0 where
  pub all : AreAll s ended.items
  pub worked : AreWorked tells seen is_for ended.items
  pub setup : AreSetUp s.config (map lane_of ended.items)
  pub samples : listed ≡ abandoned_in ended.items
  pub resolved : resolution ≡ All → AreResolved ended.items
  pub cut : is_hard kind ≡ false → resolution ≡ NotAll → HasCut ended.items
  pub by : EndBy kind s (map finished_of ended.items)
  pub folded : ended.folded ≤ length s.ended

-- how a log that was read to its end, or to its fault, has ended
abbrev pub end_of : ℕ → Option TailFault → Outcome
end_of placed None = Complete placed
end_of placed (Some f) = Damaged f

-- the work was stopped with this many entries placed, and these samples not resolved
abbrev pub IsAbandonedAt : ℕ → List ℕ → Outcome → Type 0
IsAbandonedAt placed positions (Complete end) = ⊥
IsAbandonedAt placed positions (Abandoned entries samples) = (entries ≡ placed) × (samples.items ≡ positions)
IsAbandonedAt placed positions (Damaged f) = ⊥
