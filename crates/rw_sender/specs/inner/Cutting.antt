-- Inner definitions beside those of Cutting.antt: only invariants, private functions and
-- proofs use them.
use Rattle.std.specs.Prelude.{◌≡◌, ℕ, ◌≤◌, List, length, Option, Some, None, Bool, true, false, set, slice_get, slice_index, ⊤}
use Rattle.rw_sender.specs.Marking.{is_over_mark, open_bytes}
use Rattle.rw_sender.specs.inner.Marking.{room_in}
use Rattle.rw_sender.specs.Rooms.{Counting, Counts}
use Rattle.rw_fleet.specs.ShardHistories.{ShardHistory, marked}
use Rattle.rw_sender.specs.Cutting.{AreCutBy}

-- what each shard may still be put before a mark is what its queue says
pub record IsCounted (limit : ℕ) (rooms : List ℕ) (lanes : List ShardHistory) : Type 0 where
  pub few : length lanes ≤ 1000
  pub rooms_are : (k : ℕ) (l : ShardHistory) → slice_get lanes k ≡ Some l → slice_index rooms k ≡ room_in limit l.put

abbrev pub AreCounted : Option ℕ → List ℕ → List ShardHistory → Type 0
AreCounted None rooms lanes = ⊤
AreCounted (Some limit) rooms lanes = IsCounted limit rooms lanes

-- the queues were put samples that are cut by the limit, and these are counted
pub record GoesCut (old new : Counting) (was now : List ShardHistory) : Type 0 where
  pub cut : AreCutBy old.limit was now
  pub counted : AreCounted new.limit new.rooms now

-- one shard was put a Flush if that is asked for
abbrev pub IsCutAt : Bool → ℕ → ShardHistory → List ShardHistory → List ShardHistory → Type 0
IsCutAt true k was old new = new ≡ set old k (marked was)
IsCutAt false k was old new = new ≡ old

-- a sample of this many bytes is counted for the shard numbered k, which was put a Flush if the
-- sample does not fit
pub record HasRoomMade (k bytes : ℕ) (old new : Counting) (was now : List ShardHistory) : Type 0 where
  pub lane : ShardHistory
  pub at : slice_get was k ≡ Some lane
  pub over : Bool
  pub over_is : over ≡ is_over_mark old.limit (open_bytes lane.put) bytes
  pub cut : IsCutAt over k lane was now
  pub counts : Counts old.limit k bytes old.rooms new.rooms over
