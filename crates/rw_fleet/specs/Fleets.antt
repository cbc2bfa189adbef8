-- The shards of all epochs.
use Rattle.std.specs.Prelude.{◌≡◌, ℕ, ◌+◌, List, [], ◌++◌, length, map, drop}
use Rattle.rw_shard_core.specs.declared.config.ConfigFields.{ConfigFields}
use Rattle.rw_fleet.specs.ShardHistories.{ShardHistory, AreSame}
use Rattle.rw_fleet.specs.Work.{AreEndedBy, lane_of, put_by, finished_of}
use Rattle.rw_fleet.specs.declared.joined.StoppedShard.{StoppedShard}
use Rattle.rw_fleet.specs.declared.joined.Finished.{Finished}
use Rattle.rw_plain_queue.specs.declared.item.Kind.{Kind}
use Rattle.rw_plain_queue.specs.declared.item.Kind.TheVariants.{Reshard}

-- how the workers are set up, the epoch, the shards at work, and those that have ended, oldest
-- first
pub record Shards (T : Type 0) : Type 0 where
  pub config : ConfigFields
  pub epoch : ℕ
  pub current : List ShardHistory
  pub ended : List (StoppedShard T)

-- the shards that had ended, and then each one that was at work, with the samples that it was put
abbrev pub AreAll : {T : Type 0} → Shards T → List (StoppedShard T) → Type 0
AreAll {T} s joined = (more : List (StoppedShard T)) × (joined ≡ s.ended ++ more) × AreSame s.current (map lane_of more)

-- each shard that was at work and was put an End was put one of this kind
abbrev pub EndBy : {T : Type 0} → Kind → Shards T → List (Finished T) → Type 0
EndBy kind s finished = AreEndedBy kind (drop (length s.ended) (map put_by finished))

-- all shards at work have ended by an End that asks for all that was put, and the next epoch has
-- none yet
abbrev pub HasClosed : {T : Type 0} → Shards T → Shards T → Type 0
HasClosed old new = (new.config ≡ old.config) × (new.epoch ≡ old.epoch + 1) × (new.current ≡ []) × AreAll old new.ended × EndBy Reshard old (map finished_of new.ended)
