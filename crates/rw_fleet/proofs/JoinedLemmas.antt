-- Shards that have ended.
use Rattle.std.proofs.Common.{◌≡◌, ℕ, List, [], ◌∷◌, ◌++◌, map, sym, ap, ◌∙◌, subst}
use Rattle.std.proofs.lemmas.List.{map-append}
use Rattle.rw_shard_core.specs.declared.config.ConfigFields.{ConfigFields}
use Rattle.rw_worker.specs.Transcript.{Exchange}
use Rattle.rw_fleet.specs.declared.joined.StoppedShard.{StoppedShard}
use Rattle.rw_fleet.specs.ShardHistories.{ShardHistory, AreSame, AreSetUp}
use Rattle.rw_fleet.specs.Work.{IsWorked, AreWorked, lane_of}
use Rattle.rw_fleet.proofs.shared.LaneLemmas.{set_up_append, set_up_same}

module _ {T : Type 0} (tells : T → Type 0) (seen : T → List Exchange) (is_for : ℕ → ℕ → T → Type 0) where
  pub worked_push : (js : List (StoppedShard T)) (j : StoppedShard T) → AreWorked tells seen is_for js → IsWorked tells seen is_for j → AreWorked tells seen is_for (js ++ j ∷ [])
  worked_push [] j h w = (w, tt)
  worked_push (x ∷ xs) j h w = (h.0, worked_push xs j h.1 w)

module _ {T : Type 0} where
  -- each shard of the epoch got its End, and each worker ended
  pub set_up_closed : (config : ConfigFields) (was now more : List (StoppedShard T)) (current ending : List ShardHistory) → AreSetUp config (map lane_of was) → AreSetUp config current → AreSame current ending → now ≡ was ++ more → map lane_of more ≡ ending
      → AreSetUp config (map lane_of now)
  set_up_closed config was now more current ending a b same is lanes =
      subst (λ ls. AreSetUp config ls) (sym (ap (map lane_of) is ∙ map-append lane_of was more))
      (set_up_append config (map lane_of was) (map lane_of more) a (subst (AreSetUp config) (sym lanes) (set_up_same config current ending same b)))
