-- The shards of the last epoch.
use Rattle.std.proofs.Common.{◌≡◌, ◌⊎◌, inl, inr, ◌≤◌, List, [], ◌∷◌, length, refl, sym, ap, subst, arith}
use Rattle.std.proofs.lemmas.Option.{none-some}
use Rattle.rw_sender.specs.Feeders.{Sorting}
use Rattle.rw_fleet.specs.ShardHistories.{ShardHistory}
use Rattle.rw_fleet.specs.Work.{AreResolved}
use Rattle.rw_fleet.specs.Fleets.{Shards, AreAll}
use Rattle.rw_fleet.specs.declared.joined.StoppedShard.{StoppedShard}
use Rattle.rw_sender.specs.Placement.{IsShardCount}
use Rattle.rw_sender.specs.Shipping.{Shipping, HasCompared, PlacesAll}
use Rattle.rw_send.specs.Steps.{HasLastEpoch, IsNextEpoch, StaysOpen}

-- no shard has ended
pub none_ended : {T : Type 0} (js : List (StoppedShard T)) → js ≡ [] → AreResolved js
none_ended {T} js none = subst AreResolved (sym none) (λ k j at. absurd (none-some j at))

pub last_same : {T : Type 0} (s : Shipping T) → AreResolved s.fleet.ended → IsShardCount (length s.fleet.current) → HasLastEpoch s
last_same s done number = record { before = s.fleet; resolved = done; some = number.0; few = λ h. h; is = inl refl }

pub still_resolved : {T : Type 0} (old new : Shipping T) → StaysOpen old new → AreResolved old.fleet.ended → AreResolved new.fleet.ended
still_resolved {T} old new stays done = subst AreResolved (sym (ap (λ (f : Shards T). f.ended) stays.fleet)) done

pub still_some : {T : Type 0} (old new : Shipping T) → StaysOpen old new → IsShardCount (length old.fleet.current) → IsShardCount (length new.fleet.current)
still_some old new stays number = subst IsShardCount (sym stays.shards) number

pub last_stays : {T : Type 0} (old new : Shipping T) → StaysOpen old new → AreResolved old.fleet.ended → IsShardCount (length old.fleet.current) → HasLastEpoch new
last_stays old new stays done number = last_same new (still_resolved old new stays done) (still_some old new stays number)

-- the number of shards was changed
pub next_resolved : {T : Type 0} (old new : Shipping T) → (new ≡ old) ⊎ IsNextEpoch old.fleet new.fleet → AreResolved old.fleet.ended → AreResolved new.fleet.ended
next_resolved {T} old new (inl same) done = subst AreResolved (sym (ap (λ (s : Shipping T). s.fleet.ended) same)) done
next_resolved old new (inr next) done = next.resolved

-- or could not be changed
last_closed : {T : Type 0} (old new : Shipping T) → AreResolved old.fleet.ended → IsShardCount (length old.fleet.current) → PlacesAll old.log old.fleet → new.log ≡ old.log → AreAll old.fleet new.fleet.ended
    → new.fleet.current ≡ [] → HasLastEpoch new
last_closed old new done number placed log all none = record {
  before = old.fleet;
  resolved = done;
  some = number.0;
  few = λ _. number.1;
  is = inr (none, all, subst (λ (l : Sorting). PlacesAll l old.fleet) (sym log) placed);
}

last_begun : {T : Type 0} (old new : Shipping T) (lanes : List ShardHistory) → new.fleet.current ≡ lanes → AreResolved old.fleet.ended → IsShardCount (length old.fleet.current) → PlacesAll old.log old.fleet → new.log ≡ old.log
    → AreAll old.fleet new.fleet.ended → AreResolved new.fleet.ended → HasLastEpoch new
last_begun old new [] are done number placed log all resolved = last_closed old new done number placed log all are
last_begun old new (lane ∷ lanes) are done number placed log all resolved =
    record { before = new.fleet; resolved = resolved; some = omega (arith, ap length are); few = λ h. h; is = inl refl }

pub last_compared : {T : Type 0} (old new : Shipping T) → AreResolved old.fleet.ended → IsShardCount (length old.fleet.current) → PlacesAll old.log old.fleet → new.log ≡ old.log
    → (new.fleet ≡ old.fleet) ⊎ HasCompared old.fleet new.fleet → HasLastEpoch new
last_compared {T} old new done number placed log (inl same) =
    last_same new (subst (λ (f : Shards T). AreResolved f.ended) (sym same) done) (subst (λ (f : Shards T). IsShardCount (length f.current)) (sym same) number)
last_compared old new done number placed log (inr (all, by, inl none)) = last_closed old new done number placed log all none
last_compared old new done number placed log (inr (all, by, inr (resolved, fresh))) = last_begun old new new.fleet.current refl done number placed log all resolved

-- if there are shards
pub compared_resolved : {T : Type 0} (old new : Shipping T) → (new.fleet ≡ old.fleet) ⊎ HasCompared old.fleet new.fleet → 1 ≤ length new.fleet.current → AreResolved old.fleet.ended → AreResolved new.fleet.ended
compared_resolved {T} old new (inl same) some done = subst (λ (f : Shards T). AreResolved f.ended) (sym same) done
compared_resolved old new (inr (all, by, inl none)) some done = let no : ⊥ = omega (arith, ap length none, some) in absurd no
compared_resolved old new (inr (all, by, inr (resolved, fresh))) some done = resolved
