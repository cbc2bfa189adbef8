-- Inner definitions beside those of Work.antt: only invariants, private functions and
-- proofs use them.
use Rattle.std.specs.Prelude.{◌≡◌, ℕ, false, List, [], ◌∷◌, ◌++◌, Some, slice_get, ⊤}
use Rattle.rw_plain_queue.specs.declared.item.Item.{Item}
use Rattle.rw_plain_queue.specs.declared.item.Item.TheVariants as item
use Rattle.rw_plain_queue.specs.declared.item.Kind.{Kind}
use Rattle.rw_worker.specs.declared.report.TakingEnd.{TakingEnd}
use Rattle.rw_worker.specs.declared.report.TakingEnd.TheVariants as taking
use Rattle.rw_fleet.specs.ShardHistories.{ShardHistory}
use Rattle.rw_fleet.specs.declared.joined.StoppedShard.{StoppedShard}
use Rattle.rw_fleet.specs.Work.{is_resolved, IsSoft}

-- the last item is not an End
abbrev pub IsUnended : List Item → Type 0
IsUnended put = (kind : Kind) (before : List Item) → put ≡ before ++ item.End kind ∷ [] → ⊥

abbrev pub AreSoft : List ShardHistory → Type 0
AreSoft [] = ⊤
AreSoft (l ∷ ls) = IsSoft l.put × AreSoft ls

-- the worker took the End
abbrev pub IsEndTaken : TakingEnd → Type 0
IsEndTaken (taking.Ended kind d) = ⊤
IsEndTaken (taking.Killed d) = ⊥

abbrev pub HasUnresolved : {T : Type 0} → List (StoppedShard T) → Type 0
HasUnresolved {T} js = (k : ℕ) × (j : StoppedShard T) × (slice_get js k ≡ Some j) × (is_resolved j ≡ false)
