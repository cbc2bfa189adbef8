-- What a report lists.
use Rattle.std.specs.Prelude.{slice_get, false, ◌≡◌, ℕ, Bool, true, List, ◌∷◌, map, Some, ⊤}
use Rattle.rw_ledger.specs.Names.{Named}
use Rattle.rw_shard_core.specs.declared.outcome.Outcome.{Outcome}
use Rattle.rw_shard_core.specs.declared.outcome.Outcome.TheVariants.{Complete, Abandoned, Damaged}
use Rattle.rw_plain_queue.specs.declared.item.Kind.{Kind}
use Rattle.rw_plain_queue.specs.declared.item.Kind.TheVariants.{Orderly, Hard}
use Rattle.rw_fleet.specs.Work.{IsCut, finished_of}
use Rattle.rw_fleet.specs.declared.joined.Finished.{Finished}
pub use Rattle.rw_fleet.specs.Stopped.{part_of, abandoned_in}
use Rattle.rw_sender.specs.declared.report.Report.{Report}

-- each queue of each epoch, as its worker left it
abbrev pub workers_of : {T : Type 0} → Report T → List (Finished T)
workers_of r = map finished_of r.ended.items

-- the samples that were dropped without being put, and then for each queue its refused samples
abbrev pub parts_of : {T : Type 0} → Report T → List Named
parts_of r = r.dropped ∷ map part_of r.ended.items

-- by which End the shards are ended
abbrev pub end_kind : Bool → Kind
end_kind true = Hard
end_kind false = Orderly

abbrev pub IsAbandoned : Outcome → Type 0
IsAbandoned (Complete end) = ⊥
IsAbandoned (Abandoned placed samples) = ⊤
IsAbandoned (Damaged f) = ⊥

-- one of these queues was cut: one of its ends was gone before the other, or its worker read the
-- stop flag as set
abbrev pub ListsCut : {T : Type 0} → List (Finished T) → Type 0
ListsCut {T} fs = (k : ℕ) × (f : Finished T) × (slice_get fs k ≡ Some f) × IsCut f
