use Rattle.std.proofs.Common.{◌≡◌, ℕ, ◌<◌, None, get_or}
use Rattle.std.specs.FinMap.{get}
use Rattle.rw_shard_core.specs.Shard.{positions_of}
use Rattle.rw_shard_core.proofs.shard.are_unnamed.Given as goal

abbrev pub invariant-loop-place : goal.invariant-loop-place
invariant-loop-place l = (k d : ℕ) → k < l.place-index → get l.ledger.names (get_or (positions_of l.places) k d) ≡ None
