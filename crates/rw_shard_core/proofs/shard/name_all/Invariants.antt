use Rattle.std.proofs.Common.{◌≡◌, ◌+◌, ◌<◌, drop, All, None}
use Rattle.std.specs.FinMap.{get}
use Rattle.rw_shard_core.specs.Shard.{positions_of, name_all}
use Rattle.rw_types.specs.Rising.{Rises}
use Rattle.rw_shard_core.proofs.shard.name_all.Given as goal

abbrev pub invariant-loop-place : goal.invariant-loop-place
invariant-loop-place l =
    let left = drop l.place-index (positions_of l.places) in
    record {
      names : name_all l.status left l.ledger.names ≡ name_all l.status (positions_of l.places) l.initial.ledger.names;
      room : l.ledger.room + l.place-index ≡ l.initial.ledger.room;
      unnamed : All (λ p. get l.ledger.names p ≡ None) left;
      rising : Rises (λ p q. p < q) left;
    }
