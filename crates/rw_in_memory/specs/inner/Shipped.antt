-- Inner definitions beside those of Shipped.antt: only invariants, private functions and
-- proofs use them.
use Rattle.std.specs.Prelude.{◌≡◌, true, ℕ, ◌≤◌, List, ◌++◌, length, map, take, Result, OnOk}
use Rattle.rw_types.specs.Requests.{is_host_name}
use Rattle.rw_shard_core.specs.declared.config.ConfigFields.{ConfigFields}
use Rattle.rw_sender.specs.Placement.{IsShardCount}
use Rattle.rw_wal_tail.specs.Fed.{piece_of}
use Rattle.rw_wal_tail.specs.declared.piece.Piece.{Piece}
use Rattle.rw_sender.specs.Shipping.{Shipping, Feeds}
use Rattle.rw_sender.specs.declared.shipper.FeedFault.{FeedFault}

-- what the types of a configuration's fields say
pub record IsSound (config : ConfigFields) : Type 0 where
  pub host : is_host_name config.target.host ≡ true
  pub shards : IsShardCount config.shards
  pub capacity : 1 ≤ config.capacity
  pub batch : 1 ≤ config.batch

-- A shipper was fed the first pieces of a log: all of them, unless it failed or came to the fault
-- of the log. Of its shards only what they were put has changed.
pub record HasFed {T : Type 0} (old new : Shipping T) (log : List Piece) (answer : Result (Unit {0}) FeedFault) : Type 0 where
  pub fed : ℕ
  pub pieces : new.log.pieces ≡ old.log.pieces ++ map piece_of (take fed log)
  pub whole : OnOk answer (length log ≤ fed)
  pub feeds : Feeds new answer
  pub choice : new.log.choice ≡ old.log.choice
  pub labels : new.log.labels ≡ old.log.labels
  pub fleet : new.fleet ≡ record old.fleet { current = new.fleet.current }
  pub len : length new.fleet.current ≡ length old.fleet.current
