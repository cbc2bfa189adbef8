-- The shards of a fleet, lent.
use Rattle.std.specs.Prelude.{List}
use Rattle.std.specs.Borrow.{Lends, MutBor, Fml, Array, RattleType}
use Rattle.rw_reshard.specs.Fleets.{FleetShards, with_running}
use Rattle.rw_reshard.specs.declared.stage.FleetStage.{Ghosts}
use Rattle.rw_reshard.specs.contracts.fleet.Fleet.{the_row}

-- once the borrow ends, the shards are those that it shows last
module _ (S G : RattleType) (stage : Ghosts G.Denot) (f : MutBor (FleetShards S.Denot)) where
  abbrev pub lends_shards : MutBor (List S.Denot) → Fml
  lends_shards r = Lends (the_row S G stage) (Array S 0) f r (with_running f.now)
