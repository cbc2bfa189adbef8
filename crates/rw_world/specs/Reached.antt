-- What is known of every world, since events have brought it there.
use Rattle.std.specs.Prelude.{◌≡◌, List}
use Rattle.rw_head.specs.Growth.{EachRises}
use Rattle.rw_machine.specs.declared.event.Event.{Event}
use Rattle.rw_machine.specs.Worlds.{Setup, World, start}
use Rattle.rw_machine.specs.Steps.{run}
use Rattle.rw_machine.specs.Promises.{IsInOrder, IsOfPlaced, OwedRises, IsWhole, IsWholeBeforeDamage, HoldsNothingElse, IsClosedForGood, HasOneClassEach, CountsFiltered, NamesRefusals, HasOneBatchEachId, CarriesEachBatch, SendsSameBytes, NeverTakesAndRefuses, StoresResolved, HasShardLists}
use Rattle.rw_world.specs.Arriving.{AnswersBytes}

-- Events led to it. Whichever led to it, the statuses that are named are those of the replies among
-- them that refused a batch.
pub record NamesItsRefusals (c : Setup) (w : World) : Type 0 where
  pub events : List Event
  pub reached : w ≡ run c events (start c)
  pub refusals : (es : List Event) → w ≡ run c es (start c) → NamesRefusals c es

-- What every schedule keeps.
pub record IsKept (c : Setup) (w : World) : Type 0 where
  pub in_order : IsInOrder c w  -- a prefix of the samples of each label set has arrived
  pub of_placed : IsOfPlaced c w  -- none of them before it was placed
  pub owed_rises : OwedRises c w  -- what is owed of the placed ones rises strictly in time
  pub rises : EachRises w.head.store  -- and so does what has arrived
  pub whole : IsWhole c w  -- all of them up to the position asked for, once complete
  pub damaged : IsWholeBeforeDamage c w  -- and all before the damage of a log
  pub nothing_else : HoldsNothingElse c w
  pub closed : IsClosedForGood c w
  pub classes : HasOneClassEach c w
  pub filtered : CountsFiltered c w
  pub refusals : NamesItsRefusals c w
  pub one_batch : HasOneBatchEachId w
  pub bytes : CarriesEachBatch c w  -- what is sent is the request of a batch, as bytes
  pub same_bytes : SendsSameBytes w
  pub answers : AnswersBytes c w  -- and it is answered as the endpoint answers these bytes
  pub one_fate : NeverTakesAndRefuses c w
  pub resolved : StoresResolved c w
  pub lists : HasShardLists c w
