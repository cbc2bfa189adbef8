use Rattle.std.proofs.Common.{sym, subst}
use Rattle.rw_head.specs.Growth.{EachRises}
use Rattle.rw_machine.specs.Worlds.{World}
use Rattle.rw_machine.specs.Promises.{IsInOrder, IsOfPlaced, OwedRises, IsWhole, IsWholeBeforeDamage, HoldsNothingElse, IsClosedForGood, HasOneClassEach, CountsFiltered, HasOneBatchEachId, CarriesEachBatch, SendsSameBytes, NeverTakesAndRefuses, StoresResolved, HasShardLists}
use Rattle.rw_world.specs.Machine.{Machine}
use Rattle.rw_world.specs.Reached.{IsKept}
use Rattle.rw_world.proofs.world.World.promises.Goals as goal

pub returns : goal.returns
returns c =
    let m : Machine = c.self.inside.engine in
    let r = c.self.invariant in
    let es = r.events in
    let back = sym r.reached in
    let kept : IsKept m.setup m.world = record {
      in_order = subst (IsInOrder m.setup) back (c.logged_samples_arrive_in_order.ensures.in_order m.setup es);
      of_placed = subst (IsOfPlaced m.setup) back (c.logged_samples_arrive_in_order.ensures.of_placed m.setup es);
      owed_rises = subst (OwedRises m.setup) back (c.logged_samples_arrive_in_order.ensures.owed_rises m.setup es);
      rises = subst (λ (w : World). EachRises w.head.store) back (c.logged_samples_arrive_in_order.ensures.rises m.setup es);
      whole = subst (IsWhole m.setup) back (c.logged_samples_arrive_in_order.ensures.whole m.setup es);
      damaged = subst (IsWholeBeforeDamage m.setup) back (c.logged_samples_arrive_in_order.ensures.damaged m.setup es);
      nothing_else = subst (HoldsNothingElse m.setup) back (c.logged_samples_arrive_in_order.ensures.nothing_else m.setup es);
      closed = subst (IsClosedForGood m.setup) back (c.closed_queues_hand_out_nothing.ensures m.setup es);
      classes = subst (HasOneClassEach m.setup) back (c.each_sample_has_one_class.ensures.classes m.setup es);
      filtered = subst (CountsFiltered m.setup) back (c.each_sample_has_one_class.ensures.filtered m.setup es);
      refusals = record { events = es; reached = r.reached; refusals = λ others _. c.each_sample_has_one_class.ensures.refusals m.setup others };
      one_batch = subst HasOneBatchEachId back (c.each_batch_has_one_fate.ensures.one_batch m.setup es);
      bytes = subst (CarriesEachBatch m.setup) back (c.requests_carry_their_batches.ensures.bytes m.setup es);
      same_bytes = subst SendsSameBytes back (c.requests_carry_their_batches.ensures.again m.setup es);
      answers = c.answers_bytes.ensures;
      one_fate = subst (NeverTakesAndRefuses m.setup) back (c.each_batch_has_one_fate.ensures.one_fate m.setup es);
      resolved = subst (StoresResolved m.setup) back (c.each_batch_has_one_fate.ensures.resolved m.setup es);
      lists = subst (HasShardLists m.setup) back (c.shards_keep_their_lists.ensures m.setup es);
    } in
    subst (λ (x : Machine). IsKept x.setup x.world) c.self.view_is kept
