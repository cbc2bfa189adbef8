use Rattle.rw_types.specs.declared.place.Place.{Place}
use Rattle.std.proofs.Common.{map, refl, sym, ap, ◌∙◌}
use Rattle.rw_shard_queue.specs.Ends.{QueueId}
use Rattle.rw_fleet.proofs.PutLemmas.{places_mark}
use Rattle.rw_fleet.proofs.SoftLemmas.{unended_push}
use Rattle.rw_fleet.proofs.running_shard.RunningShard.mark.Goals as goal

pub invariant_of-self-2 : goal.invariant_of-self-2
invariant_of-self-2 g c =
    let i = c.self.invariant in
    let queue = sym c.put.ensures.queue.0 in
    (i.0 ∙ sym (ap (map (λ (p : Place). p.pos)) (places_mark _ _ _ c.in_default.ensures.put refl)), i.1 ∙ ap (λ (q : QueueId). q.epoch) queue, i.2 ∙ ap (λ (q : QueueId). q.shard) queue, i.3 ∙ queue, i.4, i.5, unended_push _ _ _ c.in_default.ensures.put refl, i.7, i.8)
