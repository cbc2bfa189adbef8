use Rattle.std.proofs.Common.{◌∙◌, ap}
use Rattle.std.specs.List.{position}
use Rattle.rw_world.specs.Guards.{may_take}
use Rattle.rw_world.specs.Held.{Held}
use Rattle.rw_world.specs.Sending.{Sending}
use Rattle.rw_world.proofs.GuardLemmas.{position_seen}
use Rattle.rw_world.proofs.shards.Shards.first_taking.Goals as goal

pub returns : goal.returns
returns c =
    let s = c.self.inside in
    c.first_taking.ensures ∙ ap (position (λ (h : Held). may_take h.shard)) c.deref.ensures.value ∙ position_seen may_take s.shards.items ∙ ap (λ (v : Sending). position may_take v.shards) c.self.view_is
