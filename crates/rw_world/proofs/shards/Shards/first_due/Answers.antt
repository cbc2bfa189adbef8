use Rattle.std.proofs.Common.{◌∙◌, ap}
use Rattle.std.specs.List.{position}
use Rattle.rw_world.specs.Guards.{is_ready}
use Rattle.rw_world.specs.Held.{Held}
use Rattle.rw_world.specs.Sending.{Sending}
use Rattle.rw_world.proofs.GuardLemmas.{position_seen}
use Rattle.rw_world.proofs.shards.Shards.first_due.Goals as goal

pub returns : goal.returns
returns c =
    let s = c.self.inside in
    c.first_due.ensures ∙ ap (position (λ (h : Held). is_ready h.shard)) c.deref.ensures.value ∙ position_seen is_ready s.shards.items ∙ ap (λ (v : Sending). position is_ready v.shards) c.self.view_is
