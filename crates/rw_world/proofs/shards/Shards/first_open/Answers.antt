use Rattle.std.proofs.Common.{◌∙◌, ap}
use Rattle.std.specs.List.{position}
use Rattle.rw_world.specs.Guards.{is_open}
use Rattle.rw_world.specs.Held.{Held}
use Rattle.rw_world.specs.Sending.{Sending}
use Rattle.rw_world.proofs.GuardLemmas.{position_seen}
use Rattle.rw_world.proofs.shards.Shards.first_open.Goals as goal

pub returns : goal.returns
returns c =
    let s = c.self.inside in
    c.first_open.ensures ∙ ap (position (λ (h : Held). is_open h.shard)) c.deref.ensures.value ∙ position_seen is_open s.shards.items ∙ ap (λ (v : Sending). position is_open v.shards) c.self.view_is
