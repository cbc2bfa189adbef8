use Rattle.std.proofs.Common.{◌∙◌, ap}
use Rattle.std.specs.List.{list_all}
use Rattle.rw_machine.specs.Shards.{is_drained}
use Rattle.rw_world.specs.Held.{Held}
use Rattle.rw_world.specs.Sending.{Sending}
use Rattle.rw_world.proofs.SendingLemmas.{all_drained_is}
use Rattle.rw_world.proofs.shards.Shards.are_drained.Goals as goal

pub returns : goal.returns
returns c =
    let s = c.self.inside in
    c.all_drained.ensures ∙ ap (list_all (λ (h : Held). is_drained h.shard)) c.deref.ensures.value ∙ all_drained_is s.shards.items ∙ ap (λ (v : Sending). list_all is_drained v.shards) c.self.view_is
