use Rattle.std.proofs.Common.{◌≡◌, ◌∙◌, ℕ, Some, ap}
use Rattle.std.specs.Prelude.{slice_get}
use Rattle.std.specs.List.{position}
use Rattle.rw_world.specs.Guards.{may_flush}
use Rattle.rw_world.specs.Held.{Held}
use Rattle.rw_world.specs.Sending.{Sending}
use Rattle.rw_world.proofs.GuardLemmas.{position_flushing}
use Rattle.rw_world.proofs.shards.Shards.first_flushing.Goals as goal

pub returns : goal.returns
returns c =
    let s = c.self.inside in
    c.first_flushing.ensures ∙ ap (position (λ (h : Held). may_flush h.capacity h.shard)) c.deref.ensures.value
    ∙ position_flushing s.capacity s.shards.items (λ (i : ℕ) (h : Held) (at : slice_get s.shards.items i ≡ Some h). (c.self.invariant.each i h at).capacity_is)
    ∙ ap (λ (v : Sending). position (may_flush v.capacity) v.shards) c.self.view_is
