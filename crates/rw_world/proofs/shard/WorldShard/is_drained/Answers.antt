use Rattle.std.proofs.Common.{◌≡◌, ◌∙◌, sym, true, false}
use Rattle.rw_shard_core.specs.Shard.{is_empty, pending}
use Rattle.rw_world.proofs.ShardLemmas.{drained_is}
use Rattle.rw_world.proofs.shard.WorldShard.is_drained.Goals as goal

pub returns-then-not-is_empty : goal.returns-then-not-is_empty
returns-then-not-is_empty c =
    let s = c.self.inside in
    let d = drained_is s.queue s.core s.count s.taken c.self.invariant.2 c.conforms.ensures in
    let ended : s.core.ended ≡ true = sym c.has_ended.ensures ∙ c.if-not-has_ended.false in
    let some : is_empty (pending s.core) ≡ false = sym c.is_empty.ensures ∙ c.if-not-is_empty.true in
    rw (← c.self.view_is, ended) (rw (ended, some) at d)

pub returns : goal.returns
returns c =
    let s = c.self.inside in
    let d = drained_is s.queue s.core s.count s.taken c.self.invariant.2 c.conforms.ensures in
    let ended : s.core.ended ≡ true = sym c.has_ended.ensures ∙ c.if-not-has_ended.false in
    let none : is_empty (pending s.core) ≡ true = sym c.is_empty.ensures ∙ c.if-not-is_empty.false in
    rw (← c.self.view_is, ended) (rw (ended, none) at d)
