use Rattle.std.proofs.Common.{◌∙◌, ◌+◌, ◌≤◌, sym, ap, arith}
use Rattle.rw_world.proofs.ShardLemmas.{taken_front, may_take, take_kept, taken_few}
use Rattle.rw_world.proofs.shard.WorldShard.take.Goals as goal

pub overflow_add-self : goal.overflow_add-self
overflow_add-self c =
    let s = c.self.inside in
    let few : s.taken ≤ s.count = taken_few s.queue s.core s.count s.taken c.self.invariant.2 in
    omega (arith, few, c.self.invariant.2.few, c.samples_of.ensures.most)

pub take-requires-2-clause-item : goal.take-requires-2-clause-item
take-requires-2-clause-item c =
    let s = c.self.inside in
    let f = taken_front s.queue c.take.new.self c.in-Some.item c.self.invariant.2.not_killed c.in-Some.ensures.item c.in-Some.ensures.rest in
    may_take s.queue c.take.new.self s.core s.count s.taken c.in-Some.item c.self.invariant.2 f

pub invariant_of-self-2 : goal.invariant_of-self-2
invariant_of-self-2 c =
    let s = c.self.inside in
    let f = taken_front s.queue c.take.new.self c.in-Some.item c.self.invariant.2.not_killed c.in-Some.ensures.item c.in-Some.ensures.rest in
    let k = take_kept s.queue c.take.new.self s.core c.take-2.new.self s.count s.taken _ c.in-Some.item c.self.invariant.2 f c.in-Some.ensures.put c.take-2.ensures (ap (λ n. s.taken + n) c.samples_of.ensures.count) in
    (c.self.invariant.0 ∙ sym k.0, c.self.invariant.1 ∙ sym k.1, k.2)
