use Rattle.std.proofs.Common.{refl}
use Rattle.rw_plain_queue.specs.Items.{Placed, samples_in}
use Rattle.rw_shard_core.specs.Shard.{placed}
use Rattle.rw_shard_core.proofs.shared.StepGuards.{take_parts}
use Rattle.rw_shard_core.proofs.shared.KeptLemmas.{kept_follows, kept_take, parts_take}
use Rattle.rw_shard_core.proofs.shard.ShardCore.take.Goals as goal
use Rattle.rw_plain_queue.proofs.shared.Histories.{samples_in-append}

pub take-requires-clause-sample : goal.take-requires-clause-sample
take-requires-clause-sample c =
    let s = c.self.inside in
    let guard = take_parts c.args.self.now c.requires.guard in
    let may = rw c.in-Sample.is at c.requires.item in
    let x : Placed = placed c.in-Sample.place c.in-Sample.field-1 c.in-Sample.field-2 c.in-Sample.field-3.value in
    rw c.in-Sample.is
    (kept_follows s.target s.epoch s.shard s.full s.builder s.current s.last (samples_in s.taken) (samples_in s.resolved) (samples_in s.pending) x
    c.self.invariant (rw (← c.self.view_is) at guard.none) (rw (← c.self.view_is) at may.0) (rw (← c.self.view_is) at may.1) (rw (← c.self.view_is) at may.2))

pub invariant_of-self : goal.invariant_of-self
invariant_of-self c =
    let s = c.self.inside in
    let guard = take_parts c.args.self.now c.requires.guard in
    let may = rw c.in-Sample.is at c.requires.item in
    let x : Placed = placed c.in-Sample.place c.in-Sample.field-1 c.in-Sample.field-2 c.in-Sample.field-3.value in
    let kept =
    kept_take s.target s.epoch s.shard s.full s.builder s.current s.last (samples_in s.taken) (samples_in s.resolved) (samples_in s.pending) x
    c.self.invariant (rw (← c.self.view_is) at guard.none) (rw (← c.self.view_is) at guard.room) (rw (← c.self.view_is) at may.0) (rw (← c.self.view_is) at may.1) (rw (← c.self.view_is) at may.2) in
    rw (c.take.ensures, c.push.ensures, c.push-in-Sample.ensures, samples_in-append s.taken, samples_in-append s.pending, c.in-Sample.is) kept

pub returns-in-Sample : goal.returns-in-Sample
returns-in-Sample c =
    let s = c.self.inside in
    let guard = take_parts c.args.self.now c.requires.guard in
    let x : Placed = placed c.in-Sample.place c.in-Sample.field-1 c.in-Sample.field-2 c.in-Sample.field-3.value in
    let parts =
    parts_take s.target s.epoch s.shard s.full s.builder s.current s.last (samples_in s.taken) (samples_in s.resolved) (samples_in s.pending) x
    c.self.invariant (rw (← c.self.view_is) at guard.none) in
    rw (c.push.ensures, c.push-in-Sample.ensures, samples_in-append s.taken, samples_in-append s.pending, c.in-Sample.is, ← c.self.view_is) (rw (parts.0, parts.1) refl)
