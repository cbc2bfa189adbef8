use Rattle.std.proofs.Common.{List, ◌∷◌, ◌++◌, [], sym, subst, arith}
use Rattle.rw_fleet.specs.ShardHistories.{ShardHistory, AreSame}
use Rattle.rw_fleet.proofs.shared.LaneLemmas.{same_push, same_length}
use Rattle.rw_fleet.proofs.shared.ListLemmas.{moved, none_left}
use Rattle.rw_fleet.proofs.SoftLemmas.{ended_more}
use Rattle.rw_fleet.proofs.lists.end_all.Goals as goal

pub loop-shard-preserved : goal.loop-shard-preserved
loop-shard-preserved g c =
    let i = c.loop-shard.invariant in
    let step = c.in-Some.ensures.cases in
    let p = c.push_reserved.ensures in
    let a = i.0 in
    let b = i.1 in
    let s = step.1 in
    let n = p.len in
    let k = p.capacity in (
      omega arith,
      omega arith,
      (i.2.0 ++ c.in-Some.shard ∷ [], moved _ _ _ _ _ i.2.1 step.0, subst (AreSame (i.2.0 ++ c.in-Some.shard ∷ [])) (sym p.items) (same_push _ _ _ _ i.2.2 c.end.ensures.setup c.end.ensures.put)),
      ended_more _ _ _ _ p.items i.3 c.end.ensures.ended,
    )

pub returns-clause-same : goal.returns-clause-same
returns-clause-same g c =
    let i = c.loop-shard.invariant in
    let step = c.in_default.ensures.cases in
    let a = i.0 in
    let z = step.0 in
    let n = same_length _ _ i.2.2 in
    let all = c.args.running.ok.0 in
    let end = c.loop-shard.ending.ok.0 in
    subst (λ (l : List ShardHistory). AreSame l c.loop-shard.ending.items) (sym (none_left _ _ _ i.2.1 (omega arith))) i.2.2
