use Rattle.std.proofs.Common.{List, ◌∷◌, ◌++◌, [], length, refl, sym, ap, ◌∙◌, subst, append-nil, arith}
use Rattle.std.proofs.lemmas.List.{map-append, nil_from_length}
use Rattle.rw_fleet.specs.ShardHistories.{ShardHistory}
use Rattle.rw_fleet.specs.Work.{AreWorked, lane_of}
use Rattle.rw_fleet.proofs.shared.ListLemmas.{moved, pushed}
use Rattle.rw_fleet.proofs.JoinedLemmas.{worked_push}
use Rattle.rw_fleet.proofs.lists.join_all.Goals as goal

pub loop-shard-init : goal.loop-shard-init
loop-shard-init g c =
    let into = c.into_iter-rest.ensures in
    let room = c.requires.room in
    let len = into.len in
    (omega arith, refl, c.requires.worked, ([], [], sym (append-nil c.args.joined.items), sym into.rest, refl), into.len ∙ c.args.ending.ok.0 ∙ ap length (sym into.rest))

pub loop-shard-preserved : goal.loop-shard-preserved
loop-shard-preserved g c =
    let i = c.loop-shard.invariant in
    let step = c.in-Some.ensures.cases in
    let p = c.push.ensures in
    let a = i.0 in
    let s = step.1 in
    let n = p.room in
    let e = ap length step.0 in
    let counted = i.4 in (
      omega arith,
      p.folded ∙ i.1,
      subst (AreWorked g.T.Transport.tells g.T.Transport.seen g.T.Transport.is_for) (sym p.items) (worked_push _ _ _ _ _ i.2 c.join.ensures.worked),
      (
        i.3.0 ++ c.join.result ∷ [],
        i.3.1 ++ c.in-Some.shard ∷ [],
        pushed _ _ _ _ _ p.items i.3.2,
        moved _ _ _ _ _ i.3.3 step.0,
        map-append lane_of i.3.0 (c.join.result ∷ []) ∙ ap (λ (l : List ShardHistory). l ++ lane_of c.join.result ∷ []) i.3.4 ∙ ap (λ (l : ShardHistory). i.3.1 ++ l ∷ []) c.join.ensures.lane,
      ),
      omega arith,
    )

pub returns-clause-same : goal.returns-clause-same
returns-clause-same g c =
    let i = c.loop-shard.invariant in
    let step = c.in_default.ensures.cases in
    let none = nil_from_length _ (sym i.4 ∙ step.0) in
    (i.3.0, i.3.2, i.3.4 ∙ sym (i.3.3 ∙ ap (λ l. i.3.1 ++ l) none ∙ append-nil i.3.1))
