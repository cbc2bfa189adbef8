use Rattle.std.proofs.Common.{◌++◌, List, length, map, sym, ap, ◌∙◌, subst, arith}
use Rattle.rw_fleet.specs.ShardHistories.{ShardHistory, AreSame, AreSetUp}
use Rattle.rw_fleet.specs.Fleets.{Shards}
use Rattle.rw_fleet.specs.Work.{lane_of}
use Rattle.rw_fleet.proofs.JoinedLemmas.{set_up_closed}
use Rattle.rw_fleet.proofs.SoftLemmas.{soft_all, soft_closed, ended_closed, has_cut}
use Rattle.rw_fleet.proofs.fleet.ShardSet.finish.Goals as goal

pub returns-clause-all : goal.returns-clause-all
returns-clause-all g c =
    let j = c.join_all-joined.ensures.same in
    let v = c.self.view_is in
    let same = subst (λ (l : List ShardHistory). AreSame l c.end_all-ending.result.items) (ap (λ (s : Shards _). s.current) v) c.end_all-ending.ensures.same in
    (j.0, j.1 ∙ ap (λ (s : Shards _). s.ended ++ j.0) v, subst (AreSame c.args.self.current) (sym j.2) same)

pub returns-clause-setup : goal.returns-clause-setup
returns-clause-setup g c =
    let j = c.join_all-joined.ensures.same in
    let i = c.self.invariant in
    let config = ap (λ (s : Shards _). s.config) c.self.view_is in
    subst (λ k. AreSetUp k (map lane_of c.join_all-joined.result.items)) config (set_up_closed c.self.inside.config _ _ _ _ _ i.1 i.2 c.end_all-ending.ensures.same j.1 j.2)

pub returns-clause-cut : goal.returns-clause-cut
returns-clause-cut g c = λ soft unresolved.
    let j = c.join_all-joined.ensures.same in
    let i = c.self.invariant in
    has_cut g.C.T.Transport.tells g.C.T.Transport.seen g.C.T.Transport.is_for _ c.join_all-joined.ensures.worked (soft_closed _ _ _ _ i.7 (soft_all _ _ soft c.end_all-ending.ensures.ended) j.1 j.2) (c.resolution-resolution.ensures.not_all unresolved)

pub returns-clause-ended : goal.returns-clause-ended
returns-clause-ended g c =
    let j = c.join_all-joined.ensures.same in
    ended_closed _ _ _ _ _ (j.1 ∙ ap (λ (s : Shards _). s.ended ++ j.0) c.self.view_is) j.2 c.end_all-ending.ensures.ended

pub returns-clause-folded : goal.returns-clause-folded
returns-clause-folded g c =
    let view = ap (λ (s : Shards _). length s.ended) c.self.view_is in
    let folded = c.join_all-joined.ensures.folded in
    let within = c.self.invariant.8 in
    omega arith
