use Rattle.std.proofs.Common.{◌+◌, ◌++◌, List, vec_len, refl, sym, ap, ◌∙◌, subst, arith}
use Rattle.std.specs.Vec.{vec_items}
use Rattle.rw_fleet.specs.ShardHistories.{ShardHistory, AreSame, AreSetUp}
use Rattle.rw_fleet.specs.Fleets.{Shards}
use Rattle.rw_fleet.specs.Stopped.{StoppedList}
use Rattle.rw_fleet.specs.Work.{AreResolved, AreWorked, HasCut}
use Rattle.rw_fleet.proofs.JoinedLemmas.{set_up_closed}
use Rattle.rw_fleet.proofs.SoftLemmas.{soft_all, soft_closed, ended_closed, has_cut}
use Rattle.rw_fleet.proofs.fleet.ShardSet.close.Goals as goal

pub invariant_of-self : goal.invariant_of-self
invariant_of-self g c =
    let i = c.self.invariant in
    let j = c.join_all.ensures.same in
    let is = c.fold_resolved-joined.ensures.items ∙ j.1 ∙ ap (λ (v : StoppedList _). v.items ++ j.0) c.replace-joined.ensures.value in
    let nil = ap vec_items c.replace-running.ensures.after ∙ c.new.ensures.items in
    let same = subst (λ (l : List ShardHistory). AreSame l c.end_all-ending.result.items) (ap vec_items c.replace-running.ensures.value) c.end_all-ending.ensures.same in
    let none = ap vec_len c.replace-running.ensures.after ∙ c.new.ensures.len in (
      subst (AreWorked g.C.T.Transport.tells g.C.T.Transport.seen g.C.T.Transport.is_for) (sym c.fold_resolved-joined.ensures.items) c.join_all.ensures.worked,
      set_up_closed c.self.inside.config _ _ _ _ _ i.1 i.2 same is j.2,
      subst (AreSetUp c.self.inside.config) (sym nil) tt,
      omega arith,
      omega arith,
      ap vec_items c.replace-ending.ensures.after ∙ c.new-2.ensures.items,
      omega arith,
      soft_closed _ _ _ _ i.7 (soft_all _ _ refl c.end_all-ending.ensures.ended) is j.2,
      c.fold_resolved-joined.ensures.folded,
    )

pub returns-clause-closed : goal.returns-clause-closed
returns-clause-closed g c =
    let j = c.join_all.ensures.same in
    let v = c.self.view_is in
    let is = c.fold_resolved-joined.ensures.items ∙ j.1 ∙ ap (λ (w : StoppedList _). w.items ++ j.0) c.replace-joined.ensures.value ∙ ap (λ (s : Shards _). s.ended ++ j.0) v in
    let nil = ap vec_items c.replace-running.ensures.after ∙ c.new.ensures.items in
    let running = subst (λ (l : List ShardHistory). AreSame l c.end_all-ending.result.items) (ap vec_items c.replace-running.ensures.value) c.end_all-ending.ensures.same in
    let current = subst (λ (l : List ShardHistory). AreSame l c.end_all-ending.result.items) (ap (λ (s : Shards _). s.current) v) running in (
      ap (λ (s : Shards _). s.config) v,
      ap (λ (s : Shards _). s.epoch + 1) v,
      nil,
      (j.0, is, subst (AreSame c.args.self.now.current) (sym j.2) current),
      ended_closed _ _ _ _ _ is j.2 c.end_all-ending.ensures.ended,
    )

pub returns-clause-worked : goal.returns-clause-worked
returns-clause-worked g c = subst (AreWorked g.C.T.Transport.tells g.C.T.Transport.seen g.C.T.Transport.is_for) (sym c.fold_resolved-joined.ensures.items) c.join_all.ensures.worked

pub returns-clause-setup : goal.returns-clause-setup
returns-clause-setup g c =
    let i = c.self.invariant in
    let j = c.join_all.ensures.same in
    let is = c.fold_resolved-joined.ensures.items ∙ j.1 ∙ ap (λ (v : StoppedList _). v.items ++ j.0) c.replace-joined.ensures.value in
    let same = subst (λ (l : List ShardHistory). AreSame l c.end_all-ending.result.items) (ap vec_items c.replace-running.ensures.value) c.end_all-ending.ensures.same in
    set_up_closed c.self.inside.config _ _ _ _ _ i.1 i.2 same is j.2

pub returns-clause-resolved : goal.returns-clause-resolved
returns-clause-resolved g c = λ all. subst AreResolved (sym c.fold_resolved-joined.ensures.items) (c.fold_resolved-joined.ensures.all all)

pub returns-clause-cut : goal.returns-clause-cut
returns-clause-cut g c = λ unresolved.
    let j = c.join_all.ensures.same in
    let is = j.1 ∙ ap (λ (v : StoppedList _). v.items ++ j.0) c.replace-joined.ensures.value in
    subst HasCut (sym c.fold_resolved-joined.ensures.items)
    (has_cut g.C.T.Transport.tells g.C.T.Transport.seen g.C.T.Transport.is_for _ c.join_all.ensures.worked (soft_closed _ _ _ _ c.self.invariant.7 (soft_all _ _ refl c.end_all-ending.ensures.ended) is j.2) (c.fold_resolved-joined.ensures.not_all unresolved))
