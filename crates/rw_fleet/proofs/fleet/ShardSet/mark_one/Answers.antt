use Rattle.std.proofs.Common.{◌<◌, List, length, set, refl, sym, ap, ◌∙◌, subst}
use Rattle.rw_fleet.specs.ShardHistories.{ShardHistory, AreSame, IsMarked}
use Rattle.rw_fleet.specs.Fleets.{Shards}
use Rattle.rw_fleet.proofs.shared.LaneLemmas.{set_up_set, mark_at, same_marked, same_self, put_back}
use Rattle.rw_fleet.proofs.fleet.ShardSet.mark_one.Goals as goal

pub invariant_of-self : goal.invariant_of-self
invariant_of-self g c =
    let i = c.self.invariant in
    (i.0, i.1, set_up_set c.self.inside.config _ _ _ _ _ i.2 c.index_mut.ensures.value c.mark.ensures.setup refl, i.3, i.4, i.5, i.6, i.7, i.8)

pub invariant_of-self-2 : goal.invariant_of-self-2
invariant_of-self-2 g c =
    let i = c.self.invariant in
    (i.0, i.1, set_up_set c.self.inside.config _ _ _ _ _ i.2 c.index_mut.ensures.value c.mark.ensures.setup refl, i.3, i.4, i.5, i.6, i.7, i.8)

pub returns-in-Err-clause-err : goal.returns-in-Err-clause-err
returns-in-Err-clause-err g c =
    ap (λ (l : List ShardHistory). record { config = c.self.inside.config; epoch = c.self.inside.epoch; current = l; ended = c.self.inside.joined.items }) (put_back _ _ _ _ _ c.index_mut.ensures.value refl c.in-Err.ensures.put) ∙ c.self.view_is

pub returns-in-Err-clause-same : goal.returns-in-Err-clause-same
returns-in-Err-clause-same g c =
    let current = ap (λ (s : Shards _). s.current) c.self.view_is in
    subst (λ (l : List ShardHistory). AreSame l (set c.self.inside.running.items c.args.shard c.mark.new.self)) current
    (subst (AreSame c.self.inside.running.items) (sym (put_back _ _ _ _ _ c.index_mut.ensures.value refl c.in-Err.ensures.put)) (same_self c.self.inside.running.items))

pub returns-clause-same : goal.returns-clause-same
returns-clause-same g c =
    let current = ap (λ (s : Shards _). s.current) c.self.view_is in
    subst (λ (l : List ShardHistory). AreSame l (set c.self.inside.running.items c.args.shard c.mark.new.self)) current
    (same_marked _ _ _ _ _ c.index_mut.ensures.value refl c.mark.ensures.setup c.in_default.ensures.put)

pub returns-clause-ok : goal.returns-clause-ok
returns-clause-ok g c =
    let current = ap (λ (s : Shards _). s.current) c.self.view_is in
    let within = subst (λ (l : List ShardHistory). c.args.shard < length l) (sym current) c.requires in
    subst (λ (l : List ShardHistory). IsMarked c.args.shard l (set c.self.inside.running.items c.args.shard c.mark.new.self)) current
    (mark_at c.args.shard c.self.inside.running.items (set c.self.inside.running.items c.args.shard c.mark.new.self) _ c.mark.new.self within c.index_mut.ensures.value refl c.mark.ensures.setup c.in_default.ensures.put)

pub returns-in-Err-clause-rest : goal.returns-in-Err-clause-rest
returns-in-Err-clause-rest g c = ap (λ (s : Shards _). record s { current = set c.self.inside.running.items c.args.shard c.mark.new.self }) c.self.view_is

pub returns-clause-rest : goal.returns-clause-rest
returns-clause-rest g c = ap (λ (s : Shards _). record s { current = set c.self.inside.running.items c.args.shard c.mark.new.self }) c.self.view_is

pub returns-in-Err-clause-ok : goal.returns-in-Err-clause-ok
returns-in-Err-clause-ok g c = tt

pub returns-clause-err : goal.returns-clause-err
returns-clause-err g c = tt
