use Rattle.std.proofs.Common.{◌≡◌, ◌<◌, List, length, Some, set, refl, sym, ap, ◌∙◌, subst}
use Rattle.std.specs.Prelude.{slice_get}
use Rattle.rw_fleet.specs.ShardHistories.{ShardHistory, IsPut}
use Rattle.rw_fleet.specs.Fleets.{Shards}
use Rattle.rw_fleet.proofs.shared.LaneLemmas.{set_up_set, put_at, put_back}
use Rattle.rw_fleet.proofs.shared.ListLemmas.{get_at}
use Rattle.rw_fleet.proofs.fleet.ShardSet.put.Goals as goal

pub put-requires-clause-later : goal.put-requires-clause-later
put-requires-clause-later g c κs within = λ k o at.
    let current = ap (λ (s : Shards _). s.current) c.self.view_is in
    let below = subst (λ (l : List ShardHistory). c.args.shard < length l) (sym current) c.requires.within in
    let here = get_at c.self.inside.running.items c.index_mut.result.now c.args.shard below c.index_mut.ensures.value in
    c.requires.later c.index_mut.result.now k o (subst (λ (l : List ShardHistory). slice_get l c.args.shard ≡ Some c.index_mut.result.now) current here) at

pub returns-in-Err-clause-memory : goal.returns-in-Err-clause-memory
returns-in-Err-clause-memory g c = λ full.
    let current = ap (λ (s : Shards _). s.current) c.self.view_is in
    let below = subst (λ (l : List ShardHistory). c.args.shard < length l) (sym current) c.requires.within in
    let here = get_at c.self.inside.running.items c.index_mut.result.now c.args.shard below c.index_mut.ensures.value in
    (c.index_mut.result.now, subst (λ (l : List ShardHistory). slice_get l c.args.shard ≡ Some c.index_mut.result.now) current here, c.in-Err.ensures.memory full)

pub invariant_of-self : goal.invariant_of-self
invariant_of-self g c =
    let i = c.self.invariant in
    (i.0, i.1, set_up_set c.self.inside.config _ _ _ _ _ i.2 c.index_mut.ensures.value c.put.ensures.setup refl, i.3, i.4, i.5, i.6, i.7, i.8)

pub invariant_of-self-2 : goal.invariant_of-self-2
invariant_of-self-2 g c =
    let i = c.self.invariant in
    (i.0, i.1, set_up_set c.self.inside.config _ _ _ _ _ i.2 c.index_mut.ensures.value c.put.ensures.setup refl, i.3, i.4, i.5, i.6, i.7, i.8)

pub returns-in-Err-clause-err : goal.returns-in-Err-clause-err
returns-in-Err-clause-err g c =
    ap (λ (l : List ShardHistory). record { config = c.self.inside.config; epoch = c.self.inside.epoch; current = l; ended = c.self.inside.joined.items }) (put_back _ _ _ _ _ c.index_mut.ensures.value refl c.in-Err.ensures.put) ∙ c.self.view_is

pub returns-clause-ok : goal.returns-clause-ok
returns-clause-ok g c =
    let current = ap (λ (s : Shards _). s.current) c.self.view_is in
    let within = subst (λ (l : List ShardHistory). c.args.shard < length l) (sym current) c.requires.within in
    subst (λ (l : List ShardHistory). IsPut c.args.shard c.args.sample l (set c.self.inside.running.items c.args.shard c.put.new.self)) current (put_at c.args.shard c.args.sample c.self.inside.running.items (set c.self.inside.running.items c.args.shard c.put.new.self) _ c.put.new.self within c.index_mut.ensures.value refl c.put.ensures.setup c.in_default.ensures.put c.put.ensures.marks c.in_default.ensures.items)

pub returns-in-Err-clause-rest : goal.returns-in-Err-clause-rest
returns-in-Err-clause-rest g c = ap (λ (s : Shards _). record s { current = set c.self.inside.running.items c.args.shard c.put.new.self }) c.self.view_is

pub returns-clause-rest : goal.returns-clause-rest
returns-clause-rest g c = ap (λ (s : Shards _). record s { current = set c.self.inside.running.items c.args.shard c.put.new.self }) c.self.view_is

pub returns-in-Err-clause-ok : goal.returns-in-Err-clause-ok
returns-in-Err-clause-ok g c = tt

pub returns-clause-err : goal.returns-clause-err
returns-clause-err g c = tt
