use Rattle.std.proofs.Common.{◌≡◌, ◌∙◌, ◌+◌, suc, add-one, ap, sym, subst, take, arith}
use Rattle.std.specs.FinMap.{insert}
use Rattle.rw_types.specs.declared.entry.Entry.TheVariants.{Sample}
use Rattle.rw_wal_format.specs.Pieces.{entries}
use Rattle.rw_series_cache.proofs.shared.KnowsLemmas.{knows_dropped}
use Rattle.rw_world.specs.Sending.{Sending}
use Rattle.rw_world.specs.Machine.{Machine}
use Rattle.rw_world.specs.inner.Machine.{IsDroppedNext}
use Rattle.rw_world.specs.contracts.engine.Engine.{the_view}
use Rattle.rw_world.proofs.WorldLemmas.{world_more}
use Rattle.rw_world.proofs.ArriveLemmas.{same_target}
use Rattle.rw_world.proofs.engine.Engine.name_next.Goals as goal

pub invariant_of-self-2 : goal.invariant_of-self-2
invariant_of-self-2 c =
    let s = c.self.inside in
    let i = c.self.invariant.0 in
    let next = subst (λ (m : Machine). IsDroppedNext m c.args.reason) (sym c.self.view_is) c.requires.next in
    let n : c.name.new.self.next ≡ s.placed + 1 = ap (λ (v : Sending). v.next) c.in_ok-name.ensures.ok in
    let knows = knows_dropped (take s.placed (entries s.log)) s.router.cache next.reference next.t next.word c.args.reason next.fate_is i.knows in
    let served = same_target s.senders.target c.name.new.self.target s.host s.limits.path s.requests.items (ap (λ (v : Sending). v.target) c.in_ok-name.ensures.ok) c.self.invariant.1 in
    (world_more s.senders.next c.name.new.self.next s.placed s.log s.router s.router s.draining (Sample next.reference next.t next.word) i next.at knows (omega (arith, i.filtered_within)) (omega (arith, n)), served)

pub returns-clause-ok : goal.returns-clause-ok
returns-clause-ok c =
    let s = c.self.inside in
    ap (λ (v : Sending). the_view (record s { senders = v; placed = s.placed + 1 })) c.in_ok-name.ensures.ok
    ∙ ap (λ k. record (the_view s) { world = record (the_view s).world { names = insert s.senders.names s.placed c.args.reason; placed = k } }) (add-one s.placed)
    ∙ ap (λ (m : Machine). record m { world = record m.world { names = insert m.world.names m.world.placed c.args.reason; placed = suc m.world.placed } }) c.self.view_is
