use Rattle.std.proofs.Common.{◌≡◌, ◌∙◌, Some, map, set, ap, refl}
use Rattle.std.proofs.lemmas.Option.{slice_get_read}
use Rattle.std.specs.Prelude.{slice_get}
use Rattle.rw_machine.specs.Shards.{shard_freeze}
use Rattle.rw_ledger.specs.Names.{Named}
use Rattle.rw_world.specs.Held.{Held}
use Rattle.rw_world.specs.Sending.{Sending}
use Rattle.rw_world.specs.contracts.shards.Shards.{the_view}
use Rattle.rw_world.proofs.SendingLemmas.{past_is, changed_is, quiet_kept, freeze_quiet}
use Rattle.rw_world.proofs.shards.Shards.freeze.Goals as goal

pub returns-then-i-len-clause-ok : goal.returns-then-i-len-clause-ok
returns-then-i-len-clause-ok c =
    let s = c.self.inside in
    past_is shard_freeze s.shards.items c.len.result c.args.i c.args.self.now (c.len.ensures ∙ s.shards.ok.0) c.if-i-len.true (ap (λ (v : Sending). v.shards) c.self.view_is)

pub invariant_of-self-2 : goal.invariant_of-self-2
invariant_of-self-2 c =
    let s = c.self.inside in
    let h = c.index_mut.result.now in
    let at : slice_get s.shards.items c.args.i ≡ Some h = slice_get_read s.shards.items c.len.result c.args.i h (c.len.ensures ∙ s.shards.ok.0) c.if-i-len.false c.index_mut.ensures.value in
    let q = freeze_quiet h.shard s.ledger in
    let e = c.in_ok-freeze.ensures.ledger in
    quiet_kept s.target s.capacity s.batch s.epoch s.shards.items s.next s.ledger c.freeze.new.ledger c.args.i h c.freeze.new.self (shard_freeze h.shard) c.self.invariant at c.in_ok-freeze.ensures.ok q.0
    (ap (λ (l : Named). l.names) e ∙ q.2) (rw e q.1)

pub returns-clause-ok : goal.returns-clause-ok
returns-clause-ok c =
    let s = c.self.inside in
    let h = c.index_mut.result.now in
    let at : slice_get s.shards.items c.args.i ≡ Some h = slice_get_read s.shards.items c.len.result c.args.i h (c.len.ensures ∙ s.shards.ok.0) c.if-i-len.false c.index_mut.ensures.value in
    let q = freeze_quiet h.shard s.ledger in
    ap (λ m. record (the_view s) { shards = map (λ (x : Held). x.shard) (set s.shards.items c.args.i c.freeze.new.self); names = m }) (ap (λ (l : Named). l.names) c.in_ok-freeze.ensures.ledger ∙ q.2)
    ∙ changed_is shard_freeze s.shards.items c.args.i h c.freeze.new.self (the_view s) c.args.self.now at (ap (λ (x : Held). x.shard) c.in_ok-freeze.ensures.ok) c.self.view_is refl
