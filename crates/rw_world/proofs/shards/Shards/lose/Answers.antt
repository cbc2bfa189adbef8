use Rattle.std.proofs.Common.{◌≡◌, ◌∙◌, Some, ap, refl}
use Rattle.std.proofs.lemmas.Option.{slice_get_read}
use Rattle.std.specs.Prelude.{slice_get}
use Rattle.rw_machine.specs.Shards.{shard_lost}
use Rattle.rw_world.specs.Held.{Held}
use Rattle.rw_world.specs.Sending.{Sending}
use Rattle.rw_world.specs.contracts.shards.Shards.{the_view}
use Rattle.rw_world.proofs.SendingLemmas.{past_is, changed_is, quiet_same, lost_quiet}
use Rattle.rw_world.proofs.shards.Shards.lose.Goals as goal

pub returns-then-i-len : goal.returns-then-i-len
returns-then-i-len c =
    let s = c.self.inside in
    past_is (shard_lost) s.shards.items c.len.result c.args.i c.args.self.now (c.len.ensures ∙ s.shards.ok.0) c.if-i-len.true (ap (λ (v : Sending). v.shards) c.self.view_is)

pub invariant_of-self : goal.invariant_of-self
invariant_of-self c =
    let s = c.self.inside in
    let h = c.index_mut.result.now in
    let at : slice_get s.shards.items c.args.i ≡ Some h = slice_get_read s.shards.items c.len.result c.args.i h (c.len.ensures ∙ s.shards.ok.0) c.if-i-len.false c.index_mut.ensures.value in
    quiet_same s.target s.capacity s.batch s.epoch s.shards.items s.next s.ledger c.args.i h c.lose.new.self (shard_lost h.shard) c.self.invariant at c.lose.ensures ((lost_quiet h.shard).0) ((lost_quiet h.shard).1)

pub returns : goal.returns
returns c =
    let s = c.self.inside in
    let h = c.index_mut.result.now in
    let at : slice_get s.shards.items c.args.i ≡ Some h = slice_get_read s.shards.items c.len.result c.args.i h (c.len.ensures ∙ s.shards.ok.0) c.if-i-len.false c.index_mut.ensures.value in
    changed_is (shard_lost) s.shards.items c.args.i h c.lose.new.self (the_view s) c.args.self.now at (ap (λ (x : Held). x.shard) c.lose.ensures) c.self.view_is refl
