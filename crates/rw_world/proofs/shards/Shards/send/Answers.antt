use Rattle.std.proofs.Common.{◌≡◌, ◌∙◌, Some, sym, ap, refl, subst, IfSome}
use Rattle.std.proofs.lemmas.Option.{slice_get_read}
use Rattle.std.specs.Prelude.{slice_get}
use Rattle.rw_machine.specs.Shards.{shard_send}
use Rattle.rw_world.specs.Held.{Held}
use Rattle.rw_world.specs.Sending.{Sending, sent_at}
use Rattle.rw_world.specs.contracts.shards.Shards.{the_view}
use Rattle.rw_world.proofs.SendingLemmas.{past_is, changed_is, quiet_same, send_quiet}
use Rattle.rw_world.proofs.ReplyLemmas.{shard_seen}
use Rattle.rw_world.specs.Answering.{IsSentTo}
use Rattle.rw_world.proofs.shared.AnswerLemmas.{sent_to}
use Rattle.rw_world.proofs.shards.Shards.send.Goals as goal

pub returns-then-i-len-clause-ok : goal.returns-then-i-len-clause-ok
returns-then-i-len-clause-ok c =
    let s = c.self.inside in
    past_is shard_send s.shards.items c.len.result c.args.i c.args.self.now (c.len.ensures ∙ s.shards.ok.0) c.if-i-len.true (ap (λ (v : Sending). v.shards) c.self.view_is)

pub invariant_of-self-2 : goal.invariant_of-self-2
invariant_of-self-2 c =
    let s = c.self.inside in
    let h = c.index_mut.result.now in
    let at : slice_get s.shards.items c.args.i ≡ Some h = slice_get_read s.shards.items c.len.result c.args.i h (c.len.ensures ∙ s.shards.ok.0) c.if-i-len.false c.index_mut.ensures.value in
    quiet_same s.target s.capacity s.batch s.epoch s.shards.items s.next s.ledger c.args.i h c.send.new.self (shard_send h.shard) c.self.invariant at c.in_ok-sent.ensures.ok (send_quiet h.shard).0 (send_quiet h.shard).1

pub returns-clause-read : goal.returns-clause-read
returns-clause-read c =
    let s = c.self.inside in
    let h = c.index_mut.result.now in
    let at : slice_get s.shards.items c.args.i ≡ Some h = slice_get_read s.shards.items c.len.result c.args.i h (c.len.ensures ∙ s.shards.ok.0) c.if-i-len.false c.index_mut.ensures.value in
    let to = sent_to s.target h.shard c.in_ok-sent.sent c.in_ok-sent.ensures.sent (c.self.invariant.each c.args.i h at).target_is c.send.ensures.read in
    subst (λ (v : Sending). IfSome c.in_ok-sent.sent (λ q. IsSentTo v.target.host v.target.path q)) c.self.view_is to

pub returns-clause-sent : goal.returns-clause-sent
returns-clause-sent c =
    let s = c.self.inside in
    let h = c.index_mut.result.now in
    let at : slice_get s.shards.items c.args.i ≡ Some h = slice_get_read s.shards.items c.len.result c.args.i h (c.len.ensures ∙ s.shards.ok.0) c.if-i-len.false c.index_mut.ensures.value in
    c.in_ok-sent.ensures.sent ∙ ap sent_at (sym (shard_seen s.shards.items c.args.self.now.shards c.args.i h at (ap (λ (v : Sending). v.shards) c.self.view_is)))

pub returns-clause-ok : goal.returns-clause-ok
returns-clause-ok c =
    let s = c.self.inside in
    let h = c.index_mut.result.now in
    let at : slice_get s.shards.items c.args.i ≡ Some h = slice_get_read s.shards.items c.len.result c.args.i h (c.len.ensures ∙ s.shards.ok.0) c.if-i-len.false c.index_mut.ensures.value in
    changed_is shard_send s.shards.items c.args.i h c.send.new.self (the_view s) c.args.self.now at (ap (λ (x : Held). x.shard) c.in_ok-sent.ensures.ok) c.self.view_is refl
