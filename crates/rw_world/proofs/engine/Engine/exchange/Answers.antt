use Rattle.std.proofs.Common.{◌≡◌, ◌∙◌, Some, None, List, [], ◌∷◌, ℕ, length, sym, ap, subst, arith}
use Rattle.std.specs.Prelude.{slice_get, vec_len}
use Rattle.rw_machine.specs.declared.event.How.TheVariants.{Plain}
use Rattle.rw_machine.specs.declared.event.Event.TheVariants as event
use Rattle.rw_machine.specs.Settling.{newest_from, exchange_at}
use Rattle.rw_machine.specs.Worlds.{Request}
use Rattle.rw_world.specs.Guards.{waiting_id_at}
use Rattle.rw_world.specs.inner.Guards.{IsOpen}
use Rattle.rw_world.specs.Machine.{Machine}
use Rattle.rw_world.specs.contracts.engine.Engine.{the_view}
use Rattle.rw_world.proofs.RoundLemmas.{exchange_waits, exchange_rests}
use Rattle.rw_world.proofs.engine.Engine.exchange.Goals as goal

pub returns-in-Some : goal.returns-in-Some
returns-in-Some c =
    let s = c.self.inside in
    let u : Machine = the_view s in
    let i = c.args.i in
    let id = c.in-Some.id in
    let opened = subst (λ (m : Machine). IsOpen (slice_get m.world.shards i)) (sym c.self.view_is) c.requires in
    let waits : waiting_id_at (slice_get u.world.shards i) ≡ Some id = sym c.in-Some.ensures in
    let n : vec_len s.replies ≡ length s.replies.items = omega (arith, s.replies.ok.0) in
    ap (λ (r : ℕ). event.Arrive c.newest.result Plain ∷ event.Reply r ∷ []) (c.len.ensures ∙ n)
    ∙ ap (λ (k : ℕ). event.Arrive k Plain ∷ event.Reply (length s.replies.items) ∷ []) (c.newest.ensures ∙ ap (λ (xs : List Request). newest_from id 0 xs 0) c.deref.ensures.value)
    ∙ exchange_waits u.world i (slice_get u.world.shards i) id opened waits
    ∙ ap (λ (m : Machine). exchange_at m.world i (slice_get m.world.shards i)) c.self.view_is

pub returns-in-None : goal.returns-in-None
returns-in-None c =
    let s = c.self.inside in
    let u : Machine = the_view s in
    let i = c.args.i in
    let opened = subst (λ (m : Machine). IsOpen (slice_get m.world.shards i)) (sym c.self.view_is) c.requires in
    let rests : waiting_id_at (slice_get u.world.shards i) ≡ None = sym c.in-None.ensures in
    exchange_rests u.world i (slice_get u.world.shards i) opened rests ∙ ap (λ (m : Machine). exchange_at m.world i (slice_get m.world.shards i)) c.self.view_is
