use Rattle.std.proofs.Common.{◌≡◌, ◌∙◌, None, sym, ap}
use Rattle.std.specs.Prelude.{slice_get}
use Rattle.rw_world.specs.Sending.{Sending, sent_at}
use Rattle.rw_world.specs.Machine.{Machine}
use Rattle.rw_world.specs.contracts.engine.Engine.{the_view}
use Rattle.rw_world.proofs.WorldLemmas.{unsent, send_none}
use Rattle.rw_world.proofs.engine.Engine.send.Goals as goal

pub returns-in-None-clause-ok : goal.returns-in-None-clause-ok
returns-in-None-clause-ok c =
    let s = c.self.inside in
    let none : sent_at (slice_get s.senders.shards c.args.i) ≡ None = sym c.in_ok-sent.ensures.sent ∙ c.in-None.is in
    let same : c.send.new.self ≡ s.senders = c.in_ok-sent.ensures.ok ∙ ap (λ ss. record s.senders { shards = ss }) (unsent s.senders.shards c.args.i none) in
    ap (λ (v : Sending). the_view (record s { senders = v; requests = c.reserve.new.self })) same
    ∙ ap (λ xs. record (the_view s) { world = record (the_view s).world { requests = xs } }) c.in_ok-reserve.ensures.items
    ∙ c.self.view_is
    ∙ ap (λ w. record c.args.self.now { world = w }) (sym (send_none c.args.self.now.world c.args.i (slice_get c.args.self.now.world.shards c.args.i) (ap (λ (m : Machine). sent_at (slice_get m.world.shards c.args.i)) (sym c.self.view_is) ∙ none)))
