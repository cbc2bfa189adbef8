use Rattle.std.proofs.Common.{sym, ◌∙◌}
use Rattle.std.proofs.lemmas.Bool.{false≢true}
use Rattle.rw_shard_core.proofs.shared.NamingLemmas.{one_named, one_more}
use Rattle.rw_shard_core.proofs.shard.are_unnamed.Goals as goal

pub returns-in-Some : goal.returns-in-Some
returns-in-Some c =
    (λ e. absurd (false≢true e), λ all. absurd (one_named c.args.ledger.now.names c.args.places.now c.loop-place.place-index _ _ c.loop-place-test.true (sym c.get.ensures ∙ c.in-Some.is) all))

pub loop-place-preserved : goal.loop-place-preserved
loop-place-preserved c =
    one_more c.args.ledger.now.names c.args.places.now c.loop-place.place-index _ c.loop-place-test.true (sym c.get.ensures ∙ c.in-None.is) c.loop-place.invariant
