use Rattle.std.proofs.Common.{◌∙◌, arith}
use Rattle.rw_shard_core.proofs.shared.NamingLemmas.{left_is, name_next}
use Rattle.rw_shard_core.proofs.shard.name_all.Goals as goal

pub name-requires-clause-unnamed : goal.name-requires-clause-unnamed
name-requires-clause-unnamed c =
    let left = left_is c.args.places.now c.loop-place.place-index _ c.loop-place-test.true in
    (rw left at c.loop-place.invariant.unnamed) 0 0 (omega arith)

pub loop-place-preserved : goal.loop-place-preserved
loop-place-preserved c =
    let i = c.loop-place.invariant in
    let next = name_next c.args.status c.args.places.now c.loop-place.place-index _ c.loop-place.ledger.names c.name.new.self.names c.loop-place-test.true i.unnamed i.rising c.name.ensures.names in
    record { names = next.0 ∙ i.names; room = omega (arith, c.name.ensures.room, i.room); unnamed = next.1; rising = next.2 }
