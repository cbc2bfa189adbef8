use Rattle.std.proofs.Common.{◌∙◌, arith, refl}
use Rattle.rw_codes.proofs.shared.Digits.{Left-start, Left-room, Left-more, Left-last}
use Rattle.rw_codes.proofs.varint.push_uvarint.Goals as goal

pub loop-rest-init : goal.loop-rest-init
loop-rest-init c = record { left = Left-start _ _ _ _ (omega arith) c.requires.room; capacity = refl }

pub push_reserved-requires : goal.push_reserved-requires
push_reserved-requires c = omega (arith, Left-room _ _ _ _ _ _ c.loop-rest.invariant.left, c.loop-rest.invariant.capacity)

pub loop-rest-preserved : goal.loop-rest-preserved
loop-rest-preserved c = record {
  left = rw (c.push_reserved.ensures.items, c.push_reserved.ensures.len) (Left-more _ _ _ _ _ _ c.loop-rest.invariant.left c.loop-rest-test.true);
  capacity = c.push_reserved.ensures.capacity ∙ c.loop-rest.invariant.capacity;
}

pub push_reserved-requires-2 : goal.push_reserved-requires-2
push_reserved-requires-2 c = omega (arith, Left-room _ _ _ _ _ _ c.loop-rest.invariant.left, c.loop-rest.invariant.capacity)

pub returns-clause-items : goal.returns-clause-items
returns-clause-items c = c.push_reserved-2.ensures.items ∙ Left-last _ _ _ _ _ _ c.loop-rest.invariant.left (omega arith)
