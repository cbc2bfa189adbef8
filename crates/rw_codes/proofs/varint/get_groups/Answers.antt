use Rattle.std.proofs.Common.{◌∙◌, ◌*◌, refl, arith, get_or, ap, sym, ℕ}
use Rattle.std.proofs.lemmas.Grind.{pow_more}
use Rattle.rw_codes.specs.Varint.{read_uvarint}
use Rattle.rw_codes.proofs.shared.VarintLaws.{above_none, get_more, get_last, get_tenth, get_too_big, get_short, weight_fits, value_fits}
use Rattle.rw_codes.proofs.varint.get_groups.Goals as goal

pub loop-i-init : goal.loop-i-init
loop-i-init c = record { in_range = omega arith; weighed = refl; bound = omega arith; rest = above_none (read_uvarint c.args.bytes.now) }

pub returns-then-b-gt1-clause-err : goal.returns-then-b-gt1-clause-err
returns-then-b-gt1-clause-err c = c.loop-i.invariant.rest ∙ get_too_big c.args.bytes.now c.loop-i.i c.loop-i.value c.loop-i.weight c.loop-i-test.true c.if-i-eq9.true c.if-b-gt1.true

pub returns-then-i-eq9-clause-ok : goal.returns-then-i-eq9-clause-ok
returns-then-i-eq9-clause-ok c = c.loop-i.invariant.rest ∙ get_tenth c.args.bytes.now c.loop-i.i c.loop-i.value c.loop-i.weight c.loop-i-test.true c.if-i-eq9.true c.if-b-gt1.false

pub returns-then-b-lt128-clause-ok : goal.returns-then-b-lt128-clause-ok
returns-then-b-lt128-clause-ok c =
    c.loop-i.invariant.rest ∙ get_last c.args.bytes.now c.loop-i.i c.loop-i.value c.loop-i.weight c.loop-i-test.true c.if-i-eq9.false c.loop-i.invariant.in_range c.if-b-lt128.true

pub overflow_mul-weight : goal.overflow_mul-weight
overflow_mul-weight c =
    omega (arith, weight_fits c.loop-i.i c.loop-i.weight c.loop-i.invariant.in_range c.if-i-eq9.false c.loop-i.invariant.weighed)

pub loop-i-preserved : goal.loop-i-preserved
loop-i-preserved c = record {
  in_range = omega arith;
  weighed = ap (λ (n : ℕ). n * 128) c.loop-i.invariant.weighed ∙ sym (pow_more 128 c.loop-i.i);
  bound = value_fits c.loop-i.value c.loop-i.weight (get_or c.args.bytes.now c.loop-i.i 0) c.loop-i.invariant.bound (omega (arith, c.type_inv.bytes c.loop-i.i));
  rest = c.loop-i.invariant.rest ∙ get_more c.args.bytes.now c.loop-i.i c.loop-i.value c.loop-i.weight c.loop-i-test.true c.if-i-eq9.false c.loop-i.invariant.in_range c.if-b-lt128.false;
}

pub returns-clause-err : goal.returns-clause-err
returns-clause-err c = c.loop-i.invariant.rest ∙ get_short c.args.bytes.now c.loop-i.i c.loop-i.value c.loop-i.weight c.loop-i-test.false
