use Rattle.std.proofs.Common.{sym, ◌∙◌}
use Rattle.std.proofs.Math.ListN.{get_or}
use Rattle.rw_text.proofs.NumberLemmas.{digit_from_test, none_from_test, no_digit, digits_are_more, value_more, too_great}
use Rattle.rw_text.proofs.numbers.read_number.Goals as goal

pub returns-then-not-is_ascii_digit : goal.returns-then-not-is_ascii_digit
returns-then-not-is_ascii_digit c = λ n small. no_digit c.args.text.now n c.loop-digit.digit-index c.loop-digit-test.true
    (none_from_test _ (sym c.is_ascii_digit.ensures.value ∙ c.if-not-is_ascii_digit.true))

pub returns-in_default : goal.returns-in_default
returns-in_default c = λ n small. too_great c.args.text.now n c.loop-digit.digit-index c.loop-digit.number c.loop-digit-test.true
    (digit_from_test _ (sym c.is_ascii_digit.ensures.value ∙ c.if-not-is_ascii_digit.false)) c.loop-digit.invariant.value c.in_default.ensures small

pub loop-digit-preserved : goal.loop-digit-preserved
loop-digit-preserved c =
    let range = digit_from_test (get_or c.args.text.now c.loop-digit.digit-index 0) (sym c.is_ascii_digit.ensures.value ∙ c.if-not-is_ascii_digit.false) in
    record {
      digits = digits_are_more c.args.text.now c.loop-digit.digit-index c.loop-digit-test.true range c.loop-digit.invariant.digits;
      value = c.in-Some.ensures ∙ sym (value_more c.args.text.now c.loop-digit.digit-index c.loop-digit.number c.loop-digit-test.true range c.loop-digit.invariant.value);
    }
