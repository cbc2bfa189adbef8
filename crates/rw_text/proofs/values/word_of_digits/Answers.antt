use Rattle.std.proofs.Common.{rules, ap, ◌∙◌, Some}
use Rattle.rw_text.proofs.ValueLemmas.{decode_gives, no_error, word_again}
use Rattle.rw_text.proofs.values.word_of_digits.Goals as goal

pub returns-then-is_err : goal.returns-then-is_err
returns-then-is_err c = λ word small e.
    absurd (no_error c.decode_to_slice.result c.is_err.result (search rules) (decode_gives c.args.digits.now word c.decode_to_slice.result c.decode_to_slice.new.out c.decode_to_slice.ensures.value e).0 c.if-is_err.true)

pub returns : goal.returns
returns c = λ word small e.
    let read = decode_gives c.args.digits.now word c.decode_to_slice.result c.decode_to_slice.new.out c.decode_to_slice.ensures.value e in
    ap Some (c.read_u64.ensures ∙ word_again c.decode_to_slice.new.out word small read.1)
