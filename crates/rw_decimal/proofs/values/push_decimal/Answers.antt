use Rattle.rw_decimal.specs.Decimals.{IsDecimalText}
use Rattle.rw_decimal.proofs.DecimalLemmas.{decimal_of}
use Rattle.rw_decimal.proofs.ResultLemmas.{ok_appends}
use Rattle.rw_decimal.proofs.values.push_decimal.Goals as goal

pub returns-in-Some-clause-ok : goal.returns-in-Some-clause-ok
returns-in-Some-clause-ok c =
    let text = c.format_finite.result.now in let n = c.in-Some.ensures in
    let is : IsDecimalText c.args.value text = rw n.0 (decimal_of c.args.value text c.in-Some.number n.3 n.2 n.1 c.format_finite.ensures.plain c.format_finite.ensures.parses) in
    ok_appends c.extend_from_slice.result c.extend_from_slice.new.self.items c.args.out.now.items text (IsDecimalText c.args.value) (rw c.as_bytes.ensures.value at c.extend_from_slice.ensures.items) is
