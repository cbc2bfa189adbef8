use Rattle.std.proofs.Common.{get_or, fold, sym, ap, arith, ◌∙◌}
use Rattle.rw_codes.specs.Crc.{crc_byte}
use Rattle.rw_codes.proofs.CrcLaws.{listed, eight_bytes}
use Rattle.rw_codes.proofs.crc.after_eight.Goals as goal

pub returns : goal.returns
returns c =
    let xs = c.args.bytes.now in
    rw (
      c.code_before_zeros.ensures,
      c.code_before_zeros-2.ensures,
      c.code_before_zeros-3.ensures,
      c.code_before_zeros-4.ensures,
      c.code_before_zeros-5.ensures,
      c.code_before_zeros-6.ensures,
      c.code_before_zeros-7.ensures,
      c.code_before_zeros-8.ensures,
      c.to_le_bytes.ensures,
    ) (
    eight_bytes c.args.code c.from_le_bytes.result (get_or xs 0 0) (get_or xs 1 0) (get_or xs 2 0) (get_or xs 3 0) (get_or xs 4 0) (get_or xs 5 0) (get_or xs 6 0) (get_or xs 7 0)
    (omega arith) (omega arith) (omega arith) (omega arith) (omega arith) c.from_le_bytes.ensures
    ∙ ap (fold crc_byte c.args.code) (sym (listed xs 8 0 (omega arith)))
    )
