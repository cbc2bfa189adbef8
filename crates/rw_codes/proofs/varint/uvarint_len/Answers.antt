use Rattle.std.proofs.Common.{sym, refl, arith}
use Rattle.rw_codes.proofs.shared.Digits.{uvarint_length, uvarint_length_one}
use Rattle.rw_codes.proofs.varint.uvarint_len.Goals as goal

pub returns-then-n-lt128-clause-exact : goal.returns-then-n-lt128-clause-exact
returns-then-n-lt128-clause-exact c = uvarint_length_one c.args.n c.if-n-lt128.true

pub returns-clause-exact : goal.returns-clause-exact
returns-clause-exact c = sym (uvarint_length c.args.n _ (omega arith) (omega arith) refl)
