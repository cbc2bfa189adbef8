use Rattle.std.proofs.Common.{arith}
use Rattle.rw_codes.proofs.shared.Digits.{uvarint_short}
use Rattle.rw_codes.proofs.varint.reserve_for.Goals as goal

pub returns-then-capacity-len-ge10-clause-ok : goal.returns-then-capacity-len-ge10-clause-ok
returns-then-capacity-len-ge10-clause-ok c = omega (arith, uvarint_short c.args.n)
