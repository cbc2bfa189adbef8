use Rattle.std.proofs.Common.{rules}
use Rattle.rw_codes.proofs.shared.VarintLaws.{get_one, get_two}
use Rattle.rw_codes.proofs.varint.get_uvarint.Goals as goal

pub returns-then-bytes-lt128-clause-ok : goal.returns-then-bytes-lt128-clause-ok
returns-then-bytes-lt128-clause-ok c = get_one c.args.bytes.now c.if-bytes-gt0.true c.if-bytes-lt128.true

pub returns-then-bytes-lt128-2-clause-ok : goal.returns-then-bytes-lt128-2-clause-ok
returns-then-bytes-lt128-2-clause-ok c = get_two c.args.bytes.now c.if-bytes-gt1.true (search rules) c.if-bytes-lt128-2.true
