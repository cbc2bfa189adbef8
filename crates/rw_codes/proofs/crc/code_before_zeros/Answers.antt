use Rattle.std.proofs.Common.{arith}
use Rattle.rw_codes.proofs.CrcTables.{entry_is_code}
use Rattle.rw_codes.proofs.crc.code_before_zeros.Goals as goal

pub returns : goal.returns
returns c = entry_is_code c.args.zeros c.args.byte c.requires (omega arith)
