use Rattle.rw_codes.proofs.CrcLaws.{one_byte}
use Rattle.rw_codes.proofs.crc.after_byte.Goals as goal

pub returns : goal.returns
returns c = rw (c.code_before_zeros.ensures, c.to_le_bytes.ensures) (one_byte c.args.code c.args.byte)
