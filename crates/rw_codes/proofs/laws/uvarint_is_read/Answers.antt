use Rattle.rw_codes.proofs.shared.VarintLaws.{uvarint_again}
use Rattle.rw_codes.proofs.laws.uvarint_is_read.Goals as goal

pub returns : goal.returns
returns c = uvarint_again
