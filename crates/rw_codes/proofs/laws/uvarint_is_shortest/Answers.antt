use Rattle.rw_codes.proofs.shared.VarintLaws.{uvarint_shortest}
use Rattle.rw_codes.proofs.laws.uvarint_is_shortest.Goals as goal

pub returns : goal.returns
returns c = uvarint_shortest
