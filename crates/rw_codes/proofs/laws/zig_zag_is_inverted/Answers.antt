use Rattle.rw_codes.proofs.shared.VarintLaws.{zig_zag_again, un_zig_zag_again}
use Rattle.rw_codes.proofs.laws.zig_zag_is_inverted.Goals as goal

pub returns-clause-signed : goal.returns-clause-signed
returns-clause-signed c = zig_zag_again

pub returns-clause-unsigned : goal.returns-clause-unsigned
returns-clause-unsigned c = un_zig_zag_again
