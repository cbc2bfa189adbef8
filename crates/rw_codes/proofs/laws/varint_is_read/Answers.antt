use Rattle.rw_codes.proofs.shared.VarintLaws.{varint_again, zig_fits}
use Rattle.rw_codes.proofs.laws.varint_is_read.Goals as goal

pub returns : goal.returns
returns c = λ z rest fits. varint_again z rest (zig_fits z fits)
