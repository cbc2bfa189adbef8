use Rattle.std.proofs.Common.{sym, refl}
use Rattle.rw_text.specs.HexText.{read_digits}
use Rattle.rw_text.proofs.hex_input.read_digits.Goals as goal

pub returns-then-not-are_digits : goal.returns-then-not-are_digits
unfolding read_digits
returns-then-not-are_digits c = rw (sym c.if-not-are_digits.ensures) refl

pub returns : goal.returns
unfolding read_digits
returns c = rw (sym c.if-not-are_digits.ensures) c.pairs.ensures
