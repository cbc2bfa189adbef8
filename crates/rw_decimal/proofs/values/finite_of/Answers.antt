use Rattle.std.proofs.Common.{◌∙◌}
use Rattle.std.proofs.lemmas.Bool.{le-ltb}
use Rattle.std.proofs.lemmas.Float.{T_from_false}
use lib.Ieee.Bits.{nan_bits_above}
use Rattle.std.specs.Float.{binary64}
use Rattle.rw_decimal.proofs.DecimalLemmas.{above_is_not_finite}
use Rattle.rw_decimal.proofs.values.finite_of.Goals as goal

pub float_from_bits-number : goal.float_from_bits-number
float_from_bits-number c = T_from_false _ (nan_bits_above binary64 c.args.bits ∙ le-ltb _ _ c.if-bits-gt-INFINITY.false)

pub returns-then-bits-gt-INFINITY : goal.returns-then-bits-gt-INFINITY
returns-then-bits-gt-INFINITY c = above_is_not_finite c.args.bits c.if-bits-gt-INFINITY.true
