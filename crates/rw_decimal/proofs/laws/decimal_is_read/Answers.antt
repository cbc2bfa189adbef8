use Rattle.rw_decimal.proofs.DecimalLemmas.{read_again}
use Rattle.rw_decimal.proofs.laws.decimal_is_read.Goals as goal

pub returns : goal.returns
returns c = read_again
