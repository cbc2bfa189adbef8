use Rattle.rw_sender.proofs.shared.SpreadLemmas.{placed_spread}
use Rattle.rw_sender.proofs.laws.samples_are_spread.Goals as goal

pub returns : goal.returns
returns c = placed_spread
