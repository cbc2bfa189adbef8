use Rattle.std.proofs.Common.{mod-eq_of_lt}
use Rattle.rw_types.proofs.word.scaled.Goals as goal

pub returns : goal.returns
returns c = mod-eq_of_lt c.requires.fits
