use Rattle.std.proofs.Common.{codes}
use Rattle.std.proofs.lemmas.Bool.Decides.{Decides-eqb}
use Rattle.std.proofs.lemmas.Slice.Eq.{strip_prefix_is}
use Rattle.rw_decimal.proofs.log_lines.after_sample.Goals as goal

pub returns : goal.returns
returns c = strip_prefix_is Decides-eqb c.args.line.now (codes "sample ") _ c.strip_prefix.ensures.cases
