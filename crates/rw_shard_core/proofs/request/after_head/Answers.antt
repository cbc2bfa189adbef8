use Rattle.std.proofs.lemmas.Bool.Decides.{Decides-eqb}
use Rattle.std.proofs.lemmas.Slice.Eq.{strip_prefix_is}
use Rattle.rw_shard_core.proofs.request.after_head.Goals as goal

pub returns : goal.returns
returns c = strip_prefix_is Decides-eqb c.args.request.now c.args.head.now c.strip_prefix.result c.strip_prefix.ensures.cases
