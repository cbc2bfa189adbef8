use Rattle.std.proofs.Common.{drop}
use Rattle.rw_head.proofs.ForgettingLemmas.{front_and_rest}
use Rattle.rw_head.proofs.sample_list.SampleList.staged_count.Goals as goal

pub returns-clause-begun : goal.returns-clause-begun
returns-clause-begun c = rw (← c.self.view_is) (drop c.self.inside.kept c.self.inside.samples, front_and_rest c.self.inside.gone c.self.inside.samples c.self.inside.kept)
