use Rattle.std.proofs.Common.{arith}
use Rattle.std.proofs.lemmas.List.{length-take-le}
use Rattle.rw_head.proofs.ForgettingLemmas.{Rises-first}
use Rattle.rw_head.proofs.sample_list.SampleList.abort.Goals as goal

pub invariant_of-self : goal.invariant_of-self
invariant_of-self c =
    rw c.truncate.ensures (
      rw (length-take-le c.self.inside.kept c.self.inside.samples c.self.invariant.0) (omega arith),
      Rises-first c.self.inside.gone c.self.inside.samples c.self.inside.kept c.self.invariant.1,
    )
