use Rattle.rw_types.proofs.shared.RisingLemmas.{Rises-right}
use Rattle.rw_head.specs.Lists.{IsEarlier}
use Rattle.rw_head.proofs.sample_list.SampleList.forget_block.Goals as goal

pub forget_first-requires : goal.forget_first-requires
forget_first-requires c = Rises-right IsEarlier c.self.inside.gone c.self.inside.samples c.self.invariant.1
