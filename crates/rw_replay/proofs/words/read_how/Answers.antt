use Rattle.rw_replay.proofs.OrderLemmas.{no_how}
use Rattle.rw_replay.proofs.words.read_how.Goals as goal

pub returns-in_default : goal.returns-in_default
returns-in_default c = no_how c.args.text.now c.in_default.ensures.cases.0
