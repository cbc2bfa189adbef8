use Rattle.rw_replay.proofs.OrderLemmas.{no_bare_word}
use Rattle.rw_replay.proofs.words.BareWord.read.Goals as goal

pub returns-in_default : goal.returns-in_default
returns-in_default c = no_bare_word c.args.text.now c.in_default.ensures.cases.0
