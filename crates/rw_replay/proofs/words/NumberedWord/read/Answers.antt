use Rattle.rw_replay.proofs.OrderLemmas.{no_numbered_word}
use Rattle.rw_replay.proofs.words.NumberedWord.read.Goals as goal

pub returns-in_default : goal.returns-in_default
returns-in_default c = no_numbered_word c.args.text.now c.in_default.ensures.cases.0
