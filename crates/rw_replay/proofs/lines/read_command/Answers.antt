use Rattle.rw_replay.proofs.OrderLemmas.{no_parts}
use Rattle.rw_replay.proofs.lines.read_command.Goals as goal

pub returns-in-Some-clause-err : goal.returns-in-Some-clause-err
returns-in-Some-clause-err c = λ e. no_parts c.args.line.now c.in-Some.word.now c.in-Some.rest.now c.in-Some.ensures.0 c.in-Some.ensures.1 (c.read_word_and.ensures.err e)
