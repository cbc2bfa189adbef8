use Rattle.rw_restarts.proofs.AnswerLemmas.{answers-taken, answers-refused, answers-kept}
use Rattle.rw_restarts.proofs.runs.a_head_answers_so.Goals as goal

pub returns-clause-taken : goal.returns-clause-taken
returns-clause-taken c = answers-taken

pub returns-clause-refused : goal.returns-clause-refused
returns-clause-refused c = answers-refused

pub returns-clause-kept : goal.returns-clause-kept
returns-clause-kept c = answers-kept
