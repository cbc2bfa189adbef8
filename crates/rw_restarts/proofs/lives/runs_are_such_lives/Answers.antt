use Rattle.rw_restarts.proofs.RunLifeLemmas.{are-lives}
use Rattle.rw_restarts.proofs.lives.runs_are_such_lives.Goals as goal

pub returns : goal.returns
returns c = are-lives
