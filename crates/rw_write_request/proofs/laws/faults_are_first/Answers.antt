use Rattle.rw_write_request.proofs.Faulty.{request-err}
use Rattle.rw_write_request.proofs.FaultyAgain.{request-stops}
use Rattle.rw_write_request.proofs.laws.faults_are_first.Goals as goal

pub returns : goal.returns
returns c = λ bytes fault. (request-err bytes fault, request-stops bytes fault)
