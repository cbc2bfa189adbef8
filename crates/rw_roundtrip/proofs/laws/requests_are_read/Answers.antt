use Rattle.rw_roundtrip.proofs.shared.RequestLemmas.{one_request, one_refusal, either_request}
use Rattle.rw_roundtrip.proofs.laws.requests_are_read.Goals as goal

pub returns-clause-read : goal.returns-clause-read
returns-clause-read c = one_request

pub returns-clause-refused : goal.returns-clause-refused
returns-clause-refused c = one_refusal

pub returns-clause-either : goal.returns-clause-either
returns-clause-either c = either_request
