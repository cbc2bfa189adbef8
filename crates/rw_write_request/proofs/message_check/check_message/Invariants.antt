use Rattle.std.proofs.Common.{◌≡◌, length}
use Rattle.rw_write_request.specs.Message.{WriteRequest}
use Rattle.rw_write_request.specs.Parts.{read_on}
use Rattle.rw_write_request.specs.Read.{read}
use Rattle.rw_write_request.proofs.message_check.check_message.Given as goal

abbrev pub invariant-loop-rest : goal.invariant-loop-rest
invariant-loop-rest l = (m : WriteRequest) × (read_on m l.rest ≡ read l.bytes)

abbrev pub decreases-loop-rest : goal.decreases-loop-rest
decreases-loop-rest l = length l.rest
