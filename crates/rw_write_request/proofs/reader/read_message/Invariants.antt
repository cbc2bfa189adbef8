use Rattle.std.proofs.Common.{◌≡◌, length}
use Rattle.rw_write_request.specs.declared.kind.Kind.TheVariants as kinds
use Rattle.rw_write_request.specs.Read.{read_fields, request_step, read}
use Rattle.rw_write_request.proofs.reader.read_message.Given as goal

abbrev pub invariant-loop-rest : goal.invariant-loop-rest
invariant-loop-rest l = read_fields kinds.WriteRequest request_step l.series.items l.rest ≡ read l.bytes

abbrev pub decreases-loop-rest : goal.decreases-loop-rest
decreases-loop-rest l = length l.rest
