use Rattle.std.proofs.Common.{◌≡◌, length}
use Rattle.rw_write_request.specs.declared.kind.Kind.TheVariants as kinds
use Rattle.rw_write_request.specs.Read.{read_fields, sample_step, read_sample}
use Rattle.rw_write_request.proofs.reader.read_sample.Given as goal

abbrev pub invariant-loop-rest : goal.invariant-loop-rest
invariant-loop-rest l = read_fields kinds.Sample sample_step l.sample l.rest ≡ read_sample l.bytes

abbrev pub decreases-loop-rest : goal.decreases-loop-rest
decreases-loop-rest l = length l.rest
